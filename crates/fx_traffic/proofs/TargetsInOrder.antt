-- The paths of all classes are listed in order.
use Rattle.std.proofs.Common.{◌≡◌, ℕ, Bool, ◌+◌, ◌<◌, List, [], ◌∷◌, ◌++◌, length, get_or, drop, refl, ap, sym, ◌∙◌, append_assoc, add-one}
use Rattle.std.proofs.Math.Seq.{drop-cons}
use Rattle.fx_boxes.specs.Boxes.{Bounds, IsRegion}
use Rattle.fx_tables.specs.declared.traffic.Crossing.{Crossing}
use Rattle.fx_tables.specs.Classes.{Class}
use Rattle.fx_traffic.specs.Targets.{Target, targets_along, targets_from, AreRegions}

pub regions_more : (ts : List Target) (t : Target) → AreRegions ts → IsRegion t.region → AreRegions (ts ++ t ∷ [])
regions_more [] t h is = (is, tt)
regions_more (x ∷ ts) t h is = (h.0, regions_more ts t h.1 is)

pub next_path : (class : ℕ) (region : Bounds) (exempt : Bool) (paths : List (List Crossing)) (at : ℕ)
    (path : List Crossing) (done all : List Target) → at < length paths → path ≡ get_or paths at path
    → done ++ targets_along class region exempt (at + 1) (drop at paths) ≡ all
    → (done ++ record { class = class; path = at + 1; region = region; crossings = path; exempt = exempt } ∷ [])
    ++ targets_along class region exempt (at + 1 + 1) (drop (at + 1) paths) ≡ all
next_path class region exempt paths at path done all lt is e =
    append_assoc done _ _ ∙ ap (λ xs. done ++ xs) (sym here) ∙ e where
      here : targets_along class region exempt (at + 1) (drop at paths)
          ≡ record { class = class; path = at + 1; region = region; crossings = path; exempt = exempt }
          ∷ targets_along class region exempt (at + 1 + 1) (drop (at + 1) paths)
      here = rw (drop-cons paths at path lt, ← is, add-one) refl

pub next_class : (classes : List Class) (at : ℕ) (class : Class) (done now all : List Target) → at < length classes
    → class ≡ get_or classes at class
    → now ≡ done ++ targets_along (at + 1) class.region class.exempt 1 class.paths → done
    ++ targets_from (at + 1) (drop at classes) ≡ all
    → now ++ targets_from (at + 1 + 1) (drop (at + 1) classes) ≡ all
next_class classes at class done now all lt is added e =
    rw added (append_assoc done _ _ ∙ ap (λ xs. done ++ xs) (sym here) ∙ e) where
      here : targets_from (at + 1) (drop at classes) ≡ targets_along (at + 1) class.region class.exempt 1 class.paths
          ++ targets_from (at + 1 + 1) (drop (at + 1) classes)
      here = rw (drop-cons classes at class lt, ← is, add-one) refl
