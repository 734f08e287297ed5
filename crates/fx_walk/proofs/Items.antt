-- The faults of a list's things, one on.
use Rattle.std.proofs.Common.{◌≡◌, ◌<◌, ℕ, ◌+◌, List, [], ◌∷◌, ◌++◌, length, get_or, drop, refl, sym, ap, ◌∙◌}
use Rattle.std.proofs.lemmas.List.{drop_more}
use Rattle.fx_base.specs.declared.fault.Fault.{Fault}
use Rattle.fx_walk.specs.Pointer.{nth}
use Rattle.fx_walk.specs.Walk.{FoundFault, Refuses}
use Rattle.fx_walk.specs.Lists.{items_faults}
use Rattle.fx_walk.proofs.Faults.{refuses_more}

-- the faults from a place on begin with those of what stands there
next_of : {X : Type 0} (faults : List ℕ → X → List FoundFault) (up : List ℕ) (xs : List X) (place index : ℕ) (x : X)
    → place ≡ index → index < length xs → x ≡ get_or xs index x
    → items_faults faults up place (drop place xs) ≡ faults (nth up place) x
    ++ items_faults faults up (place + 1) (drop (place + 1) xs)
next_of faults up xs place index x same in_range is =
    let here : drop place xs ≡ x ∷ drop (place + 1) xs =
    rw same (drop_more xs index x in_range ∙ ap (λ y. y ∷ drop (index + 1) xs) (sym is)) in
    rw here refl

-- where that has none, they are those behind it
pub fine_so_far : {X : Type 0} (faults : List ℕ → X → List FoundFault) (up : List ℕ) (xs : List X) (place index : ℕ)
    (x : X) → place ≡ index → index < length xs → x ≡ get_or xs index x
    → items_faults faults up 0 xs ≡ items_faults faults up place (drop place xs) → faults (nth up place) x ≡ []
    → items_faults faults up 0 xs ≡ items_faults faults up (place + 1) (drop (place + 1) xs)
fine_so_far faults up xs place index x same in_range is before fine =
    before ∙ next_of faults up xs place index x same in_range is
    ∙ ap (λ fs. fs ++ items_faults faults up (place + 1) (drop (place + 1) xs)) fine

-- where it has one, the list is refused for it
pub refused_at : {X : Type 0} (faults : List ℕ → X → List FoundFault) (up : List ℕ) (xs : List X) (place index : ℕ)
    (x : X) (e : Fault) → place ≡ index → index < length xs → x ≡ get_or xs index x
    → items_faults faults up 0 xs ≡ items_faults faults up place (drop place xs) → Refuses e (faults (nth up place) x)
    → Refuses e (items_faults faults up 0 xs)
refused_at faults up xs place index x e same in_range is before refused =
    rw (before ∙ next_of faults up xs place index x same in_range is) (refuses_more e _ _ refused)
