-- If selection processes are found to be alike, a packet passes the same ones.
use Rattle.std.proofs.Common.{◌≡◌, ℕ, ◌+◌, ◌<◌, true, false, cond, ◌==◌, List, [], ◌∷◌, ◌++◌, map, length, take, get_or, Option, Some, None, slice_get, refl, sym, ap, ap₂, ◌∙◌, eqb-true, append_assoc, Result, Ok, Err, IfOk}
use Rattle.std.specs.Prelude.{flat_map, bytes_eq, is_some}
use Rattle.std.proofs.lemmas.List.{take_more}
use Rattle.std.proofs.lemmas.Grind.{flat_map-append}
use Rattle.std.proofs.lemmas.List.{append-nil}
use Rattle.fx_boxes.specs.Boxes.{Bounds}
use Rattle.fx_layout.proofs.Projections.{and_true}
use Rattle.fx_tables.specs.declared.observation.Selection.{Selection}
use Rattle.fx_tables.specs.declared.traffic.Crossing.{Crossing}
use Rattle.fx_tables.specs.Network.{Net, Point, points_of}
use Rattle.fx_base.specs.Entries.{entry_numbered}
use Rattle.fx_tables.specs.Occurrences.{watches}
use Rattle.fx_leaf.proofs.Trees.{map_append'}
use Rattle.fx_parts.specs.Meaning.{Metering, metering_of, meterings_of, meterings_at, meterings}
use Rattle.fx_parts.specs.Parts.{metering_in, MetersTheSame}
use Rattle.fx_parts.specs.Meters.{cached, meters_at, meters_of, meters, same_region, caches_alike, selections_alike, each_selection_alike, meters_alike}
use Rattle.fx_parts.proofs.Checked.{same_holding}

-- one entry more
pub flat_step : {A B : Type 0} (f : A → List B) (xs : List A) (k : ℕ) (x : A) → k < length xs → x ≡ get_or xs k x
    → flat_map f (take (k + 1) xs) ≡ flat_map f (take k xs) ++ f x
flat_step f xs k x lt at =
    ap (flat_map f) (take_more xs k x lt) ∙ flat_map-append f (take k xs) (get_or xs k x ∷ [])
    ∙ ap (λ y. flat_map f (take k xs) ++ (f y ++ [])) (sym at)
    ∙ ap (λ ys. flat_map f (take k xs) ++ ys) (append-nil (f x))

-- ---- the selection processes that a packet passes

module _ (net : Net) where
  meterings_append : (ss ts : List Selection) → meterings_of net (ss ++ ts) ≡ meterings_of net ss ++ meterings_of net ts
  meterings_append [] ts = refl
  meterings_append (s ∷ ss) ts =
      ap (λ ms. metering_of net s.region s.holder ++ ms) (meterings_append ss ts)
      ∙ sym (append_assoc (metering_of net s.region s.holder) (meterings_of net ss) (meterings_of net ts))

  cached_is : (s : Selection) → meterings_of net (cached s) ≡ metering_of net s.region s.holder
  cached_is s = by s.holder refl
    where
      by : (o : Option ℕ) → s.holder ≡ o → meterings_of net (cond (is_some o) (s ∷ []) []) ≡ metering_of net s.region o
      by None e = refl
      by (Some h) e = append-nil (metering_of net s.region s.holder) ∙ ap (metering_of net s.region) e

  all_cached : (ss : List Selection) → meterings_of net (flat_map cached ss) ≡ meterings_of net ss
  all_cached [] = refl
  all_cached (s ∷ ss) =
      meterings_append (cached s) (flat_map cached ss)
      ∙ ap₂ (λ (x y : List Metering). x ++ y) (cached_is s) (all_cached ss)

  seen_at : (crossing : Crossing) (points : List Point) → meterings_of net (flat_map (meters_at crossing) points)
      ≡ meterings_at net points crossing
  seen_at crossing [] = refl
  seen_at crossing (p ∷ ps) =
      let b = watches p crossing in
      let here : meterings_of net (cond b (flat_map cached p.selections) [])
      ≡ cond b (meterings_of net p.selections) [] =
      elim b as (λ t. meterings_of net (cond t (flat_map cached p.selections) [])
      ≡ cond t (meterings_of net p.selections) []) [ true ↦ all_cached p.selections | false ↦ refl ]
      in
      meterings_append (meters_at crossing p) (flat_map (meters_at crossing) ps)
      ∙ ap₂ (λ (x y : List Metering). x ++ y) here (seen_at crossing ps)

  seen : (path : List Crossing) → meterings_of net (meters net path) ≡ meterings net path
  seen [] = refl
  seen (c ∷ cs) =
      meterings_append (meters_of net c) (meters net cs)
      ∙ ap₂ (λ (x y : List Metering). x ++ y) (seen_at c (points_of (entry_numbered net.devices c.device)))
      (seen cs)

-- ---- alike

same_list : (xs ys : List ℕ) → bytes_eq xs ys ≡ true → ys ≡ xs
same_list [] [] h = refl
same_list [] (y ∷ ys) h = absurd cc
same_list (x ∷ xs) [] h = absurd cc
same_list (x ∷ xs) (y ∷ ys) h =
    let two = and_true (x == y) (bytes_eq xs ys) h in
    ap₂ (λ z zs. z ∷ zs) (sym (eqb-true x y two.0)) (same_list xs ys two.1)

pub same_bounds : (a b : Option Bounds) → same_region a b ≡ true → b ≡ a
same_bounds None None h = refl
same_bounds None (Some b) h = absurd cc
same_bounds (Some a) None h = absurd cc
same_bounds (Some a) (Some b) h =
    let two = and_true (bytes_eq a.low b.low) (bytes_eq a.high b.high) h in
    let low = same_list a.low b.low two.0 in
    let high = same_list a.high b.high two.1 in
    λ i. Some (record { low = low i; high = high i })

module _ (part whole : Net) (places : List ℕ) where
  same_metering : (a b : Option Bounds) (o p : Option ℕ) → same_region a b ≡ true → caches_alike part whole places o p
      ≡ true → metering_of whole b p ≡ map (metering_in places) (metering_of part a o)
  same_metering a b None None h k = absurd cc
  same_metering a b None (Some n) h k = absurd cc
  same_metering a b (Some m) None h k = absurd cc
  same_metering a b (Some m) (Some n) h k =
      let region = same_bounds a b h in
      let holding = same_holding part whole places (slice_get part.holders m) (slice_get whole.holders n) k in
      λ i. record { region = region i; holding = holding i } ∷ []

  same_meterings : (ss ts : List Selection) → length ss ≡ length ts → each_selection_alike part whole places ss ts
      ≡ true → meterings_of whole ts ≡ map (metering_in places) (meterings_of part ss)
  same_meterings [] [] long h = refl
  same_meterings [] (t ∷ ts) long h = absurd cc
  same_meterings (s ∷ ss) [] long h = absurd cc
  same_meterings (s ∷ ss) (t ∷ ts) long h =
      let two = and_true (selections_alike part whole places s t) (each_selection_alike part whole places ss ts) h in
      let one = and_true (same_region s.region t.region) (caches_alike part whole places s.holder t.holder) two.0 in
      let shorter : length ss ≡ length ts = cc in
      ap₂ (λ (x y : List Metering). x ++ y) (same_metering s.region t.region s.holder t.holder one.0 one.1)
      (same_meterings ss ts shorter two.1) ∙ sym (map_append' (metering_in places)
      (metering_of part s.region s.holder) (meterings_of part ss))

  pub sees_found : (inner outer : List Crossing) → meters_alike part whole places inner outer ≡ true
      → MetersTheSame part whole places inner outer
  sees_found inner outer h =
      let two = and_true (length (meters part inner) == length (meters whole outer))
      (each_selection_alike part whole places (meters part inner) (meters whole outer)) h in
      sym (seen whole outer) ∙ same_meterings (meters part inner) (meters whole outer)
      (eqb-true (length (meters part inner)) (length (meters whole outer)) two.0) two.1
      ∙ ap (map (metering_in places)) (seen part inner)

-- what follows of an answer, where there is one
pub if_ok : {A E : Type 0} {P Q : A → Type 0} (r : Result A E) → IfOk r P → ((x : A) → P x → Q x) → IfOk r Q
if_ok (Ok x) p f = f x p
if_ok (Err e) p f = tt
