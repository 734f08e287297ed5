-- What a key has on each axis.
use Rattle.std.proofs.Common.{◌≡◌, ℕ, suc, ◌^◌, ◌≤◌, ◌<◌, Bool, true, false, cond, ltb, ltb-true, ltb-false, List, [], ◌∷◌, ◌++◌, map, refl, ap, ◌∙◌, subst, arith, eqb-true, eq-eqb, Option, Some, None}
use Rattle.std.specs.List.{list_all, flat_map}
use Rattle.std.proofs.lemmas.Bool.{and_parts}
use Rattle.fx_elements.specs.declared.axis.Axis.{Axis}
use Rattle.fx_elements.specs.Axes.{axis_count, axes, axis_index, same_axis}
use Rattle.fx_elements.proofs.EveryAxis.{axis_is, same_axis_refl, index_below}
use Rattle.fx_layout.specs.declared.layout.Part.{Part}
use Rattle.fx_layout.specs.Keys.{Layout, HasBits, AxesAscend, can_stand}

-- the part for an axis and its value, if there is one
abbrev pub Held : Type 0
Held = Option (Part × ℕ)

abbrev pub held : Layout → List ℕ → Axis → Held
held [] values axis = None
held (part ∷ parts) [] axis = None
held (part ∷ parts) (v ∷ vs) axis = cond (same_axis part.axis axis) (Some (part, v)) (held parts vs axis)

abbrev pub part_in : Held → Layout
part_in None = []
part_in (Some q) = q.0 ∷ []

-- what is held stands for that axis, and has its bits
abbrev pub Stands : Axis → Held → Type 0
Stands axis None = Unit {0}
Stands axis (Some q) = (q.0.axis ≡ axis) × (can_stand q.0 ≡ true) × (q.1 < 2 ^ q.0.bits)

pub held_stands : (layout : Layout) (values : List ℕ) (axis : Axis) → list_all can_stand layout ≡ true
    → HasBits layout values → Stands axis (held layout values axis)
held_stands [] values axis s h = tt
held_stands (part ∷ parts) [] axis s h = tt
held_stands (part ∷ parts) (v ∷ vs) axis s h =
    let two = and_parts (can_stand part) (list_all can_stand parts) s in
    by two.0 (held_stands parts vs axis two.1 h.1) (same_axis part.axis axis) refl where
      by : can_stand part ≡ true → Stands axis (held parts vs axis) → (t : Bool) → same_axis part.axis axis ≡ t
          → Stands axis (cond t (Some (part, v)) (held parts vs axis))
      by one rest true e = (axis_is part.axis axis e, one, h.0)
      by one rest false e = rest

-- ---- in axis order

apart : (a b : Axis) → axis_index a < axis_index b → same_axis b a ≡ false
apart a b h = by (same_axis b a) refl where
  by : (t : Bool) → same_axis b a ≡ t → t ≡ false
  by true e = absurd (let same : axis_index b ≡ axis_index a = eqb-true _ _ e in omega arith)
  by false e = refl

past : (part : Part) (parts : Layout) (v : ℕ) (vs : List ℕ) (axis : Axis) → axis_index part.axis < axis_index axis
    → held (part ∷ parts) (v ∷ vs) axis ≡ held parts vs axis
past part parts v vs axis h = ap (λ (t : Bool). cond t (Some (part, v)) (held parts vs axis))
    (by (same_axis part.axis axis) refl) where
      by : (t : Bool) → same_axis part.axis axis ≡ t → t ≡ false
      by true e = absurd (let same : axis_index part.axis ≡ axis_index axis = eqb-true _ _ e in omega arith)
      by false e = refl

-- none before the first
pub none_before : (k : ℕ) (layout : Layout) (values : List ℕ) (axis : Axis) → AxesAscend k layout → axis_index axis < k
    → held layout values axis ≡ None
none_before k [] values axis a h = refl
none_before k (part ∷ parts) [] axis a h = refl
none_before k (part ∷ parts) (v ∷ vs) axis a h =
    ap (λ (t : Bool). cond t (Some (part, v)) (held parts vs axis)) (apart axis part.axis (omega (arith, a.0)))
    ∙ none_before (suc (axis_index part.axis)) parts vs axis a.1 (omega (arith, a.0))

-- axes from this place to the last
abbrev Runs : ℕ → List Axis → Type 0
Runs k [] = axis_count ≤ k
Runs k (axis ∷ rest) = (axis_index axis ≡ k) × Runs (suc k) rest

-- the parts along the axes are the layout
parts_from : (k : ℕ) (xs : List Axis) (layout : Layout) (values : List ℕ) (f : Axis → Layout) → Runs k xs
    → AxesAscend k layout → HasBits layout values
    → ((axis : Axis) → k ≤ axis_index axis → f axis ≡ part_in (held layout values axis)) → flat_map f xs ≡ layout
parts_from k [] [] values f r a h e = refl
parts_from k [] (part ∷ parts) values f r a h e = absurd (omega (arith, r, a.0, index_below part.axis))
parts_from k (x ∷ xs) [] values f r a h e =
    ap (λ (l : Layout). l ++ flat_map f xs) (e x (omega (arith, r.0)))
    ∙ parts_from (suc k) xs [] values f r.1 tt h (λ axis b. e axis (omega arith))
parts_from k (x ∷ xs) (part ∷ parts) [] f r a h e = absurd h
parts_from k (x ∷ xs) (part ∷ parts) (v ∷ vs) f r a h e =
    by (λ later. parts_from (suc k) xs (part ∷ parts) (v ∷ vs) f r.1 later h (λ axis b. e axis (omega arith)))
    (λ is behind. parts_from (suc k) xs parts vs f r.1 behind h.1
    (λ axis b. e axis (omega arith) ∙ ap part_in (past part parts v vs axis (omega (arith, is)))))
    (ltb k (axis_index part.axis)) refl where
      by : (AxesAscend (suc k) (part ∷ parts) → flat_map f xs ≡ part ∷ parts)
          → (axis_index part.axis ≡ k → AxesAscend (suc k) parts → flat_map f xs ≡ parts) → (t : Bool)
          → ltb k (axis_index part.axis) ≡ t → flat_map f (x ∷ xs) ≡ part ∷ parts
      by stays goes true l =
          let later : AxesAscend (suc k) (part ∷ parts) = (ltb-true _ _ l, a.1) in
          let none : held (part ∷ parts) (v ∷ vs) x ≡ None =
          none_before (suc k) (part ∷ parts) (v ∷ vs) x later (omega (arith, r.0)) in
          ap (λ (l : Layout). l ++ flat_map f xs) (e x (omega (arith, r.0)) ∙ ap part_in none) ∙ stays later
      by stays goes false l =
          let is : axis_index part.axis ≡ k = (let few : axis_index part.axis ≤ k = ltb-false _ _ l in
          omega (arith, a.0)) in
          let same : axis_index part.axis ≡ axis_index x = omega (arith, is, r.0) in
          let here : held (part ∷ parts) (v ∷ vs) x ≡ Some (part, v) =
          ap (λ (t : Bool). cond t (Some (part, v)) (held parts vs x)) (eq-eqb _ _ same) in
          ap (λ (l : Layout). l ++ flat_map f xs) (e x (omega (arith, r.0)) ∙ ap part_in here)
          ∙ ap (λ (l : Layout). part ∷ l) (goes is (subst (λ (n : ℕ). AxesAscend (suc n) parts) is a.1))

pub parts_are : (layout : Layout) (values : List ℕ) (f : Axis → Layout) → AxesAscend 0 layout → HasBits layout values
    → ((axis : Axis) → f axis ≡ part_in (held layout values axis)) → flat_map f axes ≡ layout
parts_are layout values f a h e = parts_from 0 axes layout values f
    (refl, (refl, (refl, (refl, (refl, (refl, (refl, (refl, (refl, omega arith))))))))) a h (λ axis b. e axis)

-- the values are what is held
abbrev pub Gives : (Part → ℕ) → Held → Type 0
Gives g None = Unit {0}
Gives g (Some q) = g q.0 ≡ q.1

values_from : (k : ℕ) (layout : Layout) (values : List ℕ) (g : Part → ℕ) → AxesAscend k layout → HasBits layout values
    → ((axis : Axis) → k ≤ axis_index axis → Gives g (held layout values axis)) → map g layout ≡ values
values_from k [] [] g a h e = refl
values_from k [] (v ∷ vs) g a h e = absurd h
values_from k (part ∷ parts) [] g a h e = absurd h
values_from k (part ∷ parts) (v ∷ vs) g a h e =
    let first : g part ≡ v = subst (λ (t : Bool). Gives g (cond t (Some (part, v)) (held parts vs part.axis)))
    (same_axis_refl part.axis) (e part.axis a.0) in
    let rest : map g parts ≡ vs = values_from (suc (axis_index part.axis)) parts vs g a.1 h.1
    (λ axis b. subst (Gives g) (past part parts v vs axis (omega arith)) (e axis (omega (arith, a.0)))) in
    cc (first, rest)

pub values_are : (layout : Layout) (values : List ℕ) (g : Part → ℕ) → AxesAscend 0 layout → HasBits layout values
    → ((axis : Axis) → Gives g (held layout values axis)) → map g layout ≡ values
values_are layout values g a h e = values_from 0 layout values g a h (λ axis b. e axis)
