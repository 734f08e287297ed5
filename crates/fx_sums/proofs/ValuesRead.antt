-- Fields that have the values that were read for each part.
use Rattle.std.proofs.Common.{◌≡◌, ◌≢◌, ℕ, suc, ◌-◌, ◌<◌, ◌≤◌, List, [], ◌∷◌, length, get_or, take, drop, Option, Some, refl, sym, ap, ap₂, arith, slice_index}
use Rattle.std.proofs.lemmas.List.{length-drop, take_all}
use Rattle.fx_elements.specs.Axes.{Fields, field, axis_index, axis_width}
use Rattle.fx_elements.specs.Words.{Words, in_first, first_word}
use Rattle.fx_elements.proofs.Addresses.{some_is}
use Rattle.fx_layout.specs.declared.layout.Part.{Part}
use Rattle.fx_layout.specs.Keys.{Layout, AxesAscend, leading_bits}
use Rattle.fx_sums.specs.SumLines.{start_of, values_under, values_first}

-- what is put on an earlier axis leaves the values of later parts
under_later : (at : ℕ) (old new : Fields) (qs : Layout) (from : ℕ) → at < from → AxesAscend from qs
    → ((k : ℕ) → k ≢ at → slice_index new k ≡ slice_index old k) → values_under qs new ≡ values_under qs old
under_later at old new [] from lt h others = refl
under_later at old new (q ∷ qs) from lt h others =
    let le : from ≤ axis_index q.axis = h.0 in
    let here : field new q.axis ≡ field old q.axis = others (axis_index q.axis) (λ e. omega (arith, e)) in
    ap₂ (λ (x : ℕ) (xs : List ℕ). leading_bits (axis_width q.axis) q.bits x ∷ xs) here
    (under_later at old new qs (suc (axis_index q.axis)) (omega arith) h.1 others)

-- what is read in the first word
read_in : {A : Type 0} (read : List ℕ → Option A) (ws ws' : Words) (w : List ℕ) (x : A) → Some (w, ws') ≡ first_word ws
    → Some x ≡ read w → in_first read ws ≡ Some (x, ws')
read_in read [] ws' w x e r = absurd cc
read_in read (v ∷ vs) ws' w x e r =
    let k : (w, ws') ≡ (v, vs) = some_is e in
    let word : w ≡ v = ap (λ (p : List ℕ × Words). p.0) k in
    let rest : ws' ≡ vs = ap (λ (p : List ℕ × Words). p.1) k in
    rw (← word, ← rest, ← r) refl

pub values_step : (parts : Layout) (d : Part) (ws ws' rest : Words) (w : List ℕ) (start : ℕ) (old new : Fields) → 1
    ≤ length parts → AxesAscend 0 parts → Some (w, ws') ≡ first_word ws → Some start ≡ start_of (get_or parts 0 d) w
    → Some (values_under (drop 1 parts) old, rest) ≡ values_first (drop 1 parts) ws' → field new (get_or parts 0 d).axis
    ≡ start → ((k : ℕ) → k ≢ axis_index (get_or parts 0 d).axis → slice_index new k ≡ slice_index old k)
    → Some (values_under parts new, rest) ≡ values_first parts ws
unfolding values_first
values_step [] d ws ws' rest w start old new some ascend word read behind at others = absurd (omega arith)
values_step (p ∷ ps) d ws ws' rest w start old new some ascend word read behind at others =
    let first : in_first (start_of p) ws ≡ Some (start, ws') = read_in (start_of p) ws ws' w start word read in
    let later : values_under ps new ≡ values_under ps old =
    under_later (axis_index p.axis) old new ps (suc (axis_index p.axis)) (omega arith) ascend.1 others in
    let values : values_first ps ws' ≡ Some (values_under ps old, rest) = sym behind in
    rw (first, values, later, at) refl

-- the axes come in order from an earlier place on
pub ascend_from : (layout : Layout) (from to : ℕ) → to ≤ from → AxesAscend from layout → AxesAscend to layout
ascend_from [] from to le h = tt
ascend_from (p ∷ ps) from to le h = (let k : from ≤ axis_index p.axis = h.0 in omega arith, h.1)

pub ascend_behind : (parts : Layout) → 1 ≤ length parts → AxesAscend 0 parts → AxesAscend 0 (drop 1 parts)
ascend_behind [] some h = absurd (omega arith)
ascend_behind (p ∷ ps) some h = ascend_from ps (suc (axis_index p.axis)) 0 (omega arith) h.1

pub rest_is : (parts : Layout) → take (length parts - 1) (drop 1 parts) ≡ drop 1 parts
rest_is parts = take_all (length parts - 1) (drop 1 parts) (omega (arith, length-drop 1 parts))
