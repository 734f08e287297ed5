-- A key under its own layout is itself.
use Rattle.std.proofs.Common.{◌≡◌, ℕ, suc, ◌-◌, ◌/◌, ◌^◌, ◌<◌, ◌≤◌, true, false, ◌&&◌, List, [], ◌∷◌, map, length, refl, sym, ap, ap₂, ◌∙◌, subst, arith, eq-eqb, eqb-true, le-leb}
use Rattle.std.proofs.Math.Nat.{div-one}
use Rattle.fx_elements.specs.declared.axis.Axis.{Axis}
use Rattle.fx_elements.specs.Axes.{axis_index, same_axis}
use Rattle.fx_layout.specs.declared.layout.Part.{Part}
use Rattle.fx_tables.specs.declared.record.Record.{Record}
use Rattle.fx_layout.specs.Keys.{Layout, Key, AxesAscend, HasBits, IsLayout, reads, refines, leading_bits, cut_in, project}
use Rattle.fx_layout.proofs.Projections.{and_both}
use Rattle.fx_machine.specs.States.{add_at}
use Rattle.fx_collect.specs.Totals.{IsUnder, Totals, with_record}

-- two axes with different numbers
other_axis : (a b : Axis) → axis_index a < axis_index b → same_axis a b ≡ false
other_axis a b lt =
    elim (same_axis a b) as (λ t. same_axis a b ≡ t → t ≡ false) [
      | true ↦ λ e. absurd (let is : axis_index a ≡ axis_index b = eqb-true (axis_index a) (axis_index b) e in
          omega (arith, is))
      | false ↦ λ e. refl
    ] refl

own_axis : (a : Axis) → same_axis a a ≡ true
own_axis a = eq-eqb (axis_index a) (axis_index a) refl

-- the first part says nothing of later axes
reads_behind : (p : Part) (ps qs : Layout) (from : ℕ) → axis_index p.axis < from → AxesAscend from qs
    → refines (p ∷ ps) qs ≡ refines ps qs
reads_behind p ps [] from lt h = refl
reads_behind p ps (q ∷ qs) from lt h =
    let other : same_axis p.axis q.axis ≡ false =
    other_axis p.axis q.axis (let le : from ≤ axis_index q.axis = h.0 in omega arith) in
    let rest = reads_behind p ps qs (suc (axis_index q.axis)) (let le : from ≤ axis_index q.axis = h.0 in omega arith)
    h.1 in
    rw other (ap (λ t. reads ps q.axis q.bits && t) rest)

refines_own_from : (layout : Layout) (from : ℕ) → AxesAscend from layout → refines layout layout ≡ true
refines_own_from [] from h = refl
refines_own_from (p ∷ ps) from h =
    let rest = refines_own_from ps (suc (axis_index p.axis)) h.1 in
    let behind = reads_behind p ps ps (suc (axis_index p.axis)) (omega arith) h.1 in
    rw (own_axis p.axis) (and_both _ _ (le-leb p.bits p.bits (omega arith)) (behind ∙ rest))

pub refines_own : (layout : Layout) → IsLayout layout → refines layout layout ≡ true
refines_own layout h = refines_own_from layout 0 h.ascends

abbrev cuts : Layout → List ℕ → Layout → List ℕ
cuts layout values qs = map (λ part. cut_in layout values part.axis part.bits) qs

cuts_behind : (p : Part) (ps : Layout) (v : ℕ) (vs : List ℕ) (qs : Layout) (from : ℕ) → axis_index p.axis < from
    → AxesAscend from qs → cuts (p ∷ ps) (v ∷ vs) qs ≡ cuts ps vs qs
cuts_behind p ps v vs [] from lt h = refl
cuts_behind p ps v vs (q ∷ qs) from lt h =
    let other : same_axis p.axis q.axis ≡ false =
    other_axis p.axis q.axis (let le : from ≤ axis_index q.axis = h.0 in omega arith) in
    let rest = cuts_behind p ps v vs qs (suc (axis_index q.axis))
    (let le : from ≤ axis_index q.axis = h.0 in omega arith) h.1 in
    rw other (ap (λ xs. cut_in ps vs q.axis q.bits ∷ xs) rest)

-- all bits of a value
all_bits : (bits value : ℕ) → leading_bits bits bits value ≡ value
all_bits bits value =
    let none : bits - bits ≡ 0 = omega arith in
    ap (λ n. value / 2 ^ n) none ∙ div-one value

cuts_own : (layout : Layout) (values : List ℕ) (from : ℕ) → AxesAscend from layout → length values ≡ length layout
    → cuts layout values layout ≡ values
cuts_own [] [] from h e = refl
cuts_own [] (v ∷ vs) from h e = absurd (cc)
cuts_own (p ∷ ps) [] from h e = absurd (cc)
cuts_own (p ∷ ps) (v ∷ vs) from h e =
    let rest = cuts_own ps vs (suc (axis_index p.axis)) h.1 (cc) in
    let behind = cuts_behind p ps v vs ps (suc (axis_index p.axis)) (omega arith) h.1 in
    rw (own_axis p.axis) (ap₂ (λ x xs. x ∷ xs) (all_bits p.bits v) (behind ∙ rest))

-- the projection of a key to its own layout
pub project_own : (layout : Layout) (key : Key) → IsLayout layout → IsUnder layout key → project key layout ≡ key
project_own layout key h under =
    let here : cuts layout key.values layout ≡ key.values = cuts_own layout key.values 0 h.ascends under.1 in
    let values : cuts key.layout key.values layout ≡ key.values =
    subst (λ (l : Layout). cuts l key.values layout ≡ key.values) (sym under.0) here in
    ap₂ (λ (l : Layout) (vs : List ℕ). record { layout = l; values = vs }) (sym under.0) values

-- a value for each part
so_long : (layout : Layout) (values : List ℕ) → HasBits layout values → length values ≡ length layout
so_long [] [] h = refl
so_long [] (v ∷ vs) h = absurd h
so_long (p ∷ ps) [] h = absurd h
so_long (p ∷ ps) (v ∷ vs) h = ap suc (so_long ps vs h.1)

-- a record under the layout of the totals is counted at its own values
pub own_record : (t : Totals) (r : Record) → IsLayout t.layout → HasBits r.key.layout r.key.values → t.layout
    ≡ r.key.layout
    → record t { entries = add_at t.entries (record { layout = t.layout; values = r.key.values }) r.counts }
    ≡ with_record t r
own_record t r is bits same =
    let fine : refines r.key.layout t.layout ≡ true =
    subst (λ (l : Layout). refines l t.layout ≡ true) same (refines_own t.layout is) in
    let own : project r.key t.layout ≡ r.key =
    project_own t.layout r.key is (sym same, so_long r.key.layout r.key.values bits ∙ ap length (sym same)) in
    let key : record { layout = t.layout; values = r.key.values } ≡ project r.key t.layout =
    ap (λ (l : Layout). record { layout = l; values = r.key.values }) same ∙ sym own in
    rw fine (ap (λ (k : Key). record t { entries = add_at t.entries k r.counts }) key)
