-- A row that is filled entry by entry, and a table that is filled row by row, keep what they had.
use Rattle.std.proofs.Common.{◌≡◌, ◌≢◌, inl, inr, ℕ, zero, suc, ◌+◌, ◌<◌, ◌≤◌, Bool, true, false, ◌==◌, List, [], ◌∷◌, length, get_or, Some, refl, sym, ap, ◌∙◌, subst, arith, eqb-true, le_of_suc-le-suc, slice_get, slice_set, slice_index}
use Rattle.std.proofs.lemmas.Bool.{cases_lt, eqb-false}
use Rattle.std.proofs.lemmas.Grind.{get_or_default_zero}
use Rattle.std.proofs.lemmas.Nat.Bits.{bit_at-zero}
use Rattle.std.proofs.lemmas.Option.{slice_get_past, slice_get-get_or}
use Rattle.std.specs.Int.{bit_at}
use Rattle.std.specs.Prelude.{Contains}
use Rattle.fx_boxes.specs.Boxes.{Bounds}
use Rattle.fx_layout.specs.Keys.{Layout}
use Rattle.fx_tables.specs.Network.{Net}
use Rattle.fx_tables.specs.Orders.{Descends}
use Rattle.fx_leaf.specs.Reach.{IsMarked, HoldsBehind, IsClosed, IsVerdict, IsFilled}
use Rattle.fx_leaf.specs.Tables.{Tables, AreTables, Table, entry_in, entry, entry_from}
use Rattle.fx_leaf.specs.Verdicts.{Verdict, verdict}
use Rattle.fx_leaf.proofs.RowsAreVerdicts.{closed_from, Before, higher_before, on_higher, not_there, entry_same}

-- ---- an entry is set

pub set_here : {A : Type 0} (xs : List A) (k : ℕ) (x : A) → k < length xs → slice_get (slice_set xs k x) k ≡ Some x
set_here [] k x lt = absurd (omega arith)
set_here (y ∷ ys) zero x lt = refl
set_here (y ∷ ys) (suc k) x lt = set_here ys k x (le_of_suc-le-suc lt)

pub set_elsewhere : {A : Type 0} (xs : List A) (k j : ℕ) (x : A) → k ≢ j → slice_get (slice_set xs k x) j
    ≡ slice_get xs j
set_elsewhere [] k j x e = refl
set_elsewhere (y ∷ ys) zero zero x e = absurd (e refl)
set_elsewhere (y ∷ ys) zero (suc j) x e = refl
set_elsewhere (y ∷ ys) (suc k) zero x e = refl
set_elsewhere (y ∷ ys) (suc k) (suc j) x e = set_elsewhere ys k j x (λ same. e (ap suc same))

-- another entry of a row leaves all others as they are
pub set_others : (rows : Table) (process number : ℕ) (d new : List Verdict) → process < length rows
    → ((k : ℕ) → k ≢ number → entry_in (Some new) k ≡ entry_in (Some (get_or rows process d)) k) → (q k : ℕ)
    → (q ≡ process → k ≡ number → ⊥) → entry (slice_set rows process new) q k ≡ entry rows q k
set_others rows process number d new lt others q k differs = by (process == q) refl
  where
    by : (t : Bool) → (process == q) ≡ t → entry (slice_set rows process new) q k ≡ entry rows q k
    by false e = ap (λ o. entry_in o k) (set_elsewhere rows process q new (eqb-false process q e))
    by true e =
        let same : process ≡ q = eqb-true _ _ e in
        let here : entry (slice_set rows process new) process k ≡ entry rows process k =
        ap (λ o. entry_in o k) (set_here rows process new lt) ∙ others k (differs (sym same))
        ∙ ap (λ o. entry_in o k) (sym (slice_get-get_or rows process d lt)) in
        subst (λ p. entry (slice_set rows process new) p k ≡ entry rows p k) same here

-- ---- a row

pub layout_at : (every layouts : List Layout) (k : ℕ) (layout : Layout) → every ≡ layouts → k < length every → layout
    ≡ get_or every k layout → slice_get layouts k ≡ Some layout
layout_at every layouts k layout same lt is =
    ap (λ (ls : List Layout). slice_get ls k) (sym same) ∙ slice_get-get_or every k layout lt ∙ ap Some (sym is)

-- the entries for the first of these layouts are filled, and those of other processes are as they were
pub record RowFilled (t : Tables) (region : Bounds) (layouts process : ℕ) (old now : Table) (count : ℕ) : Type 0 where
  pub filled : (k : ℕ) → k < count → bit_at layouts k ≡ 1 → IsVerdict t.net t.numbering region now process k
  pub others : (q k : ℕ) → q ≢ process → entry now q k ≡ entry old q k

module _ (t : Tables) (region : Bounds) (layouts process : ℕ) (old : Table) where
  pub row_begins : RowFilled t region layouts process old old 0
  row_begins = record {
    filled = λ k. λ lt. absurd (omega arith);
    others = λ q. λ k. λ differs. refl;
  }

  at_next : (P : ℕ → Type 0) (count k : ℕ) → k < count + 1 → (k < count → P k) → P count → P k
  at_next P count k lt below here =
      elim (cases_lt k count) [
        | inl less ↦ below less
        | inr le ↦ let same : count ≡ k = omega (arith, lt, le) in subst P same here
      ]

  -- a layout that isn't among these
  pub row_passed : (now : Table) (count : ℕ) → (bit_at layouts count ≡ 1 → ⊥)
      → RowFilled t region layouts process old now count → RowFilled t region layouts process old now (count + 1)
  row_passed now count unmarked so = record {
    filled = λ k. λ lt. at_next (λ i. bit_at layouts i ≡ 1 → IsVerdict t.net t.numbering region now process i) count k
        lt (so.filled k) (λ h. absurd (unmarked h));
    others = so.others;
  }

  pub row_done : (now : Table) (count : ℕ) → length t.numbering.layouts ≤ count
      → RowFilled t region layouts process old now count → (number : ℕ) → bit_at layouts number ≡ 1
      → IsVerdict t.net t.numbering region now process number
  row_done now count le so number h =
      elim (cases_lt number count) [
        | inl lt ↦ so.filled number lt h
        | inr more ↦ λ layout. λ is. absurd (let none =
            slice_get_past t.numbering.layouts number (omega (arith, le, more)) in cc)
      ]

  module _ (are : AreTables t) (size : length old ≡ length t.net.processes)
      (right : (number : ℕ) → bit_at layouts number ≡ 1
      → HoldsBehind t.net t.numbering (IsVerdict t.net t.numbering region old) number
      (slice_get t.net.processes process)) where
    still_right : (now : Table) (count number : ℕ) → RowFilled t region layouts process old now count
        → bit_at layouts number ≡ 1 → HoldsBehind t.net t.numbering (IsVerdict t.net t.numbering region now) number
        (slice_get t.net.processes process)
    still_right now count number so h =
        let ranked = are.network.ranked in
        on_higher t.net t.numbering ranked.rank process (IsVerdict t.net t.numbering region old)
        (IsVerdict t.net t.numbering region now)
        (λ q. λ i. λ lt. λ up. λ was. λ layout. λ is. so.others q i
        (λ same. let e = ap ranked.rank same in absurd (omega (arith, up, e))) ∙ was layout is) number
        (slice_get t.net.processes process) (ranked.rises process) (right number h)

    -- a layout that is among these
    pub row_set : (now new : Table) (count : ℕ) (layout : Layout) (v : Verdict) → length now ≡ length old
        → bit_at layouts count ≡ 1 → slice_get t.numbering.layouts count ≡ Some layout → v
        ≡ entry_from now t.net t.numbering region process count layout → entry new process count ≡ v
        → ((q k : ℕ) → (q ≡ process → k ≡ count → ⊥) → entry new q k ≡ entry now q k)
        → RowFilled t region layouts process old now count → RowFilled t region layouts process old new (count + 1)
    row_set now new count layout v same bit here e set others so =
        let right' = still_right now count count so bit in
        let verdict' = entry_same t.net t.numbering region are.network.ranked are.numbers are.reports now (same ∙ size)
        process count layout here right' in
        record {
          filled = λ k. λ lt. at_next (λ i. bit_at layouts i ≡ 1 → IsVerdict t.net t.numbering region new process i)
              count k lt (λ less. λ h. λ l. λ is. others process k (λ p. λ q. absurd (omega (arith, less, q)))
              ∙ so.filled k less h l is) (λ h. λ l. λ is. let one : layout ≡ l = cc in
              set ∙ e ∙ subst (λ x. entry_from now t.net t.numbering region process count layout
              ≡ verdict t.net region process x) one verdict');
          others = λ q. λ k. λ differs. others q k (λ p. λ i. differs p) ∙ so.others q k differs;
        }

-- ---- row by row

pub no_bit : (i : ℕ) → bit_at 0 i ≡ 1 → ⊥
no_bit i h = let none = bit_at-zero i in omega (arith, h, none)

-- the marked entries of those that come first in the order are filled
abbrev pub FilledTo : Tables → Bounds → List ℕ → List ℕ → Table → ℕ → Type 0
FilledTo t region marks order table k =
    (q number : ℕ) → Before order k q → IsMarked marks q number → IsVerdict t.net t.numbering region table q number

module _ (t : Tables) (are : AreTables t) (region : Bounds) (marks : List ℕ) (closed : IsClosed t.net t.numbering marks)
  where
    abbrev Right : Table → ℕ → ℕ → Type 0
    Right table q number = IsVerdict t.net t.numbering region table q number

    pub none_filled : (table : Table) → FilledTo t region marks t.order table 0
    none_filled table q number at = absurd (let lt = at.1 in omega (arith, lt))

    -- what the next row is worked out from is there
    pub next_right : (table : Table) (k : ℕ) → k < length t.order → FilledTo t region marks t.order table k
        → (number : ℕ)
        → IsMarked marks (get_or t.order k 0) number
        → HoldsBehind t.net t.numbering (Right table) number (slice_get t.net.processes (get_or t.order k 0))
    next_right table k lt so number h =
        let p = get_or t.order k 0 in
        let ranked = are.network.ranked in
        on_higher t.net t.numbering ranked.rank p (IsMarked marks) (Right table)
        (λ q. λ i. λ there. λ up. λ m. so q i (before q there up) m) number (slice_get t.net.processes p)
        (ranked.rises p) (closed_from t.net t.numbering marks closed p number h)
      where
        before : (q : ℕ) → q < length t.net.processes → are.network.ranked.rank (get_or t.order k 0)
            < are.network.ranked.rank q → Before t.order k q
        before q there up =
            elim (higher_before t.net are.network.ranked.rank [] t.order k are.falls lt q there up) [
              | inl none ↦ absurd (let low = none.1 in omega (arith, low))
              | inr at ↦ at
            ]

    earlier : (k q : ℕ) → Before t.order (k + 1) q → get_or t.order k 0 ≢ q → Before t.order k q
    earlier k q (j, lt, e) differs =
        elim (cases_lt j k) [
          | inl less ↦ (j, less, e)
          | inr le ↦ let same : j ≡ k = omega (arith, lt, le) in
              absurd (differs (subst (λ i. get_or t.order i 0 ≡ q) same e))
        ]

    -- the next row is filled, or has no marks
    pub next_filled : (table new : Table) (k : ℕ)
        → ((number : ℕ) → IsMarked marks (get_or t.order k 0) number → Right new (get_or t.order k 0) number)
        → ((q number : ℕ) → q ≢ get_or t.order k 0 → entry new q number ≡ entry table q number)
        → FilledTo t region marks t.order table k → FilledTo t region marks t.order new (k + 1)
    next_filled table new k filled others so q number at h = by (get_or t.order k 0 == q) refl
      where
        by : (b : Bool) → (get_or t.order k 0 == q) ≡ b → Right new q number
        by true e =
            let same : get_or t.order k 0 ≡ q = eqb-true _ _ e in
            subst (λ p. IsMarked marks p number → Right new p number) same (filled number) h
        by false e = λ layout. λ is.
            let differs = eqb-false (get_or t.order k 0) q e in
            others q number (λ same. differs (sym same)) ∙ so q number (earlier k q at differs) h layout is

    pub next_empty : (table : Table) (k : ℕ) → slice_index marks (get_or t.order k 0) ≡ 0
        → FilledTo t region marks t.order table k → FilledTo t region marks t.order table (k + 1)
    next_empty table k none so =
        next_filled table table k (λ number. λ h. absurd (no_bit number (ap (λ m. bit_at m number) (sym none) ∙ h)))
        (λ q. λ number. λ differs. refl) so

    pub all_filled : (table : Table) (k : ℕ) → length table ≡ length t.net.processes → length t.order ≤ k
        → FilledTo t region marks t.order table k → IsFilled t.net t.numbering region marks table
    all_filled table k size le so = record {
      size = size;
      closed = closed;
      verdicts = λ process. λ number. λ h.
          elim (cases_lt process (length t.net.processes)) [
            | inl lt ↦ so process number (place process (are.whole process lt)) h
            | inr past ↦ not_there t.net t.numbering region are.network.ranked are.numbers are.reports table size
                process
                number past
          ];
    }
      where
        place : (process : ℕ) → Contains t.order process → Before t.order k process
        place process (j, lt, e) = (j, omega (arith, lt, le), sym (get_or_default_zero t.order j process lt) ∙ e)

-- each process of the order is there
pub is_there : (net : Net) (rank : ℕ → ℕ) (done order : List ℕ) (k d : ℕ) → Descends net rank done order → k
    < length order → get_or order k d < length net.processes
is_there net rank done [] k d falls lt = absurd (omega arith)
is_there net rank done (p ∷ ps) zero d falls lt = falls.0
is_there net rank done (p ∷ ps) (suc k) d falls lt = is_there net rank (p ∷ done) ps k d falls.2 (le_of_suc-le-suc lt)
