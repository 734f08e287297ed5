-- Data records, one after another.
use Rattle.std.proofs.Common.{◌≡◌, ℕ, zero, suc, ◌+◌, ◌%◌, ◌^◌, ◌≤◌, ◌<◌, Bool, true, false, ◌==◌, cond, ltb, ltb-false, lt-ltb, le-ltb, List, [], ◌∷◌, ◌++◌, length, drop, slice_index, refl, ap, sym, ◌∙◌, arith, append_assoc, length-drop, Option, Some, None, Result, Ok, Err, inl, inr}
use Rattle.std.specs.Int.{w16}
use Rattle.std.proofs.lemmas.List.Sums.{sum_by-cons}
use Rattle.fx_tables.specs.declared.record.Record.{Record}
use Rattle.fx_wire.proofs.SetLists.{chosen}
use Rattle.fx_wire.proofs.RecordSteps.{record_at-first, record_at-cut, record_at-end}
use Rattle.fx_wire.specs.Numbers.{number_at}
use Rattle.fx_wire.specs.Values.{Value, octets_at, variable_at, value_at, record_at, before_values, rest_of, after_record, shortest_value, shortest_record}
use Rattle.fx_wire.specs.declared.field.FieldSpecifier.{FieldSpecifier}
use Rattle.fx_session.specs.Flows.{flow_in}
use Rattle.fx_session.specs.DataSets.{Taken, after_flow, after_values, flow_record, flow_records, flow_set, option_records, option_set}
use Rattle.fx_session.specs.Calls.{Grows}
use Rattle.fx_session.specs.declared.stream_fault.StreamFault.{StreamFault}
use Rattle.fx_session.specs.declared.stream_fault.StreamFault.TheVariants as faults

-- ---- what values and records take up

abbrev behind : {A : Type 0} → Option (A × List ℕ) → List ℕ
behind (Some p) = p.1
behind None = []

octets_at-shorter : (n : ℕ) (bs : List ℕ) (v : List ℕ × List ℕ) → octets_at n bs ≡ Some v → length v.1 + n ≤ length bs
octets_at-shorter n bs v e =
    elim (chosen (ltb (length bs) n) None _ (Some v) e) [
      | inl h ↦ absurd cc
      | inr h ↦ let d = ap behind h.1 in omega (arith, ltb-false (length bs) n h.0, ap length d, length-drop n bs)
    ]

variable_at-shorter : (bs : List ℕ) (v : List ℕ × List ℕ) → variable_at bs ≡ Some v → length v.1 + 1 ≤ length bs
variable_at-shorter bs v e =
    elim (chosen (ltb (length bs) 1) None _ (Some v) e) [
      | inl h ↦ absurd cc
      | inr h ↦ elim (chosen (ltb (slice_index bs 0) 255) (octets_at (slice_index bs 0) (drop 1 bs)) _ (Some v) h.1) [
        | inl i ↦ omega (
          arith,
          ltb-false (length bs) 1 h.0,
          octets_at-shorter (slice_index bs 0) (drop 1 bs) v i.1,
          length-drop 1 bs,
        )
        | inr i ↦ elim (chosen (ltb (length bs) 3) None _ (Some v) i.1) [
          | inl j ↦ absurd cc
          | inr j ↦ omega (
            arith,
            ltb-false (length bs) 3 j.0,
            octets_at-shorter (number_at w16 1 bs) (drop 3 bs) v j.1,
            length-drop 3 bs,
          )
        ]
      ]
    ]

value_at-shorter : (f : FieldSpecifier) (bs : List ℕ) (v : List ℕ × List ℕ) → value_at f.field_length bs ≡ Some v
    → length v.1 + shortest_value f ≤ length bs
value_at-shorter f bs v e = by (f.field_length == 65535) e where
  by : (t : Bool) → cond t (variable_at bs) (octets_at f.field_length bs) ≡ Some v → length v.1
      + cond t 1 f.field_length ≤ length bs
  by true e = variable_at-shorter bs v e
  by false e = octets_at-shorter f.field_length bs v e

shortest_record-first : (f : FieldSpecifier) (fs : List FieldSpecifier) → shortest_record (f ∷ fs) ≡ shortest_value f
    + shortest_record fs
shortest_record-first f fs = sum_by-cons shortest_value f fs

pub record_at-shorter : (fields : List FieldSpecifier) (bs : List ℕ) (p : List Value × List ℕ) → record_at fields bs
    ≡ Some p → length p.1 + shortest_record fields ≤ length bs
record_at-shorter [] bs p e = let d = ap behind (sym (record_at-end bs) ∙ e) in omega (arith, ap length d)
record_at-shorter (f ∷ fs) bs p e = by (λ rest q k. record_at-shorter fs rest q k) (value_at f.field_length bs) refl
  where
    later : ((rest : List ℕ) (q : List Value × List ℕ) → record_at fs rest ≡ Some q → length q.1 + shortest_record fs
        ≤ length rest) → (v : List ℕ × List ℕ) → length v.1 + shortest_value f ≤ length bs
        → (o : Option (List Value × List ℕ)) → record_at fs v.1 ≡ o
        → before_values (record { field = f; content = v.0 } ∷ []) o ≡ Some p → length p.1 + shortest_record (f ∷ fs)
        ≤ length bs
    later ih v h (Some q) k m = let d = ap behind m in
        omega (arith, h, ih v.1 q k, ap length d, shortest_record-first f fs)
    later ih v h None k m = absurd cc

    by : ((rest : List ℕ) (q : List Value × List ℕ) → record_at fs rest ≡ Some q → length q.1 + shortest_record fs
        ≤ length rest) → (o : Option (List ℕ × List ℕ)) → value_at f.field_length bs ≡ o
        → length p.1 + shortest_record (f ∷ fs) ≤ length bs
    by ih (Some v) k = later ih v (value_at-shorter f bs v k) (record_at fs v.1) refl
        (sym (record_at-first f fs bs v k) ∙ e)
    by ih None k = absurd (let r = record_at-cut f fs bs k in cc)

-- ---- data sets

abbrev rest_or : Result (Taken × List ℕ) StreamFault → List ℕ
rest_or (Ok p) = p.1
rest_or (Err n) = []

flow_record-shorter : (fields : List FieldSpecifier) (t : Taken) (bs : List ℕ) (p : Taken × List ℕ)
    → flow_record fields t bs ≡ Ok p → length p.1 + shortest_record fields ≤ length bs
flow_record-shorter fields t bs p e = by (record_at fields bs) refl e where
  by_flow : (q : List Value × List ℕ) → length q.1 + shortest_record fields ≤ length bs
      → (r : Result (Option Record) StreamFault) → after_flow t q.1 r ≡ Ok p → length p.1 + shortest_record fields
      ≤ length bs
  by_flow q h (Ok o) m = let d = ap rest_or m in omega (arith, h, ap length d)
  by_flow q h (Err n) m = absurd cc

  by : (o : Option (List Value × List ℕ)) → record_at fields bs ≡ o → after_values t o ≡ Ok p → length p.1
      + shortest_record fields ≤ length bs
  by (Some q) k m = by_flow q (record_at-shorter fields bs q k) (flow_in q.0) m
  by None k m = absurd cc

abbrev pub flow_turn : ℕ → List FieldSpecifier → Result (Taken × List ℕ) StreamFault → Result Taken StreamFault
flow_turn turns fields (Ok p) = flow_records turns fields p.0 p.1
flow_turn turns fields (Err n) = Err n

-- more turns than octets change nothing
flows_same : (j k : ℕ) (fields : List FieldSpecifier) (t : Taken) (bs : List ℕ) → 1 ≤ shortest_record fields → length bs
    ≤ j → length bs ≤ k → flow_records j fields t bs ≡ flow_records k fields t bs
unfolding flow_records
flows_same zero zero fields t bs s h l = refl
flows_same zero (suc k) fields t bs s h l =
    ap (λ (b : Bool). cond b (Ok t) (flow_turn k fields (flow_record fields t bs)))
    (sym (lt-ltb (length bs) (shortest_record fields) (omega arith)))
flows_same (suc j) zero fields t bs s h l =
    ap (λ (b : Bool). cond b (Ok t) (flow_turn j fields (flow_record fields t bs)))
    (lt-ltb (length bs) (shortest_record fields) (omega arith))
flows_same (suc j) (suc k) fields t bs s h l =
    by (λ p less. flows_same j k fields p.0 p.1 s (omega arith) (omega arith))
    (ltb (length bs) (shortest_record fields)) where
      by_record : ((p : Taken × List ℕ) → length p.1 < length bs → flow_records j fields p.0 p.1
          ≡ flow_records k fields p.0 p.1) → (r : Result (Taken × List ℕ) StreamFault) → flow_record fields t bs ≡ r
          → flow_turn j fields r ≡ flow_turn k fields r
      by_record ih (Ok p) e = ih p (omega (arith, flow_record-shorter fields t bs p e))
      by_record ih (Err n) e = refl

      by : ((p : Taken × List ℕ) → length p.1 < length bs → flow_records j fields p.0 p.1
          ≡ flow_records k fields p.0 p.1)
          → (b : Bool)
          → cond b (Ok t) (flow_turn j fields (flow_record fields t bs))
          ≡ cond b (Ok t) (flow_turn k fields (flow_record fields t bs))
      by ih true = refl
      by ih false = by_record ih (flow_record fields t bs) refl

flow_one : (fields : List FieldSpecifier) (t : Taken) (bs : List ℕ) → 1 ≤ shortest_record fields
    → shortest_record fields ≤ length bs → flow_set fields t bs ≡ flow_turn (length bs) fields (flow_record fields t bs)
unfolding flow_set flow_records
flow_one fields t bs s h =
    flows_same (length bs) (suc (length bs)) fields t bs s (omega arith) (omega arith)
    ∙ ap (λ (b : Bool). cond b (Ok t) (flow_turn (length bs) fields (flow_record fields t bs)))
    (le-ltb (length bs) (shortest_record fields) h)

pub flow_set-more : (fields : List FieldSpecifier) (t : Taken) (bs : List ℕ) (p : Taken × List ℕ) → 1
    ≤ shortest_record fields → shortest_record fields ≤ length bs → flow_record fields t bs ≡ Ok p
    → (flow_set fields t bs ≡ flow_set fields p.0 p.1) × (length p.1 < length bs)
unfolding flow_set
flow_set-more fields t bs p s h e =
    let less = flow_record-shorter fields t bs p e in (
      flow_one fields t bs s h ∙ ap (flow_turn (length bs) fields) e
          ∙ flows_same (length bs) (length p.1) fields p.0 p.1 s (omega arith) (omega arith),
      omega arith,
    )

pub flow_set-refused : (fields : List FieldSpecifier) (t : Taken) (bs : List ℕ) (n : StreamFault) → 1
    ≤ shortest_record fields → shortest_record fields ≤ length bs → flow_record fields t bs ≡ Err n
    → flow_set fields t bs ≡ Err n
flow_set-refused fields t bs n s h e = flow_one fields t bs s h ∙ ap (flow_turn (length bs) fields) e

pub flow_set-padding : (fields : List FieldSpecifier) (t : Taken) (bs : List ℕ) → 1 ≤ shortest_record fields → length bs
    < shortest_record fields → flow_set fields t bs ≡ Ok t
unfolding flow_set flow_records
flow_set-padding fields t bs s h =
    flows_same (length bs) (suc (length bs)) fields t bs s (omega arith) (omega arith)
    ∙ ap (λ (b : Bool). cond b (Ok t) (flow_turn (length bs) fields (flow_record fields t bs)))
    (lt-ltb (length bs) (shortest_record fields) h)

-- ---- data sets of options

after_record-shorter : (fields : List FieldSpecifier) (bs rest : List ℕ) → after_record fields bs ≡ Some rest
    → length rest + shortest_record fields ≤ length bs
after_record-shorter fields bs rest e = by (record_at fields bs) refl e where
  by : (o : Option (List Value × List ℕ)) → record_at fields bs ≡ o → rest_of o ≡ Some rest → length rest
      + shortest_record fields ≤ length bs
  by (Some q) k m = let d : q.1 ≡ rest = cc in omega (arith, record_at-shorter fields bs q k, ap length d)
  by None k m = absurd cc

abbrev pub passed : Taken → Taken
passed t = record { waiting = t.waiting; skipped = t.skipped; count = (t.count + 1) % 2 ^ 32 }

abbrev pub option_turn : ℕ → List FieldSpecifier → Taken → Option (List ℕ) → Result Taken StreamFault
option_turn turns fields t (Some rest) = option_records turns fields (passed t) rest
option_turn turns fields t None = Err faults.CutRecord

options_same : (j k : ℕ) (fields : List FieldSpecifier) (t : Taken) (bs : List ℕ) → 1 ≤ shortest_record fields
    → length bs ≤ j → length bs ≤ k → option_records j fields t bs ≡ option_records k fields t bs
unfolding option_records
options_same zero zero fields t bs s h l = refl
options_same zero (suc k) fields t bs s h l =
    ap (λ (b : Bool). cond b (Ok t) (option_turn k fields t (after_record fields bs)))
    (sym (lt-ltb (length bs) (shortest_record fields) (omega arith)))
options_same (suc j) zero fields t bs s h l =
    ap (λ (b : Bool). cond b (Ok t) (option_turn j fields t (after_record fields bs)))
    (lt-ltb (length bs) (shortest_record fields) (omega arith))
options_same (suc j) (suc k) fields t bs s h l =
    by (λ rest less. options_same j k fields (passed t) rest s (omega arith) (omega arith))
    (ltb (length bs) (shortest_record fields)) where
      by_record : ((rest : List ℕ) → length rest < length bs → option_records j fields (passed t) rest
          ≡ option_records k fields (passed t) rest) → (r : Option (List ℕ)) → after_record fields bs ≡ r
          → option_turn j fields t r ≡ option_turn k fields t r
      by_record ih (Some rest) e = ih rest (omega (arith, after_record-shorter fields bs rest e))
      by_record ih None e = refl

      by : ((rest : List ℕ) → length rest < length bs → option_records j fields (passed t) rest
          ≡ option_records k fields (passed t) rest) → (b : Bool)
          → cond b (Ok t) (option_turn j fields t (after_record fields bs))
          ≡ cond b (Ok t) (option_turn k fields t (after_record fields bs))
      by ih true = refl
      by ih false = by_record ih (after_record fields bs) refl

option_one : (fields : List FieldSpecifier) (t : Taken) (bs : List ℕ) → 1 ≤ shortest_record fields
    → shortest_record fields ≤ length bs → option_set fields t bs
    ≡ option_turn (length bs) fields t (after_record fields bs)
unfolding option_set option_records
option_one fields t bs s h =
    options_same (length bs) (suc (length bs)) fields t bs s (omega arith) (omega arith)
    ∙ ap (λ (b : Bool). cond b (Ok t) (option_turn (length bs) fields t (after_record fields bs)))
    (le-ltb (length bs) (shortest_record fields) h)

pub option_set-more : (fields : List FieldSpecifier) (t : Taken) (bs rest : List ℕ) → 1 ≤ shortest_record fields
    → shortest_record fields ≤ length bs → Some rest ≡ after_record fields bs
    → (option_set fields t bs ≡ option_set fields (passed t) rest) × (length rest < length bs)
unfolding option_set
option_set-more fields t bs rest s h e =
    let less = after_record-shorter fields bs rest (sym e) in (
      option_one fields t bs s h ∙ ap (option_turn (length bs) fields t) (sym e)
          ∙ options_same (length bs) (length rest) fields (passed t) rest s (omega arith) (omega arith),
      omega arith,
    )

pub option_set-refused : (fields : List FieldSpecifier) (t : Taken) (bs : List ℕ) → 1 ≤ shortest_record fields
    → shortest_record fields ≤ length bs → None ≡ after_record fields bs → option_set fields t bs ≡ Err faults.CutRecord
option_set-refused fields t bs s h e = option_one fields t bs s h ∙ ap (option_turn (length bs) fields t) (sym e)

pub option_set-padding : (fields : List FieldSpecifier) (t : Taken) (bs : List ℕ) → 1 ≤ shortest_record fields
    → length bs < shortest_record fields → option_set fields t bs ≡ Ok t
unfolding option_set option_records
option_set-padding fields t bs s h =
    options_same (length bs) (suc (length bs)) fields t bs s (omega arith) (omega arith)
    ∙ ap (λ (b : Bool). cond b (Ok t) (option_turn (length bs) fields t (after_record fields bs)))
    (lt-ltb (length bs) (shortest_record fields) h)

-- ---- records that wait

pub grows_on : {A : Type 0} (a b c : List A) → Grows a b → Grows b c → Grows a c
grows_on {A = A} a b c g h = (g.0 ++ h.0, h.1 ∙ ap (λ (l : List A). l ++ h.0) g.1 ∙ append_assoc a g.0 h.0)
