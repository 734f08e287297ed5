-- A data set that is written is read.
use Rattle.std.proofs.Common.{◌≡◌, ℕ, suc, ◌+◌, ◌%◌, ◌^◌, ◌≤◌, ◌<◌, Bool, true, false, cond, List, [], ◌∷◌, ◌++◌, length, ap, sym, ◌∙◌, arith, append_assoc, Option, Some, Result, Ok}
use Rattle.std.specs.List.{AllByRecursion}
use Rattle.std.proofs.lemmas.List.{append-nil}
use Rattle.std.proofs.lemmas.List.Sums.{sum_by-cons}
use Rattle.fx_elements.specs.Elements.{element_number, prefix_number, prefix_length_number}
use Rattle.fx_layout.specs.declared.layout.Part.{Part}
use Rattle.fx_layout.specs.Keys.{Layout, IsLayout}
use Rattle.fx_tables.specs.declared.record.Record.{Record}
use Rattle.fx_wire.specs.Values.{record_at, shortest_value, shortest_record}
use Rattle.fx_wire.specs.declared.field.FieldSpecifier.{FieldSpecifier}
use Rattle.fx_session.specs.Flows.{flow_in}
use Rattle.fx_session.specs.DataSets.{Taken, with_flow, after_flow, after_values, flow_record, flow_set}
use Rattle.fx_session.proofs.DataSteps.{record_at-shorter, flow_set-more, flow_set-padding}
use Rattle.fx_link.specs.Records.{specifier, axis_octets, is_whole, part_fields, fields_of, key_octets, counts_octets, record_octets, records_octets}
use Rattle.fx_link.specs.Sending.{IsSendable}
use Rattle.fx_link.proofs.RecordTrip.{key_values, counts_values, record_back}
use Rattle.fx_link.proofs.FlowTrip.{flow_back}
use Rattle.fx_session.specs.declared.stream_fault.StreamFault.{StreamFault}

-- ---- one record

at_front : (layout : Layout) (r : Record) (rest : List ℕ) → IsSendable layout r
    → record_at (fields_of layout) (record_octets r ++ rest)
    ≡ Some (key_values layout r.key.values ++ counts_values r.counts, rest)
unfolding record_octets
at_front layout r rest s =
    ap (λ (l : Layout). record_at (fields_of layout) ((key_octets l r.key.values ++ counts_octets r.counts) ++ rest))
    s.layout_is
    ∙ ap (record_at (fields_of layout)) (append_assoc (key_octets layout r.key.values) (counts_octets r.counts) rest)
    ∙ record_back layout r.key.values r.counts rest s.bits

flow_is : (layout : Layout) (r : Record) → IsLayout layout → IsSendable layout r
    → flow_in (key_values layout r.key.values ++ counts_values r.counts) ≡ Ok (Some r)
flow_is layout r is s =
    flow_back layout r.key.values r.counts is s.bits s.packets s.octets
    ∙ ap (λ (l : Layout). let o : Result (Option Record) StreamFault =
    Ok (Some (record { key = record { layout = l; values = r.key.values }; counts = r.counts })) in o)
    (sym s.layout_is)

record_taken : (layout : Layout) (t : Taken) (r : Record) (rest : List ℕ) → IsLayout layout → IsSendable layout r
    → flow_record (fields_of layout) t (record_octets r ++ rest) ≡ Ok (with_flow t (Some r), rest)
record_taken layout t r rest is s =
    ap (after_values t) (at_front layout r rest s) ∙ ap (after_flow t rest) (flow_is layout r is s)

-- ---- a record has octets

shortest-part : (part : Part) (fs : List FieldSpecifier) → shortest_record fs ≤ shortest_record (part_fields part ++ fs)
shortest-part part fs = by (is_whole part) where
  by : (t : Bool) → shortest_record fs
      ≤ shortest_record (cond t (specifier (element_number part.axis) (axis_octets part.axis) ∷ [])
      (specifier (prefix_number part.axis) (axis_octets part.axis) ∷ specifier (prefix_length_number part.axis) 1
      ∷ []) ++ fs)
  by true = omega (arith, sum_by-cons shortest_value (specifier (element_number part.axis) (axis_octets part.axis)) fs)
  by false =
      omega (
        arith,
        sum_by-cons shortest_value (specifier (prefix_number part.axis) (axis_octets part.axis))
            (specifier (prefix_length_number part.axis) 1 ∷ fs),
        sum_by-cons shortest_value
            (specifier (prefix_length_number part.axis) 1) fs,
      )

pub shortest-some : (layout : Layout) → 1 ≤ shortest_record (fields_of layout)
shortest-some [] = omega arith
shortest-some (part ∷ parts) = let h : 1 ≤ shortest_record (fields_of parts) = shortest-some parts in
    omega (arith, shortest-part part (fields_of parts))

-- ---- all records

abbrev pub with_flows : Taken → List Record → Taken
with_flows t rs = record { waiting = t.waiting ++ rs; skipped = t.skipped; count = t.count + length rs }

taken_same : (t : Taken) → with_flows t [] ≡ t
taken_same t =
    ap (λ (w : List Record). let u : Taken = record { waiting = w; skipped = t.skipped; count = t.count + 0 } in u)
    (append-nil t.waiting)
    ∙ ap (λ (n : ℕ). let u : Taken = record { waiting = t.waiting; skipped = t.skipped; count = n } in u)
    (let e : t.count + 0 ≡ t.count = omega arith in e)

taken_on : (t : Taken) (r : Record) (rs : List Record) → t.count + suc (length rs) < 2 ^ 32
    → with_flows (with_flow t (Some r)) rs ≡ with_flows t (r ∷ rs)
taken_on t r rs h =
    ap (λ (w : List Record). let u : Taken =
    record { waiting = w; skipped = t.skipped; count = (t.count + 1) % 2 ^ 32 + length rs } in u)
    (append_assoc t.waiting (r ∷ []) rs)
    ∙ ap (λ (n : ℕ). let u : Taken = record { waiting = t.waiting ++ (r ∷ rs); skipped = t.skipped; count = n } in u)
    (let e : (t.count + 1) % 2 ^ 32 + length rs ≡ t.count + suc (length rs) = omega arith in e)

pub flows_back : (layout : Layout) (t : Taken) (rs : List Record) → IsLayout layout
    → AllByRecursion (IsSendable layout) rs → t.count + length rs < 2 ^ 32
    → flow_set (fields_of layout) t (records_octets rs) ≡ Ok (with_flows t rs)
flows_back layout t [] is s h =
    flow_set-padding (fields_of layout) t [] (shortest-some layout)
    (let e : 1 ≤ shortest_record (fields_of layout) = shortest-some layout in omega arith)
    ∙ ap (λ (u : Taken). let o : Result Taken StreamFault = Ok u in o) (sym (taken_same t))
flows_back layout t (r ∷ rs) is s h =
    let some : 1 ≤ shortest_record (fields_of layout) = shortest-some layout in
    let long : length (records_octets rs) + shortest_record (fields_of layout)
    ≤ length (record_octets r ++ records_octets rs) =
    record_at-shorter (fields_of layout) (record_octets r ++ records_octets rs)
    (key_values layout r.key.values ++ counts_values r.counts, records_octets rs)
    (at_front layout r (records_octets rs) s.0) in
    (flow_set-more (fields_of layout) t (record_octets r ++ records_octets rs) (with_flow t (Some r), records_octets rs)
    some (omega arith) (record_taken layout t r (records_octets rs) is s.0)).0
    ∙ flows_back layout (with_flow t (Some r)) rs is s.1 (omega arith)
    ∙ ap (λ (u : Taken). let o : Result Taken StreamFault = Ok u in o) (taken_on t r rs h)
