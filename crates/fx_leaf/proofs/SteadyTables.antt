-- Verdicts that no region changes: where no aggregation takes records in, they hold for each region.
use Rattle.std.proofs.Common.{◌≡◌, ℕ, List, [], map, slice_get, slice_index, refl, sym, ap, ◌∙◌, Option, Some, None, inl, inr}
use Rattle.std.specs.Int.{bit_at}
use Rattle.fx_boxes.specs.Boxes.{Bounds}
use Rattle.fx_layout.specs.Keys.{Layout}
use Rattle.fx_tables.specs.Network.{AggregationEntry, Process, at_places}
use Rattle.fx_leaf.specs.Tables.{AreTables, Table, Tables, entry, entry_from, handled_entry, taken_entry}
use Rattle.fx_leaf.specs.Verdicts.{sent_verdict, tally_verdict, verdict_of_all, verdict_of_both}
use Rattle.fx_leaf.specs.Reach.{Agrees, HoldsBehind, IsFilled, IsMarked, IsVerdict}
use Rattle.fx_leaf.specs.PathTables.{HasNoMarkOrAggregation, TakeNoneIn}
use Rattle.fx_leaf.proofs.RowsAreVerdicts.{closed_from, entry_same, on_higher, table_is_verdicts}
use Rattle.fx_leaf.proofs.RowsGrow.{no_bit}

module _ (t : Tables) (are : AreTables t) (marks : List ℕ) (table : Table) (none : TakeNoneIn t.net.processes marks)
  where
    -- a collecting process that is marked has no aggregation
    no_aggregation : (process number : ℕ) (p : Process) → IsMarked marks process number
        → slice_get t.net.processes process ≡ Some p → p.aggregations ≡ []
    no_aggregation process number p marked is = by (none process p is) where
      by : HasNoMarkOrAggregation (slice_index marks process) p → p.aggregations ≡ []
      by (inl no_mark) = absurd (no_bit number (ap (λ m. bit_at m number) (sym no_mark) ∙ marked))
      by (inr no_entries) = no_entries

    -- so an entry there doesn't depend on the region
    entry_steady : (one other : Bounds) (process number : ℕ) (layout : Layout) → IsMarked marks process number
        → entry_from table t.net t.numbering one process number layout
        ≡ entry_from table t.net t.numbering other process number layout
    entry_steady one other process number layout marked = by (slice_get t.net.processes process) refl where
      by : (o : Option Process) → slice_get t.net.processes process ≡ o
          → verdict_of_both (tally_verdict t.net layout process)
          (handled_entry table t.net t.numbering one number layout o)
          ≡ verdict_of_both (tally_verdict t.net layout process)
          (handled_entry table t.net t.numbering other number layout o)
      by None is = refl
      by (Some p) is =
          let empty = no_aggregation process number p marked is in
          let handled : Bounds → List AggregationEntry → _ = λ region as'.
          verdict_of_both (tally_verdict t.net layout process)
          (verdict_of_both (sent_verdict (entry table) t.net number (at_places t.net.exporters p.exporters))
          (verdict_of_all (map (taken_entry table t.net t.numbering region layout) as'))) in
          ap (handled one) empty ∙ sym (ap (handled other) empty)

    module _ (one : Bounds) (filled : IsFilled t.net t.numbering one marks table) where
      -- what is behind a marked entry is right, as that is
      right_behind : (process number : ℕ) → IsMarked marks process number
          → HoldsBehind t.net t.numbering (IsVerdict t.net t.numbering one table) number
          (slice_get t.net.processes process)
      right_behind process number marked =
          let ranked = are.network.ranked in
          on_higher t.net t.numbering ranked.rank process (IsMarked marks) (IsVerdict t.net t.numbering one table)
          (λ q i there up m. filled.verdicts q i m) number (slice_get t.net.processes process) (ranked.rises process)
          (closed_from t.net t.numbering marks filled.closed process number marked)

      agrees : (other : Bounds) → Agrees t.net t.numbering other marks table
      agrees other process number layout marked is =
          filled.verdicts process number marked layout is
          ∙ sym (entry_same t.net t.numbering one are.network.ranked are.numbers are.reports table filled.size process
          number layout is (right_behind process number marked))
          ∙ entry_steady one other process number layout marked

      pub filled_for_each : (other : Bounds) → IsFilled t.net t.numbering other marks table
      filled_for_each other = record {
        size = filled.size;
        closed = filled.closed;
        verdicts = table_is_verdicts t.net t.numbering other marks table are.network.ranked are.numbers are.reports
            filled.size filled.closed (agrees other);
      }
