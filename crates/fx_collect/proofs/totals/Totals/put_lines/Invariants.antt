-- Whatever completes the lines of the entries that are left completes all lines.
use Rattle.std.proofs.Common.{◌≡◌, ℕ, List, Option, false}
use Rattle.fx_base.specs.Device.{Writes}
use Rattle.fx_collect.specs.Totals.{records_of, AllHaveBits}
use Rattle.fx_collect.specs.Report.{record_lines}
use Rattle.fx_collect.proofs.totals.Totals.put_lines.Given as goal

abbrev pub invariant-loop-values : goal.invariant-loop-values
invariant-loop-values g l = record {
  whole : (after : Option (List ℕ)) → Writes (g.S.Sink.taken l.sink) after
      (record_lines (records_of l.self-inside.layout l.values-iterator))
      → Writes (g.S.Sink.taken l.initial.sink) after
      (record_lines (records_of l.self-inside.layout l.self-inside.counts.entries));
  bits : AllHaveBits l.self-inside.layout l.values-iterator;
  going : g.S.Sink.failed l.initial.sink ≡ false → g.S.Sink.failed l.sink ≡ false;
}
