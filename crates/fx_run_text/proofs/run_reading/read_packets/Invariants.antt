use Rattle.std.proofs.Common.{◌≡◌, None, [], All}
use Rattle.fx_base.specs.Entries.{entry_numbered}
use Rattle.fx_base.specs.Lines.{GoesOnToLines, line_budget}
use Rattle.fx_tables.specs.Classes.{IsOf}
use Rattle.fx_run_text.specs.RunReading.{ReadsOn}
use Rattle.fx_run_text.proofs.run_reading.read_packets.Given as goal

abbrev pub invariant-lines : goal.invariant-lines
invariant-lines g l = record {
  going : l.lines.stopped ≡ None;
  on : GoesOnToLines l.fn.lines l.lines;
  reads : ReadsOn l.version l.classes l.fn.lines l.lines (record { packets = l.packets.items; steps = [] });
  classes : All (λ packet. IsOf packet (entry_numbered l.classes packet.class)) l.packets.items;
}

abbrev pub decreases-lines : goal.decreases-lines
decreases-lines g l = line_budget l.lines
