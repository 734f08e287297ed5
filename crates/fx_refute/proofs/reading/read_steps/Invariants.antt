use Rattle.std.proofs.Common.{◌≡◌, ◌≤◌, length, None}
use Rattle.fx_base.specs.Lines.{GoesOnToLines, line_budget}
use Rattle.fx_refute.specs.ReadingOn.{Leads}
use Rattle.fx_refute.specs.RefutationReading.{only, steps_behind}
use Rattle.fx_machine.specs.Limits.{step_limit}
use Rattle.fx_refute.proofs.reading.read_steps.Given as goal

-- what is read is what is left behind the steps so far
abbrev pub invariant-lines : goal.invariant-lines
invariant-lines g l = record {
  going : l.lines.stopped ≡ None;
  on : GoesOnToLines l.fn.lines l.lines;
  leads : Leads l.fn.lines l.lines (steps_behind l.version l.fn.lines.number (only l.packet))
      (steps_behind l.version l.lines.number (record { packet = l.packet; steps = l.steps.items }));
  few : length l.steps.items ≤ step_limit;
}

abbrev pub decreases-lines : goal.decreases-lines
decreases-lines g l = line_budget l.lines
