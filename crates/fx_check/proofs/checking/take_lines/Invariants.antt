use Rattle.std.proofs.Common.{◌≡◌, Some}
use Rattle.fx_base.specs.declared.fault.Fault.{Fault}
use Rattle.fx_base.specs.Lines.{GoesOnToLines, line_budget}
use Rattle.fx_check.specs.Judging.{judge_of}
use Rattle.fx_check.specs.Outcomes.{Continues}
use Rattle.fx_check.specs.Remaining.{goals, IsConsistent, IsReady}
use Rattle.fx_check.specs.FirstRefusal.{whole}
use Rattle.fx_check.proofs.checking.take_lines.Given as goal

abbrev pub invariant-lines : goal.invariant-lines
invariant-lines g l = record {
  ready : IsReady l.tables l.targets l.progress l.scratch;
  consistent : IsConsistent l.targets l.progress;
  stopped : (e : Fault) → l.lines.stopped ≡ Some e → l.fn.lines.stopped ≡ Some e;
  on : GoesOnToLines l.fn.lines l.lines;
  reads : Continues (judge_of l.tables.net) l.fn.lines (whole l.targets) l.lines l.progress.made
      (goals l.targets l.progress);
}

abbrev pub decreases-lines : goal.decreases-lines
decreases-lines g l = line_budget l.lines
