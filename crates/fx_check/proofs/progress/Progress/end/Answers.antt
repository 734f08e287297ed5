use Rattle.fx_check.proofs.ConsistentProgress.{not_ended}
use Rattle.fx_check.proofs.progress.Progress.end.Goals as goal

pub returns-in_default : goal.returns-in_default
returns-in_default c = record {
  ok = tt;
  err = rw (c.at_line.ensures, c.number.ensures, c.saturating_add.ensures)
      (not_ended c.args.self.now.version c.args.targets.now c.args.self.now.current c.args.self.now.waiting
      c.args.self.now.stage c.args.number c.requires c.in_default.not-Ended);
}
