use Rattle.std.proofs.Common.{◌≡◌, take, map}
use Rattle.fx_plan.specs.Tables.{match_entry}
use Rattle.fx_plan.proofs.processes.match_entries.Given as goal

abbrev pub invariant-loop-fixed : goal.invariant-loop-fixed
invariant-loop-fixed l = l.entries.items ≡ map match_entry (take l.fixed-index l.matches)
