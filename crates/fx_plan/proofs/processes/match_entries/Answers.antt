use Rattle.std.proofs.Common.{[]}
use Rattle.fx_plan.specs.Tables.{match_entry}
use Rattle.fx_plan.proofs.Loops.{one_made_at, all_made}
use Rattle.fx_plan.proofs.processes.match_entries.Goals as goal

pub loop-fixed-preserved : goal.loop-fixed-preserved
loop-fixed-preserved c =
    one_made_at match_entry [] c.args.matches.now c.loop-fixed.fixed-index _ c.match_entry.result
    c.loop-fixed.entries.items _ c.loop-fixed-test.true c.match_entry.ensures c.loop-fixed.invariant
    c.in_ok-push.ensures.items

pub returns : goal.returns
returns c = all_made match_entry [] c.args.matches.now c.loop-fixed.fixed-index c.loop-fixed.entries.items
    c.loop-fixed-test.false c.loop-fixed.invariant
