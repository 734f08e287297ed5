use Rattle.std.proofs.Common.{arith}
use Rattle.fx_machine.proofs.RecordsTakenIn.{counts_set, counts_past}
use Rattle.fx_machine.proofs.holding.set_counts.Goals as goal

pub returns-then-joined-len : goal.returns-then-joined-len
returns-then-joined-len c =
    counts_set c.args.records.now.items c.args.joined.place c.index_mut-held.result.now c.args.joined.counts
    (omega arith) c.index_mut-held.ensures.value

pub returns-else-joined-len : goal.returns-else-joined-len
returns-else-joined-len c = counts_past c.args.records.now.items c.args.joined.place c.args.joined.counts (omega arith)
