use Rattle.std.proofs.Common.{arith}
use Rattle.fx_machine.proofs.RecordsTakenIn.{back_set, back_past}
use Rattle.fx_machine.proofs.holding.give_back.Goals as goal

pub returns-then-taking-len : goal.returns-then-taking-len
returns-then-taking-len c =
    back_set c.args.held.now.items c.args.taking.holder c.index_mut-records.result.now c.give_back.new.self
    c.args.taking.joined (omega arith) c.index_mut-records.ensures.value c.give_back.ensures

pub returns-else-taking-len : goal.returns-else-taking-len
returns-else-taking-len c = back_past c.args.held.now.items c.args.taking.holder c.args.taking.joined (omega arith)
