use Rattle.std.proofs.Common.{arith}
use Rattle.fx_machine.proofs.Lists.{taken_back, nothing_put}
use Rattle.fx_machine.proofs.sending.take_back.Goals as goal

pub returns-then-link-len : goal.returns-then-link-len
returns-then-link-len c rss r e =
    taken_back rss c.args.link r c.args.carried.now.items c.index_mut-records.result.now c.drop_last.new.self e
    (omega arith) c.index_mut-records.ensures.value c.drop_last.ensures

pub returns-else-link-len : goal.returns-else-link-len
returns-else-link-len c rss r e = nothing_put rss c.args.link r c.args.carried.now.items e (omega arith)
