use Rattle.std.proofs.Common.{take, arith}
use Rattle.std.proofs.lemmas.List.{length-take-le}
use Rattle.fx_base.proofs.Held.{read_behind_ok}
use Rattle.fx_base.proofs.window.read_behind.Goals as goal

pub returns-clause-octets : goal.returns-clause-octets
returns-clause-octets g c =
    read_behind_ok (take c.args.end c.args.bytes.now) c.read_next.new.buffer _ c.args.end _ _ _ c.read_next.result
    (length-take-le c.args.end c.args.bytes.now (omega arith)) c.read_next.auto.buffer c.read_next.ensures.count
    c.read_next.ensures.octets
