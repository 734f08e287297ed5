use Rattle.std.proofs.Common.{refl}
use Rattle.fx_words.proofs.Lists.{put_behind}
use Rattle.fx_words.proofs.explain.put_known_reason.Goals as goal

pub returns : goal.returns
returns g c =
    let taken = g.S.Sink.taken in
    let failed = g.S.Sink.failed in
    let one = c.in_ok-put_line.ensures in
    let two = c.in_ok-put_line-2.ensures in
    let three = c.in_ok-put_line-3.ensures in
    put_behind taken failed _ _ _ c.args.sink.now c.put_line.new.sink c.put_line-4.new.sink c.put_line-4.result one.0
    one.1.0 (
    put_behind taken failed _ _ _ c.put_line.new.sink c.put_line-2.new.sink c.put_line-4.new.sink c.put_line-4.result
    two.0 two.1.0 (
    put_behind taken failed _ _ _ c.put_line-2.new.sink c.put_line-3.new.sink c.put_line-4.new.sink c.put_line-4.result
    three.0 three.1.0 c.put_line-4.ensures refl
    ) refl
    ) refl
