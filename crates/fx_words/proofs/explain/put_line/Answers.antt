use Rattle.std.proofs.Common.{ℕ, List, ◌++◌, ap, codes}
use Rattle.fx_words.proofs.Lists.{line_is, put_behind}
use Rattle.fx_words.proofs.explain.put_line.Goals as goal

pub returns : goal.returns
returns g c =
    let taken = g.S.Sink.taken in
    let failed = g.S.Sink.failed in
    let one = c.in_ok-put_text.ensures in
    let two = c.in_ok-put_text-2.ensures in
    let last = c.put_text-3.ensures in
    put_behind taken failed c.args.word.now _ _ c.args.sink.now c.put_text.new.sink c.put_text-3.new.sink
    c.put_text-3.result one.ok one.going (
    put_behind taken failed c.as_bytes.result.now (codes "\n") (c.args.text.now ++ codes "\n") c.put_text.new.sink
    c.put_text-2.new.sink c.put_text-3.new.sink c.put_text-3.result
    two.ok two.going (last.ok, (last.going, last.err)) (ap (λ (l : List ℕ). l ++ codes "\n") c.as_bytes.ensures.value)
    ) (line_is c.args.word.now c.args.text.now c.is_empty.result c.is_empty.ensures c.if-is_empty.false)
