use Rattle.std.proofs.Common.{sym, ◌∙◌}
use Rattle.fx_cert.proofs.Texts.{item_found, reads}
use Rattle.fx_cert.proofs.reading.read_item.Goals as goal

pub returns-in-Some-clause-ok : goal.returns-in-Some-clause-ok
returns-in-Some-clause-ok c = item_found c.args.line.now.bytes.now c.in-Some.item
    (sym c.read_text.ensures ∙ c.in-Some.is)

pub returns-in-None-clause-err : goal.returns-in-None-clause-err
returns-in-None-clause-err c = (
  c.at_line.ensures,
  λ item. λ t.
      absurd (let e = reads c.args.line.now.bytes.now item c.read_text.result c.read_text.ensures t in
      let n = c.in-None.is in cc),
)
