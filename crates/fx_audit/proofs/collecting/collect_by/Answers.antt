use Rattle.std.proofs.Common.{refl, rules, arith, inr}
use Rattle.fx_audit.proofs.Streams.{collected, cut_short}
use Rattle.fx_audit.proofs.collecting.collect_by.Goals as goal

pub returns-then-left-gt0-clause-err : goal.returns-then-left-gt0-clause-err
returns-then-left-gt0-clause-err g c =
    inr (inr (inr (cut_short (g.R.Source.left c.args.stream.now) c.args.totals.now c.tally_stream.new.totals
    c.tally_stream.new.session c.at_octet.result c.in_ok-tally_stream.ensures.ok (omega arith) (search rules))))

pub returns-clause-ok : goal.returns-clause-ok
returns-clause-ok g c = (
  refl,
  collected (g.R.Source.left c.args.stream.now) _ _ c.args.totals.now c.tally_stream.new.totals
      c.tally_stream.new.session c.in_ok-tally_stream.ensures.ok (omega arith) (search rules),
)

pub returns-clause-answers : goal.returns-clause-answers
returns-clause-answers g c =
    let written = c.in_ok-put_collected.ensures.ok in
    ((written.0, (refl, (_, _, _, written.1)), written.2), search rules)
