use Rattle.std.proofs.Common.{arith, inr, option_map, ap, ◌∙◌}
use Rattle.std.proofs.lemmas.Result.{err_from_is_err_and}
use Rattle.fx_base.proofs.GoingOn.{goes_then}
use Rattle.fx_layout.specs.Keys.{Key}
use Rattle.fx_collect.specs.Totals.{Totals}
use Rattle.fx_sums.proofs.Tallying.{layout_kept, tallies_one, tallies_wrong}
use Rattle.fx_sums.proofs.text_lines.tally_records.Goals as goal

pub returns-in_err-entry-clause-err : goal.returns-in_err-entry-clause-err
returns-in_err-entry-clause-err g c =
    let p = err_from_is_err_and c.from_residual.result c.from_residual.ensures.1 in
    let last = option_map (λ (k : Key). k.values) c.loop-left.last in
    rw (p.1, p.2) (inr (tallies_wrong c.args.layout.now c.args.count c.args.totals.now c.args.lines.now
    c.loop-left.lines last c.loop-left.totals c.read_record.new.lines c.loop-left.left _
    c.loop-left.invariant.tallies c.loop-left-test.true c.loop-left.invariant.going c.loop-left.invariant.on
    c.in_err-entry.ensures.err))

pub loop-left-preserved : goal.loop-left-preserved
loop-left-preserved g c =
    let last = option_map (λ (k : Key). k.values) c.loop-left.last in
    record {
      going = c.in_ok-entry.ensures.on.going;
      on = goes_then c.args.lines.now c.loop-left.lines c.read_record.new.lines c.loop-left.invariant.on
          c.in_ok-entry.ensures.on.on;
      smaller = omega (arith, c.in_ok-entry.ensures.on.smaller, c.loop-left.invariant.smaller);
      same = ap (λ (t : Totals). t.layout) c.in_ok-tally.ensures.ok ∙ layout_kept c.loop-left.totals c.in_ok-entry.entry
          ∙ c.loop-left.invariant.same;
      tallies = tallies_one c.args.layout.now c.args.count c.args.totals.now c.args.lines.now c.loop-left.lines last
          c.loop-left.totals c.read_record.new.lines c.loop-left.left c.in_ok-entry.entry c.tally.new.self
          c.loop-left.invariant.tallies c.loop-left-test.true c.in_ok-entry.ensures.ok c.in_ok-tally.ensures.ok;
    }
