use Rattle.std.proofs.Common.{◌∙◌, ap, arith, get_or, sym}
use Rattle.std.proofs.lemmas.Result.{err_from_is_err_and}
use Rattle.std.proofs.lemmas.List.{length-set}
use Rattle.fx_elements.specs.declared.axis.Axis.TheVariants.{Source}
use Rattle.fx_elements.specs.Axes.{axes}
use Rattle.fx_elements.proofs.EveryAxis.{index_at, index_below}
use Rattle.fx_session.specs.Flows.{is_refused}
use Rattle.fx_session.specs.Values.{noted_part}
use Rattle.fx_session.proofs.Keys.{reported_more}
use Rattle.fx_session.proofs.flow.gather.Goals as goal

pub loop-axis-init : goal.loop-axis-init
loop-axis-init c = record {
  bits_count = omega arith;
  values_count = omega arith;
  reported =
      λ axis lt. absurd (omega (arith, lt));
}

pub loop-axis-preserved : goal.loop-axis-preserved
loop-axis-preserved c =
    let i = c.loop-axis.axis-index in
    let own = get_or axes i Source in
    let inv = c.loop-axis.invariant in record {
      bits_count = length-set c.loop-axis.bits c.index-place.result c.bits_of.result ∙ inv.bits_count;
      values_count = length-set c.loop-axis.numbers c.index-place.result c.value_of.result ∙ inv.values_count;
      reported = reported_more (noted_part c.args.seen.now) c.loop-axis.bits c.loop-axis.numbers own c.in_ok-found.found
          c.bits_of.result c.value_of.result i c.index-place.result inv.bits_count inv.values_count
          c.index-place.ensures.place (sym (index_at i (omega arith))) (sym c.in_ok-found.ensures.part)
          c.in_ok-found.ensures.stands c.bits_of.ensures c.value_of.ensures.value inv.reported;
    }

pub returns-in_err-found : goal.returns-in_err-found
returns-in_err-found c =
    let p = err_from_is_err_and c.from_residual.result c.from_residual.ensures.1 in
    rw (p.1, p.2) (c.in_err-found.ensures.stands, _, ap is_refused (sym c.in_err-found.ensures.part))

pub returns : goal.returns
returns c = λ axis. c.loop-axis.invariant.reported axis (let below = index_below axis in omega (arith, below))
