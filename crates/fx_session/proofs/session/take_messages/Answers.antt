use Rattle.std.proofs.Common.{◌∙◌, refl, ap, sym, drop, Some, [], arith}
use Rattle.fx_session.specs.Messages.{Known}
use Rattle.fx_session.specs.StreamFaults.{number_of}
use Rattle.fx_session.specs.declared.stream_fault.StreamFault.TheVariants as faults
use Rattle.fx_session.proofs.StreamSteps.{all_more, all_refused, goes_by, after_err, before_goes, all_none}
use Rattle.fx_session.proofs.session.take_messages.Goals as goal

pub returns-in-NeedsMore-clause-read : goal.returns-in-NeedsMore-clause-read
returns-in-NeedsMore-clause-read g c = λ _. c.each.invariant.same
    ∙ all_more c.each.known c.each.place (drop c.each.at c.args.octets.now)
    (rw c.split_at.ensures.back at (sym c.in-NeedsMore.ensures))

pub returns-in-Refused-clause-read : goal.returns-in-Refused-clause-read
returns-in-Refused-clause-read g c = λ _.
    c.each.invariant.same ∙ all_refused c.each.known c.each.place c.in-Refused.why (drop c.each.at c.args.octets.now)
    (rw c.split_at.ensures.back at (sym c.in-Refused.ensures))
    ∙ ap (λ (k : Known). record {
      known = k;
      place = c.each.place;
      rest = [];
      fault =
          Some (number_of (faults.Malformed c.in-Refused.why));
    }) (sym c.forget.ensures)

pub each-preserved : goal.each-preserved
each-preserved g c =
    let k = goes_by c.each.known c.take_message.new.self c.each.place c.saturating_add.result c.each.at
    c.octets-count.result c.in-Message.message c.args.octets.now c.split_at.result.1.now c.octets-count.ensures
    c.split_at.ensures.back c.in-Message.ensures c.in-Ok.ensures.done c.saturating_add.ensures in
    record {
      bound = k.0;
      before = before_goes c.args.known.now c.each.known c.take_message.new.self c.args.place.now c.each.place
          c.saturating_add.result c.each.at c.octets-count.result c.in-Message.message c.args.octets.now
          c.split_at.result.1.now c.each.invariant.before c.octets-count.ensures c.split_at.ensures.back
          c.in-Message.ensures c.in-Ok.ensures.done c.saturating_add.ensures;
      same = c.each.invariant.same ∙ k.1;
    }

pub each-smaller : goal.each-smaller
each-smaller g c =
    let k = goes_by c.each.known c.take_message.new.self c.each.place c.saturating_add.result c.each.at
    c.octets-count.result c.in-Message.message c.args.octets.now c.split_at.result.1.now c.octets-count.ensures
    c.split_at.ensures.back c.in-Message.ensures c.in-Ok.ensures.done c.saturating_add.ensures in
    omega (arith, k.0, k.2)

pub returns-in-Err-clause-read : goal.returns-in-Err-clause-read
returns-in-Err-clause-read g c = λ ne.
    c.each.invariant.same ∙ after_err c.each.known c.take_message.new.self c.each.place c.each.at c.in-Message.message
    c.args.octets.now c.split_at.result.1.now c.in-Err.fault c.split_at.ensures.back (sym c.in-Message.ensures)
    (c.in-Err.ensures.done (λ e. ne (ap Some e))) c.in-Err.ensures.forgets

pub each-init : goal.each-init
each-init g c = record { bound = omega arith; before = all_none c.args.known.now c.args.place.now; same = refl }

pub returns-in-Refused-clause-stops : goal.returns-in-Refused-clause-stops
returns-in-Refused-clause-stops g c = (c.each.known, c.each.invariant.before, c.forget.ensures)

pub returns-in-Err-clause-stops : goal.returns-in-Err-clause-stops
returns-in-Err-clause-stops g c = (c.each.known, c.each.invariant.before, c.in-Err.ensures.forgets)
