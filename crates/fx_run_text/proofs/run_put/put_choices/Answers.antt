use Rattle.std.proofs.Common.{List, ℕ, Option, map, subst}
use Rattle.std.proofs.lemmas.List.{take_all}
use Rattle.std.proofs.lemmas.Option.{slice_get-get_or}
use Rattle.std.proofs.lemmas.Result.{err_from_is_err_and}
use Rattle.fx_base.proofs.Writing.{writes_both}
use Rattle.fx_base.specs.Device.{Writes}
use Rattle.fx_run_text.specs.RunText.{choice_word}
use Rattle.fx_run_text.specs.RunLineText.{spaced_words}
use Rattle.fx_run_text.proofs.RunPutting.{spaced_next}
use Rattle.fx_run_text.proofs.run_put.put_choices.Goals as goal

pub loop-choice-preserved : goal.loop-choice-preserved
loop-choice-preserved g c =
    let taken = g.S.Sink.taken in
    record {
      taken = writes_both (taken c.args.sink.now) (taken c.loop-choice.sink) (taken c.put_choice.new.sink) _ _ _
          c.loop-choice.invariant.taken c.in_ok-put_choice.ensures.ok
          (spaced_next choice_word c.args.choices.now c.loop-choice.choice-index _
          (slice_get-get_or c.args.choices.now c.loop-choice.choice-index _ c.loop-choice-test.true));
      going = λ going. c.in_ok-put_choice.ensures.going (c.loop-choice.invariant.going going);
    }

pub returns-in_err-put_choice : goal.returns-in_err-put_choice
returns-in_err-put_choice g c =
    let p = err_from_is_err_and c.from_residual.result c.from_residual.ensures.1 in
    rw (p.1, p.2) (record { ok = tt; going = tt; err = c.in_err-put_choice.ensures.err })

pub returns : goal.returns
returns g c =
    let taken = g.S.Sink.taken in
    record {
      ok = subst (λ (items : List (Option ℕ)). Writes (taken c.args.sink.now) (taken c.loop-choice.sink)
          (spaced_words (map choice_word items)))
          (take_all c.loop-choice.choice-index c.args.choices.now c.loop-choice-test.false)
          c.loop-choice.invariant.taken;
      going = c.loop-choice.invariant.going;
      err = tt;
    }
