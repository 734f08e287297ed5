use Rattle.std.proofs.Common.{rules, ◌≡◌, Some, None}
use Rattle.std.proofs.lemmas.Result.{err_from_is_err_and}
use Rattle.fx_base.specs.Lines.{GoesOnToLines}
use Rattle.fx_run_text.specs.RunReading.{ReadsUpTo}
use Rattle.fx_run_text.proofs.RunSteps.{goes_on_next, next_fails, reads_next}
use Rattle.fx_run_text.proofs.run_reading.read_run.Goals as goal

pub returns-in_err-next-clause-err : goal.returns-in_err-next-clause-err
returns-in_err-next-clause-err g c =
    let p = err_from_is_err_and c.from_residual-in_err-next.result c.from_residual-in_err-next.ensures.1 in
    let going : c.steps.lines.stopped ≡ None = search rules in
    let on : GoesOnToLines c.args.lines.now c.steps.lines = search rules in
    let reads : ReadsUpTo c.in_ok-version.field-0.version c.args.classes.now c.args.lines.now c.steps.lines c.steps.run
    (Some c.in-Some.step) = search rules in
    rw (p.1, p.2) (next_fails c.in_ok-version.field-0.version c.args.classes.now c.args.lines.now c.steps.lines
    c.read_next_step.new.lines c.steps.run c.in-Some.step _ going on reads c.in_err-next.ensures.err)

pub steps-preserved : goal.steps-preserved
steps-preserved g c =
    let on : GoesOnToLines c.args.lines.now c.steps.lines = search rules in
    let reads : ReadsUpTo c.in_ok-version.field-0.version c.args.classes.now c.args.lines.now c.steps.lines c.steps.run
    (Some c.in-Some.step) = search rules in
    record {
      going = search rules;
      on = goes_on_next c.args.lines.now c.steps.lines c.read_next_step.new.lines c.in_ok-next.next on
          c.in_ok-next.ensures.on;
      reads = reads_next c.in_ok-version.field-0.version c.args.classes.now c.args.lines.now c.steps.lines
          c.read_next_step.new.lines c.steps.run c.add_step.new.self c.in-Some.step c.in_ok-next.next reads
          c.in_ok-next.ensures.ok (search rules);
    }
