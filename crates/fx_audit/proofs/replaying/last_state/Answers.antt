use Rattle.std.proofs.Common.{rules, ◌≡◌, None, Some}
use Rattle.std.proofs.lemmas.Result.{err_from_is_err_and}
use Rattle.fx_base.specs.Lines.{Fails, GoesOnToLines}
use Rattle.fx_run_text.proofs.RunSteps.{goes_on_next}
use Rattle.fx_audit.proofs.Replays.{IsUnderWay, begins, cannot, comes_to, goes_on, reading_fails}
use Rattle.fx_audit.proofs.replaying.last_state.Goals as goal

pub steps-init : goal.steps-init
steps-init g c = record {
  net = search rules;
  classes = search rules;
  going = c.in_ok-version.ensures.going;
  on = c.in_ok-version.ensures.on;
  made = rw (c.in_ok-state.ensures.ok) (begins c.args.net.now c.args.classes.now c.args.lines.now
      c.in_ok-version.field-0.version c.in_ok-version.field-0.packets.items c.read_packets.new.lines
      c.in_ok-version.field-0.first c.in_ok-version.ensures.ok);
}

pub returns-in_err-next-clause-err : goal.returns-in_err-next-clause-err
returns-in_err-next-clause-err g c =
    let p = err_from_is_err_and c.from_residual-in_err-next.result c.from_residual-in_err-next.ensures.1 in
    let going : c.steps.lines.stopped ≡ None = search rules in
    let on : GoesOnToLines c.args.lines.now c.steps.lines = search rules in
    let made : IsUnderWay c.args.net.now c.args.classes.now c.args.lines.now c.in_ok-version.field-0.version
    c.steps.state.packets c.steps.lines (Some c.in-Some.step) c.steps.state.state c.steps.refused = search rules in
    rw (p.1, p.2) (reading_fails c.args.net.now c.args.classes.now c.args.lines.now c.in_ok-version.field-0.version
    c.steps.state.packets c.steps.lines c.read_next_step.new.lines c.in-Some.step c.steps.state.state
    c.steps.refused _ going on made c.in_err-next.ensures.err)

pub steps-preserved : goal.steps-preserved
steps-preserved g c =
    let on : GoesOnToLines c.args.lines.now c.steps.lines = search rules in
    let made : IsUnderWay c.args.net.now c.args.classes.now c.args.lines.now c.in_ok-version.field-0.version
    c.steps.state.packets c.steps.lines (Some c.in-Some.step) c.steps.state.state c.steps.refused = search rules in
    record {
      net = search rules;
      classes = search rules;
      going = c.in_ok-next.ensures.going;
      on = goes_on_next c.args.lines.now c.steps.lines c.read_next_step.new.lines c.in_ok-next.next on
          c.in_ok-next.ensures.on;
      made = rw (c.in_ok-refused.ensures.tables.2)
          (goes_on c.args.net.now c.args.classes.now c.args.lines.now c.in_ok-version.field-0.version
          c.steps.state.packets c.steps.lines c.read_next_step.new.lines c.in-Some.step c.in_ok-next.next
          c.steps.state.state c.make_step.new.state.state c.steps.refused c.in_ok-refused.refused c.steps.state.net
          c.steps.state.classes c.steps.invariant.net c.steps.invariant.classes made (record {
            before = c.in_ok-refused.ensures.before;
            made = c.in_ok-refused.ensures.made;
            refuses = c.in_ok-refused.ensures.refused;
          }) c.in_ok-next.ensures.ok);
    }

pub returns-in-Some-refused-clause-err : goal.returns-in-Some-refused-clause-err
returns-in-Some-refused-clause-err g c =
    let made : IsUnderWay c.args.net.now c.args.classes.now c.args.lines.now c.in_ok-version.field-0.version
    c.steps.state.packets c.steps.lines None c.steps.state.state (Some c.in-Some-refused.fault) = search rules in
    cannot c.args.net.now c.args.classes.now c.args.lines.now c.in_ok-version.field-0.version c.steps.state.packets
    c.steps.lines c.steps.state.state c.in-Some-refused.fault (λ e. Fails c.args.lines.now c.steps.lines e) made

pub returns-clause-ok : goal.returns-clause-ok
returns-clause-ok g c =
    let made : IsUnderWay c.args.net.now c.args.classes.now c.args.lines.now c.in_ok-version.field-0.version
    c.steps.state.packets c.steps.lines None c.steps.state.state None = search rules in (
      search rules,
      comes_to c.args.net.now c.args.classes.now c.args.lines.now c.in_ok-version.field-0.version
          c.steps.state.packets c.steps.lines c.steps.state.state made,
    )
