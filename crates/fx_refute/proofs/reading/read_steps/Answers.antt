use Rattle.std.proofs.Common.{rules, ◌≤◌, ◌<◌, [], ◌∷◌, length, Ok, Err, inr, arith}
use Rattle.std.proofs.lemmas.Result.{err_from_is_err_and}
use Rattle.fx_base.proofs.GoingOn.{goes_then}
use Rattle.std.proofs.lemmas.List.{length-append}
use Rattle.fx_run_text.specs.RunReading.{at_line}
use Rattle.fx_run_text.specs.declared.run_line.RunLine.TheVariants as line
use Rattle.fx_refute.specs.ReadingOn.{Says}
use Rattle.fx_refute.specs.RefutationReading.{end_of_lines, only, steps_behind, with_step}
use Rattle.fx_machine.specs.Limits.{step_limit}
use Rattle.fx_refute.specs.Refutations.{Refutation}
use Rattle.fx_refute.proofs.ReadingLines.{end_fault, end_leads, fault_behind, gives_before, leads_on, next_fault, second_packet, step_added, step_wrong, too_many}
use Rattle.fx_refute.proofs.reading.read_steps.Goals as goal

pub returns-then-len-ge-STEPS-clause-err : goal.returns-then-len-ge-STEPS-clause-err
returns-then-len-ge-STEPS-clause-err g c =
    let r : Refutation = record { packet = c.args.packet; steps = c.lines.steps.items } in
    let says : Says c.args.version c.lines.lines c.read_next.new.lines (line.Step c.in-Step.step) = search rules in
    let many : step_limit ≤ length r.steps = search rules in
    inr (inr (rw (c.at_line.ensures, c.number.ensures)
    (gives_before c.args.lines.now c.lines.lines
    (steps_behind c.args.version c.args.lines.now.number (only c.args.packet))
    (steps_behind c.args.version c.lines.lines.number r) (Err (at_line 501 c.read_next.new.lines.number))
    c.lines.invariant.leads (too_many c.args.version c.lines.lines c.read_next.new.lines r c.in-Step.step many
    says))))

pub returns-in_err-read_end-in-End-clause-err : goal.returns-in_err-read_end-in-End-clause-err
returns-in_err-read_end-in-End-clause-err g c =
    let p = err_from_is_err_and c.from_residual-in_err-read_end-in-End.result
    c.from_residual-in_err-read_end-in-End.ensures.1 in
    let r : Refutation = record { packet = c.args.packet; steps = c.lines.steps.items } in
    let first = c.args.lines.now in
    let mid = c.read_next.new.lines in
    let says : Says c.args.version c.lines.lines mid line.End = search rules in
    let leads = leads_on first c.lines.lines mid (steps_behind c.args.version first.number (only c.args.packet))
    (steps_behind c.args.version c.lines.lines.number r) (end_of_lines mid.number r) c.lines.invariant.leads
    (end_leads c.args.version c.lines.lines mid r says) in
    let on = goes_then first c.lines.lines mid c.lines.invariant.on c.in_ok-step.ensures.on in
    rw (p.1, p.2) (fault_behind first mid c.read_end.new.lines
    (steps_behind c.args.version first.number (only c.args.packet)) (end_of_lines mid.number r) _
    c.in_ok-step.ensures.going on leads (end_fault mid c.read_end.new.lines r _
    c.in_err-read_end-in-End.ensures.err))

pub returns-in-End-clause-ok : goal.returns-in-End-clause-ok
returns-in-End-clause-ok g c =
    let r : Refutation = record { packet = c.args.packet; steps = c.lines.steps.items } in
    let first = c.args.lines.now in
    let mid = c.read_next.new.lines in
    let says : Says c.args.version c.lines.lines mid line.End = search rules in
    let leads = leads_on first c.lines.lines mid (steps_behind c.args.version first.number (only c.args.packet))
    (steps_behind c.args.version c.lines.lines.number r) (end_of_lines mid.number r) c.lines.invariant.leads
    (end_leads c.args.version c.lines.lines mid r says) in
    rw c.new.ensures (gives_before first mid (steps_behind c.args.version first.number (only c.args.packet))
    (end_of_lines mid.number r) (Ok r) leads (c.in_ok-read_end-in-End.ensures.ok r))

pub returns-in-Packet-clause-err : goal.returns-in-Packet-clause-err
returns-in-Packet-clause-err g c =
    let r : Refutation = record { packet = c.args.packet; steps = c.lines.steps.items } in
    let says : Says c.args.version c.lines.lines c.read_next.new.lines (line.Packet c.in-Packet.field-0) = search rules
    in
    inr (inr (rw (c.at_line-in-Packet.ensures, c.number-in-Packet.ensures)
    (gives_before c.args.lines.now c.lines.lines
    (steps_behind c.args.version c.args.lines.now.number (only c.args.packet))
    (steps_behind c.args.version c.lines.lines.number r) (Err (at_line 501 c.read_next.new.lines.number))
    c.lines.invariant.leads (second_packet c.args.version c.lines.lines c.read_next.new.lines r c.in-Packet.field-0
    says))))

pub returns-in_err-step-clause-err : goal.returns-in_err-step-clause-err
returns-in_err-step-clause-err g c =
    let p = err_from_is_err_and c.from_residual.result c.from_residual.ensures.1 in
    let r : Refutation = record { packet = c.args.packet; steps = c.lines.steps.items } in
    let first = c.args.lines.now in
    let old = c.lines.lines in
    let behind = next_fault c.args.version old c.read_next.new.lines (steps_behind c.args.version old.number r) _
    (step_wrong c.args.version old r _) c.in_err-step.ensures.err in
    rw (p.1, p.2) (fault_behind first old c.read_next.new.lines
    (steps_behind c.args.version first.number (only c.args.packet)) (steps_behind c.args.version old.number r) _
    c.lines.invariant.going c.lines.invariant.on c.lines.invariant.leads behind)

pub lines-preserved : goal.lines-preserved
lines-preserved g c =
    let r : Refutation = record { packet = c.args.packet; steps = c.lines.steps.items } in
    let first = c.args.lines.now in
    let old = c.lines.lines in
    let mid = c.read_next.new.lines in
    let says : Says c.args.version old mid (line.Step c.in-Step.step) = search rules in
    let room : length r.steps < step_limit = omega (arith, c.if-len-ge-STEPS.false, c.len.ensures) in
    let added = step_added c.args.version old mid r c.in-Step.step room says in
    let items = c.in_ok-push-in-Step.ensures.items in
    record {
      going = c.in_ok-step.ensures.going;
      on = goes_then first old mid c.lines.invariant.on c.in_ok-step.ensures.on;
      leads = rw items (leads_on first old mid (steps_behind c.args.version first.number (only c.args.packet))
          (steps_behind c.args.version old.number r)
          (steps_behind c.args.version mid.number (with_step r c.in-Step.step)) c.lines.invariant.leads added);
      few = rw items (omega (arith, room, length-append r.steps (c.in-Step.step ∷ [])));
    }
