use Rattle.std.proofs.Common.{inr, Ok}
use Rattle.std.proofs.lemmas.Result.{err_from_is_err_and}
use Rattle.fx_run_text.specs.declared.run_line.RunLine.TheVariants as line
use Rattle.fx_run_text.specs.RunReading.{ReadsNextLine}
use Rattle.fx_run_text.proofs.RunSteps.{at_any_run, behind_end, behind_end_fault, packet_late}
use Rattle.fx_run_text.proofs.run_reading.read_next_step.Goals as goal

pub returns-in-Packet-clause-err : goal.returns-in-Packet-clause-err
returns-in-Packet-clause-err g c =
    let next : ReadsNextLine c.args.version c.args.lines.now c.read_next.new.lines
    (line.Packet c.read_next.new.packet) = rw c.in-Packet.is at c.in_ok-read_next.ensures.ok in
    inr (inr (λ classes run lt. rw (c.at_line.ensures, c.number.ensures)
    (packet_late c.args.version c.args.lines.now c.read_next.new.lines c.read_next.new.packet next classes run lt)))

pub returns-in_err-read_next-clause-err : goal.returns-in_err-read_next-clause-err
returns-in_err-read_next-clause-err g c =
    let p = err_from_is_err_and c.from_residual.result c.from_residual.ensures.1 in
    rw (p.1, p.2) (at_any_run c.args.version c.args.lines.now c.read_next.new.lines _ c.in_err-read_next.ensures.err)

pub returns-in_err-read_end-in-End-clause-err : goal.returns-in_err-read_end-in-End-clause-err
returns-in_err-read_end-in-End-clause-err g c =
    let p = err_from_is_err_and c.from_residual-in_err-read_end-in-End.result
    c.from_residual-in_err-read_end-in-End.ensures.1 in
    let next : ReadsNextLine c.args.version c.args.lines.now c.read_next.new.lines line.End =
    rw c.in-End.is at c.in_ok-read_next.ensures.ok in
    rw (p.1, p.2) (inr (behind_end_fault c.args.version c.args.lines.now c.read_next.new.lines c.read_end.new.lines _
    c.in_ok-read_next.ensures.going c.in_ok-read_next.ensures.on next c.in_err-read_end-in-End.ensures.err))

pub returns-in_ok-read_end-in-End-clause-ok : goal.returns-in_ok-read_end-in-End-clause-ok
returns-in_ok-read_end-in-End-clause-ok g c =
    let next : ReadsNextLine c.args.version c.args.lines.now c.read_next.new.lines line.End =
    rw c.in-End.is at c.in_ok-read_next.ensures.ok in
    λ classes run. behind_end c.args.version classes c.args.lines.now c.read_next.new.lines run (Ok run) next
    (c.in_ok-read_end-in-End.ensures.ok run)

pub returns-in-Step : goal.returns-in-Step
returns-in-Step g c = record {
  ok = rw c.in-Step.is at c.in_ok-read_next.ensures.ok;
  going = c.in_ok-read_next.ensures.going;
  on = c.in_ok-read_next.ensures.on;
  smaller = c.in_ok-read_next.ensures.smaller;
  err = tt;
}
