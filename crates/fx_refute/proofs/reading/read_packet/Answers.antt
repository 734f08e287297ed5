use Rattle.std.proofs.Common.{rules, inr}
use Rattle.fx_run_text.specs.declared.run_line.RunLine.TheVariants as line
use Rattle.fx_refute.specs.ReadingOn.{Says}
use Rattle.fx_refute.proofs.ReadingLines.{no_packet_end, no_packet_step}
use Rattle.fx_refute.proofs.reading.read_packet.Goals as goal

pub returns-in-Step-clause-err : goal.returns-in-Step-clause-err
returns-in-Step-clause-err g c =
    let says : Says c.args.version c.args.lines.now c.read_next.new.lines (line.Step c.in-Step.field-0) = search rules
    in
    inr (inr (rw (c.at_line.ensures, c.number.ensures)
    (no_packet_step c.args.version c.args.lines.now c.read_next.new.lines c.in-Step.field-0 says)))

pub returns-in-End-clause-err : goal.returns-in-End-clause-err
returns-in-End-clause-err g c =
    let says : Says c.args.version c.args.lines.now c.read_next.new.lines line.End = search rules in
    inr (inr (rw (c.at_line-in-End.ensures, c.number-in-End.ensures)
    (no_packet_end c.args.version c.args.lines.now c.read_next.new.lines says)))
