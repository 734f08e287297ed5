use Rattle.std.proofs.lemmas.Result.{err_from_is_err_and}
use Rattle.fx_base.proofs.GoingOn.{goes_then}
use Rattle.fx_refute.specs.RefutationReading.{only, packet_behind, refutation_in, steps_behind}
use Rattle.fx_refute.proofs.ReadingLines.{errs_behind, fault_behind, leads_on}
use Rattle.fx_refute.proofs.reading.read_refutation.Goals as goal

pub returns-in_err-packet-clause-err : goal.returns-in_err-packet-clause-err
returns-in_err-packet-clause-err g c =
    let p = err_from_is_err_and c.from_residual-in_err-packet.result c.from_residual-in_err-packet.ensures.1 in
    let first = c.args.lines.now in
    let mid = c.read_first.new.lines in
    rw (p.1, p.2) (fault_behind first mid c.read_packet.new.lines (refutation_in first.number)
    (packet_behind c.in_ok-version.version mid.number) _ c.in_ok-version.ensures.going c.in_ok-version.ensures.on
    c.in_ok-version.ensures.ok c.in_err-packet.ensures.err)

pub returns-clause-err : goal.returns-clause-err
returns-clause-err g c =
    let first = c.args.lines.now in
    let mid = c.read_first.new.lines in
    let last = c.read_packet.new.lines in
    let behind = steps_behind c.in_ok-version.version last.number (only c.in_ok-packet.packet) in
    let leads = leads_on first mid last (refutation_in first.number) (packet_behind c.in_ok-version.version mid.number)
    behind c.in_ok-version.ensures.ok c.in_ok-packet.ensures.ok in
    errs_behind c.read_steps.result first last c.read_steps.new.lines (refutation_in first.number) behind
    c.in_ok-packet.ensures.going (goes_then first mid last c.in_ok-version.ensures.on c.in_ok-packet.ensures.on)
    leads c.read_steps.ensures.err
