use Rattle.std.proofs.Common.{◌≡◌, ◌∙◌, List, [], None, Some, Ok, true, false, refl, ap, sym, inr}
use Rattle.std.proofs.lemmas.Result.{err_from_is_err_and}
use Rattle.fx_base.proofs.GoingOn.{goes_then}
use Rattle.fx_base.specs.Entries.{entry_numbered}
use Rattle.fx_tables.specs.declared.packet.Packet.{Packet}
use Rattle.fx_tables.specs.Classes.{IsOf, is_of}
use Rattle.fx_run_text.specs.declared.run_line.RunLine.TheVariants as line
use Rattle.fx_run_text.specs.RunReading.{ReadsNextLine, packet_fault}
use Rattle.fx_run_text.proofs.RunLines.{end_fault, first_fault, next_fault, on_end, on_packet, packet_wrong}
use Rattle.fx_run_text.proofs.RunSteps.{all_of, first_step}
use Rattle.fx_run_text.proofs.run_reading.read_packets.Goals as goal

pub returns-in_err-version-clause-err : goal.returns-in_err-version-clause-err
returns-in_err-version-clause-err g c =
    let p = err_from_is_err_and c.from_residual.result c.from_residual.ensures.1 in
    rw (p.1, p.2) (inr (first_fault c.args.classes.now c.args.lines.now c.read_first.new.lines _
    c.in_err-version.ensures.err))

pub returns-in_err-read_next-clause-err : goal.returns-in_err-read_next-clause-err
returns-in_err-read_next-clause-err g c =
    let p = err_from_is_err_and c.from_residual-in_err-read_next.result c.from_residual-in_err-read_next.ensures.1 in
    rw (p.1, p.2) (next_fault c.in_ok-version.version c.args.classes.now c.args.lines.now c.lines.lines
    c.read_next.new.lines (record { packets = c.lines.packets.items; steps = [] }) _ c.lines.invariant.going
    c.lines.invariant.on c.lines.invariant.reads c.in_err-read_next.ensures.err)

pub returns-then-not-contains-clause-err : goal.returns-then-not-contains-clause-err
returns-then-not-contains-clause-err g c =
    let next : ReadsNextLine c.in_ok-version.version c.lines.lines c.read_next.new.lines
    (line.Packet c.read_next.new.packet) = rw c.in-Packet.is at c.in_ok-read_next.ensures.ok in
    let wrong : packet_fault c.args.classes.now (record { packets = c.lines.packets.items; steps = [] })
    c.read_next.new.packet ≡ Some 856 = (let not_of : is_of c.read_next.new.packet
    (entry_numbered c.args.classes.now c.read_next.new.packet.class) ≡ false = sym c.contains.ensures.value
    ∙ c.if-not-contains.true in rw not_of refl) in
    let number : c.number.result ≡ c.read_next.new.lines.number = c.number.ensures in
    inr (inr (rw (c.at_line.ensures, number)
    (packet_wrong c.in_ok-version.version c.args.classes.now c.args.lines.now c.lines.lines c.read_next.new.lines
    (record { packets = c.lines.packets.items; steps = [] }) c.read_next.new.packet 856 c.lines.invariant.reads next
    wrong)))

pub lines-preserved : goal.lines-preserved
lines-preserved g c =
    let next : ReadsNextLine c.in_ok-version.version c.lines.lines c.read_next.new.lines
    (line.Packet c.read_next.new.packet) = rw c.in-Packet.is at c.in_ok-read_next.ensures.ok in
    let none : packet_fault c.args.classes.now (record { packets = c.lines.packets.items; steps = [] })
    c.read_next.new.packet ≡ None = (let is : is_of c.read_next.new.packet
    (entry_numbered c.args.classes.now c.read_next.new.packet.class) ≡ true = sym c.contains.ensures.value
    ∙ c.if-not-contains.false in rw is refl) in
    let of : IsOf c.read_next.new.packet (entry_numbered c.args.classes.now c.read_next.new.packet.class) =
    c.contains.ensures.meaning.0 c.if-not-contains.false in
    record {
      going = c.in_ok-read_next.ensures.going;
      on = goes_then c.args.lines.now c.lines.lines c.read_next.new.lines c.lines.invariant.on
          c.in_ok-read_next.ensures.on;
      reads = on_packet c.in_ok-version.version c.args.classes.now c.args.lines.now c.lines.lines c.read_next.new.lines
          (record { packets = c.lines.packets.items; steps = [] })
          (record { packets = c.push.new.self.items; steps = [] }) c.read_next.new.packet c.lines.invariant.reads next
          none (ap (λ (packets : List Packet). record { packets = packets; steps = [] })
          c.in_ok-push-in-Packet.ensures.items);
      classes = all_of c.args.classes.now c.lines.packets.items c.push.new.self.items c.read_next.new.packet
          c.in_ok-push-in-Packet.ensures.items of c.lines.invariant.classes;
    }

pub returns-in-Step-clause-ok : goal.returns-in-Step-clause-ok
returns-in-Step-clause-ok g c =
    let next : ReadsNextLine c.in_ok-version.version c.lines.lines c.read_next.new.lines (line.Step c.in-Step.step) =
    rw c.in-Step.is at c.in_ok-read_next.ensures.ok in
    first_step c.in_ok-version.version c.args.classes.now c.args.lines.now c.lines.lines c.read_next.new.lines
    (record { packets = c.lines.packets.items; steps = [] }) c.in-Step.step c.lines.invariant.reads next

pub returns-in-Step-clause-on : goal.returns-in-Step-clause-on
returns-in-Step-clause-on g c = goes_then c.args.lines.now c.lines.lines c.read_next.new.lines c.lines.invariant.on
    c.in_ok-read_next.ensures.on

pub returns-in_err-read_end-in-End-clause-err : goal.returns-in_err-read_end-in-End-clause-err
returns-in_err-read_end-in-End-clause-err g c =
    let p = err_from_is_err_and c.from_residual-in_err-read_end-in-End.result
    c.from_residual-in_err-read_end-in-End.ensures.1 in
    let next : ReadsNextLine c.in_ok-version.version c.lines.lines c.read_next.new.lines line.End =
    rw c.in-End.is at c.in_ok-read_next.ensures.ok in
    let on = goes_then c.args.lines.now c.lines.lines c.read_next.new.lines c.lines.invariant.on
    c.in_ok-read_next.ensures.on in
    rw (p.1, p.2) (inr (end_fault c.in_ok-version.version c.args.classes.now c.args.lines.now c.lines.lines
    c.read_next.new.lines c.read_end.new.lines (record { packets = c.lines.packets.items; steps = [] }) _ on
    c.in_ok-read_next.ensures.going c.lines.invariant.reads next c.in_err-read_end-in-End.ensures.err))

pub returns-in-End-clause-ok : goal.returns-in-End-clause-ok
returns-in-End-clause-ok g c =
    let next : ReadsNextLine c.in_ok-version.version c.lines.lines c.read_next.new.lines line.End =
    rw c.in-End.is at c.in_ok-read_next.ensures.ok in
    on_end c.in_ok-version.version c.args.classes.now c.args.lines.now c.lines.lines c.read_next.new.lines
    (record { packets = c.lines.packets.items; steps = [] })
    (Ok (record { packets = c.lines.packets.items; steps = [] })) c.lines.invariant.reads next
    (c.in_ok-read_end-in-End.ensures.ok (record { packets = c.lines.packets.items; steps = [] }))
