use Rattle.std.proofs.Common.{ℕ, ◌+◌, ◌≤◌, ◌<◌, length, ap, sym, ◌∙◌, arith}
use Rattle.fx_pcap.specs.Records.{captured_length}
use Rattle.fx_base.specs.Window.{octets_of}
use Rattle.fx_base.proofs.Asked.{asked_further}
use Rattle.fx_base.proofs.Spending.{failed_behind}
use Rattle.fx_pcap.proofs.Refusing.{too_long, cut}
use Rattle.fx_pcap.proofs.Whole.{number_in_front}
use Rattle.fx_pcap.proofs.record.find_record.Goals as goal

pub returns-in_default-fill-clause-stop : goal.returns-in_default-fill-clause-stop
returns-in_default-fill-clause-stop g c =
    let enough : 16 ≤ length c.fill.new.self.held =
    omega (arith, c.if-octets-lt-RECORD_HEADER.false, ap length c.octets-octets.ensures.value) in
    let why = rw c.in_default-fill.is at c.fill-2.ensures.err in
    failed_behind c.args.window.now c.fill.new.self c.fill-2.new.self c.fill.ensures.octets
    (c.fill.ensures.spent.1 enough) why.1

pub returns-clause-found : goal.returns-clause-found
returns-clause-found g c =
    let held = c.fill.new.self.held in
    let long : 16 ≤ length held = omega (
      arith,
      c.if-octets-lt-RECORD_HEADER.false,
      ap length
          c.octets-octets.ensures.value,
    ) in
    let read = c.read32-captured.ensures ∙ ap (captured_length c.args.order) c.octets-octets.ensures.value in
    let size = read ∙ sym (number_in_front c.args.order 4 8 held c.fill-2.new.self.held c.fill-2.ensures.front
    (omega (arith, long))) in
    record {
      size = ap (λ (n : ℕ). 16 + n) size;
      short = omega (arith, size, c.if-captured-gt-LONGEST.false);
      whole = omega (arith, c.if-octets-size.false, ap length c.octets.ensures.value);
    }

pub returns-then-captured-gt-LONGEST-clause-stop : goal.returns-then-captured-gt-LONGEST-clause-stop
returns-then-captured-gt-LONGEST-clause-stop g c =
    let w = c.fill.new.self in
    let header : 16 ≤ length w.held = omega (
      arith,
      c.if-octets-lt-RECORD_HEADER.false,
      ap length
          c.octets-octets.ensures.value,
    ) in
    let read = c.read32-captured.ensures ∙ ap (captured_length c.args.order) c.octets-octets.ensures.value in
    too_long c.args.order w.held w.left (octets_of c.args.window.now) c.fill.ensures.octets header
    (omega (arith, read, c.if-captured-gt-LONGEST.true))

pub returns-then-octets-size-clause-stop : goal.returns-then-octets-size-clause-stop
returns-then-octets-size-clause-stop g c =
    let held = c.fill.new.self.held in
    let w = c.fill-2.new.self in
    let header : 16 ≤ length held = omega (
      arith,
      c.if-octets-lt-RECORD_HEADER.false,
      ap length
          c.octets-octets.ensures.value,
    ) in
    let read = c.read32-captured.ensures ∙ ap (captured_length c.args.order) c.octets-octets.ensures.value in
    let size = read ∙ sym (number_in_front c.args.order 4 8 held w.held c.fill-2.ensures.front (omega (arith, header)))
    in
    let few : length w.held < 16 + captured_length c.args.order w.held =
    omega (arith, size, c.if-octets-size.true, ap length c.octets.ensures.value) in
    cut c.args.order w.held w.left (octets_of c.args.window.now) (c.fill-2.ensures.octets ∙ c.fill.ensures.octets)
    (c.in-Ok-fill.ensures.enough (omega (arith, c.if-octets-size.true, ap length c.octets.ensures.value)))
    (omega (arith, header, c.fill-2.ensures.fits)) (omega (arith, size, c.if-captured-gt-LONGEST.false)) few

pub returns-in_default-fill-clause-asked : goal.returns-in_default-fill-clause-asked
returns-in_default-fill-clause-asked g c =
    let w = c.args.window.now in
    asked_further w.asked c.fill.new.self.asked c.fill-2.new.self.asked w.calls c.fill.new.self.calls
    c.fill-2.new.self.calls c.fill.ensures.calls.0 c.fill-2.ensures.calls.0 c.fill.ensures.asked
    c.fill-2.ensures.asked

pub returns-then-octets-size-clause-asked : goal.returns-then-octets-size-clause-asked
returns-then-octets-size-clause-asked g c =
    let w = c.args.window.now in
    asked_further w.asked c.fill.new.self.asked c.fill-2.new.self.asked w.calls c.fill.new.self.calls
    c.fill-2.new.self.calls c.fill.ensures.calls.0 c.fill-2.ensures.calls.0 c.fill.ensures.asked
    c.fill-2.ensures.asked

pub returns-clause-asked : goal.returns-clause-asked
returns-clause-asked g c =
    let w = c.args.window.now in
    asked_further w.asked c.fill.new.self.asked c.fill-2.new.self.asked w.calls c.fill.new.self.calls
    c.fill-2.new.self.calls c.fill.ensures.calls.0 c.fill-2.ensures.calls.0 c.fill.ensures.asked
    c.fill-2.ensures.asked
