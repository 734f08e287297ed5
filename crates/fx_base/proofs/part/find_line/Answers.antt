use Rattle.std.proofs.Common.{◌∙◌, ap, arith, length, subst, sym, ◌+◌}
use Rattle.fx_base.proofs.Filled.{Fills}
use Rattle.fx_base.proofs.Finding.{found, found_last, more_read, nothing_read, stops, stops_reading}
use Rattle.fx_base.proofs.FirstLine.{long_line}
use Rattle.fx_base.proofs.Spending.{failed_behind}
use Rattle.fx_base.specs.Lines.{line_len}
use Rattle.fx_base.specs.Window.{octets_of}
use Rattle.fx_base.specs.Limits.{line_length_limit}
use Rattle.fx_base.specs.declared.part.LineStop.TheVariants.{Device, TooLong}
use Rattle.fx_base.proofs.part.find_line.Goals as goal

pub reading-init : goal.reading-init
reading-init g c = nothing_read c.args.window.now c.requires

pub returns-then-n-gt-LONGEST : goal.returns-then-n-gt-LONGEST
returns-then-n-gt-LONGEST g c =
    let w = c.reading.window in
    stops c.args.window.now w TooLong c.reading.invariant
    (long_line w.held w.left (octets_of c.args.window.now) line_length_limit c.reading.invariant.octets
    (omega (arith, c.in-Some.ensures.found.0, ap line_len c.octets-bytes.ensures.value, c.if-n-gt-LONGEST.true)))

pub returns-in-Some : goal.returns-in-Some
returns-in-Some g c =
    found c.args.window.now c.reading.window c.octets-bytes.result.now c.in-Some.n c.reading.invariant
    c.octets-bytes.ensures.value c.octets-bytes.ensures.room c.in-Some.ensures.found c.if-n-gt-LONGEST.false

pub returns-then-held-gt-LONGEST : goal.returns-then-held-gt-LONGEST
returns-then-held-gt-LONGEST g c =
    let w = c.reading.window in
    stops c.args.window.now w TooLong c.reading.invariant
    (long_line w.held w.left (octets_of c.args.window.now) line_length_limit c.reading.invariant.octets
    (omega (arith, c.in_default.ensures.none, ap line_len c.octets-bytes.ensures.value, c.if-held-gt-LONGEST.true)))

pub returns-in_default-fill : goal.returns-in_default-fill
returns-in_default-fill g c =
    let why = rw c.in_default-fill.is at c.fill.ensures.err in
    stops_reading c.args.window.now c.reading.window c.fill.new.self (length c.octets-bytes.result.now + 1)
    c.fill.result Device c.reading.invariant c.fill.ensures
    (failed_behind c.args.window.now c.reading.window c.fill.new.self c.reading.invariant.octets
    c.reading.invariant.gained why.1)

pub returns-then-octets-held : goal.returns-then-octets-held
returns-then-octets-held g c =
    let bytes = c.octets-bytes.result.now in
    found_last c.args.window.now c.reading.window c.fill.new.self bytes c.reading.invariant c.octets-bytes.ensures.value
    c.octets-bytes.ensures.room c.in_default.ensures.none c.if-held-gt-LONGEST.false
    (subst (Fills c.reading.window c.fill.new.self (length bytes + 1)) c.in-Ok.is c.fill.ensures)
    (sym (ap length c.octets.ensures.value) ∙ c.if-octets-held.true)

pub reading-preserved : goal.reading-preserved
reading-preserved g c =
    let size = ap length c.octets-bytes.ensures.value in
    more_read c.args.window.now c.reading.window c.fill.new.self c.fill.result c.reading.invariant
    (subst (λ n. Fills c.reading.window c.fill.new.self (n + 1) c.fill.result) size c.fill.ensures)
    (λ same. c.if-octets-held.false (ap length c.octets.ensures.value ∙ same ∙ sym size))
