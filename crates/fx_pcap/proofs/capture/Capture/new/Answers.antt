use Rattle.std.proofs.Common.{◌≡◌, ◌≤◌, [], length, drop, refl, sym, ap, ◌∙◌, inr, arith}
use Rattle.std.proofs.lemmas.Result.{err_from_is_err_and}
use Rattle.std.specs.Io.KnownBytes.{prepend_known}
use Rattle.fx_base.proofs.Held.{prepend_nil}
use Rattle.fx_base.specs.Window.{Held, octets_of}
use Rattle.fx_pcap.specs.Records.{format_of}
use Rattle.fx_pcap.proofs.Whole.{format_long, refused, headed, reported_behind}
use Rattle.fx_base.proofs.Reading.{opaque_after}
use Rattle.fx_pcap.proofs.Asking.{asks_opened, gains_opened}
use Rattle.fx_pcap.proofs.capture.Capture.new.Goals as goal

pub returns-in_err-format-clause-err : goal.returns-in_err-format-clause-err
returns-in_err-format-clause-err g c =
    let w = c.fill.new.self in
    let source = g.R.Source.left c.args.source in
    let all : prepend_known w.held w.left ≡ source = c.in-Ok.ensures.octets ∙ ap octets_of c.in_ok-window.ensures.ok
    ∙ prepend_nil source in
    let error = sym (ap format_of c.octets.ensures.value) ∙ sym c.in_err-format.ensures in
    let p = err_from_is_err_and c.from_residual-in_err-format.result c.from_residual-in_err-format.ensures.1 in
    rw (p.1, p.2) (inr (inr (refused w.held w.left source c.in_err-format.field-0.0 all c.in-Ok.ensures.enough error)))

pub returns-clause-ok : goal.returns-clause-ok
returns-clause-ok g c =
    let w = c.fill.new.self in
    let source = g.R.Source.left c.args.source in
    let all : prepend_known w.held w.left ≡ source = c.in-Ok.ensures.octets ∙ ap octets_of c.in_ok-window.ensures.ok
    ∙ prepend_nil source in
    let read = sym (ap format_of c.octets.ensures.value) ∙ sym c.in_ok-format.ensures in
    let long = format_long w.held c.in_ok-format.format read in
    let none : c.in_ok-window.window.calls ≡ 0 = ap (λ (x : Held). x.calls) c.in_ok-window.ensures.ok in
    let made : c.in_ok-window.window.asked ≡ g.R.Source.calls c.args.source =
    ap (λ (x : Held). x.asked) c.in_ok-window.ensures.ok in
    let before : length c.in_ok-window.window.held ≡ 0 = ap (λ (x : Held). length x.held) c.in_ok-window.ensures.ok in
    let few : w.calls ≤ length w.held = omega (arith, c.in-Ok.ensures.spent.1 long, none, before) in
    record {
      format = λ rest behind. headed w.held rest w.left source c.in_ok-format.format all read behind;
      rest =
          reported_behind w.held w.left source all long;
      opaque =
          λ none. opaque_after [] w.held (drop 24 w.held) source w.left (all ∙ sym (prepend_nil source))
          (prepend_nil source ∙ none);
      place = refl;
      skipped = refl;
      going = refl;
      asks =
          asks_opened c.in_ok-window.window w (g.R.Source.calls c.args.source) none made c.in-Ok.ensures.asked;
      gains =
          gains_opened w.held w.left source w.calls all few;
    }
