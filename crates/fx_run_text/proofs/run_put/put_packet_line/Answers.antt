use Rattle.std.proofs.lemmas.Result.{err_from_is_err_and}
use Rattle.std.proofs.Common.{[], ◌∷◌, refl}
use Rattle.fx_run_text.specs.declared.run_line.RunLine.TheVariants as line
use Rattle.fx_run_text.specs.declared.text_version.TextVersion.TheVariants.{Two}
use Rattle.fx_run_text.specs.RunLineText.{run_line_text}
use Rattle.fx_base.proofs.Writing.{going_then, writes_2}
use Rattle.fx_run_text.proofs.run_put.put_packet_line.Goals as goal

pub returns-in_err-put_packet : goal.returns-in_err-put_packet
returns-in_err-put_packet g c =
    let p = err_from_is_err_and c.from_residual.result c.from_residual.ensures.1 in
    rw (p.1, p.2) (record { ok = tt; going = tt; err = c.in_err-put_packet.ensures.err })

pub returns : goal.returns
returns g c =
    let taken = g.S.Sink.taken in
    let failed = g.S.Sink.failed in
    record {
      ok = writes_2 c.put_text.result (taken c.args.sink.now) (taken c.put_packet.new.sink) (taken c.put_text.new.sink)
          (run_line_text Two (line.Packet c.args.packet.now)) (10 ∷ []) _ c.in_ok-put_packet.ensures.ok
          c.put_text.ensures.ok refl;
      going = going_then c.put_text.result (failed c.args.sink.now) (failed c.put_packet.new.sink)
          (failed c.put_text.new.sink) c.in_ok-put_packet.ensures.going c.put_text.ensures.going;
      err = c.put_text.ensures.err;
    }
