use Rattle.std.proofs.Common.{[], ◌∷◌, ◌++◌, List, codes, subst}
use Rattle.std.proofs.lemmas.Result.{err_from_is_err_and}
use Rattle.fx_base.specs.Device.{Writes}
use Rattle.fx_tables.specs.declared.packet.Packet.{Packet}
use Rattle.fx_run_text.specs.declared.run_line.RunLine.TheVariants as line
use Rattle.fx_run_text.specs.declared.step.Step.{Step}
use Rattle.fx_run_text.specs.declared.text_version.TextVersion.TheVariants.{Two}
use Rattle.fx_run_text.specs.RunLineText.{run_line_text}
use Rattle.fx_base.proofs.Writing.{going_then, writes_4}
use Rattle.fx_refute.specs.RefutationText.{steps_text}
use Rattle.fx_refute.proofs.RefutationTexts.{refutation_put}
use Rattle.fx_refute.proofs.put.put_refutation.Goals as goal

pub returns-in_err-put_text : goal.returns-in_err-put_text
returns-in_err-put_text g c =
    let p = err_from_is_err_and c.from_residual.result c.from_residual.ensures.1 in
    rw (p.1, p.2) (record { ok = tt; going = tt; err = c.in_err-put_text.ensures.err })

pub returns-in_err-put_packet_line : goal.returns-in_err-put_packet_line
returns-in_err-put_packet_line g c =
    let p = err_from_is_err_and c.from_residual-in_err-put_packet_line.result
    c.from_residual-in_err-put_packet_line.ensures.1 in
    rw (p.1, p.2) (record { ok = tt; going = tt; err = c.in_err-put_packet_line.ensures.err })

pub returns-in_err-put_steps : goal.returns-in_err-put_steps
returns-in_err-put_steps g c =
    let p = err_from_is_err_and c.from_residual-in_err-put_steps.result c.from_residual-in_err-put_steps.ensures.1 in
    rw (p.1, p.2) (record { ok = tt; going = tt; err = c.in_err-put_steps.ensures.err })

pub returns : goal.returns
returns g c =
    let taken = g.S.Sink.taken in
    let failed = g.S.Sink.failed in
    let r = c.args.refutation.now in
    let packet : Writes (taken c.put_text.new.sink) (taken c.put_packet_line.new.sink)
    (run_line_text Two (line.Packet r.packet) ++ 10 ∷ []) =
    subst (λ (p : Packet). Writes (taken c.put_text.new.sink) (taken c.put_packet_line.new.sink)
    (run_line_text Two (line.Packet p) ++ 10 ∷ [])) c.packet.ensures c.in_ok-put_packet_line.ensures.ok in
    let steps : Writes (taken c.put_packet_line.new.sink) (taken c.put_steps.new.sink) (steps_text r.steps) =
    subst (λ (ss : List Step). Writes (taken c.put_packet_line.new.sink) (taken c.put_steps.new.sink) (steps_text ss))
    c.steps.ensures.value c.in_ok-put_steps.ensures.ok in
    record {
      ok = writes_4 c.put_text-2.result (taken c.args.sink.now) (taken c.put_text.new.sink)
          (taken c.put_packet_line.new.sink) (taken c.put_steps.new.sink) (taken c.put_text-2.new.sink)
          (codes "once-refutation 2\n") (run_line_text Two (line.Packet r.packet) ++ 10 ∷ []) (steps_text r.steps)
          (codes "end\n") _ c.in_ok-put_text.ensures.ok packet steps c.put_text-2.ensures.ok (refutation_put r);
      going = going_then c.put_text-2.result (failed c.args.sink.now) (failed c.put_text.new.sink)
          (failed c.put_text-2.new.sink) c.in_ok-put_text.ensures.going
          (going_then c.put_text-2.result (failed c.put_text.new.sink) (failed c.put_packet_line.new.sink)
          (failed c.put_text-2.new.sink) c.in_ok-put_packet_line.ensures.going
          (going_then c.put_text-2.result (failed c.put_packet_line.new.sink) (failed c.put_steps.new.sink)
          (failed c.put_text-2.new.sink) c.in_ok-put_steps.ensures.going c.put_text-2.ensures.going));
      err = c.put_text-2.ensures.err;
    }
