use Rattle.std.proofs.Common.{◌∙◌, ap, inl, inr, length, arith}
use Rattle.fx_steps.proofs.HolderNames.{before_next, note_kept, all_named}
use Rattle.fx_steps.proofs.names.note_devices.Goals as goal

pub loop-number-preserved : goal.loop-number-preserved
loop-number-preserved c =
    let net = c.args.net.now in
    let i = c.loop-number.invariant in
    let kept = c.note_device.ensures.kept in (
      kept.size ∙ i.0,
      λ k name lt is.
          elim (before_next k c.loop-number.number lt) [
            | inl l ↦ note_kept net c.loop-number.names c.note_device.new.names name kept (i.1 k name l is)
            | inr e ↦ c.note_device.ensures.noted name (omega (arith, is, e))
          ],
    )

pub returns : goal.returns
returns c =
    let i = c.loop-number.invariant in
    all_named c.args.net.now c.loop-number.names i.0
    (λ k name lt is. i.1 k name (omega (
      arith,
      lt,
      c.loop-number-test.false,
      c.loop-number.auto.number-end,
      ap length c.devices-devices.ensures,
    )) is)
