use Rattle.std.proofs.Common.{◌≡◌, suc, ◌+◌, ◌∙◌, ap, inl, inr, subst, Some, length, slice_get, arith}
use Rattle.std.proofs.lemmas.Option.{get_or_from_slice_get}
use Rattle.fx_tables.specs.declared.holder_name.HolderName.TheVariants as variants
use Rattle.fx_tables.specs.Network.{aggregations_of}
use Rattle.fx_steps.specs.Names.{Note}
use Rattle.fx_steps.proofs.HolderNames.{inside, before_next, note_kept, kept_on}
use Rattle.fx_steps.proofs.names.note_processes.Goals as goal

pub loop-process-preserved : goal.loop-process-preserved
loop-process-preserved c =
    let net = c.args.net.now in
    let i = c.loop-process.invariant in
    let p = c.loop-process.process in
    let old = c.loop-process.names in
    let new = c.note_aggregations.new.names in
    let kept = c.note_aggregations.ensures.kept in (
      kept_on net c.args.names.now old new i.0 kept,
      λ k place aggregation lt at few.
          elim (before_next k p lt) [
            | inl l ↦ note_kept net old new (variants.Aggregation c.args.device (suc k) (suc aggregation)) kept
                (i.1 k place aggregation l at few)
            | inr e ↦
                let here = subst (λ j. slice_get c.args.places.now j ≡ Some place) e at in
                let is = get_or_from_slice_get c.args.places.now p place 0 here in
                let count = c.count_aggregations-count.ensures
                ∙ ap (λ q. length (aggregations_of (slice_get net.processes q))) is in
                let n : p + 1 ≡ suc k = omega (arith, e) in
                subst (λ j. Note net new (variants.Aggregation c.args.device j (suc aggregation))) n
                (c.note_aggregations.ensures.noted aggregation (omega (arith, count, few)))
          ],
    )

pub returns-clause-noted : goal.returns-clause-noted
returns-clause-noted c process place aggregation at few =
    c.loop-process.invariant.1 process place aggregation
    (omega (
      arith,
      inside c.args.places.now process place at,
      c.loop-process-test.false,
      c.loop-process.auto.process-end,
    )) at few
