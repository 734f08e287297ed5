use Rattle.std.proofs.Common.{◌≡◌, ℕ, [], Option, refl}
use Rattle.fx_boxes.specs.declared.region.Region.{Region}
use Rattle.fx_tables.specs.declared.observation.Selection.{Selection}
use Rattle.fx_plan.specs.Tables.{selection_of}
use Rattle.fx_plan.proofs.Loops.{one_made, all_made}
use Rattle.fx_plan.proofs.points.selections_of.Goals as goal

abbrev selection : Option Region → Option ℕ → Selection
selection region holder = record { region = region; holder = holder }

same_selection : (r s : Option Region) (h k : Option ℕ) → r ≡ s → h ≡ k → selection r h ≡ selection s k
same_selection r s h k region holder = rw (region, holder) refl

pub loop-name-preserved : goal.loop-name-preserved
loop-name-preserved c =
    one_made (selection_of c.args.caches.now c.args.device.now) [] c.args.names.now c.loop-name.name-index
    c.name-item.result _ c.loop-name.selections.items _ c.loop-name-test.true c.name-item.is
    (same_selection _ _ _ _ c.region_named-region.ensures c.cache_place-holder.ensures) c.loop-name.invariant
    c.in_ok-push.ensures.items

pub returns : goal.returns
returns c =
    all_made (selection_of c.args.caches.now c.args.device.now) [] c.args.names.now c.loop-name.name-index
    c.loop-name.selections.items c.loop-name-test.false c.loop-name.invariant
