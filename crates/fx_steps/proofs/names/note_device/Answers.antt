use Rattle.std.proofs.Common.{◌≡◌, ◌<◌, ℕ, suc, List, length, Some, slice_get, subst}
use Rattle.fx_tables.specs.declared.holder_name.HolderName.TheVariants.{Cache, Aggregation}
use Rattle.fx_tables.specs.Network.{aggregations_of}
use Rattle.fx_steps.specs.Names.{Note}
use Rattle.fx_steps.proofs.HolderNames.{device_noted}
use Rattle.fx_steps.proofs.names.note_device.Goals as goal

pub returns-clause-noted : goal.returns-clause-noted
returns-clause-noted c =
    let net = c.args.net.now in
    let number = c.args.number in
    let mid = c.note_caches.new.names in
    let new = c.note_processes.new.names in
    let caches = subst (λ (xs : List ℕ). (k : ℕ) → k < length xs → Note net mid (Cache number (suc k))) c.caches.ensures
    c.note_caches.ensures.noted in
    let aggregations = subst (λ (xs : List ℕ). (p place a : ℕ) → slice_get xs p ≡ Some place → a
    < length (aggregations_of (slice_get net.processes place)) → Note net new (Aggregation number (suc p) (suc a)))
    c.processes.ensures c.note_processes.ensures.noted in
    device_noted net number c.args.device.now mid new c.requires c.note_processes.ensures.kept caches aggregations
