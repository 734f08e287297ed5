use Rattle.std.proofs.Common.{◌<◌, ℕ, suc}
use Rattle.fx_tables.specs.declared.holder_name.HolderName.TheVariants.{Cache}
use Rattle.fx_steps.specs.Names.{Keep, Note}
use Rattle.fx_steps.proofs.names.note_caches.Given as goal

abbrev pub invariant-loop-cache : goal.invariant-loop-cache
invariant-loop-cache l =
    Keep l.net l.initial.names l.names × ((k : ℕ) → k < l.cache → Note l.net l.names (Cache l.device (suc k)))
