use Rattle.std.proofs.Common.{◌≡◌, ◌<◌, ℕ, suc, length, Some, slice_get}
use Rattle.fx_tables.specs.Network.{aggregations_of}
use Rattle.fx_tables.specs.declared.holder_name.HolderName.TheVariants as variants
use Rattle.fx_steps.specs.Names.{Keep, Note}
use Rattle.fx_steps.proofs.names.note_processes.Given as goal

abbrev pub invariant-loop-process : goal.invariant-loop-process
invariant-loop-process l =
    Keep l.net l.initial.names l.names × ((k place aggregation : ℕ) → k < l.process → slice_get l.places k ≡ Some place
    → aggregation < length (aggregations_of (slice_get l.net.processes place))
    → Note l.net l.names (variants.Aggregation l.device (suc k) (suc aggregation)))
