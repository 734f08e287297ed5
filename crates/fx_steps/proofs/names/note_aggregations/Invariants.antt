use Rattle.std.proofs.Common.{◌<◌, ℕ, suc}
use Rattle.fx_tables.specs.declared.holder_name.HolderName.TheVariants as variants
use Rattle.fx_steps.specs.Names.{Keep, Note}
use Rattle.fx_steps.proofs.names.note_aggregations.Given as goal

abbrev pub invariant-loop-aggregation : goal.invariant-loop-aggregation
invariant-loop-aggregation l =
    Keep l.net l.initial.names l.names × ((k : ℕ) → k < l.aggregation
    → Note l.net l.names (variants.Aggregation l.device l.process (suc k)))
