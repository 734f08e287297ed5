use Rattle.std.proofs.Common.{◌≡◌, ◌<◌, ℕ, suc, length}
use Rattle.fx_tables.specs.declared.holder_name.HolderName.{HolderName}
use Rattle.fx_steps.specs.Names.{Note, device_of}
use Rattle.fx_steps.proofs.names.note_devices.Given as goal

abbrev pub invariant-loop-number : goal.invariant-loop-number
invariant-loop-number l =
    (length l.names ≡ length l.net.holders)
    × ((k : ℕ) (name : HolderName) → k < l.number → device_of name ≡ suc k → Note l.net l.names name)
