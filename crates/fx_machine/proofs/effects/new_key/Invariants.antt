use Rattle.std.proofs.Common.{◌≡◌, ◌≤◌, drop}
use Rattle.fx_base.specs.Entries.{entry_numbered}
use Rattle.fx_machine.specs.Effects.{new_keys}
use Rattle.fx_machine.proofs.effects.new_key.Given as goal

abbrev pub invariant-loop-index : goal.invariant-loop-index
invariant-loop-index l = record {
  some : 1 ≤ l.left;
  rest : entry_numbered (new_keys l.holder l.holdings l.choices) l.number
      ≡ entry_numbered (new_keys l.holder (drop l.index l.holdings) (drop l.index l.choices)) l.left;
}
