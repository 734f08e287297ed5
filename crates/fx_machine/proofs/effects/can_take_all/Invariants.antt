use Rattle.std.proofs.Common.{◌≡◌, List, Some, drop, take}
use Rattle.fx_base.specs.declared.counts.Counts.{Counts}
use Rattle.fx_tables.specs.declared.record.Record.{Record}
use Rattle.fx_machine.specs.Holds.{hold_all}
use Rattle.fx_machine.proofs.effects.can_take_all.Given as goal

abbrev pub invariant-loop-index : goal.invariant-loop-index
invariant-loop-index l = (counts : Counts)
    → (now : List (List Record))
    × (hold_all counts (take l.index l.holdings) l.held (take l.index l.choices) ≡ Some now)
    × (hold_all counts l.holdings l.held l.choices
    ≡ hold_all counts (drop l.index l.holdings) now (drop l.index l.choices))
