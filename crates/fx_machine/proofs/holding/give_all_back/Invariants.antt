use Rattle.std.proofs.Common.{◌≡◌, ◌-◌, length, take}
use Rattle.fx_machine.specs.Holds.{undone}
use Rattle.fx_machine.proofs.holding.give_all_back.Given as goal

abbrev pub invariant-loop-back : goal.invariant-loop-back
invariant-loop-back l = undone (take (length l.log - l.back) l.log) l.held.items ≡ undone l.log l.initial.held.items
