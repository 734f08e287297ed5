use Rattle.std.proofs.Common.{◌≡◌, drop}
use Rattle.fx_machine.specs.Holds.{hold_all, undone}
use Rattle.fx_machine.proofs.holding.hold_all.Given as goal

abbrev pub invariant-loop-index : goal.invariant-loop-index
invariant-loop-index l = record {
  so_far : hold_all l.counts l.holdings l.initial.held.items l.choices
      ≡ hold_all l.counts (drop l.index l.holdings) l.held.items (drop l.index l.choices);
  back : undone l.log.items l.held.items ≡ l.initial.held.items;
}
