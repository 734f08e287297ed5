use Rattle.std.proofs.Common.{◌≡◌, drop}
use Rattle.fx_tables.specs.Holdings.{met_holdings}
use Rattle.fx_machine.specs.Holds.{hold_all, undone}
use Rattle.fx_machine.specs.Steps.{one_packet}
use Rattle.fx_machine.proofs.holding.hold_met.Given as goal

abbrev pub invariant-loop-index : goal.invariant-loop-index
invariant-loop-index l = record {
  so_far : hold_all (one_packet l.packet) (met_holdings l.net.holders l.packet.fields l.met) l.initial.held.items
      l.choices
      ≡ hold_all (one_packet l.packet) (met_holdings l.net.holders l.packet.fields (drop l.index l.met)) l.held.items
      (drop l.index l.choices);
  back : undone l.log.items l.held.items ≡ l.initial.held.items;
}
