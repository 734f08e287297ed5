use Rattle.std.proofs.Common.{◌≡◌, ◌≤◌, [], drop, length}
use Rattle.fx_tables.specs.Network.{at_places}
use Rattle.fx_machine.specs.Sends.{chosen_from}
use Rattle.fx_machine.proofs.sending.chosen_links.Given as goal

abbrev pub invariant-loop-index : goal.invariant-loop-index
invariant-loop-index l = record {
  room : l.used ≤ length l.choices;
  so_far : chosen_from [] (at_places l.exporters l.places) l.choices
      ≡ chosen_from l.links.items (at_places l.exporters (drop l.index-index l.places)) (drop l.used l.choices);
}
