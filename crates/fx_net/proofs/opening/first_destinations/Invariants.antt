use Rattle.std.proofs.Common.{◌≡◌, take}
use Rattle.fx_net.specs.Opening.{first_chosen}
use Rattle.fx_net.proofs.opening.first_destinations.Given as goal

abbrev pub invariant-loop-exporter : goal.invariant-loop-exporter
invariant-loop-exporter l = l.chosen.items ≡ first_chosen (take l._exporter-index l.exporters)
