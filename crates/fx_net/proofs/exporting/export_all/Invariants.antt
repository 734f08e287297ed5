-- What the rest of the exporting processes makes of the links so far is what all make of those at the beginning.
use Rattle.std.proofs.Common.{◌≡◌, drop}
use Rattle.fx_runs.specs.Destinations.{links_used}
use Rattle.fx_net.specs.Exporting.{put_each}
use Rattle.fx_net.proofs.exporting.export_all.Given as goal

abbrev pub invariant-loop-exporter : goal.invariant-loop-exporter
invariant-loop-exporter l =
    put_each l.time l.flow (links_used l.net l.chosen (drop l.exporter-index l.exporters)) l.links.items
    ≡ put_each l.time l.flow (links_used l.net l.chosen l.exporters) l.initial.links.items
