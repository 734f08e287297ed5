-- Packets that are metered where they cross interfaces.
use Rattle.std.specs.Prelude.{List, [], ◌∷◌}
use Rattle.fx_base.specs.declared.counts.Counts.{Counts}
use Rattle.fx_elements.specs.Axes.{Fields}
use Rattle.fx_tables.specs.declared.traffic.Crossing.{Crossing}
use Rattle.fx_tables.specs.Network.{Net}
use Rattle.fx_runs.specs.Making.{intakes_at}
use Rattle.fx_net.specs.Contents.{Contents}
use Rattle.fx_net.specs.Taking.{after_taking}

-- a packet makes these crossings in order
abbrev pub after_path : Net → Fields → Counts → List Crossing → Contents → Contents
after_path net fields counts [] c = c
after_path net fields counts (crossing ∷ rest) c =
    after_path net fields counts rest (after_taking net counts (intakes_at net fields crossing) c)
