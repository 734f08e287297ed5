-- What the caches that meter a packet must hold of it.
use Rattle.std.specs.Prelude.{List, map, slice_get}
use Rattle.fx_elements.specs.Axes.{Fields}
use Rattle.fx_layout.specs.Keys.{key_of}
use Rattle.fx_tables.specs.declared.holding.Holding.{Holding}
use Rattle.fx_tables.specs.declared.observation.Occurrence.{Occurrence}
use Rattle.fx_tables.specs.Network.{Holder, layout_of}

-- the cache of an occurrence, with the packet's key in that cache
abbrev pub holding_of : List Holder → Fields → Occurrence → Holding
holding_of holders fields o = record { holder = o.holder; key = key_of (layout_of (slice_get holders o.holder)) fields }

-- the caches of these occurrences, with the packet's keys
abbrev pub met_holdings : List Holder → Fields → List Occurrence → List Holding
met_holdings holders fields os = map (λ o. holding_of holders fields o) os
