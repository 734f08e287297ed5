-- The starts of links, as their table keeps them.
use Rattle.std.specs.Prelude.{◌≡◌, ℕ, List, Bool, string_bytes}
use Rattle.std.specs.BTreeMap.{BTreeMap, get}
use Rattle.std.specs.List.{position}
use Rattle.std.specs.Ordering.{ordering_then}
use Rattle.std.specs.String.{string_cmp}
use Rattle.std.specs.declared.cmp.Ordering.{Ordering}
use Rattle.fx_topology.specs.declared.link.NamedLink.{NamedLink}
use Rattle.fx_topology.specs.declared.link_table.Start.{Start}
use Rattle.fx_topology.specs.Links.{leads_from}

-- the start has these names
pub record IsStartAt (start : Start) (device process destination : List ℕ) : Type 0 where
  pub device_is : string_bytes start.device ≡ device
  pub process_is : string_bytes start.exporting_process ≡ process
  pub destination_is : string_bytes start.destination ≡ destination

abbrev pub IsStartOf : Start → NamedLink → Type 0
IsStartOf start link = IsStartAt start link.device link.exporting_process link.destination

-- the order of starts by their three names
abbrev pub start_cmp : Start → Start → Ordering
start_cmp a b = ordering_then (string_cmp a.device b.device)
    (ordering_then (string_cmp a.exporting_process b.exporting_process) (string_cmp a.destination b.destination))

-- whether the link leads from this start
abbrev pub leads_from_start : Start → NamedLink → Bool
leads_from_start start = leads_from (string_bytes start.device) (string_bytes start.exporting_process)
    (string_bytes start.destination)

-- the map has the index of the link that leads from each start, and no other start
abbrev pub ArePlacesOfLinks : BTreeMap Start ℕ → List NamedLink → Type 0
ArePlacesOfLinks places links = (start : Start) → get start_cmp places start ≡ position (leads_from_start start) links
