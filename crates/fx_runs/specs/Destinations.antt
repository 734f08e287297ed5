-- The destinations in use: the links that exporting processes send on, and the corresponding choices.
use Rattle.std.specs.Prelude.{◌≡◌, ◌≢◌, ℕ, false, List, [], ◌∷◌, ◌++◌, Option, Some, None, slice_get, if◌then◌else◌}
use Rattle.std.specs.Option.{unwrap_or}
use Rattle.fx_tables.specs.Network.{Net, Exporter}
use Rattle.fx_base.specs.Entries.{entry_numbered}
use Rattle.fx_machine.specs.Acts.{Choices}
use Rattle.fx_machine.specs.Sends.{link_list, links_of}

-- the number of the destination that the exporting process at this place uses
abbrev pub number_in_use : List ℕ → ℕ → ℕ
number_in_use chosen place = unwrap_or (slice_get chosen place) 0

-- each exporting process that selects one destination has the destination that it uses
abbrev pub AllUsable : Net → List ℕ → Type 0
AllUsable net chosen =
    (place : ℕ) (e : Exporter) → slice_get net.exporters place ≡ Some e → e.parallel ≡ false
    → entry_numbered e.destinations (number_in_use chosen place) ≢ None

-- ---- links

-- the link of a destination, if it has one
abbrev pub link_of : Option (Option ℕ) → List ℕ
link_of None = []
link_of (Some destination) = link_list destination

abbrev pub link_numbered : List (Option ℕ) → ℕ → List ℕ
link_numbered destinations number = link_of (entry_numbered destinations number)

-- the links of all destinations, or the link of the one in use
abbrev pub links_of_exporter : Exporter → ℕ → List ℕ
links_of_exporter e number = if e.parallel then links_of e.destinations else link_numbered e.destinations number

abbrev pub used_by : Option Exporter → ℕ → List ℕ
used_by None number = []
used_by (Some e) number = links_of_exporter e number

abbrev pub used_at : Net → List ℕ → ℕ → List ℕ
used_at net chosen place = used_by (slice_get net.exporters place) (number_in_use chosen place)

-- the links that the exporting processes at these places send on
abbrev pub links_used : Net → List ℕ → List ℕ → List ℕ
links_used net chosen [] = []
links_used net chosen (place ∷ places) = used_at net chosen place ++ links_used net chosen places

-- ---- choices

-- an exporting process that doesn't send to all destinations sends to the one in use
abbrev pub in_use : Option Exporter → ℕ → Choices
in_use None number = []
in_use (Some e) number = if e.parallel then [] else Some number ∷ []

-- the choices of the exporting processes at these places
abbrev pub sent_by : Net → List ℕ → List ℕ → Choices
sent_by net chosen [] = []
sent_by net chosen (place ∷ places) =
    in_use (slice_get net.exporters place) (number_in_use chosen place) ++ sent_by net chosen places
