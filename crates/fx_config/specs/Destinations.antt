-- Destinations of exporting processes (RFC 6728, section 4.4).
use Rattle.std.specs.Prelude.{ℕ, List, [], ◌∷◌, codes, is_some, if◌then◌else◌, drop}
use Rattle.serde_json.specs.Data.{Data}
use Rattle.serde_json.specs.Find.{get}
use Rattle.fx_walk.specs.Walk.{FoundFault, Row, object_faults, required_row, unread, member_of}
use Rattle.fx_walk.specs.Choice.{none_of, one_of}
use Rattle.fx_walk.specs.Lists.{name_once}
use Rattle.fx_walk.specs.Scalars.{text_of}
use Rattle.fx_config.specs.declared.destination.Destination.{Destination}
use Rattle.fx_config.specs.declared.destination.Transport.{Transport}
use Rattle.fx_config.specs.declared.destination.Transport.TheVariants.{Tcp, Sctp, Udp}
use Rattle.fx_base.specs.Refusals.{file_transport}

abbrev pub exporters : List (List ℕ)
exporters = codes "tcpExporter" ∷ codes "sctpExporter" ∷ codes "udpExporter" ∷ []

-- exactly one exporter, which is not read; files are not exporters
abbrev pub destination_rows : List (List ℕ) → List Row
destination_rows earlier =
    required_row (codes "name") (name_once earlier)
    ∷ none_of ((codes "fileWriter", file_transport) ∷ [])
    ∷ one_of exporters
    ∷ unread exporters
    ∷ []

abbrev pub transport_rows : List Row
transport_rows = drop 1 (destination_rows [])

abbrev pub destination_faults : List (List ℕ) → List ℕ → Data → List FoundFault
destination_faults earlier = object_faults (destination_rows earlier)

abbrev pub transport_of : Data → Transport
transport_of d = if is_some (get (codes "tcpExporter") d) then Tcp
    else (if is_some (get (codes "sctpExporter") d) then Sctp else Udp)

abbrev pub destination_of : Data → Destination
destination_of d = record {
  name = text_of (member_of (codes "name") d);
  transport = transport_of d;
}
