-- Where a packet is metered.
use Rattle.std.specs.Prelude.{ℕ, ◌+◌, Bool, false, ◌&&◌, List, [], ◌∷◌, ◌++◌, Option, Some, None, if◌then◌else◌, bytes_eq}
use Rattle.std.specs.List.{list_any}
use Rattle.fx_elements.specs.Axes.{Fields}
use Rattle.fx_boxes.specs.Boxes.{Bounds, holds}
use Rattle.fx_tables.specs.declared.observation.Selection.{Selection}
use Rattle.fx_tables.specs.declared.observation.Occurrence.{Occurrence}
use Rattle.fx_tables.specs.declared.traffic.Crossing.{Crossing}
use Rattle.fx_tables.specs.Network.{Point, Net, points_of}
use Rattle.fx_base.specs.Entries.{entry_numbered}

abbrev pub selects : Option Bounds → Fields → Bool
selects None fields = false
selects (Some region) fields = holds region fields

abbrev pub occurrence : ℕ → ℕ → Option ℕ → List Occurrence
occurrence point process None = []
occurrence point process (Some holder) = record { point = point; process = process; holder = holder } ∷ []

-- the selection processes of a point that select the packet and have a cache, numbered from this one
abbrev pub met_by : ℕ → ℕ → List Selection → Fields → List Occurrence
met_by point process [] fields = []
met_by point process (s ∷ ss) fields =
    (if selects s.region fields then occurrence point process s.holder else []) ++ met_by point (process + 1) ss fields

-- the point observes the interface in the direction of the crossing
abbrev pub watches : Point → Crossing → Bool
watches point crossing =
    list_any (λ name. bytes_eq name crossing.interface) point.interfaces &&
    (if crossing.inwards then point.ingress else point.egress)

abbrev pub met_at : ℕ → List Point → Crossing → Fields → List Occurrence
met_at n [] crossing fields = []
met_at n (point ∷ points) crossing fields =
    (if watches point crossing then met_by n 1 point.selections fields else []) ++ met_at (n + 1) points crossing fields

-- the occurrences of a packet at a crossing
abbrev pub occurrences : Net → Crossing → Fields → List Occurrence
occurrences net crossing fields = met_at 1 (points_of (entry_numbered net.devices crossing.device)) crossing fields
