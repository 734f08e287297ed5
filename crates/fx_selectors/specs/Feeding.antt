-- The selection processes that receive the packets of a crossing (RFC 6728, sections 4.1 and 4.2).
use Rattle.std.specs.Prelude.{ℕ, ◌+◌, Bool, true, not, ◌&&◌, List, [], ◌∷◌, ◌++◌, map, is_some, if◌then◌else◌, bytes_eq, drop}
use Rattle.std.specs.List.{list_any}
use Rattle.fx_config.specs.declared.observation_point.Direction.{Direction}
use Rattle.fx_config.specs.declared.observation_point.Direction.TheVariants.{Ingress, Egress, Both}
use Rattle.fx_config.specs.declared.observation_point.ObservationPoint.{ObservationPoint}
use Rattle.fx_config.specs.declared.selection_process.SelectionProcess.{SelectionProcess}
use Rattle.fx_config.specs.declared.ipfix.Device.{Device}

abbrev pub agrees : Direction → Bool → Bool
agrees Ingress inwards = inwards
agrees Egress inwards = not inwards
agrees Both inwards = true

-- the observation point observes packets that cross the interface in this direction
abbrev pub watches : ObservationPoint → List ℕ → Bool → Bool
watches point interface inwards = list_any (λ name. bytes_eq name interface) point.interfaces && agrees point.direction
    inwards

-- the selection process of this name has a cache
abbrev pub has_cache : List SelectionProcess → List ℕ → Bool
has_cache processes name = list_any (λ process. bytes_eq process.name name && is_some process.cache) processes

-- the numbers of the names, counted from this number on, whose selection process has a cache
abbrev pub numbers_with_cache : List SelectionProcess → ℕ → List (List ℕ) → List ℕ
numbers_with_cache processes number [] = []
numbers_with_cache processes number (name ∷ names) = (if has_cache processes name then number ∷ [] else [])
    ++ numbers_with_cache processes (number + 1) names

-- a point's selection processes that have a cache, each paired with the point's number
abbrev pub fed_by : List SelectionProcess → ℕ → ObservationPoint → List (ℕ × ℕ)
fed_by processes number point = map (λ process. (number, process))
    (numbers_with_cache processes 1 point.selection_processes)

-- those of the points that observe the crossing, with points numbered from this number on
abbrev pub fed_from : List SelectionProcess → List ℕ → Bool → ℕ → List ObservationPoint → List (ℕ × ℕ)
fed_from processes interface inwards number [] = []
fed_from processes interface inwards number (point ∷ points) =
    (if watches point interface inwards then fed_by processes number point else [])
    ++ fed_from processes interface inwards (number + 1) points

-- all pairs of an observation point and a selection process, numbered in the point's list, that receive the crossing's
-- packets
abbrev pub feeds : Device → List ℕ → Bool → List (ℕ × ℕ)
feeds device interface inwards = fed_from device.selection_processes interface inwards 1 device.observation_points

-- ---- the remaining pairs

-- the pairs after the first `behind` names of the first of these points
abbrev pub feeds_left : List SelectionProcess → List ℕ → Bool → ℕ → ℕ → List ObservationPoint → List (ℕ × ℕ)
feeds_left processes interface inwards number behind [] = []
feeds_left processes interface inwards number behind (point ∷ points) =
    (if watches point interface inwards then map (λ process. (number, process))
    (numbers_with_cache processes (behind + 1) (drop behind point.selection_processes)) else [])
    ++ feeds_left processes interface inwards (number + 1) 0 points
