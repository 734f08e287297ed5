-- Observation points (RFC 6728, section 4.1).
use Rattle.std.specs.Prelude.{ℕ, List, [], ◌∷◌, codes, map, Option, Some, None, if◌then◌else◌, take, drop}
use Rattle.std.specs.Str.{bytes_eq}
use Rattle.serde_json.specs.Data.{Data}
use Rattle.serde_json.specs.Find.{get}
use Rattle.fx_walk.specs.Walk.{FoundFault, Row, object_faults, required_row, optional, member_of}
use Rattle.fx_walk.specs.Lists.{entries, items_of, name_once}
use Rattle.fx_walk.specs.Scalars.{text_of, number_of, whole_faults, word_faults, word_given}
use Rattle.fx_config.specs.Limits.{entry_limit}
use Rattle.fx_config.specs.declared.observation_point.ObservationPoint.{ObservationPoint}
use Rattle.fx_config.specs.declared.observation_point.Scope.{Scope}
use Rattle.fx_config.specs.declared.observation_point.Direction.{Direction}
use Rattle.fx_config.specs.declared.observation_point.Direction.TheVariants.{Ingress, Egress, Both}

-- ---- directions

abbrev pub direction_named : List ℕ → Option Direction
direction_named name =
    if bytes_eq name (codes "ingress") then Some Ingress else
    (if bytes_eq name (codes "egress") then Some Egress else
    (if bytes_eq name (codes "both") then Some Both else None))

-- ---- observation points

abbrev pub scope_of : Data → Scope
scope_of d = record {
  observation_domain_id = number_of (member_of (codes "observationDomainId") d);
  interfaces = map text_of (items_of (member_of (codes "ifName") d));
  direction = word_given direction_named Both (get (codes "direction") d);
}

abbrev pub observation_point_rows : List (List ℕ) → List Row
observation_point_rows earlier =
    required_row (codes "name") (name_once earlier)
    ∷ required_row (codes "observationDomainId") (whole_faults 0 0xffff_ffff)
    ∷ entries 1 entry_limit (codes "ifName") name_once text_of
    ∷ optional (codes "direction") (word_faults direction_named)
    ∷ entries 0 entry_limit (codes "selectionProcess") name_once text_of
    ∷ []

-- the rows of what a point observes
abbrev pub scope_rows : List Row
scope_rows = take 3 (drop 1 (observation_point_rows []))

abbrev pub observation_point_faults : List (List ℕ) → List ℕ → Data → List FoundFault
observation_point_faults earlier = object_faults (observation_point_rows earlier)

abbrev pub observation_point_of : Data → ObservationPoint
observation_point_of d = record {
  name = text_of (member_of (codes "name") d);
  observation_domain_id = number_of (member_of (codes "observationDomainId") d);
  interfaces = map text_of (items_of (member_of (codes "ifName") d));
  direction = word_given direction_named Both (get (codes "direction") d);
  selection_processes = map text_of (items_of (member_of (codes "selectionProcess") d));
}
