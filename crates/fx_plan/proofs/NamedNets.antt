-- The net of a network document that names only some axes names only these.
use Rattle.std.proofs.Common.{◌≡◌, ℕ, Bool, true, false, List, [], ◌∷◌, map, get_or, All, Some, None, IfSome, option_and_then, refl, ap, ◌∙◌, eq-eqb, if◌then◌else◌}
use Rattle.std.specs.List.{flat_map, fold}
use Rattle.std.specs.Str.{bytes_eq}
use Rattle.std.proofs.lemmas.List.{get_or-set_other}
use Rattle.std.proofs.lemmas.List.Elements.{All-map, All-append}
use Rattle.fx_elements.specs.declared.axis.Axis.{Axis}
use Rattle.fx_elements.specs.Axes.{axis_index}
use Rattle.fx_elements.proofs.EveryAxis.{axis_is, value_at}
use Rattle.fx_boxes.specs.Boxes.{Bounds}
use Rattle.fx_config.specs.declared.collecting_process.CollectingProcess.{CollectingProcess}
use Rattle.fx_config.specs.declared.observation_point.ObservationPoint.{ObservationPoint}
use Rattle.fx_config.specs.declared.property_match.PropertyMatch.{PropertyMatch}
use Rattle.fx_config.specs.declared.selection_process.SelectionProcess.{SelectionProcess}
use Rattle.fx_config.specs.declared.selector.Method.{Method}
use Rattle.fx_config.specs.declared.selector.Method.TheVariants.{SelectAll, FilterMatch}
use Rattle.fx_config.specs.declared.selector.Selector.{Selector}
use Rattle.fx_selectors.specs.Selection.{everything, narrowed_by, has_room, region_within, region_of}
use Rattle.fx_tables.specs.declared.observation.Selection.{Selection}
use Rattle.fx_tables.specs.Network.{DeviceEntry, Holder}
use Rattle.fx_tables.specs.NamedAxes.{LayoutNamesOnly, RegionNamesOnly, PointNamesOnly, NamesOnly}
use Rattle.fx_machine.proofs.AlikePackets.{all_head, all_tail}
use Rattle.fx_machine.proofs.AlikeClaims.{all_nil}
use Rattle.fx_plan.specs.Labels.{Label, cache_labels, collecting_labels, exporting_labels}
use Rattle.fx_plan.specs.NamedByDocuments.{MethodNamesOnly, SelectorsNameOnly, AggregationsNameOnly, DeviceNamesOnly, DocumentNamesOnly}
use Rattle.fx_plan.specs.Tables.{cache_holder, aggregation_holder, held_by, cache_holders, aggregation_holders, process_named, selection_of, point_of, table_of, net_of}
use Rattle.fx_topology.specs.declared.network.NetworkDocument.{NetworkDocument}
use Rattle.fx_topology.specs.declared.network_device.NetworkDevice.{NetworkDevice}

-- ---- all of a list

all_more : {A : Type 0} (P Q : A → Type 0) → ((x : A) → P x → Q x) → (xs : List A) → All P xs → All Q xs
all_more P Q more xs h k d lt = more (get_or xs k d) (h k d lt)

all_any : {A : Type 0} (P : A → Type 0) → ((x : A) → P x) → (xs : List A) → All P xs
all_any P any xs k d lt = any (get_or xs k d)

all_flat : {A B : Type 0} (P : B → Type 0) (f : A → List B) (xs : List A) → All (λ x. All P (f x)) xs
    → All P (flat_map f xs)
all_flat P f [] h = all_nil P
all_flat {A} P f (x ∷ xs) h =
    let Each : A → Type 0 = λ y. All P (f y) in
    All-append P (f x) (flat_map f xs) (all_head Each x xs h) (all_flat P f xs (all_tail Each x xs h))

module _ (named : Axis → Bool) where
  -- ---- regions

  -- an axis that isn't named isn't that of a match on a named one
  another : (m : PropertyMatch) (axis : Axis) → named m.axis ≡ true → named axis ≡ false → axis_index axis
      ≡ axis_index m.axis → ⊥
  another m axis is unnamed same =
      let own : axis ≡ m.axis = axis_is axis m.axis (eq-eqb (axis_index axis) (axis_index m.axis) same) in
      let both : named axis ≡ named m.axis = ap named own in
      cc (both, is, unnamed)

  narrowed_names : (b : Bounds) (method : Method) → MethodNamesOnly named method → RegionNamesOnly named b
      → RegionNamesOnly named (narrowed_by b method)
  narrowed_names b SelectAll only whole axis unnamed = whole axis unnamed
  narrowed_names b (FilterMatch m) only whole axis unnamed =
      let differs = another m axis only unnamed in
      let before = whole axis unnamed in (
        get_or-set_other b.low (axis_index m.axis) (axis_index axis) _ 0 differs
            ∙ before.0,
        get_or-set_other b.high (axis_index m.axis) (axis_index axis) _ 0 differs ∙ before.1,
      )

  left_names : (b : Bounds) (ss : List Selector) → All (λ (s : Selector). MethodNamesOnly named s.method) ss
      → RegionNamesOnly named b → RegionNamesOnly named (fold (λ c s. narrowed_by c s.method) b ss)
  left_names b [] only whole = whole
  left_names b (s ∷ ss) only whole =
      let Names : Selector → Type 0 = λ t. MethodNamesOnly named t.method in
      left_names (narrowed_by b s.method) ss (all_tail Names s ss only)
      (narrowed_names b s.method (all_head Names s ss only) whole)

  everything_names : RegionNamesOnly named everything
  everything_names axis unnamed = (value_at (λ a. 0) axis, refl)

  within_names : (b : Bounds) → RegionNamesOnly named b → IfSome (region_within b) (RegionNamesOnly named)
  within_names b whole = elim (has_room b) as (λ t. IfSome (if t then Some b else None) (RegionNamesOnly named)) [
    | true ↦ whole
    | false ↦ tt
  ]

  region_names : (process : SelectionProcess) → SelectorsNameOnly named process
      → IfSome (region_of process) (RegionNamesOnly named)
  region_names process only =
      within_names _ (left_names everything process.selectors only everything_names)

  -- ---- selections

  found_names : (processes : List SelectionProcess) (name : List ℕ) → All (SelectorsNameOnly named) processes
      → IfSome (option_and_then region_of (process_named processes name)) (RegionNamesOnly named)
  found_names [] name only = tt
  found_names (p ∷ ps) name only = elim (bytes_eq p.name name)
      as (λ t. IfSome (option_and_then region_of (if t then Some p else process_named ps name))
      (RegionNamesOnly named)) [
        | true ↦ region_names p (all_head (SelectorsNameOnly named) p ps only)
        | false ↦ found_names ps name (all_tail (SelectorsNameOnly named) p ps only)
      ]

  abbrev SelectionNamesOnly : Selection → Type 0
  SelectionNamesOnly s = IfSome s.region (RegionNamesOnly named)

  abbrev IsNamed : NetworkDevice → Type 0
  IsNamed x = DeviceNamesOnly named x.config

  point_names : (caches : List Label) (x : NetworkDevice) → IsNamed x → (point : ObservationPoint)
      → PointNamesOnly named (point_of caches x point)
  point_names caches x only point =
      All-map SelectionNamesOnly (selection_of caches x) point.selection_processes
      (all_any (λ (name : List ℕ). SelectionNamesOnly (selection_of caches x name))
      (λ name. found_names x.config.selection_processes name only.selectors) point.selection_processes)

  abbrev TableNamesOnly : DeviceEntry → Type 0
  TableNamesOnly device = All (PointNamesOnly named) device.points

  table_names : (caches collecting : List Label) (x : NetworkDevice) → IsNamed x
      → TableNamesOnly (table_of caches collecting x)
  table_names caches collecting x only =
      All-map (PointNamesOnly named) (point_of caches x) x.config.observation_points
      (all_any (λ (p : ObservationPoint). PointNamesOnly named (point_of caches x p)) (point_names caches x only)
      x.config.observation_points)

  tables_name : (caches collecting : List Label) (devices : List NetworkDevice) → All IsNamed devices
      → All TableNamesOnly (map (table_of caches collecting) devices)
  tables_name caches collecting devices only =
      All-map TableNamesOnly (table_of caches collecting) devices
      (all_more IsNamed (λ x. TableNamesOnly (table_of caches collecting x)) (table_names caches collecting) devices
      only)

  -- ---- holders

  abbrev HolderNamesOnly : Holder → Type 0
  HolderNamesOnly holder = LayoutNamesOnly named holder.layout

  caches_name : (exporting : List Label) (devices : List NetworkDevice) → All IsNamed devices
      → All HolderNamesOnly (cache_holders exporting devices)
  caches_name exporting devices only =
      let Held : NetworkDevice → Type 0 = λ x. All HolderNamesOnly (map (cache_holder exporting x.name) x.config.caches)
      in
      all_flat HolderNamesOnly (λ (x : NetworkDevice). map (cache_holder exporting x.name) x.config.caches) devices
      (all_more IsNamed Held (λ x own. All-map HolderNamesOnly (cache_holder exporting x.name) x.config.caches
      own.caches) devices only)

  held_names : (exporting : List Label) (device : List ℕ) (processes : List CollectingProcess)
      → All (AggregationsNameOnly named) processes → All HolderNamesOnly (held_by exporting device processes)
  held_names exporting device processes only =
      let Held : CollectingProcess → Type 0 =
      λ p. All HolderNamesOnly (map (aggregation_holder exporting device) p.aggregations) in
      all_flat HolderNamesOnly (λ (p : CollectingProcess). map (aggregation_holder exporting device) p.aggregations)
      processes
      (all_more (AggregationsNameOnly named) Held
      (λ p own. All-map HolderNamesOnly (aggregation_holder exporting device) p.aggregations own) processes only)

  aggregations_name : (exporting : List Label) (devices : List NetworkDevice) → All IsNamed devices
      → All HolderNamesOnly (aggregation_holders exporting devices)
  aggregations_name exporting devices only =
      let Held : NetworkDevice → Type 0 = λ x. All HolderNamesOnly
      (held_by exporting x.name x.config.collecting_processes) in
      all_flat HolderNamesOnly (λ (x : NetworkDevice). held_by exporting x.name x.config.collecting_processes) devices
      (all_more IsNamed Held (λ x own. held_names exporting x.name x.config.collecting_processes own.aggregations)
      devices only)

  -- ---- the net

  pub net_names : (network : NetworkDocument) → DocumentNamesOnly named network → NamesOnly named (net_of network)
  unfolding net_of
  net_names network only =
      let exporting = exporting_labels network.devices in
      record {
        holders =
            All-append HolderNamesOnly (cache_holders exporting network.devices)
            (aggregation_holders exporting network.devices)
            (caches_name exporting network.devices only.devices)
            (aggregations_name exporting network.devices only.devices);
        report = only.report;
        selections = tables_name (cache_labels network.devices) (collecting_labels network.devices) network.devices
            only.devices;
      }
