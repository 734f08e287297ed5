-- Each refusal of a network's document and of a declaration of traffic has a number that is listed.
use Rattle.std.proofs.Common.{◌≡◌, ℕ, ◌+◌, true, refl, sym, ap, subst, List, [], ◌∷◌, ◌++◌, Option, Some, inl, inr, codes, true≢false}
use Rattle.std.specs.Prelude.{map, is_some, unwrap_or}
use Rattle.serde_json.specs.Data.{Data}
use Rattle.fx_base.specs.Refusals.{class_twice, is_refusal_number, missing_member, no_path, too_many_entries, too_much_traffic, traffic_value}
use Rattle.fx_base.specs.declared.fault.Fault.{Fault}
use Rattle.fx_base.specs.declared.fault.Place.{Place}
use Rattle.fx_base.specs.declared.fault.Place.TheVariants as places
use Rattle.fx_elements.specs.Axes.{axes}
use Rattle.fx_elements.specs.declared.axis.Axis.{Axis}
use Rattle.fx_walk.specs.Pointer.{nth}
use Rattle.fx_walk.specs.Walk.{FoundFault, first, object_faults, optional}
use Rattle.fx_topology.specs.Links.{link_faults, link_of, link_rows, links_faults}
use Rattle.fx_topology.specs.NetworkDevices.{network_device_faults, network_device_of, network_device_rows}
use Rattle.fx_topology.specs.Networks.{devices_of, network_faults, network_rows}
use Rattle.fx_topology.specs.Reports.{report_faults, report_rows}
use Rattle.fx_topology.specs.declared.link.NamedLink.{NamedLink}
use Rattle.fx_topology.specs.declared.network.NetworkDocument.{NetworkDocument}
use Rattle.fx_topology.specs.declared.network_device.NetworkDevice.{NetworkDevice}
use Rattle.fx_plan.specs.Plans.{RefusesNetwork}
use Rattle.fx_traffic.specs.Classes.{class_faults, class_name, class_rows, exempt_faults, list_of_classes_faults, paths_faults, traffic_faults, traffic_rows}
use Rattle.fx_traffic.specs.Crossings.{crossing_faults, crossing_rows, path_faults}
use Rattle.fx_traffic.specs.Crossings as crossings
use Rattle.fx_elements.specs.Elements.{axis_name}
use Rattle.fx_traffic.specs.Regions.{region_faults, region_rows, values_faults, values_on}
use Rattle.fx_checker.specs.Documents.{IsFirstFault, IsRefusedByDocuments, IsRefusedNetwork, by_plan, by_walk, is_found}
use Rattle.fx_base.specs.Name.{is_name}
use Rattle.fx_walk.specs.Lists.{entries_faults, items_faults, list_faults}
use Rattle.fx_topology.specs.Limits.{device_limit, key_field_limit, link_limit}
use Rattle.fx_traffic.specs.Limits.{class_limit, crossing_limit, path_limit}
use Rattle.fx_traffic.specs.Texts as traffic_texts
use Rattle.fx_traffic.specs.Lists as traffic_lists
use Rattle.fx_audit.proofs.ListedNumbers.{AreListed, EntriesListed, FaultsListed, RowsListed, both_listed, check_listed, entries_faults_listed, faults_listed, if_listed, items_faults_listed, list_by_listed, more, name_listed, name_once_by_listed, name_once_listed, none, object_listed, of_faults, optional_listed, required_entries_listed, required_items_listed, required_listed, text_that_listed}
use Rattle.fx_config.specs.KeyFields.{key_field_faults}
use Rattle.fx_audit.proofs.ListedDevices.{devices_listed, key_fields_listed}

-- ---- networks

network_devices_listed : EntriesListed network_device_faults
network_devices_listed earlier = object_listed (network_device_rows earlier)
    (required_listed _ _ (name_once_listed earlier), (required_listed _ _ devices_listed, tt))

link_listed : (devices : List NetworkDevice) (earlier : List NamedLink) → FaultsListed (link_faults devices earlier)
link_listed devices earlier = object_listed (link_rows devices earlier) (
  required_listed _ _ name_listed,
  (
    required_listed _ _ name_listed,
    (
      required_listed _ _ name_listed,
      (
        required_listed _ _ name_listed,
        (
          required_listed _ _ name_listed,
          (
            check_listed _ (λ up d. if_listed _ _ _ refl),
            (
              check_listed _ (λ up d. if_listed _ _ _ refl),
              tt,
            ),
          ),
        ),
      ),
    ),
  ),
)

links_listed : (devices : List NetworkDevice) (earlier : List NamedLink) (up : List ℕ) (i : ℕ) (ds : List Data)
    → AreListed (links_faults devices earlier up i ds)
links_listed devices earlier up i [] = none
links_listed devices earlier up i (d ∷ ds) =
    both_listed (of_faults (link_faults devices earlier) (link_listed devices earlier) (nth up i) d)
    (links_listed devices (earlier ++ link_of d ∷ []) up (i + 1) ds)

reports_listed : (devices : List NetworkDevice) → FaultsListed (report_faults devices)
reports_listed devices = object_listed (report_rows devices) (
  required_listed _ _ name_listed,
  (
    required_listed _ _ name_listed,
    (
      required_items_listed key_field_limit (codes "key") key_field_faults key_fields_listed,
      (
        check_listed _ (λ up d. if_listed _ _ _ refl),
        (
          check_listed _ (λ up d. if_listed _ _ _ refl),
          tt,
        ),
      ),
    ),
  ),
)

network_rows_listed : (devices : List NetworkDevice) → RowsListed (network_rows devices)
network_rows_listed devices = (
  required_entries_listed device_limit (codes "devices") network_device_faults (λ d. (network_device_of d).name)
      network_devices_listed,
  (
    check_listed _ (λ up d. if_listed _ _ _ refl),
    (
      required_listed (codes "links") (list_faults 0 link_limit (λ up ds. links_faults devices [] up 0 ds))
          (list_by_listed missing_member too_many_entries 0 link_limit (λ up ds. links_faults devices [] up 0 ds) refl
          refl (λ up ds. links_listed devices [] up 0 ds)),
      (
        required_listed _ _ (reports_listed devices),
        tt,
      ),
    ),
  ),
)

networks_listed : (up : List ℕ) (d : Data) → AreListed (network_faults up d)
networks_listed up d = of_faults (object_faults (network_rows (devices_of d)))
    (object_listed (network_rows (devices_of d)) (network_rows_listed (devices_of d))) up d

-- ---- traffic

traffic_name_listed : FaultsListed traffic_texts.name_faults
traffic_name_listed = faults_listed traffic_texts.name_faults
    (of_faults _ (text_that_listed traffic_value is_name refl))

crossing_devices_listed : (devices : List (List ℕ)) → FaultsListed (crossings.device_faults devices)
crossing_devices_listed devices = faults_listed (crossings.device_faults devices)
    (λ up d. both_listed (of_faults traffic_texts.name_faults traffic_name_listed up d) (if_listed _ _ _ refl))

directions_listed : FaultsListed crossings.direction_faults
directions_listed = faults_listed crossings.direction_faults
    (of_faults _ (text_that_listed traffic_value (λ text. is_some (crossings.inwards_in text)) refl))

crossings_listed : (devices : List (List ℕ)) → FaultsListed (crossing_faults devices)
crossings_listed devices = object_listed (crossing_rows devices) (
  required_listed (codes "device") (crossings.device_faults devices) (crossing_devices_listed devices),
  (
    required_listed (codes "interface") traffic_texts.name_faults traffic_name_listed,
    (
      required_listed (codes "direction") crossings.direction_faults directions_listed,
      tt,
    ),
  ),
)

-- a list in a declaration
traffic_list_listed : (least most : ℕ) (faults : List ℕ → List Data → List FoundFault)
    → ((up : List ℕ) (ds : List Data) → AreListed (faults up ds))
    → FaultsListed (traffic_lists.list_faults least most faults)
traffic_list_listed least most faults all =
    faults_listed (traffic_lists.list_faults least most faults)
    (of_faults _ (list_by_listed no_path too_much_traffic least most faults refl refl all))

paths_listed : (devices : List (List ℕ)) → FaultsListed (path_faults devices)
paths_listed devices =
    traffic_list_listed 0 crossing_limit (λ up ds. items_faults (crossing_faults devices) up 0 ds)
    (λ up ds. items_faults_listed (crossing_faults devices)
    (of_faults (crossing_faults devices) (crossings_listed devices)) up 0 ds)

values_listed : (axis : Axis) → FaultsListed (values_faults axis)
values_listed axis = faults_listed (values_faults axis)
    (of_faults _ (text_that_listed traffic_value (λ text. is_some (values_on axis text)) refl))

axes_listed : (xs : List Axis) → RowsListed (map (λ axis. optional (axis_name axis) (values_faults axis)) xs)
axes_listed [] = tt
axes_listed (x ∷ xs) = (optional_listed (axis_name x) (values_faults x) (values_listed x), axes_listed xs)

all_paths_listed : (devices : List (List ℕ)) → FaultsListed (paths_faults devices)
all_paths_listed devices =
    traffic_list_listed 1 path_limit (λ up ds. items_faults (path_faults devices) up 0 ds)
    (λ up ds. items_faults_listed (path_faults devices) (of_faults (path_faults devices) (paths_listed devices)) up 0
    ds)

class_names_listed : EntriesListed traffic_texts.name_once
class_names_listed earlier = faults_listed (traffic_texts.name_once earlier)
    (of_faults _ (name_once_by_listed traffic_value class_twice refl refl earlier))

classes_listed : (devices : List (List ℕ)) → EntriesListed (class_faults devices)
classes_listed devices earlier = object_listed (class_rows devices earlier) (
  required_listed (codes "name") (traffic_texts.name_once earlier) (class_names_listed earlier),
  (
    optional_listed (codes "region") region_faults (object_listed region_rows (axes_listed axes)),
    (
      required_listed (codes "paths") (paths_faults devices) (all_paths_listed devices),
      (
        optional_listed (codes "exempt") exempt_faults (faults_listed exempt_faults (λ up d. if_listed _ _ _ refl)),
        tt,
      ),
    ),
  ),
)

list_of_classes_listed : (devices : List (List ℕ)) → FaultsListed (list_of_classes_faults devices)
list_of_classes_listed devices =
    traffic_list_listed 0 class_limit (λ up ds. entries_faults (class_faults devices) class_name [] up 0 ds)
    (λ up ds. entries_faults_listed (class_faults devices) class_name (classes_listed devices) [] up 0 ds)

traffic_listed : (devices : List (List ℕ)) (up : List ℕ) (d : Data) → AreListed (traffic_faults devices up d)
unfolding traffic_faults
traffic_listed devices up d =
    of_faults (object_faults (traffic_rows devices))
    (object_listed (traffic_rows devices) (
      required_listed (codes "classes") (list_of_classes_faults devices)
          (list_of_classes_listed devices),
      tt,
    )) up d

-- ---- refusals

first_listed : (fs : List FoundFault) (number : ℕ) (text : List ℕ) → AreListed fs → first fs ≡ Some (number, text)
    → is_refusal_number number ≡ true
first_listed [] number text none is = absurd (true≢false (sym (ap is_some is)))
first_listed (f ∷ fs) number text (more n up others is all) same =
    let one : n ≡ number = ap (λ (o : Option FoundFault). (unwrap_or o (n, up)).0) same in
    subst (λ (k : ℕ). is_refusal_number k ≡ true) one is

found_listed : (number : ℕ) (place : Place) (fs : List FoundFault) → AreListed fs → is_found number place fs
    → is_refusal_number number ≡ true
found_listed number (places.Text s) fs all is = first_listed fs number _ all is
found_listed number places.None fs all is = absurd is
found_listed number (places.Line l) fs all is = absurd is
found_listed number (places.Octet o) fs all is = absurd is

first_fault_listed : (faults : Data → List FoundFault) (octets : List ℕ) (e : Fault)
    → ((d : Data) → AreListed (faults d)) → IsFirstFault faults octets e → is_refusal_number e.number ≡ true
first_fault_listed faults octets e all (inl (is, unread)) = ap (λ (f : Fault). is_refusal_number f.number) is
first_fault_listed faults octets e all (inr (d, json, found)) = found_listed e.number e.place (faults d) (all d) found

plan_listed : (network : NetworkDocument) (e : Fault) → RefusesNetwork network e → is_refusal_number e.number ≡ true
plan_listed network e (inl (is, many)) = ap (λ (f : Fault). is_refusal_number f.number) is
plan_listed network e (inr (few, cycle)) = ap is_refusal_number cycle.number

pub network_refusal_listed : (octets : List ℕ) (e : Fault) → IsRefusedNetwork octets e → is_refusal_number e.number
    ≡ true
network_refusal_listed octets e (by_walk is) = first_fault_listed (network_faults []) octets e (networks_listed []) is
network_refusal_listed octets e (by_plan network document refuses) = plan_listed network e refuses

pub documents_refusal_listed : (network_octets traffic_octets : List ℕ) (e : Fault)
    → IsRefusedByDocuments network_octets traffic_octets e → is_refusal_number e.number ≡ true
documents_refusal_listed network_octets traffic_octets e (inl is) = network_refusal_listed network_octets e is
documents_refusal_listed network_octets traffic_octets e (inr (network, document, is)) =
    first_fault_listed _ traffic_octets e (traffic_listed _ []) is
