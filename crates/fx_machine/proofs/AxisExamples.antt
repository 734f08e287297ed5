-- What names only the six axes of IPv4, and what doesn't, worked out by the definitions.
use Rattle.std.proofs.Common.{◌≡◌, ℕ, ◌<◌, ◌≤◌, true, false, List, [], ◌∷◌, All, get_or, Some, None, Ok, IfSome, refl, ap, arith}
use Rattle.std.specs.Prelude.{codes}
use Rattle.fx_elements.specs.declared.axis.Axis.{Axis}
use Rattle.fx_elements.specs.declared.axis.Axis.TheVariants.{Source, Destination, Protocol, SourcePort, DestinationPort, ClassOfService, Version, Source6, Destination6}
use Rattle.fx_boxes.specs.Boxes.{Bounds}
use Rattle.fx_layout.specs.declared.layout.Part.{Part}
use Rattle.fx_layout.specs.Keys.{Layout, Key, key_of}
use Rattle.fx_tables.specs.declared.observation.Selection.{Selection}
use Rattle.fx_tables.specs.declared.packet.Packet.{Packet}
use Rattle.fx_run_text.specs.declared.step.Step.TheVariants.{Cross}
use Rattle.fx_tables.specs.declared.traffic.Crossing.{Crossing}
use Rattle.fx_tables.specs.Network.{Net, DeviceEntry, Holder, Point}
use Rattle.fx_base.specs.Entries.{entry_numbered}
use Rattle.fx_tables.specs.Classes.{Class, IsOf}
use Rattle.fx_tables.specs.Occurrences.{occurrences}
use Rattle.fx_machine.specs.States.{opening}
use Rattle.fx_machine.specs.Acts.{Outcome}
use Rattle.fx_machine.specs.Steps.{after}
use Rattle.fx_tables.specs.NamedAxes.{AgreeOnAxes, FitsElsewhere, HasZerosElsewhere, HasSixValues, IsAlike, LayoutNamesOnly, RegionNamesOnly, PointNamesOnly, NamesOnly, ClassesNameOnly, is_of_six}
use Rattle.fx_machine.proofs.AlikePackets.{of_class_same}
use Rattle.fx_machine.proofs.AlikeClaims.{all_cons, all_nil}

-- the fields of the versions from one to another, and all else
abbrev of_versions : ℕ → ℕ → Bounds
of_versions low high = record {
  low = 0 ∷ 0 ∷ 0 ∷ 0 ∷ 0 ∷ 0 ∷ low ∷ 0 ∷ 0 ∷ [];
  high = 4294967295 ∷ 4294967295 ∷ 255
      ∷ 65535 ∷ 65535 ∷ 255 ∷ high ∷ 340282366920938463463374607431768211455 ∷ 340282366920938463463374607431768211455
      ∷ [];
}

-- by TCP to port 443, whatever else
abbrev to_port_443 : Bounds
to_port_443 = record {
  low = 0 ∷ 0 ∷ 6 ∷ 0 ∷ 443 ∷ 0 ∷ 0 ∷ 0 ∷ 0 ∷ [];
  high = 4294967295 ∷ 4294967295 ∷ 6 ∷ 65535 ∷ 443
      ∷ 255 ∷ 255 ∷ 340282366920938463463374607431768211455 ∷ 340282366920938463463374607431768211455 ∷ [];
}

abbrev part : Axis → ℕ → Part
part axis bits = record { axis = axis; bits = bits }

abbrev by_source : Layout
by_source = part Source 32 ∷ part Protocol 8 ∷ []

abbrev by_version : Layout
by_version = part Source 32 ∷ part Version 8 ∷ []

abbrev selection : Bounds → Selection
selection region = record { region = Some region; holder = Some 0 }

abbrev point : Bounds → Point
point region = record {
  interfaces = codes "eth0" ∷ [];
  ingress = true;
  egress = false;
  selections = selection region
      ∷ [];
}

abbrev device : Bounds → DeviceEntry
device region = record { points = point region ∷ []; caches = 0 ∷ []; processes = 0 ∷ [] }

abbrev holder : Layout → Holder
holder layout = record { layout = layout; exporters = 0 ∷ [] }

-- a meter that selects the packets of a region, and keeps and reports keys of these layouts
abbrev meter : Bounds → Layout → Layout → Net
meter region kept reported = record {
  devices = device region ∷ [];
  exporters = record { parallel = true; destinations = Some 0 ∷ [] } ∷ [];
  holders = holder kept ∷ [];
  processes = record { exporters = []; aggregations = [] } ∷ [];
  links = 0 ∷ [];
  report = 0;
  report_layout = reported;
}

-- into the meter
abbrev at : Crossing
at = record { device = 1; interface = codes "eth0"; inwards = true }

abbrev class : Bounds → Class
class region = record { region = region; paths = (at ∷ []) ∷ []; exempt = false }

-- ---- what names only the six

all_of_one : {A : Type 0} (P : A → Type 0) (x : A) → P x → All P (x ∷ [])
all_of_one P x h = all_cons P x [] h (all_nil P)

source_is_of_six : LayoutNamesOnly is_of_six by_source
source_is_of_six =
    all_cons (λ (p : Part). is_of_six p.axis ≡ true) (part Source 32) (part Protocol 8 ∷ []) refl
    (all_of_one (λ (p : Part). is_of_six p.axis ≡ true) (part Protocol 8) refl)

port_is_of_six : RegionNamesOnly is_of_six to_port_443
port_is_of_six Source is = absurd (cc)
port_is_of_six Destination is = absurd (cc)
port_is_of_six Protocol is = absurd (cc)
port_is_of_six SourcePort is = absurd (cc)
port_is_of_six DestinationPort is = absurd (cc)
port_is_of_six ClassOfService is = absurd (cc)
port_is_of_six Version is = (refl, refl)
port_is_of_six Source6 is = (refl, refl)
port_is_of_six Destination6 is = (refl, refl)

-- the net of a meter of what names only the six does so
meter_of_six : (region : Bounds) (kept reported : Layout) → RegionNamesOnly is_of_six region
    → LayoutNamesOnly is_of_six kept → LayoutNamesOnly is_of_six reported
    → NamesOnly is_of_six (meter region kept reported)
meter_of_six region kept reported selects keeps reports = record {
  holders = all_of_one (λ (h : Holder). LayoutNamesOnly is_of_six h.layout) (holder kept) keeps;
  report = reports;
  selections =
      all_of_one (λ (d : DeviceEntry). All (PointNamesOnly is_of_six) d.points) (device region)
      (all_of_one (PointNamesOnly is_of_six) (point region)
      (all_of_one (λ (s : Selection). IfSome s.region (RegionNamesOnly is_of_six)) (selection region) selects));
}

meter_is_of_six : NamesOnly is_of_six (meter to_port_443 by_source by_source)
meter_is_of_six = meter_of_six to_port_443 by_source by_source port_is_of_six source_is_of_six source_is_of_six

classes_are_of_six : ClassesNameOnly is_of_six (class to_port_443 ∷ [])
classes_are_of_six = all_of_one (λ (c : Class). RegionNamesOnly is_of_six c.region) (class to_port_443) port_is_of_six

-- ---- what names another

-- in what is kept
not_kept : NamesOnly is_of_six (meter to_port_443 by_version by_source) → ⊥
not_kept only =
    let is : false ≡ true = only.holders 0 (record { layout = []; exporters = [] }) (omega arith) 1 (part Version 8)
    (omega arith) in
    absurd (cc)

-- in what is reported
not_reported : NamesOnly is_of_six (meter to_port_443 by_source by_version) → ⊥
not_reported only = let is : false ≡ true = only.report 1 (part Version 8) (omega arith) in absurd (cc)

-- in what is selected: packets of IPv4 alone
version_is_named : RegionNamesOnly is_of_six (of_versions 4 4) → ⊥
version_is_named only = let is : 4 ≡ 0 = (only Version refl).0 in absurd (omega (arith, is))

not_selected : NamesOnly is_of_six (meter (of_versions 4 4) by_source by_source) → ⊥
not_selected only =
    version_is_named (only.selections 0 (device to_port_443) (omega arith) 0 (point to_port_443) (omega arith) 0
    (selection to_port_443) (omega arith))

not_of_class : ClassesNameOnly is_of_six (class (of_versions 4 4) ∷ []) → ⊥
not_of_class only = version_is_named (only 0 (class to_port_443) (omega arith))

-- ---- packets

-- from 10.1.2.3 to port 443 of 192.0.2.1 by TCP, with a version
abbrev packet : ℕ → Packet
packet version = record {
  fields = 167838211 ∷ 3221225985 ∷ 6 ∷ 49152 ∷ 443 ∷ 0 ∷ version ∷ 0 ∷ 0 ∷ [];
  octets = 100;
  class = 1;
  path = 1;
}

fits : (version : ℕ) → version < 256 → FitsElsewhere is_of_six (packet version).fields
fits version lt Source is = absurd (cc)
fits version lt Destination is = absurd (cc)
fits version lt Protocol is = absurd (cc)
fits version lt SourcePort is = absurd (cc)
fits version lt DestinationPort is = absurd (cc)
fits version lt ClassOfService is = absurd (cc)
fits version lt Version is = omega (arith, lt)
fits version lt Source6 is = omega arith
fits version lt Destination6 is = omega arith

agree : (v w : ℕ) → AgreeOnAxes is_of_six (packet v).fields (packet w).fields
agree v w Source is = refl
agree v w Destination is = refl
agree v w Protocol is = refl
agree v w SourcePort is = refl
agree v w DestinationPort is = refl
agree v w ClassOfService is = refl
agree v w Version is = absurd (cc)
agree v w Source6 is = refl
agree v w Destination6 is = refl

-- packets of two versions are alike on the six
alike_to : (version : ℕ) → version < 256 → IsAlike is_of_six (packet 4) (packet version)
alike_to version lt = record {
  octets = refl;
  class = refl;
  path = refl;
  agree = agree 4 version;
  first_fits = fits 4 (omega arith);
  second_fits = fits version lt;
}

-- a version past its 8 bits isn't one
not_alike : IsAlike is_of_six (packet 4) (packet 256) → ⊥
not_alike h = let most : 256 ≤ 255 = h.second_fits Version refl in absurd (omega (arith, most))

zeros : (version : ℕ) → HasZerosElsewhere is_of_six (packet version) → version ≡ 0
zeros version h = h Version refl

six : HasSixValues (record {
  fields = 167838211 ∷ 3221225985 ∷ 6 ∷ 49152 ∷ 443 ∷ 0 ∷ [];
  octets = 100;
  class = 1;
  path =
      1;
})
six = refl

-- so they are of the same class, and go the same way
abbrev customers : List Class
customers = class to_port_443 ∷ []

of_class : (version : ℕ) → version < 256 → IsOf (packet version) (entry_numbered customers 1)
of_class version lt = of_class_same is_of_six customers (packet 4) (packet version) classes_are_of_six
    (alike_to version lt) (refl, λ e. absurd (cc))

abbrev net : Net
net = meter to_port_443 by_source by_source

abbrev crossed : ℕ → Outcome
crossed version =
    let packets : List Packet = packet version ∷ [] in
    after net customers packets (Cross 1 1 (None ∷ [])) (opening net customers packets)

crosses : crossed 4 ≡ Ok (record (opening net customers []) {
  held = (record {
    key = record { layout = by_source; values = 167838211 ∷ 6 ∷ [] };
    counts =
        record { packets = 1; octets = 100 };
  } ∷ []) ∷ [];
})
unfolding crossed
crosses = refl

crosses_too : crossed 6 ≡ crossed 4
unfolding crossed
crosses_too = refl

-- one that selects by the version does tell such packets apart
of_version_4 : occurrences (meter (of_versions 4 4) by_source by_source) at (packet 4).fields
    ≡ record { point = 1; process = 1; holder = 0 } ∷ []
of_version_4 = refl

of_version_6 : occurrences (meter (of_versions 4 4) by_source by_source) at (packet 6).fields ≡ []
of_version_6 = refl

-- as does a layout that has it
keys_differ : key_of by_version (packet 4).fields ≡ key_of by_version (packet 6).fields → ⊥
keys_differ same =
    let versions : 4 ≡ 6 = ap (λ (k : Key). get_or k.values 1 0) same in
    absurd (omega (arith, versions))
