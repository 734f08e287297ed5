-- The fates and verdicts of some networks are those that a reader expects.
use Rattle.std.proofs.Common.{◌≡◌, ℕ, true, false, List, [], ◌∷◌, Some, None, refl}
use Rattle.std.specs.Prelude.{codes}
use Rattle.fx_elements.specs.declared.axis.Axis.TheVariants.{Source}
use Rattle.fx_elements.specs.Axes.{Fields}
use Rattle.fx_boxes.specs.Boxes.{Bounds}
use Rattle.fx_layout.specs.Keys.{Layout}
use Rattle.fx_tables.specs.declared.aggregation.MatchEntry.{MatchEntry}
use Rattle.fx_tables.specs.declared.traffic.Crossing.{Crossing}
use Rattle.fx_tables.specs.Network.{Net, DeviceEntry, Exporter}
use Rattle.fx_leaf.specs.Verdicts.{path_verdict, counter}
use Rattle.fx_leaf.specs.declared.verdict.Fate.TheVariants.{Never, Once, Many, Differing, Unassigned}
use Rattle.fx_leaf.specs.Fates.{packet_fate}

abbrev source : ℕ → Layout
source bits = record { axis = Source; bits = bits } ∷ []

abbrev all_fields : Bounds
all_fields = record {
  low = 0 ∷ 0 ∷ 0 ∷ 0 ∷ 0 ∷ 0 ∷ 0 ∷ 0 ∷ 0 ∷ [];
  high = 4294967295 ∷ 4294967295 ∷ 255 ∷ 65535 ∷ 65535
      ∷ 255 ∷ 255 ∷ 340282366920938463463374607431768211455 ∷ 340282366920938463463374607431768211455 ∷ [];
}

-- from 10.1.2.3 to 192.0.2.1, by TCP
abbrev a_packet : Fields
a_packet = 167838211 ∷ 3221225985 ∷ 6 ∷ 1000 ∷ 80 ∷ 0 ∷ 4 ∷ 0 ∷ 0 ∷ []

-- a device with two interfaces at one point, all of whose packets go to one cache
abbrev meter : DeviceEntry
meter = record {
  points = record {
    interfaces = codes "eth0" ∷ codes "eth1" ∷ [];
    ingress = true;
    egress = true;
    selections =
        record { region = Some all_fields; holder = Some 0 } ∷ [];
  } ∷ [];
  caches = 0 ∷ [];
  processes = [];
}

abbrev collector : ℕ → DeviceEntry
collector process = record { points = []; caches = []; processes = process ∷ [] }

abbrev inwards : Crossing
inwards = record { device = 1; interface = codes "eth0"; inwards = true }

abbrev outwards : Crossing
outwards = record { device = 1; interface = codes "eth1"; inwards = false }

-- ---- a meter and a collector

-- the cache's records, how they are sent, and the report
abbrev pair : Layout → Exporter → Layout → Net
pair metered exporter reported = record {
  devices = meter ∷ collector 0 ∷ [];
  exporters = exporter ∷ [];
  holders = record { layout = metered; exporters = 0 ∷ [] } ∷ [];
  processes = record { exporters = []; aggregations = [] } ∷ [];
  links = 0 ∷ [];
  report = 0;
  report_layout = reported;
}

abbrev one_destination_verdict : Exporter
one_destination_verdict = record { parallel = true; destinations = Some 0 ∷ [] }

-- one meter on the path
one_meter : packet_fate (pair (source 32) one_destination_verdict (source 32)) a_packet (inwards ∷ []) ≡ Once
one_meter = refl

-- the same meter twice on the path
metered_twice : packet_fate (pair (source 32) one_destination_verdict (source 32)) a_packet (inwards ∷ outwards ∷ [])
    ≡ Many
metered_twice = refl

-- another interface
not_metered : packet_fate (pair (source 32) one_destination_verdict (source 32)) a_packet
    (record { device = 1; interface = codes "eth2"; inwards = true } ∷ []) ≡ Never
not_metered = refl

-- a fallback destination that has no link
fallback : packet_fate (pair (source 32) (record { parallel = false; destinations = Some 0 ∷ None ∷ [] }) (source 32))
    a_packet (inwards ∷ []) ≡ Differing
fallback = refl

-- a fallback destination with the same link
same_fallback : packet_fate (pair (source 32) (record { parallel = false; destinations = Some 0 ∷ Some 0 ∷ [] })
    (source 32)) a_packet (inwards ∷ []) ≡ Once
same_fallback = refl

-- the same link twice, in parallel
sent_twice : packet_fate (pair (source 32) (record { parallel = true; destinations = Some 0 ∷ Some 0 ∷ [] })
    (source 32)) a_packet (inwards ∷ []) ≡ Many
sent_twice = refl

-- a report that is finer than the records
finer_report : packet_fate (pair (source 16) one_destination_verdict (source 24)) a_packet (inwards ∷ []) ≡ Unassigned
finer_report = refl

-- a report that is coarser than the records
coarser_report : packet_fate (pair (source 24) one_destination_verdict (source 16)) a_packet (inwards ∷ []) ≡ Once
coarser_report = refl

-- ---- a mediator between them, which aggregates to /8 what matches

-- 10.1.2.0/24
abbrev in_one_net : MatchEntry
in_one_net = record { axis = Source; bits = 24; value = 655618 }

abbrev mediated : Layout → List MatchEntry → Net
mediated metered matches = record {
  devices = meter ∷ collector 0 ∷ collector 1 ∷ [];
  exporters = one_destination_verdict ∷ record { parallel = true; destinations = Some 1 ∷ [] } ∷ [];
  holders = record { layout = metered; exporters = 0 ∷ [] } ∷ record { layout = source 8; exporters = 1 ∷ [] } ∷ [];
  processes = record { exporters = []; aggregations = record { holder = 1; matches = matches } ∷ [] }
      ∷ record { exporters = []; aggregations = [] } ∷ [];
  links = 0 ∷ 1 ∷ [];
  report = 1;
  report_layout = source 8;
}

-- its match can be read from a /32 and holds
matched : packet_fate (mediated (source 32) (in_one_net ∷ [])) a_packet (inwards ∷ []) ≡ Once
matched = refl

-- its match can be read and doesn't hold: 10.1.3.3
not_matched : packet_fate (mediated (source 32) (in_one_net ∷ []))
    (167838467 ∷ 3221225985 ∷ 6 ∷ 1000 ∷ 80 ∷ 0 ∷ 4 ∷ 0 ∷ 0 ∷ []) (inwards ∷ []) ≡ Never
not_matched = refl

-- its match can't be read from a /16
too_coarse : packet_fate (mediated (source 16) (in_one_net ∷ [])) a_packet (inwards ∷ []) ≡ Never
too_coarse = refl

-- ---- verdicts on regions

-- the values of source addresses from one to another
abbrev from_to : ℕ → ℕ → Bounds
from_to low high = record {
  low = low ∷ 0 ∷ 0 ∷ 0 ∷ 0 ∷ 0 ∷ 0 ∷ 0 ∷ 0 ∷ [];
  high = high ∷ 4294967295 ∷ 255 ∷ 65535
      ∷ 65535 ∷ 255 ∷ 255 ∷ 340282366920938463463374607431768211455 ∷ 340282366920938463463374607431768211455 ∷ [];
}

-- all of 10.1.2.0/24 match
all_match : path_verdict (mediated (source 32) (in_one_net ∷ [])) (from_to 167838208 167838463) (inwards ∷ [])
    ≡ Some Once
all_match = refl

-- none of 10.1.3.0/24 do
none_match : path_verdict (mediated (source 32) (in_one_net ∷ [])) (from_to 167838464 167838719) (inwards ∷ [])
    ≡ Some Never
none_match = refl

-- one address more is cut
some_match : path_verdict (mediated (source 32) (in_one_net ∷ [])) (from_to 167838208 167838464) (inwards ∷ []) ≡ None
some_match = refl

-- a match that can't be read cuts nothing
unread_match : path_verdict (mediated (source 16) (in_one_net ∷ [])) (from_to 167838208 167838464) (inwards ∷ [])
    ≡ Some Never
unread_match = refl

-- two halves of a match on one axis are no packet's
no_match : path_verdict (mediated (source 32)
    (record { axis = Source; bits = 1; value = 0 } ∷ record { axis = Source; bits = 1; value = 1 } ∷ [])) all_fields
    (inwards ∷ []) ≡ Some Never
no_match = refl

-- which selection process counts
who_counts : counter (mediated (source 32) (in_one_net ∷ [])) (from_to 167838208 167838463) (inwards ∷ [])
    ≡ Some (record { crossing = 1; point = 1; process = 1; verdict = Some Once })
who_counts = refl
