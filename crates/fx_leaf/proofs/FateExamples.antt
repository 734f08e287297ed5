-- Fates along chains and at forks are those that a reader expects.
use Rattle.std.proofs.Common.{◌≡◌, ℕ, true, false, List, [], ◌∷◌, Option, Some, None, refl}
use Rattle.std.specs.Prelude.{codes}
use Rattle.fx_elements.specs.declared.axis.Axis.TheVariants.{Source}
use Rattle.fx_elements.specs.Axes.{Fields}
use Rattle.fx_boxes.specs.Boxes.{Bounds}
use Rattle.fx_layout.specs.Keys.{Layout}
use Rattle.fx_tables.specs.declared.observation.Selection.{Selection}
use Rattle.fx_tables.specs.declared.traffic.Crossing.{Crossing}
use Rattle.fx_tables.specs.Network.{Net, Exporter, Process, Holder}
use Rattle.fx_leaf.specs.declared.verdict.Fate.TheVariants.{Never, Once, Many, Differing, Unassigned}
use Rattle.fx_leaf.specs.Fates.{both, all_happen, either, one_happens, fate, packet_fate}
use Rattle.fx_leaf.specs.Verdicts.{path_verdict, counter}

-- ---- fates together

-- counted here and counted there is counted twice
once_and_once : both Once Once ≡ Many
once_and_once = refl

once_and_never : both Once Never ≡ Once
once_and_never = refl

-- nothing happens
nothing : all_happen [] ≡ Never
nothing = refl

-- one of three that is unassigned is what has to be reported
unassigned_among : all_happen (Once ∷ Differing ∷ Unassigned ∷ []) ≡ Unassigned
unassigned_among = refl

differing_among : all_happen (Many ∷ Differing ∷ Never ∷ []) ≡ Differing
differing_among = refl

-- counted by one way or by another, it is counted once all the same
once_or_once : either Once Once ≡ Once
once_or_once = refl

once_or_never : either Once Never ≡ Differing
once_or_never = refl

many_or_once : either Many Once ≡ Differing
many_or_once = refl

never_or_unassigned : either Never Unassigned ≡ Unassigned
never_or_unassigned = refl

one_of_three : one_happens (Once ∷ Once ∷ Never ∷ []) ≡ Differing
one_of_three = refl

-- ---- networks with one meter

abbrev source : ℕ → Layout
source bits = record { axis = Source; bits = bits } ∷ []

abbrev all_fields : Bounds
all_fields = record {
  low = 0 ∷ 0 ∷ 0 ∷ 0 ∷ 0 ∷ 0 ∷ 0 ∷ 0 ∷ 0 ∷ [];
  high = 4294967295 ∷ 4294967295 ∷ 255 ∷ 65535 ∷ 65535
      ∷ 255 ∷ 255 ∷ 340282366920938463463374607431768211455 ∷ 340282366920938463463374607431768211455 ∷ [];
}

-- to 192.0.2.1, by TCP, from this address
abbrev from : ℕ → Fields
from address = address ∷ 3221225985 ∷ 6 ∷ 1000 ∷ 80 ∷ 0 ∷ 4 ∷ 0 ∷ 0 ∷ []

abbrev inwards : List Crossing
inwards = record { device = 1; interface = codes "eth0"; inwards = true } ∷ []

-- what selects the packets, where they are held, how records are sent, what comes to collect them and by which links,
-- and the
-- report of so many bits
abbrev net : List Selection → List Holder → List Exporter → List Process → List ℕ → ℕ → ℕ → Net
net selections holders exporters processes links report bits = record {
  devices = record {
    points = record {
      interfaces = codes "eth0" ∷ [];
      ingress = true;
      egress = false;
      selections =
          selections;
    } ∷ [];
    caches = [];
    processes = [];
  } ∷ [];
  exporters = exporters;
  holders = holders;
  processes = processes;
  links = links;
  report = report;
  report_layout = source bits;
}

abbrev all_packets : List Selection
all_packets = record { region = Some all_fields; holder = Some 0 } ∷ []

-- the meter's cache, which gives its records to these exporting processes
abbrev cache : List ℕ → List Holder
cache exporters = record { layout = source 32; exporters = exporters } ∷ []

-- to all of these destinations, and to one of them
abbrev all_of : List (Option ℕ) → Exporter
all_of destinations = record { parallel = true; destinations = destinations }

abbrev one_of : List (Option ℕ) → Exporter
one_of destinations = record { parallel = false; destinations = destinations }

-- a collecting process that sends records on, and one that doesn't
abbrev sending_on : ℕ → Process
sending_on exporter = record { exporters = exporter ∷ []; aggregations = [] }

abbrev ending : Process
ending = record { exporters = []; aggregations = [] }

-- ---- a chain

-- from the meter by one collector to another
abbrev chain : Exporter → ℕ → ℕ → Net
chain on report bits = net all_packets (cache (0 ∷ [])) (all_of (Some 0 ∷ []) ∷ on ∷ []) (sending_on 1 ∷ ending ∷ [])
    (0 ∷ 1 ∷ []) report bits

counted_at_end : packet_fate (chain (all_of (Some 1 ∷ [])) 1 32) (from 167838211) inwards ≡ Once
counted_at_end = refl

-- what is sent on behind the report isn't counted again
counted_on_the_way : packet_fate (chain (all_of (Some 1 ∷ [])) 0 32) (from 167838211) inwards ≡ Once
counted_on_the_way = refl

-- a record that is lost on its way to the report
lost_on_the_way : packet_fate (chain (all_of (None ∷ [])) 1 32) (from 167838211) inwards ≡ Never
lost_on_the_way = refl

-- one that may be
may_be_lost : packet_fate (chain (one_of (Some 1 ∷ None ∷ [])) 1 32) (from 167838211) inwards ≡ Differing
may_be_lost = refl

-- a packet that isn't metered at all
no_crossing : packet_fate (chain (all_of (Some 1 ∷ [])) 1 32) (from 167838211) [] ≡ Never
no_crossing = refl

-- the records of a /32 at the report, and those of a /16, where the report is of 24 bits
fine_enough : fate (chain (all_of (Some 1 ∷ [])) 1 24) 1 (record { layout = source 32; values = 167838211 ∷ [] }) ≡ Once
fine_enough = refl

too_coarse : fate (chain (all_of (Some 1 ∷ [])) 1 24) 0 (record { layout = source 16; values = 2561 ∷ [] }) ≡ Unassigned
too_coarse = refl

-- a record that is too coarse and lost before the report is just lost
coarse_and_lost : fate (chain (all_of (None ∷ [])) 1 24) 0 (record { layout = source 16; values = 2561 ∷ [] }) ≡ Never
coarse_and_lost = refl

-- a record that may be lost, and is unassigned where it isn't
coarse_or_lost : fate (chain (one_of (None ∷ Some 1 ∷ [])) 1 24) 0 (record { layout = source 16; values = 2561 ∷ [] })
    ≡ Unassigned
coarse_or_lost = refl

-- ---- a fork

-- by two collectors to the report
abbrev fork : Exporter → Process → Net
fork first second = net all_packets (cache (0 ∷ [])) (first ∷ all_of (Some 2 ∷ []) ∷ all_of (Some 3 ∷ []) ∷ [])
    (sending_on 1 ∷ second ∷ ending ∷ []) (0 ∷ 1 ∷ 2 ∷ 2 ∷ []) 2 32

-- by both of them
by_both : packet_fate (fork (all_of (Some 0 ∷ Some 1 ∷ [])) (sending_on 2)) (from 167838211) inwards ≡ Many
by_both = refl

-- by either of them
by_either : packet_fate (fork (one_of (Some 0 ∷ Some 1 ∷ [])) (sending_on 2)) (from 167838211) inwards ≡ Once
by_either = refl

-- by both, of which only the first sends records on
by_first : packet_fate (fork (all_of (Some 0 ∷ Some 1 ∷ [])) ending) (from 167838211) inwards ≡ Once
by_first = refl

-- by either, of which only the first does
by_first_if_chosen : packet_fate (fork (one_of (Some 0 ∷ Some 1 ∷ [])) ending) (from 167838211) inwards ≡ Differing
by_first_if_chosen = refl

-- a cache that names two exporting processes gives its records to both
two_exporters : packet_fate (net all_packets (cache (0 ∷ 1 ∷ [])) (all_of (Some 0 ∷ []) ∷ all_of (Some 0 ∷ []) ∷ [])
    (ending ∷ []) (0 ∷ []) 0 32) (from 167838211) inwards ≡ Many
two_exporters = refl

-- ---- filters

abbrev sources : ℕ → ℕ → Bounds
sources low high = record {
  low = low ∷ 0 ∷ 0 ∷ 0 ∷ 0 ∷ 0 ∷ 0 ∷ 0 ∷ 0 ∷ [];
  high = high ∷ 4294967295 ∷ 255 ∷ 65535
      ∷ 65535 ∷ 255 ∷ 255 ∷ 340282366920938463463374607431768211455 ∷ 340282366920938463463374607431768211455 ∷ [];
}

-- the sources up to this one go to the cache, and those from the other on go there too
abbrev shared : ℕ → ℕ → Net
shared last first =
    net (record { region = Some (sources 0 last); holder = Some 0 }
    ∷ record { region = Some (sources first 4294967295); holder = Some 0 } ∷ []) (cache (0 ∷ []))
    (all_of (Some 0 ∷ []) ∷ []) (ending ∷ []) (0 ∷ []) 0 32

-- 128.0.0.0 where the halves meet, overlap, and leave it out
halves : packet_fate (shared 2147483647 2147483648) (from 2147483648) inwards ≡ Once
halves = refl

overlap : packet_fate (shared 2147483648 2147483648) (from 2147483648) inwards ≡ Many
overlap = refl

gap : packet_fate (shared 2147483647 2147483649) (from 2147483648) inwards ≡ Never
gap = refl

-- all of the first half, and all of both, which a filter cuts
first_half : path_verdict (shared 2147483647 2147483648) (sources 0 2147483647) inwards ≡ Some Once
first_half = refl

both_halves : path_verdict (shared 2147483647 2147483648) all_fields inwards ≡ None
both_halves = refl

-- the second selection process counts the second half
counts_second : counter (shared 2147483647 2147483648) (sources 2147483648 4294967295) inwards
    ≡ Some (record { crossing = 1; point = 1; process = 2; verdict = Some Once })
counts_second = refl
