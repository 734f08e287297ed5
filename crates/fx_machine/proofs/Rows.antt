-- Runs worked out by the definitions.
use Rattle.std.proofs.Common.{◌≡◌, ℕ, true, false, List, [], ◌∷◌, Some, None, Ok, Err, refl}
use Rattle.std.specs.Prelude.{codes}
use Rattle.fx_elements.specs.declared.axis.Axis.TheVariants.{Source}
use Rattle.fx_boxes.specs.Boxes.{Bounds}
use Rattle.fx_layout.specs.Keys.{Layout}
use Rattle.fx_tables.specs.declared.packet.Packet.{Packet}
use Rattle.fx_tables.specs.declared.record.Record.{Record}
use Rattle.fx_run_text.specs.declared.step.Step.{Step}
use Rattle.fx_run_text.specs.declared.step.Step.TheVariants.{Cross, Expire, Arrive}
use Rattle.fx_tables.specs.declared.holder_name.HolderName.TheVariants.{Cache, Aggregation as AggregationOf}
use Rattle.fx_tables.specs.declared.traffic.Crossing.{Crossing}
use Rattle.fx_tables.specs.Network.{Net, DeviceEntry, Exporter}
use Rattle.fx_tables.specs.Classes.{Class}
use Rattle.fx_machine.specs.States.{State, opening}
use Rattle.fx_machine.specs.Acts.{Outcome}
use Rattle.fx_machine.specs.Steps.{run}

abbrev source : ℕ → Layout
source bits = record { axis = Source; bits = bits } ∷ []

abbrev all_fields : Bounds
all_fields = record {
  low = 0 ∷ 0 ∷ 0 ∷ 0 ∷ 0 ∷ 0 ∷ 0 ∷ 0 ∷ 0 ∷ [];
  high = 4294967295 ∷ 4294967295 ∷ 255 ∷ 65535 ∷ 65535
      ∷ 255 ∷ 255 ∷ 340282366920938463463374607431768211455 ∷ 340282366920938463463374607431768211455 ∷ [];
}

-- 10.0.0.0/8
abbrev ten : Bounds
ten = record {
  low = 167772160 ∷ 0 ∷ 0 ∷ 0 ∷ 0 ∷ 0 ∷ 0 ∷ 0 ∷ 0 ∷ [];
  high = 184549375 ∷ 4294967295 ∷ 255 ∷ 65535 ∷ 65535
      ∷ 255 ∷ 255 ∷ 340282366920938463463374607431768211455 ∷ 340282366920938463463374607431768211455 ∷ [];
}

-- a packet from this address to 192.0.2.1
abbrev packet : ℕ → ℕ → Packet
packet address octets = record {
  fields = address ∷ 3221225985 ∷ 6 ∷ 1000 ∷ 80 ∷ 0 ∷ 4 ∷ 0 ∷ 0 ∷ [];
  octets =
      octets;
  class = 1;
  path = 1;
}

-- a device with a point at these interfaces, all of whose packets go to one cache
abbrev meter : List (List ℕ) → DeviceEntry
meter names = record {
  points = record {
    interfaces = names;
    ingress = true;
    egress = true;
    selections =
        record { region = Some all_fields; holder = Some 0 } ∷ [];
  } ∷ [];
  caches = 0 ∷ [];
  processes = [];
}

abbrev collector : ℕ → DeviceEntry
collector process = record { points = []; caches = []; processes = process ∷ [] }

abbrev to_link : ℕ → Exporter
to_link link = record { parallel = true; destinations = Some link ∷ [] }

abbrev total : ℕ → ℕ → ℕ → ℕ → Record
total bits value packets octets = record {
  key = record { layout = source bits; values = value ∷ [] };
  counts =
      record { packets = packets; octets = octets };
}

-- ---- a meter and a collector

abbrev pair : List (List ℕ) → Net
pair names = record {
  devices = meter names ∷ collector 0 ∷ [];
  exporters = to_link 0 ∷ [];
  holders = record { layout = source 32; exporters = 0 ∷ [] } ∷ [];
  processes = record { exporters = []; aggregations = [] } ∷ [];
  links = 0 ∷ [];
  report = 0;
  report_layout = source 32;
}

abbrev inwards : Crossing
inwards = record { device = 1; interface = codes "eth0"; inwards = true }

abbrev outwards : Crossing
outwards = record { device = 1; interface = codes "eth1"; inwards = false }

abbrev class_of : List Crossing → List Class
class_of crossings = record { region = ten; paths = crossings ∷ []; exempt = false } ∷ []

abbrev two : ℕ → List Packet
two last = packet 167772161 18446744073709551614 ∷ packet 167772161 last ∷ []

after_two : ℕ → Outcome
after_two last =
    run (pair (codes "eth0" ∷ [])) (class_of (inwards ∷ [])) (two last)
    (Cross 1 1 (None ∷ []) ∷ Cross 2 1 (Some 1 ∷ []) ∷ Expire (Cache 1 1) 1 [] ∷ Arrive 1 1 [] ∷ [])
    (opening (pair (codes "eth0" ∷ [])) (class_of (inwards ∷ [])) (two last))

abbrev done_with : List Record → State
done_with totals = record { coming = []; held = [] ∷ []; carried = [] ∷ []; totals = totals; unassigned = 0 }

sums_two : after_two 1 ≡ Ok (done_with (total 32 167772161 2 18446744073709551615 ∷ []))
unfolding after_two
sums_two = refl

-- past 2 to the 64 the octets wrap, and the key stays
wraps : after_two 2 ≡ Ok (done_with (total 32 167772161 2 0 ∷ []))
unfolding after_two
wraps = refl

-- without its last step a record is on the link
after_three : Outcome
after_three =
    run (pair (codes "eth0" ∷ [])) (class_of (inwards ∷ [])) (two 1)
    (Cross 1 1 (None ∷ []) ∷ Cross 2 1 (Some 1 ∷ []) ∷ Expire (Cache 1 1) 1 [] ∷ [])
    (opening (pair (codes "eth0" ∷ [])) (class_of (inwards ∷ [])) (two 1))

carries : after_three ≡ Ok (record {
  coming = [];
  held = [] ∷ [];
  carried =
      (total 32 167772161 2 18446744073709551615 ∷ []) ∷ [];
  totals = [];
  unassigned = 0;
})
unfolding after_three
carries = refl

-- ---- a packet that is metered where it comes in and where it goes out

abbrev both : Net
both = pair (codes "eth0" ∷ codes "eth1" ∷ [])

abbrev through : List Class
through = class_of (inwards ∷ outwards ∷ [])

after_both : Outcome
after_both =
    run both through (packet 167772161 100 ∷ [])
    (Cross 1 1 (None ∷ []) ∷ Cross 1 2 (Some 1 ∷ []) ∷ Expire (Cache 1 1) 1 [] ∷ Arrive 1 1 [] ∷ [])
    (opening both through (packet 167772161 100 ∷ []))

counts_twice : after_both ≡ Ok (done_with (total 32 167772161 2 200 ∷ []))
unfolding after_both
counts_twice = refl

-- the crossings of a packet may be made in any order, each once
after_again : Outcome
after_again =
    run both through (packet 167772161 100 ∷ []) (Cross 1 2 (None ∷ []) ∷ Cross 1 2 (None ∷ []) ∷ [])
    (opening both through (packet 167772161 100 ∷ []))

made_once : after_again ≡ Err 851
unfolding after_again
made_once = refl

-- ---- two aggregations

-- the first keeps so many bits; the second wants 24 bits of 10.1.2.0 and keeps 16
abbrev chain : ℕ → Net
chain bits = record {
  devices = meter (codes "eth0" ∷ []) ∷ collector 0 ∷ collector 1 ∷ collector 2 ∷ [];
  exporters = to_link 0 ∷ to_link 1 ∷ to_link 2 ∷ [];
  holders = record { layout = source 32; exporters = 0 ∷ [] } ∷ record { layout = source bits; exporters = 1 ∷ [] }
      ∷ record { layout = source 16; exporters = 2 ∷ [] } ∷ [];
  processes = record { exporters = []; aggregations = record { holder = 1; matches = [] } ∷ [] }
      ∷ record {
        exporters = [];
        aggregations =
            record { holder = 2; matches = record { axis = Source; bits = 24; value = 655618 } ∷ [] } ∷ [];
      }
      ∷ record { exporters = []; aggregations = [] } ∷ [];
  links = 0 ∷ 1 ∷ 2 ∷ [];
  report = 2;
  report_layout = source 16;
}

abbrev from_two : List Packet
from_two = packet 167838211 100 ∷ packet 167838212 50 ∷ []

abbrev up_to_first : List Step
up_to_first =
    Cross 1 1 (None ∷ []) ∷ Cross 2 1 (None ∷ []) ∷ Expire (Cache 1 1) 1 [] ∷ Expire (Cache 1 1) 1 []
    ∷ Arrive 1 1 (None ∷ []) ∷ Arrive 1 1 (Some 1 ∷ []) ∷ Expire (AggregationOf 2 1 1) 1 [] ∷ []

abbrev then_do : List Step → List Step → List Step
then_do [] more = more
then_do (step ∷ steps) more = step ∷ then_do steps more

abbrev gone_through : List Record → State
gone_through totals = record {
  coming = [];
  held = [] ∷ [] ∷ [] ∷ [];
  carried = [] ∷ [] ∷ [] ∷ [];
  totals =
      totals;
  unassigned = 0;
}

after_chain : ℕ → List Step → Outcome
after_chain bits more = run (chain bits) (class_of (inwards ∷ [])) from_two (then_do up_to_first more)
    (opening (chain bits) (class_of (inwards ∷ [])) from_two)

aggregates : after_chain 24 (Arrive 2 1 (None ∷ []) ∷ Expire (AggregationOf 3 1 1) 1 [] ∷ Arrive 3 1 [] ∷ [])
    ≡ Ok (gone_through (total 16 2561 2 150 ∷ []))
unfolding after_chain
aggregates = refl

-- from 16 bits the second can't read 24, and takes nothing
loses : after_chain 16 (Arrive 2 1 [] ∷ []) ≡ Ok (gone_through [])
unfolding after_chain
loses = refl
