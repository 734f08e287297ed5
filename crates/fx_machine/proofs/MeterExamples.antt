-- Where packets are metered, and what a report can't tell, worked out by the definitions.
use Rattle.std.proofs.Common.{◌≡◌, ℕ, true, false, Bool, List, [], ◌∷◌, Option, Some, None, Ok, refl}
use Rattle.std.specs.Prelude.{codes}
use Rattle.fx_elements.specs.declared.axis.Axis.TheVariants.{Source}
use Rattle.fx_elements.specs.Axes.{Fields}
use Rattle.fx_boxes.specs.Boxes.{Bounds}
use Rattle.fx_layout.specs.Keys.{Layout}
use Rattle.fx_tables.specs.declared.observation.Selection.{Selection}
use Rattle.fx_tables.specs.declared.packet.Packet.{Packet}
use Rattle.fx_tables.specs.declared.record.Record.{Record}
use Rattle.fx_run_text.specs.declared.step.Step.TheVariants.{Cross, Expire, Arrive}
use Rattle.fx_tables.specs.declared.holder_name.HolderName.TheVariants.{Cache}
use Rattle.fx_tables.specs.declared.traffic.Crossing.{Crossing}
use Rattle.fx_tables.specs.Network.{Net, Point}
use Rattle.fx_tables.specs.Classes.{Class}
use Rattle.fx_tables.specs.Occurrences.{occurrences}
use Rattle.fx_machine.specs.States.{State, opening}
use Rattle.fx_machine.specs.Acts.{Outcome}
use Rattle.fx_machine.specs.Steps.{run}

-- the fields whose source is from one address to another
abbrev from_to : ℕ → ℕ → Bounds
from_to low high = record {
  low = low ∷ 0 ∷ 0 ∷ 0 ∷ 0 ∷ 0 ∷ 0 ∷ 0 ∷ 0 ∷ [];
  high = high ∷ 4294967295 ∷ 255 ∷ 65535
      ∷ 65535 ∷ 255 ∷ 255 ∷ 340282366920938463463374607431768211455 ∷ 340282366920938463463374607431768211455 ∷ [];
}

abbrev all_fields : Bounds
all_fields = from_to 0 4294967295

-- from this address to port 443 of 192.0.2.1, by TCP
abbrev from : ℕ → Fields
from address = address ∷ 3221225985 ∷ 6 ∷ 49152 ∷ 443 ∷ 0 ∷ 4 ∷ 0 ∷ 0 ∷ []

abbrev source : ℕ → Layout
source bits = record { axis = Source; bits = bits } ∷ []

-- a selection process that gives a cache the packets of a region
abbrev selecting : Option Bounds → ℕ → Selection
selecting region holder = record { region = region; holder = Some holder }

-- a point at the interface eth0, with these selection processes
abbrev point : Bool → Bool → List Selection → Point
point ingress egress selections = record {
  interfaces = codes "eth0" ∷ [];
  ingress = ingress;
  egress =
      egress;
  selections = selections;
}

-- a device with two caches, whose records of so many bits of the source go to a collector on another, which reports as
-- many
-- bits as it is asked for
abbrev net : List Point → ℕ → ℕ → Net
net points metered reported = record {
  devices = record { points = points; caches = 0 ∷ 1 ∷ []; processes = [] }
      ∷ record { points = []; caches = []; processes = 0 ∷ [] } ∷ [];
  exporters = record { parallel = true; destinations = Some 0 ∷ [] } ∷ [];
  holders = record { layout = source metered; exporters = 0 ∷ [] }
      ∷ record { layout = source metered; exporters = 0 ∷ [] } ∷ [];
  processes = record { exporters = []; aggregations = [] } ∷ [];
  links = 0 ∷ [];
  report = 0;
  report_layout = source reported;
}

abbrev crossing : List ℕ → Bool → Crossing
crossing interface inwards = record { device = 1; interface = interface; inwards = inwards }

-- ---- occurrences

-- one half of all addresses goes to the first cache and the other to the second
abbrev halves : List Selection
halves = selecting (Some (from_to 0 2147483647)) 0 ∷ selecting (Some (from_to 2147483648 4294967295)) 1 ∷ []

-- 127.255.255.255 is in the first half, and 128.0.0.0 in the second
last_of_first : occurrences (net (point true true halves ∷ []) 32 32) (crossing (codes "eth0") true) (from 2147483647)
    ≡ record { point = 1; process = 1; holder = 0 } ∷ []
last_of_first = refl

first_of_second : occurrences (net (point true true halves ∷ []) 32 32) (crossing (codes "eth0") true) (from 2147483648)
    ≡ record { point = 1; process = 2; holder = 1 } ∷ []
first_of_second = refl

-- a filter that doesn't select the packet
not_selected : occurrences (net (point true true (selecting (Some (from_to 2147483648 4294967295)) 0 ∷ []) ∷ []) 32 32)
    (crossing (codes "eth0") true) (from 2147483647) ≡ []
not_selected = refl

-- a selection process that selects no packet at all, and one without a cache
none_selected : occurrences (net (point true true
    (selecting None 0 ∷ record { region = Some all_fields; holder = None } ∷ []) ∷ []) 32 32)
    (crossing (codes "eth0") true) (from 167772161) ≡ []
none_selected = refl

-- a point that sees packets on their way in doesn't see one on its way out
wrong_way : occurrences (net (point true false halves ∷ []) 32 32) (crossing (codes "eth0") false) (from 167772161) ≡ []
wrong_way = refl

other_interface : occurrences (net (point true true halves ∷ []) 32 32) (crossing (codes "eth1") true) (from 167772161)
    ≡ []
other_interface = refl

-- the other device has no points, and there is no third
other_device : occurrences (net (point true true halves ∷ []) 32 32)
    (record { device = 2; interface = codes "eth0"; inwards = true }) (from 167772161) ≡ []
other_device = refl

-- two points at one interface, one for each way, and another for both: all that see the packet meter it, in order
two_points : occurrences (net (point false true halves ∷ point true false halves ∷ point true true halves ∷ []) 32 32)
    (crossing (codes "eth0") true) (from 167772161) ≡ record { point = 2; process = 1; holder = 0 }
    ∷ record { point = 3; process = 1; holder = 0 } ∷ []
two_points = refl

-- ---- what a report tells

abbrev inwards : List Class
inwards = record { region = all_fields; paths = (crossing (codes "eth0") true ∷ []) ∷ []; exempt = false } ∷ []

-- one packet from 10.1.2.3, metered and reported by so many bits of its source
after_one : ℕ → ℕ → Outcome
after_one metered reported =
    let all : Net = net (point true true (selecting (Some all_fields) 0 ∷ []) ∷ []) metered reported in
    let packets : List Packet = record { fields = from 167838211; octets = 100; class = 1; path = 1 } ∷ [] in
    run all inwards packets (Cross 1 1 (None ∷ []) ∷ Expire (Cache 1 1) 1 [] ∷ Arrive 1 1 [] ∷ [])
    (opening all inwards packets)

abbrev done : List Record → ℕ → State
done totals unassigned = record {
  coming = [];
  held = [] ∷ [] ∷ [];
  carried = [] ∷ [];
  totals = totals;
  unassigned =
      unassigned;
}

abbrev total : ℕ → ℕ → Record
total bits value = record {
  key = record { layout = source bits; values = value ∷ [] };
  counts =
      record { packets = 1; octets = 100 };
}

-- 10.1.2.0/24 is read from the whole address
assigned : after_one 32 24 ≡ Ok (done (total 24 655618 ∷ []) 0)
unfolding after_one
assigned = refl

-- 16 bits don't tell 24, so the record is unassigned, and stands in no total
unassigned : after_one 16 24 ≡ Ok (done [] 1)
unfolding after_one
unassigned = refl

-- 24 bits tell 24
just_assigned : after_one 24 24 ≡ Ok (done (total 24 655618 ∷ []) 0)
unfolding after_one
just_assigned = refl
