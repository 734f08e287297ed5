-- What it means that each packet is counted once, and exempt ones never, worked out for networks that lose one, count
-- one twice or though it is exempt, or can't tell one.
use Rattle.std.proofs.Common.{◌≡◌, ℕ, zero, suc, Bool, true, false, List, [], ◌∷◌, All, Option, Some, None, IfSome, Ok, refl, ap, if◌then◌else◌, arith}
use Rattle.std.specs.Prelude.{codes}
use Rattle.fx_base.specs.declared.counts.Counts.{Counts}
use Rattle.fx_elements.specs.declared.axis.Axis.TheVariants.{Source}
use Rattle.fx_layout.specs.Keys.{Layout, Key}
use Rattle.fx_tables.specs.declared.packet.Packet.{Packet}
use Rattle.fx_tables.specs.declared.record.Record.{Record}
use Rattle.fx_run_text.specs.declared.step.Step.{Step}
use Rattle.fx_run_text.specs.declared.step.Step.TheVariants.{Cross, Expire, Arrive}
use Rattle.fx_tables.specs.declared.holder_name.HolderName.TheVariants.{Cache}
use Rattle.fx_tables.specs.declared.traffic.Crossing.{Crossing}
use Rattle.fx_tables.specs.Network.{Net, Exporter}
use Rattle.fx_base.specs.Entries.{entry_numbered}
use Rattle.fx_tables.specs.Classes.{Class, IsOf}
use Rattle.fx_machine.specs.States.{State, opening, Complete}
use Rattle.fx_machine.specs.Steps.{run}
use Rattle.fx_machine.specs.Sums.{plain_sum, total_at, one_more, IsBelow, SumsFit}
use Rattle.fx_machine.specs.Claim.{CountsEachOnce, ExactlyOnce}
use Rattle.fx_machine.proofs.RunsAreMoves.{runs_of}

abbrev pub source : ℕ → Layout
source bits = record { axis = Source; bits = bits } ∷ []

-- a key of so many leading bits of the source
abbrev key : ℕ → ℕ → Key
key bits value = record { layout = source bits; values = value ∷ [] }

abbrev counts : ℕ → ℕ → Counts
counts packets octets = record { packets = packets; octets = octets }

-- a packet from this address to port 443 of 192.0.2.1, by TCP
abbrev packet : ℕ → ℕ → Packet
packet address octets = record {
  fields = address ∷ 3221225985 ∷ 6 ∷ 49152 ∷ 443 ∷ 0 ∷ 4 ∷ 0 ∷ 0 ∷ [];
  octets =
      octets;
  class = 1;
  path = 1;
}

-- ---- a meter and a collector

-- whether packets that go out are metered too, the leading bits of the source by which they are, how records are sent,
-- and the
-- bits of the report
abbrev net_with : Bool → ℕ → Exporter → ℕ → Net
net_with egress metered exporter reported = record {
  devices = record {
    points = record {
      interfaces = codes "eth0" ∷ codes "eth1" ∷ [];
      ingress = true;
      egress = egress;
      selections = record {
        region = Some (record {
          low = 0 ∷ 0 ∷ 0 ∷ 0 ∷ 0 ∷ 0 ∷ 0 ∷ 0 ∷ 0 ∷ [];
          high = 4294967295 ∷ 4294967295 ∷ 255 ∷ 65535 ∷ 65535 ∷ 255
              ∷ 255 ∷ 340282366920938463463374607431768211455 ∷ 340282366920938463463374607431768211455 ∷ [];
        });
        holder =
            Some 0;
      } ∷ [];
    } ∷ [];
    caches = 0 ∷ [];
    processes = [];
  } ∷ record { points = []; caches = []; processes = 0 ∷ [] } ∷ [];
  exporters = exporter ∷ [];
  holders = record { layout = source metered; exporters = 0 ∷ [] } ∷ [];
  processes = record { exporters = []; aggregations = [] } ∷ [];
  links = 0 ∷ [];
  report = 0;
  report_layout = source reported;
}

-- what comes in is metered and reported by its whole address
abbrev pub net : Exporter → Net
net exporter = net_with false 32 exporter 32

abbrev inwards : Crossing
inwards = record { device = 1; interface = codes "eth0"; inwards = true }

abbrev outwards : Crossing
outwards = record { device = 1; interface = codes "eth1"; inwards = false }

-- the packets from 10.0.0.0/8, all of which make these crossings, and may be exempt
abbrev class_of : Bool → List Crossing → List Class
class_of exempt path = record {
  region = record {
    low = 167772160 ∷ 0 ∷ 0 ∷ 0 ∷ 0 ∷ 0 ∷ 0 ∷ 0 ∷ 0 ∷ [];
    high = 184549375 ∷ 4294967295 ∷ 255 ∷ 65535
        ∷ 65535 ∷ 255 ∷ 255 ∷ 340282366920938463463374607431768211455 ∷ 340282366920938463463374607431768211455 ∷ [];
  };
  paths = path ∷ [];
  exempt = exempt;
} ∷ []

abbrev crossing : List Crossing → List Class
crossing path = class_of false path

abbrev pub customers : List Class
customers = crossing (inwards ∷ [])

abbrev pub first_packet : Packet
first_packet = packet 167772161 1500

-- from 10.0.0.1 and 10.0.0.2
abbrev pub two : List Packet
two = first_packet ∷ packet 167772162 60 ∷ []

-- the first of them only
abbrev pub one : List Packet
one = first_packet ∷ []

abbrev pub cross_both : List Step → List Step
cross_both steps = Cross 1 1 (None ∷ []) ∷ Cross 2 1 (None ∷ []) ∷ steps

-- the state with these records in the cache, on the link and in the totals
abbrev pub having : List Record → List Record → List Record → State
having held carried totals = record {
  coming = [];
  held = held ∷ [];
  carried = carried ∷ [];
  totals =
      totals;
  unassigned = 0;
}

abbrev pub first : Record
first = record { key = key 32 167772161; counts = counts 1 1500 }

abbrev pub second : Record
second = record { key = key 32 167772162; counts = counts 1 60 }

-- to the link or to a destination that has none, and to both
abbrev pub by_choice : Exporter
by_choice = record { parallel = false; destinations = Some 0 ∷ None ∷ [] }

abbrev pub in_parallel : Exporter
in_parallel = record { parallel = true; destinations = Some 0 ∷ None ∷ [] }

-- ---- a packet that is lost

abbrev fallback : Net
fallback = net by_choice

-- the first record reaches the collector, and the second is gone
abbrev losing : List Step
losing = cross_both (Expire (Cache 1 1) 1 (Some 1 ∷ []) ∷ Expire (Cache 1 1) 1 (Some 2 ∷ []) ∷ Arrive 1 1 [] ∷ [])

abbrev lost : State
lost = having [] [] (first ∷ [])

loses : run fallback customers two losing (opening fallback customers two) ≡ Ok lost
loses = refl

-- it is a complete run
is_complete : Complete lost
is_complete = record { crossed = refl; nothing_held = refl; nothing_carried = refl }

-- over packets of the class
are_customers : All (λ p. IsOf p (entry_numbered customers p.class)) two
are_customers zero d h = (refl, λ e. absurd (cc))
are_customers (suc zero) d h = (refl, λ e. absurd (cc))
are_customers (suc (suc k)) d h = absurd (omega (arith, h))

-- whose sums are small, whichever of them a key has
are_small : (a b : Bool) → IfSome (if a then Some (one_more 1500 (if b then Some (one_more 60 None) else None))
    else (if b then Some (one_more 60 None) else None)) IsBelow
are_small true true = (omega arith, omega arith)
are_small true false = (omega arith, omega arith)
are_small false true = (omega arith, omega arith)
are_small false false = tt

sums_fit : SumsFit (source 32) two
sums_fit key = are_small _ _

-- the packet from 10.0.0.2 isn't in the totals
missing : total_at lost.totals (key 32 167772162) ≡ None
missing = refl

sent : plain_sum (source 32) (key 32 167772162) two ≡ Some (counts 1 60)
sent = refl

-- so this network doesn't count each packet once
pub not_exactly_once : ExactlyOnce fallback customers → ⊥
not_exactly_once claim =
    let each : CountsEachOnce fallback two lost =
    claim two are_customers sums_fit lost (runs_of fallback customers two losing (opening fallback customers two)
    lost loses) is_complete in
    let same : None ≡ Some (counts 1 60) = each.totals (key 32 167772162) in
    absurd (cc)

-- though a run over one packet that goes to the first destination does, at each key
one_counted : run fallback customers one
    (Cross 1 1 (None ∷ []) ∷ Expire (Cache 1 1) 1 (Some 1 ∷ []) ∷ Arrive 1 1 [] ∷ []) (opening fallback customers one)
    ≡ Ok (having [] [] (first ∷ []))
one_counted = refl

counts_one : CountsEachOnce fallback one (having [] [] (first ∷ []))
counts_one = record { totals = λ key. refl; assigned = refl }

-- ---- a packet that is counted twice, and one that isn't assigned

of_class : (exempt : Bool) (path : List Crossing)
    → All (λ p. IsOf p (entry_numbered (class_of exempt path) p.class)) one
of_class exempt path zero d h = (refl, λ e. absurd (cc))
of_class exempt path (suc k) d h = absurd (omega (arith, h))

is_small : (a : Bool) → IfSome (if a then Some (one_more 1500 None) else None) IsBelow
is_small true = (omega arith, omega arith)
is_small false = tt

-- where it comes in and where it goes out
abbrev metering_both : Net
metering_both = net_with true 32 in_parallel 32

abbrev doubled : State
doubled = having [] [] (record { key = key 32 167772161; counts = counts 2 3000 } ∷ [])

abbrev doubling : List Step
doubling = Cross 1 1 (None ∷ []) ∷ Cross 1 2 (Some 1 ∷ []) ∷ Expire (Cache 1 1) 1 [] ∷ Arrive 1 1 [] ∷ []

doubles : run metering_both (crossing (inwards ∷ outwards ∷ [])) one doubling
    (opening metering_both (crossing (inwards ∷ outwards ∷ [])) one) ≡ Ok doubled
doubles = refl

abbrev packets_of : Option Counts → ℕ
packets_of None = 0
packets_of (Some c) = c.packets

pub not_once_but_twice : ExactlyOnce metering_both (crossing (inwards ∷ outwards ∷ [])) → ⊥
not_once_but_twice claim =
    let each : CountsEachOnce metering_both one doubled =
    claim one (of_class false (inwards ∷ outwards ∷ [])) (λ key. is_small _) doubled
    (runs_of _ _ one doubling _ doubled doubles)
    (record { crossed = refl; nothing_held = refl; nothing_carried = refl }) in
    let same : 2 ≡ 1 = ap packets_of (each.totals (key 32 167772161)) in
    absurd (omega (arith, same))

-- records of 16 bits can't be stated by 24
abbrev metering_less : Net
metering_less = net_with false 16 in_parallel 24

abbrev opaque : State
opaque = record { coming = []; held = [] ∷ []; carried = [] ∷ []; totals = []; unassigned = 1 }

abbrev reaching : List Step
reaching = Cross 1 1 (None ∷ []) ∷ Expire (Cache 1 1) 1 [] ∷ Arrive 1 1 [] ∷ []

does_not_tell : run metering_less customers one reaching (opening metering_less customers one) ≡ Ok opaque
does_not_tell = refl

pub not_once_but_unassigned : ExactlyOnce metering_less customers → ⊥
not_once_but_unassigned claim =
    let each : CountsEachOnce metering_less one opaque =
    claim one (of_class false (inwards ∷ [])) (λ key. is_small _) opaque
    (runs_of _ _ one reaching _ opaque does_not_tell)
    (record { crossed = refl; nothing_held = refl; nothing_carried = refl }) in
    let none : 1 ≡ 0 = each.assigned in
    absurd (omega (arith, none))

-- ---- a packet that must not be counted, and is

abbrev exempted : List Class
exempted = class_of true (inwards ∷ [])

abbrev counting : Net
counting = net in_parallel

counts_exempt : run counting exempted one reaching (opening counting exempted one) ≡ Ok (having [] [] (first ∷ []))
counts_exempt = refl

pub not_never_but_once : ExactlyOnce counting exempted → ⊥
not_never_but_once claim =
    let each : CountsEachOnce counting [] (having [] [] (first ∷ [])) =
    claim one (of_class true (inwards ∷ [])) (λ key. tt) (having [] [] (first ∷ []))
    (runs_of _ _ one reaching _ (having [] [] (first ∷ [])) counts_exempt)
    (record { crossed = refl; nothing_held = refl; nothing_carried = refl }) in
    let same : Some (counts 1 1500) ≡ None = each.totals (key 32 167772161) in
    absurd (cc)
