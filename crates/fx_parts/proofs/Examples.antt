-- A network with a part, and with what is none.
use Rattle.std.proofs.Common.{◌≡◌, ℕ, zero, suc, true, false, List, [], ◌∷◌, Some, refl, subst, ap, slice_get}
use Rattle.std.specs.Prelude.{codes}
use Rattle.fx_elements.specs.declared.axis.Axis.TheVariants.{Source}
use Rattle.fx_elements.specs.Axes.{Fields}
use Rattle.fx_boxes.specs.Boxes.{Bounds}
use Rattle.fx_layout.specs.Keys.{Layout}
use Rattle.fx_tables.specs.declared.traffic.Crossing.{Crossing}
use Rattle.fx_tables.specs.Network.{Net, DeviceEntry, Process}
use Rattle.fx_leaf.specs.declared.verdict.Fate.TheVariants.{Never, Once, Many}
use Rattle.fx_leaf.specs.Fates.{packet_fate}
use Rattle.fx_parts.specs.Meaning.{Sending, Handling, handling_of}
use Rattle.fx_parts.specs.Checks.{is_part}
use Rattle.fx_parts.specs.Meters.{meters_alike}
use Rattle.fx_parts.specs.Parts.{IsPart, MetersTheSame, handling_in}

abbrev source : Layout
source = record { axis = Source; bits = 32 } ∷ []

abbrev all_fields : Bounds
all_fields = record {
  low = 0 ∷ 0 ∷ 0 ∷ 0 ∷ 0 ∷ 0 ∷ 0 ∷ 0 ∷ 0 ∷ [];
  high = 4294967295 ∷ 4294967295 ∷ 255 ∷ 65535 ∷ 65535
      ∷ 255 ∷ 255 ∷ 340282366920938463463374607431768211455 ∷ 340282366920938463463374607431768211455 ∷ [];
}

abbrev a_packet : Fields
a_packet = 167838211 ∷ 3221225985 ∷ 6 ∷ 1000 ∷ 80 ∷ 0 ∷ 4 ∷ 0 ∷ 0 ∷ []

-- a device that meters at its interface eth0 into the cache with this place
abbrev meter : ℕ → DeviceEntry
meter cache = record {
  points = record {
    interfaces = codes "eth0" ∷ [];
    ingress = true;
    egress = true;
    selections =
        record { region = Some all_fields; holder = Some cache } ∷ [];
  } ∷ [];
  caches = cache ∷ [];
  processes = [];
}

abbrev plain : DeviceEntry
plain = record { points = []; caches = []; processes = [] }

abbrev collector : ℕ → DeviceEntry
collector process = record { points = []; caches = []; processes = process ∷ [] }

abbrev crossing : ℕ → Crossing
crossing device = record { device = device; interface = codes "eth0"; inwards = true }

abbrev sends_by : List ℕ → Process
sends_by exporters = record { exporters = exporters; aggregations = [] }

-- Two meters. What the first meters goes to the collecting process 0, which sends it on to the report, 1; what the
-- second meters goes to the report by two links at once.
abbrev whole : Net
whole = record {
  devices = meter 0 ∷ plain ∷ meter 1 ∷ collector 0 ∷ collector 1 ∷ [];
  exporters = record { parallel = true; destinations = Some 0 ∷ [] }
      ∷ record { parallel = true; destinations = Some 1 ∷ Some 2 ∷ [] }
      ∷ record { parallel = true; destinations = Some 3 ∷ [] } ∷ [];
  holders = record { layout = source; exporters = 0 ∷ [] } ∷ record { layout = source; exporters = 1 ∷ [] } ∷ [];
  processes = sends_by (2 ∷ []) ∷ sends_by [] ∷ [];
  links = 0 ∷ 1 ∷ 1 ∷ 1 ∷ [];
  report = 1;
  report_layout = source;
}

-- ---- a part: the second meter and the report, with other numbers

abbrev part : Net
part = record {
  devices = collector 0 ∷ meter 0 ∷ [];
  exporters = record { parallel = true; destinations = Some 1 ∷ Some 0 ∷ [] } ∷ [];
  holders = record { layout = source; exporters = 0 ∷ [] } ∷ [];
  processes = sends_by [] ∷ [];
  links = 0 ∷ 0 ∷ [];
  report = 0;
  report_layout = source;
}

abbrev places : List ℕ
places = 1 ∷ []

a_part : IsPart part whole places
a_part = record {
  each = refl;
  same = at;
  report = refl;
  report_only = only;
  report_layout = refl;
}
  where
    at : (process place : ℕ) → slice_get places process ≡ Some place
        → handling_of whole (slice_get whole.processes place)
        ≡ handling_in places (handling_of part (slice_get part.processes process))
    at zero place e =
        let one : 1 ≡ place = cc in
        subst (λ n. handling_of whole (slice_get whole.processes n)
        ≡ handling_in places (handling_of part (Some (sends_by [])))) one refl
    at (suc process) place e = absurd cc

    only : (process : ℕ) → slice_get places process ≡ Some 1 → process ≡ 0
    only zero e = refl
    only (suc process) e = absurd cc

-- the plain device, at which nothing is metered, is left out of the path
seen : MetersTheSame part whole places (crossing 2 ∷ []) (crossing 2 ∷ crossing 3 ∷ [])
seen = refl

many_in_part : packet_fate part a_packet (crossing 2 ∷ []) ≡ Many
many_in_part = refl

many_in_whole : packet_fate whole a_packet (crossing 2 ∷ crossing 3 ∷ []) ≡ Many
many_in_whole = refl

-- a path over the first meter too is another one
not_seen : MetersTheSame part whole places (crossing 2 ∷ []) (crossing 1 ∷ crossing 3 ∷ []) → ⊥
not_seen h = absurd cc

-- ---- no part: the first meter with a collecting process that has lost its exporting process

abbrev broken : Net
broken = record {
  devices = meter 0 ∷ collector 0 ∷ collector 1 ∷ [];
  exporters = record { parallel = true; destinations = Some 0 ∷ [] } ∷ [];
  holders = record { layout = source; exporters = 0 ∷ [] } ∷ [];
  processes = sends_by [] ∷ sends_by [] ∷ [];
  links = 0 ∷ [];
  report = 1;
  report_layout = source;
}

never_in_broken : packet_fate broken a_packet (crossing 1 ∷ []) ≡ Never
never_in_broken = refl

once_in_whole : packet_fate whole a_packet (crossing 1 ∷ []) ≡ Once
once_in_whole = refl

not_empty : (s : Sending) (ss : List Sending) → s ∷ ss ≡ [] → ⊥
not_empty s ss h = absurd cc

no_part : IsPart broken whole (0 ∷ 1 ∷ []) → ⊥
no_part h = not_empty (record { parallel = true; leads = Some 1 ∷ [] }) []
    (ap (λ (x : Handling). x.sendings) (h.same 0 0 refl))

-- ---- the checks answer so

is_found : is_part part whole places ≡ true
is_found = refl

is_seen : meters_alike part whole places (crossing 2 ∷ []) (crossing 2 ∷ crossing 3 ∷ []) ≡ true
is_seen = refl

is_refused : is_part broken whole (0 ∷ 1 ∷ []) ≡ false
is_refused = refl

-- only one process has the report's place
two_reports : is_part part whole (1 ∷ 1 ∷ []) ≡ false
two_reports = refl
