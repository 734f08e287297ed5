-- Tables of two collecting processes, of which the first feeds the second by two links.
use Rattle.std.proofs.Common.{◌≡◌, ℕ, zero, suc, ◌<◌, min, Bool, true, false, List, [], ◌∷◌, length, All, Option, Some, None, IfSome, refl, sym, ap, subst, arith, slice_get}
use Rattle.std.specs.Prelude.{Contains}
use Rattle.std.specs.List.{AllByRecursion}
use Rattle.fx_layout.specs.Keys.{Layout, Fits}
use Rattle.fx_tables.specs.declared.observation.Selection.{Selection}
use Rattle.fx_tables.specs.declared.holder_name.HolderName.TheVariants.{Cache}
use Rattle.fx_tables.specs.Network.{DeviceEntry, Point, Exporter, Holder, AggregationEntry, Process, Net, exporters_of, layout_of, aggregations_of}
use Rattle.fx_base.specs.Entries.{entry_numbered}
use Rattle.fx_tables.specs.Ranks.{Rises, AllRise, ProcessRises}
use Rattle.fx_tables.specs.Orders.{Descends}
use Rattle.fx_tables.specs.Matches.{HasEntries}
use Rattle.fx_tables.specs.Runnable.{IsHolder, HasDestinations, HasAggregations, HasCaches, IsRunnable}
use Rattle.fx_leaf.specs.Tables.{Numbering, number_of_layout, Tables, AreTables}

all_none : {A : Type 0} (P : A → Type 0) → All P []
all_none P k d lt = absurd (omega arith)

all_one : {A : Type 0} (P : A → Type 0) (x : A) → P x → All P (x ∷ [])
all_one P x p zero d lt = p
all_one P x p (suc k) d lt = absurd (omega arith)

all_two : {A : Type 0} (P : A → Type 0) (x y : A) → P x → P y → All P (x ∷ y ∷ [])
all_two P x y p q zero d lt = p
all_two P x y p q (suc zero) d lt = q
all_two P x y p q (suc (suc k)) d lt = absurd (omega arith)

on_all : {A : Type 0} (P Q : A → Type 0) (xs : List A) → ((x : A) → P x → Q x) → All P xs → All Q xs
on_all P Q [] f h = all_none Q
on_all P Q (x ∷ xs) f h = λ k. λ d. λ lt. f _ (h k d lt)

abbrev pub second : Exporter
second = record { parallel = true; destinations = Some 2 ∷ Some 3 ∷ [] }

abbrev pub collectors : List Process
collectors = record { exporters = 1 ∷ []; aggregations = [] } ∷ record { exporters = []; aggregations = [] } ∷ []

abbrev pub cache : List Holder
cache = record { layout = []; exporters = 0 ∷ [] } ∷ []

abbrev pub one_layout : Numbering
one_layout = record { layouts = [] ∷ []; numbers = 0 ∷ [] }

module _ (devices : List DeviceEntry) (first : Exporter) where
  abbrev pub doubling : Net
  doubling = record {
    devices = devices;
    exporters = first ∷ second ∷ [];
    holders = cache;
    processes =
        collectors;
    links = 0 ∷ 0 ∷ 1 ∷ 1 ∷ [];
    report = 1;
    report_layout = [];
  }

  abbrev rank : ℕ → ℕ
  rank p = min p 1

  rises : (process : ℕ) → ProcessRises rank doubling process (slice_get collectors process)
  rises zero = (
    all_one (λ (e : Exporter). All (Rises rank doubling 0) e.destinations) second
        (all_two (Rises rank doubling 0) (Some 2) (Some 3) (omega arith) (omega arith)),
    all_none (λ (a : AggregationEntry). AllRise rank doubling 0 (exporters_of doubling (slice_get cache a.holder))),
  )
  rises (suc zero) = (
    all_none (λ (e : Exporter). All (Rises rank doubling 1) e.destinations),
    all_none (λ (a : AggregationEntry). AllRise rank doubling 1 (exporters_of doubling (slice_get cache a.holder))),
  )
  rises (suc (suc p)) = tt

  fits : (holder : ℕ) → Fits (layout_of (slice_get cache holder))
  fits zero = tt
  fits (suc h) = tt

  numbers : (holder : ℕ) (h : Holder) → slice_get cache holder ≡ Some h
      → slice_get one_layout.layouts (number_of_layout one_layout holder) ≡ Some h.layout
  numbers zero h e = ap (λ o. Some (layout_of o)) e
  numbers (suc k) h e = absurd (cc)

  whole : (process : ℕ) → process < 2 → Contains (1 ∷ 0 ∷ []) process
  whole zero lt = (1, omega arith, refl)
  whole (suc zero) lt = (0, omega arith, refl)
  whole (suc (suc k)) lt = absurd (omega arith)

  entries : (process : ℕ) → AllByRecursion HasEntries (aggregations_of (slice_get collectors process))
  entries zero = tt
  entries (suc zero) = tt
  entries (suc (suc p)) = tt

  behind : (q : ℕ) → q < 2 → rank 0 < rank q → Contains (1 ∷ []) q
  behind zero lt up = absurd (omega arith)
  behind (suc zero) lt up = (0, omega arith, refl)
  behind (suc (suc q)) lt up = absurd (omega arith)

  falls : Descends doubling rank [] (1 ∷ 0 ∷ [])
  falls = (omega arith, λ q. λ lt. λ up. absurd (omega (arith, up)), (omega arith, behind, tt))

  doubling_tables : AreTables (record { net = doubling; order = 1 ∷ 0 ∷ []; numbering = one_layout })
  doubling_tables = record {
    network = record {
      ranked = record { rank = rank; below = λ p. omega arith; rises = rises };
      fits = fits;
    };
    falls = falls;
    whole = whole;
    reports = omega arith;
    numbers = numbers;
    few = omega arith;
    entries = entries;
  }

abbrev pub IsMeter : DeviceEntry → Type 0
IsMeter d = (d.caches ≡ 0 ∷ []) × All (λ (p : Point). All (λ (s : Selection). s.holder ≡ Some 0) p.selections) d.points

abbrev pub InRange : Option ℕ → Type 0
InRange d = IfSome d (λ link. link < 4)

module _ (d : DeviceEntry) (is : IsMeter d) (parallel : Bool) (one other : Option ℕ) (here : InRange one)
    (there : InRange other) where
  abbrev first : Exporter
  first = record { parallel = parallel; destinations = one ∷ other ∷ [] }

  abbrev net : Net
  net = doubling (d ∷ []) first

  held : IsHolder net 0
  held = record { name = Cache 1 1; named = ap (λ cs. entry_numbered cs 1) is.0; there = omega arith }

  doubling_runs : IsRunnable net
  doubling_runs = record {
    destinations = all_two (HasDestinations net) first second
        (record { links = all_two InRange one other here there; some = λ e. omega arith })
        (record { links = all_two InRange (Some 2) (Some 3) (omega arith) (omega arith); some = λ e. omega arith });
    aggregations = all_two (HasAggregations net) _ _ (all_none (λ (a : AggregationEntry). IsHolder net a.holder))
        (all_none (λ (a : AggregationEntry). IsHolder net a.holder));
    caches = all_one (HasCaches net) d (on_all (λ (p : Point). All (λ (s : Selection). s.holder ≡ Some 0) p.selections)
        (λ (p : Point). All (λ (s : Selection). IfSome s.holder (IsHolder net)) p.selections) d.points
        (λ p h. on_all (λ (s : Selection). s.holder ≡ Some 0) (λ (s : Selection). IfSome s.holder (IsHolder net))
        p.selections (λ s e. subst (λ o. IfSome o (IsHolder net)) (sym e) held) h) is.1);
  }

one_of : (ds : List DeviceEntry) → length ds ≡ 1 → All IsMeter ds → (d : DeviceEntry) × (ds ≡ d ∷ []) × IsMeter d
one_of [] e h = absurd (omega arith)
one_of (d ∷ []) e h = (d, refl, h 0 d (omega arith))
one_of (d ∷ x ∷ ds) e h = absurd (omega arith)

pub are_tables : (n : Net) (first : Exporter) → n ≡ doubling n.devices first
    → AreTables (record { net = n; order = 1 ∷ 0 ∷ []; numbering = one_layout })
are_tables n first e = subst (λ (m : Net). AreTables (record { net = m; order = 1 ∷ 0 ∷ []; numbering = one_layout }))
    (sym e) (doubling_tables n.devices first)

pub is_runnable : (n : Net) (first : Exporter) (parallel : Bool) (one other : Option ℕ) → n ≡ doubling n.devices first
    → first ≡ record { parallel = parallel; destinations = one ∷ other ∷ [] } → length n.devices ≡ 1
    → All IsMeter n.devices → InRange one → InRange other → IsRunnable n
is_runnable n first parallel one other e f size meters here there =
    let m = one_of n.devices size meters in
    let x : Exporter = record { parallel = parallel; destinations = one ∷ other ∷ [] } in
    subst (λ (m : Net). IsRunnable m) (sym e)
    (subst (λ (ds : List DeviceEntry). IsRunnable (doubling ds first)) (sym m.1)
    (subst (λ (y : Exporter). IsRunnable (doubling (m.0 ∷ []) y)) (sym f)
    (doubling_runs m.0 m.2 parallel one other here there)))
