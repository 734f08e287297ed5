-- Tables of three collecting processes, each feeding the next through an aggregation.
use Rattle.std.proofs.Common.{◌≡◌, ℕ, zero, suc, ◌<◌, min, true, List, [], ◌∷◌, All, Option, Some, refl, sym, ap, subst, arith, slice_get}
use Rattle.std.specs.Prelude.{Contains}
use Rattle.std.specs.List.{AllByRecursion}
use Rattle.fx_elements.specs.declared.axis.Axis.TheVariants.{Source}
use Rattle.fx_layout.specs.Keys.{Layout, Fits}
use Rattle.fx_tables.specs.Network.{DeviceEntry, Exporter, Holder, AggregationEntry, Process, exporters_of, Net, layout_of, aggregations_of}
use Rattle.fx_tables.specs.Ranks.{RisesTo, Rises, AllRise, ProcessRises}
use Rattle.fx_tables.specs.Orders.{Descends}
use Rattle.fx_tables.specs.Matches.{HasEntries}
use Rattle.fx_leaf.specs.Tables.{Numbering, number_of_layout, Tables, AreTables}

abbrev pub sends_on : List Exporter
sends_on = record { parallel = true; destinations = Some 0 ∷ [] }
    ∷ record { parallel = true; destinations = Some 1 ∷ [] } ∷ record { parallel = true; destinations = Some 2 ∷ [] }
    ∷ []

abbrev pub holding : Layout → Layout → Layout → List Holder
holding a b c = record { layout = a; exporters = 0 ∷ [] } ∷ record { layout = b; exporters = 1 ∷ [] }
    ∷ record { layout = c; exporters = 2 ∷ [] } ∷ []

abbrev pub collecting : List Process
collecting =
    record { exporters = []; aggregations = record { holder = 1; matches = [] } ∷ [] }
    ∷ record {
      exporters = [];
      aggregations =
          record { holder = 2; matches = record { axis = Source; bits = 24; value = 0x0a0102 } ∷ [] } ∷ [];
    }
    ∷ record { exporters = []; aggregations = [] } ∷ []

abbrev pub three_layouts : Layout → Layout → Layout → Numbering
three_layouts a b c = record { layouts = a ∷ b ∷ c ∷ []; numbers = 0 ∷ 1 ∷ 2 ∷ [] }

none_at : {A : Type 0} (P : A → Type 0) → All P []
none_at P k d lt = absurd (omega arith)

all_one : {A : Type 0} (P : A → Type 0) (x : A) → P x → All P (x ∷ [])
all_one P x p zero d lt = p
all_one P x p (suc k) d lt = absurd (omega arith)

module _ (devices : List DeviceEntry) (report_layout a b c : Layout) where
  abbrev net_of : List Exporter → List Holder → List Process → List ℕ → ℕ → Net
  net_of exporters holders processes links report =
      record {
        devices = devices;
        exporters = exporters;
        holders = holders;
        processes = processes;
        links =
            links;
        report = report;
        report_layout = report_layout;
      }

  abbrev chain : Net
  chain = net_of sends_on (holding a b c) collecting (0 ∷ 1 ∷ 2 ∷ []) 2

  abbrev rank : ℕ → ℕ
  rank p = min p 2

  feeds : (from to : ℕ) (process : Process) (e : Exporter) (a : AggregationEntry) → process
      ≡ record { exporters = []; aggregations = a ∷ [] } → exporters_of chain (slice_get chain.holders a.holder) ≡ e
      ∷ [] → e.destinations ≡ Some to ∷ [] → slice_get chain.links to ≡ Some to → rank from < rank to
      → ProcessRises rank chain from (Some process)
  feeds from to process e a is of sends leads up =
      let link : Rises rank chain from (Some to) = subst (RisesTo rank from) (sym leads) up in
      let one : All (Rises rank chain from) e.destinations =
      subst (λ (ds : List (Option ℕ)). All (Rises rank chain from) ds) (sym sends)
      (all_one (Rises rank chain from) (Some to) link) in
      let all : AllRise rank chain from (exporters_of chain (slice_get chain.holders a.holder)) =
      subst (λ (es : List Exporter). AllRise rank chain from es) (sym of)
      (all_one (λ (x : Exporter). All (Rises rank chain from) x.destinations) e one) in
      subst (λ (p : Process). ProcessRises rank chain from (Some p)) (sym is) (
        none_at (λ (x : Exporter). All (Rises rank chain from) x.destinations),
        all_one
            (λ (x : AggregationEntry). AllRise rank chain from (exporters_of chain (slice_get chain.holders x.holder)))
            a
            all,
      )

  rises : (process : ℕ) → ProcessRises rank chain process (slice_get collecting process)
  rises zero = feeds 0 1 _ (record { parallel = true; destinations = Some 1 ∷ [] })
      (record { holder = 1; matches = [] }) refl refl refl refl (omega arith)
  rises (suc zero) = feeds 1 2 _ (record { parallel = true; destinations = Some 2 ∷ [] })
      (record { holder = 2; matches = record { axis = Source; bits = 24; value = 0x0a0102 } ∷ [] }) refl refl refl refl
      (omega arith)
  rises (suc (suc zero)) = (
    none_at (λ (x : Exporter). All (Rises rank chain 2) x.destinations),
    none_at
        (λ (x : AggregationEntry). AllRise rank chain 2 (exporters_of chain (slice_get chain.holders x.holder))),
  )
  rises (suc (suc (suc p))) = tt

  module _ (fits_a : Fits a) (fits_b : Fits b) (fits_c : Fits c) where
    fits : (holder : ℕ) → Fits (layout_of (slice_get (holding a b c) holder))
    fits zero = fits_a
    fits (suc zero) = fits_b
    fits (suc (suc zero)) = fits_c
    fits (suc (suc (suc h))) = tt

    numbers : (holder : ℕ) (h : Holder) → slice_get (holding a b c) holder ≡ Some h
        → slice_get (three_layouts a b c).layouts (number_of_layout (three_layouts a b c) holder) ≡ Some h.layout
    numbers zero h e = ap (λ o. Some (layout_of o)) e
    numbers (suc zero) h e = ap (λ o. Some (layout_of o)) e
    numbers (suc (suc zero)) h e = ap (λ o. Some (layout_of o)) e
    numbers (suc (suc (suc k))) h e = absurd (cc)

    whole : (process : ℕ) → process < 3 → Contains (2 ∷ 1 ∷ 0 ∷ []) process
    whole zero lt = (2, omega arith, refl)
    whole (suc zero) lt = (1, omega arith, refl)
    whole (suc (suc zero)) lt = (0, omega arith, refl)
    whole (suc (suc (suc k))) lt = absurd (omega arith)

    entries : (process : ℕ) → AllByRecursion HasEntries (aggregations_of (slice_get collecting process))
    entries zero = (tt, tt)
    entries (suc zero) = (((omega arith, omega arith), tt), tt)
    entries (suc (suc zero)) = tt
    entries (suc (suc (suc p))) = tt

    behind_one : (q : ℕ) → q < 3 → rank 1 < rank q → Contains (2 ∷ []) q
    behind_one zero lt up = absurd (omega arith)
    behind_one (suc zero) lt up = absurd (omega arith)
    behind_one (suc (suc zero)) lt up = (0, omega arith, refl)
    behind_one (suc (suc (suc q))) lt up = absurd (omega arith)

    behind_both : (q : ℕ) → q < 3 → rank 0 < rank q → Contains (1 ∷ 2 ∷ []) q
    behind_both zero lt up = absurd (omega arith)
    behind_both (suc zero) lt up = (0, omega arith, refl)
    behind_both (suc (suc zero)) lt up = (1, omega arith, refl)
    behind_both (suc (suc (suc q))) lt up = absurd (omega arith)

    falls : Descends chain rank [] (2 ∷ 1 ∷ 0 ∷ [])
    falls = (
      omega arith,
      λ q. λ lt. λ up. absurd (omega (arith, up)),
      (omega arith, behind_one, (omega arith, behind_both, tt)),
    )

    chain_tables : AreTables (record { net = chain; order = 2 ∷ 1 ∷ 0 ∷ []; numbering = three_layouts a b c })
    chain_tables = record {
      network = record {
        ranked = record { rank = rank; below = λ p. omega arith; rises = rises };
        fits = fits;
      };
      falls = falls;
      whole = whole;
      reports = omega arith;
      numbers = numbers;
      few = omega arith;
      entries = entries;
    }

pub three_chained : (t : Tables) (a b c : Layout) → Fits a → Fits b → Fits c → t.net.exporters ≡ sends_on
    → t.net.holders ≡ holding a b c → t.net.processes ≡ collecting → t.net.links ≡ 0 ∷ 1 ∷ 2 ∷ [] → t.net.report ≡ 2
    → t.order ≡ 2 ∷ 1 ∷ 0 ∷ [] → t.numbering ≡ three_layouts a b c → AreTables t
three_chained t a b c fa fb fc exporters holders processes links report order numbering =
    let n = t.net in
    let P : List Exporter → List Holder → List Process → List ℕ → ℕ → List ℕ → Numbering → Type 0 =
    λ es. λ hs. λ ps. λ ls. λ r. λ o. λ i. AreTables
    (record { net = net_of n.devices n.report_layout a b c es hs ps ls r; order = o; numbering = i }) in
    let hs = holding a b c in
    let ls : List ℕ = 0 ∷ 1 ∷ 2 ∷ [] in
    let os : List ℕ = 2 ∷ 1 ∷ 0 ∷ [] in
    subst (λ x. P x n.holders n.processes n.links n.report t.order t.numbering) (sym exporters)
    (subst (λ x. P sends_on x n.processes n.links n.report t.order t.numbering) (sym holders)
    (subst (λ x. P sends_on hs x n.links n.report t.order t.numbering) (sym processes)
    (subst (λ x. P sends_on hs collecting x n.report t.order t.numbering) (sym links)
    (subst (λ x. P sends_on hs collecting ls x t.order t.numbering) (sym report)
    (subst (λ x. P sends_on hs collecting ls 2 x t.numbering) (sym order)
    (subst (λ x. P sends_on hs collecting ls 2 os x) (sym numbering)
    (chain_tables n.devices n.report_layout a b c fa fb fc)))))))
