-- Tables of one collecting process, to which two caches send.
use Rattle.std.proofs.Common.{◌≡◌, ℕ, zero, suc, ◌<◌, List, [], ◌∷◌, Some, refl, sym, ap, subst, ◌∙◌, arith, slice_get}
use Rattle.std.specs.Prelude.{Contains}
use Rattle.std.specs.List.{AllByRecursion}
use Rattle.fx_layout.specs.Keys.{Layout, Fits}
use Rattle.fx_tables.specs.Network.{DeviceEntry, Exporter, Holder, Process, Net, layout_of, aggregations_of}
use Rattle.fx_tables.specs.Ranks.{ProcessRises}
use Rattle.fx_tables.specs.Matches.{HasEntries}
use Rattle.fx_leaf.specs.Tables.{Numbering, number_of_layout, Tables, AreTables}

abbrev pub two_caches : List Holder
two_caches = record { layout = []; exporters = 0 ∷ [] } ∷ record { layout = []; exporters = 1 ∷ [] } ∷ []

abbrev pub one_process : List Process
one_process = record { exporters = []; aggregations = [] } ∷ []

abbrev pub one_layout : Numbering
one_layout = record { layouts = [] ∷ []; numbers = 0 ∷ 0 ∷ [] }

module _ (devices : List DeviceEntry) (exporters : List Exporter) (links : List ℕ) (report_layout : Layout) where
  abbrev net_of : List Holder → List Process → ℕ → Net
  net_of holders processes report = record {
    devices = devices;
    exporters = exporters;
    holders = holders;
    processes =
        processes;
    links = links;
    report = report;
    report_layout = report_layout;
  }

  abbrev small : Net
  small = net_of two_caches one_process 0

  rises : (process : ℕ) → ProcessRises (λ p. 0) small process (slice_get one_process process)
  rises zero = (λ k. λ d. λ lt. absurd (omega (arith, lt)), λ k. λ d. λ lt. absurd (omega (arith, lt)))
  rises (suc p) = tt

  fits : (holder : ℕ) → Fits (layout_of (slice_get two_caches holder))
  fits zero = tt
  fits (suc zero) = tt
  fits (suc (suc h)) = tt

  numbers : (holder : ℕ) (h : Holder) → slice_get two_caches holder ≡ Some h
      → slice_get one_layout.layouts (number_of_layout one_layout holder) ≡ Some h.layout
  numbers zero h e = ap (λ o. Some (layout_of o)) e
  numbers (suc zero) h e = ap (λ o. Some (layout_of o)) e
  numbers (suc (suc k)) h e = absurd (cc)

  whole : (process : ℕ) → process < 1 → Contains (0 ∷ []) process
  whole zero lt = (zero, omega arith, refl)
  whole (suc k) lt = absurd (omega arith)

  entries : (process : ℕ) → AllByRecursion HasEntries (aggregations_of (slice_get one_process process))
  entries zero = tt
  entries (suc p) = tt

  small_tables : AreTables (record { net = small; order = 0 ∷ []; numbering = one_layout })
  small_tables = record {
    network = record {
      ranked = record { rank = λ p. 0; below = λ p. omega arith; rises = rises };
      fits = fits;
    };
    falls = (omega arith, λ q. λ lt. λ up. absurd (omega arith), tt);
    whole = whole;
    reports = omega arith;
    numbers = numbers;
    few = omega arith;
    entries = entries;
  }

pub two_meters : (t : Tables) → t.net.holders ≡ two_caches → t.net.processes ≡ one_process → t.net.report ≡ 0 → t.order
    ≡ 0 ∷ [] → t.numbering ≡ one_layout → AreTables t
two_meters t holders processes report order numbering =
    let n = t.net in
    let P : List Holder → List Process → ℕ → List ℕ → Numbering → Type 0 =
    λ hs. λ ps. λ r. λ o. λ i. AreTables (record
    { net = net_of n.devices n.exporters n.links n.report_layout hs ps r; order = o; numbering = i }) in
    subst (λ hs. P hs n.processes n.report t.order t.numbering) (sym holders)
    (subst (λ ps. P two_caches ps n.report t.order t.numbering) (sym processes)
    (subst (λ r. P two_caches one_process r t.order t.numbering) (sym report)
    (subst (λ o. P two_caches one_process 0 o t.numbering) (sym order)
    (subst (λ i. P two_caches one_process 0 (0 ∷ []) i) (sym numbering)
    (small_tables n.devices n.exporters n.links n.report_layout)))))

-- lent with the one layout, which has no part
pub lent : (t : Tables) (net : Net) (l : Layout) → t
    ≡ record { net = net; order = 0 ∷ []; numbering = record { layouts = l ∷ []; numbers = 0 ∷ 0 ∷ [] } } → l ≡ []
    → net.holders ≡ two_caches → net.processes ≡ one_process → net.report ≡ 0 → AreTables t
lent t net l is none holders processes report =
    let numbering : t.numbering ≡ one_layout = ap (λ (t : Tables). t.numbering) is
    ∙ ap (λ (l : Layout). let n : Numbering = record { layouts = l ∷ []; numbers = 0 ∷ 0 ∷ [] } in n) none in
    two_meters t (ap (λ (t : Tables). t.net.holders) is ∙ holders) (ap (λ (t : Tables). t.net.processes) is ∙ processes)
    (ap (λ (t : Tables). t.net.report) is ∙ report) (ap (λ (t : Tables). t.order) is) numbering
