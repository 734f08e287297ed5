-- What a plan lends keeps what leaves are judged by.
use Rattle.std.proofs.Common.{◌≡◌, ℕ, zero, suc, ◌<◌, ◌≤◌, List, [], ◌∷◌, length, Some, slice_get, sym, subst}
use Rattle.std.specs.List.{AllByRecursion}
use Rattle.fx_layout.specs.Keys.{Layout}
use Rattle.fx_tables.specs.Network.{Net, Holder, Process, aggregations_of}
use Rattle.fx_tables.specs.Ranks.{IsNetwork}
use Rattle.fx_tables.specs.Matches.{AreEntries, AllHaveEntries, HasEntries}
use Rattle.fx_leaf.specs.Tables.{AreTables, or_first}
use Rattle.fx_ranks.specs.Ranks as plan
use Rattle.fx_plan.specs.Layouts.{AreNumbers}

numbered : (layouts : List Layout) (holders : List Holder) (numbers : List ℕ) → AreNumbers layouts holders numbers
    → (holder : ℕ) (h : Holder) → slice_get holders holder ≡ Some h
    → slice_get layouts (or_first (slice_get numbers holder)) ≡ Some h.layout
numbered layouts [] [] are holder h e = absurd cc
numbered layouts [] (n ∷ ns) are holder h e = absurd are
numbered layouts (x ∷ hs) [] are holder h e = absurd are
numbered layouts (x ∷ hs) (n ∷ ns) are zero h e = let same : x ≡ h = cc in rw (← same) are.0
numbered layouts (x ∷ hs) (n ∷ ns) are (suc k) h e = numbered layouts hs ns are.1 k h e

entries : (processes : List Process) → AllByRecursion AllHaveEntries processes → (process : ℕ)
    → AllByRecursion HasEntries (aggregations_of (slice_get processes process))
entries [] h process = tt
entries (p ∷ ps) h zero = h.0
entries (p ∷ ps) h (suc k) = entries ps h.1 k

pub lent : (net : Net) (order : List ℕ) (layouts : List Layout) (numbers : List ℕ) → IsNetwork net → net.report
    < length net.processes → AreEntries net → plan.IsDescending net order → length layouts ≤ 64
    → AreNumbers layouts net.holders numbers
    → AreTables (record { net = net; order = order; numbering = record { layouts = layouts; numbers = numbers } })
lent net order layouts numbers network report are descending few numbered_so = record {
  network = record { ranked = descending.ranked; fits = network.fits };
  falls = descending.descends;
  whole = descending.whole;
  reports = report;
  numbers = numbered layouts net.holders numbers numbered_so;
  few = few;
  entries = entries net.processes are;
}

-- the same where the network and its layouts are known by their values
pub lent_by : (net n : Net) (order : List ℕ) (layouts ls : List Layout) (numbers : List ℕ) → net ≡ n → layouts ≡ ls
    → IsNetwork net → net.report < length net.processes → AreEntries net → plan.IsDescending n order → length layouts
    ≤ 64 → AreNumbers ls n.holders numbers
    → AreTables (record { net = net; order = order; numbering = record { layouts = layouts; numbers = numbers } })
lent_by net n order layouts ls numbers e f network report are descending few numbered_so =
    lent net order layouts numbers network report are (subst (λ m. plan.IsDescending m order) (sym e) descending) few
    (subst (λ m. AreNumbers layouts m.holders numbers) (sym e)
    (subst (λ xs. AreNumbers xs n.holders numbers) (sym f) numbered_so))
