-- The order of ranks, in which each collecting process comes after all that feed it, and cycles, which have no such
-- order.
use Rattle.std.specs.Prelude.{◌≡◌, ℕ, suc, ◌<◌, ◌≤◌, ◌==◌, Bool, true, not, ◌&&◌, ◌||◌, List, [], ◌∷◌, ◌++◌, length, Contains, Option, Some, None, find, filter, position, slice_get, if◌then◌else◌}
use Rattle.std.specs.List.{list_any, list_all}
use Rattle.fx_tables.specs.Network.{Net}
use Rattle.fx_tables.specs.Orders.{Descends}
use Rattle.fx_tables.specs.Ranks.{IsRanked}
use Rattle.fx_ranks.specs.Feeding.{feeds, places_of}

-- ---- the order

abbrev pub is_in : List ℕ → ℕ → Bool
is_in places place = list_any (λ p. p == place) places

-- the process hasn't come yet, and all that feed it have
abbrev pub is_ready : Net → List ℕ → ℕ → Bool
is_ready net come process = not (is_in come process) && list_all (λ p. not (feeds net p process) || is_in come p)
    (places_of net)

-- the first process in document order that is ready
abbrev pub next : Net → List ℕ → Option ℕ
next net come = find (is_ready net come) (places_of net)

abbrev pub ComesNext : Net → List ℕ → List ℕ → Type 0
ComesNext net come [] = next net come ≡ None
ComesNext net come (process ∷ processes) = (next net come ≡ Some process)
    × ComesNext net (come ++ process ∷ []) processes

-- the first process all of whose feeders have come is next, repeatedly, until no such process is left
abbrev pub IsRankOrder : Net → List ℕ → Type 0
IsRankOrder net order = ComesNext net [] order

-- the index of a process in the order
abbrev pub place_from : ℕ → List ℕ → ℕ → ℕ
place_from n [] process = 0
place_from n (p ∷ ps) process = if p == process then n else place_from (suc n) ps process

abbrev pub rank_in : List ℕ → ℕ → ℕ
rank_in order process = place_from 0 order process

-- a process's rank: its index in the order, if it is in the order
abbrev pub IsRank : Net → ℕ → Option ℕ → Type 0
IsRank net process rank = (order : List ℕ) × IsRankOrder net order × (rank ≡ position (λ p. p == process) order)

-- an order of all processes in which those of higher rank come first
pub record IsDescending (net : Net) (order : List ℕ) : Type 0 where
  pub ranked : IsRanked net
  pub descends : Descends net ranked.rank [] order
  pub whole : (process : ℕ) → process < length net.processes → Contains order process

-- ---- an order of all processes

-- each link leads to an existing process
abbrev pub LinksLead : Net → Type 0
LinksLead net = (link place : ℕ) → slice_get net.links link ≡ Some place → place < length net.processes

pub record IsWhole (net : Net) (order : List ℕ) : Type 0 where
  pub order_is : IsRankOrder net order
  pub short : length order ≤ length net.processes
  pub all : (process : ℕ) → process < length net.processes → is_in order process ≡ true
  pub some : 0 < length net.processes
  pub leads : LinksLead net

-- ---- cycles

-- a set of processes each of which is fed by one of the set: no order has each of them after all that feed it
pub record IsFedWithin (net : Net) (among : ℕ → Bool) : Type 0 where
  pub feeder : (process : ℕ) → among process ≡ true → (p : ℕ) × (among p ≡ true) × (feeds net p process ≡ true)

-- a process belongs to such a set
pub record IsStuck (net : Net) (process : ℕ) : Type 0 where
  pub among : ℕ → Bool
  pub is_among : among process ≡ true
  pub within : IsFedWithin net among

-- all stuck processes, in document order
pub record AreStuck (net : Net) (stuck : List ℕ) : Type 0 where
  pub test : ℕ → Bool
  pub yes : (process : ℕ) → process < length net.processes → test process ≡ true → IsStuck net process
  pub no : (process : ℕ) → process < length net.processes → IsStuck net process → test process ≡ true
  pub all : stuck ≡ filter test (places_of net)
