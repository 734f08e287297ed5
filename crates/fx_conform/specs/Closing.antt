-- After the closing phase nothing remains.
use Rattle.std.specs.Prelude.{◌≡◌, ◌⊎◌, ℕ, List, [], length, Option, Some}
use Rattle.std.specs.List.{AllByRecursion}
use Rattle.fx_base.specs.declared.counts.Counts.{Counts}
use Rattle.fx_tables.specs.declared.holding.Holding.{Holding}
use Rattle.fx_tables.specs.declared.holder_name.HolderName.{HolderName}
use Rattle.fx_tables.specs.Network.{Net, holder_place}
use Rattle.fx_link.specs.Links.{Put}
use Rattle.fx_link.specs.Ongoing.{Ongoing}
use Rattle.fx_ranks.specs.Ranks.{IsWhole}
use Rattle.fx_net.specs.Contents.{Contents}
use Rattle.fx_net.specs.Doings.{EmptiesNetwork}
use Rattle.fx_net.specs.Stores.{Stored}
use Rattle.fx_net.specs.Taking.{stores_and_leavers}
use Rattle.fx_conform.specs.Emptying.{count_in, without_leasts}
use Rattle.fx_conform.specs.OnLinks.{NoOctets}
use Rattle.fx_conform.specs.Usable.{AreUsable}

-- a step can name the holder
abbrev pub CanBeNamed : Net → ℕ → Type 0
CanBeNamed net holder = (name : HolderName) × (holder_place net name ≡ Some holder)

-- every holder that holds records can be named
abbrev pub OnlyNamedHold : Net → List (Option Stored) → Type 0
OnlyNamedHold net stores = (place : ℕ) → CanBeNamed net place ⊎ (count_in stores place ≡ 0)

-- no record waits for its message, and no octets wait to be put out
abbrev pub NothingWaits : List Ongoing → Type 0
NothingWaits links = AllByRecursion (λ (o : Ongoing). (o.outgoing.batch ≡ []) × (o.outgoing.octets ≡ [])) links

abbrev pub NothingIsStored : List (Option Stored) → Type 0
NothingIsStored stores = (place : ℕ) → count_in stores place ≡ 0

-- ---- the laws

-- Only holders that can be named accept counts.
abbrev pub TakingStaysNamed : Type 0
TakingStaysNamed =
    (net : Net) (stores : List (Option Stored)) (counts : Counts) (hs : List Holding)
    → OnlyNamedHold net stores → AllByRecursion (λ (h : Holding). CanBeNamed net h.holder) hs
    → OnlyNamedHold net (stores_and_leavers stores counts hs).stores

-- Removing records adds none, so only named holders hold records.
abbrev pub LeavingStaysNamed : Type 0
LeavingStaysNamed =
    (net : Net) (stores : List (Option Stored)) (place : ℕ) (n : ℕ)
    → AreUsable stores → OnlyNamedHold net stores → OnlyNamedHold net (without_leasts place stores n)

-- Once all caches have been emptied, and then all collecting processes finished in the order of ranks, nothing is in
-- the
-- stores, and no octets are on the links.
abbrev pub ClosingEmpties : Type 0
ClosingEmpties =
    (net : Net) (ranked : List ℕ) (before : Put) (after : Put) (old : Contents) (new : Contents)
    → IsWhole net ranked → length old.links ≡ length net.links
    → AreUsable old.stores → OnlyNamedHold net old.stores → NothingWaits old.links
    → EmptiesNetwork net ranked before old after new
    → NothingIsStored new.stores × NoOctets new.links
