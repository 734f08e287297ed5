-- Holders that accept counts.
use Rattle.std.specs.Prelude.{◌≡◌, ℕ, ◌<◌, List, [], length, Option, Some, None, slice_get}
use Rattle.std.specs.List.{AllByRecursion}
use Rattle.fx_base.specs.declared.counts.Counts.{Counts}
use Rattle.fx_elements.specs.Axes.{Fields}
use Rattle.fx_layout.specs.Keys.{Key, key_of, project}
use Rattle.fx_tables.specs.declared.holding.Holding.{Holding}
use Rattle.fx_tables.specs.declared.observation.Occurrence.{Occurrence}
use Rattle.fx_tables.specs.declared.record.Record.{Record}
use Rattle.fx_tables.specs.Network.{Holder, AggregationEntry, layout_of}
use Rattle.fx_machine.specs.Acts.{Choices}
use Rattle.fx_machine.specs.Holds.{hold_all}
use Rattle.fx_tables.specs.Holdings.{met_holdings}
use Rattle.fx_tables.specs.Takers.{intakes}
use Rattle.fx_net.specs.Stores.{Stored, unbounded, bounded}
use Rattle.fx_net.specs.Contents.{stored_at}
use Rattle.fx_net.specs.Taking.{stores_and_leavers, all_leave_at_once}
use Rattle.fx_conform.specs.Held.{AreHeld, AllLeave}
use Rattle.fx_conform.specs.Usable.{AreUsable}

-- the holders are among the first n
abbrev pub AreThere : ℕ → List Holding → Type 0
AreThere n hs = AllByRecursion (λ (h : Holding). h.holder < n) hs

-- all entries for one holder have one key
abbrev pub HaveKeys : (ℕ → Key) → List Holding → Type 0
HaveKeys keys hs = AllByRecursion (λ (h : Holding). h.key ≡ keys h.holder) hs

-- a packet's key under the layout of a holder, and that of a record under it
abbrev pub packet_key : List Holder → Fields → ℕ → Key
packet_key holders fields holder = key_of (layout_of (slice_get holders holder)) fields

abbrev pub record_key : List Holder → Key → ℕ → Key
record_key holders key holder = project key (layout_of (slice_get holders holder))

-- First records leave to make room, then all records are added, and then those of immediate caches leave.
pub record TakesIn (stores : List (Option Stored)) (counts : Counts) (hs : List Holding) (held : List (List Record)) :
    Type 0 where
  pub room : List (List Record)
  pub now : List (List Record)
  pub final : List (List Record)
  pub choices : Choices
  pub makes_room : AllLeave (stores_and_leavers stores counts hs).left held room
  pub taken_in : hold_all counts hs room choices ≡ Some now
  pub at_once : AllLeave (all_leave_at_once (stores_and_leavers stores counts hs).stores counts hs) now final
  pub held_then : AreHeld (stores_and_leavers stores counts hs).stores final
  pub usable_then : AreUsable (stores_and_leavers stores counts hs).stores

abbrev pub IsUnbounded : Option Stored → Type 0
IsUnbounded None = ⊥
IsUnbounded (Some (unbounded held)) = Unit {0}
IsUnbounded (Some (bounded recent)) = ⊥

abbrev pub AreUnbounded : List (Option Stored) → List Holding → Type 0
AreUnbounded stores hs = AllByRecursion (λ (h : Holding). IsUnbounded (stored_at stores h.holder)) hs

-- All records are added, and none leaves.
pub record Join (stores : List (Option Stored)) (counts : Counts) (hs : List Holding) (held : List (List Record)) : Type
    0 where
  pub now : List (List Record)
  pub choices : Choices
  pub none_left : (stores_and_leavers stores counts hs).left ≡ []
  pub taken_in : hold_all counts hs held choices ≡ Some now
  pub none_at_once : all_leave_at_once (stores_and_leavers stores counts hs).stores counts hs ≡ []
  pub held_then : AreHeld (stores_and_leavers stores counts hs).stores now
  pub usable_then : AreUsable (stores_and_leavers stores counts hs).stores
  pub unbounded_then : AreUnbounded (stores_and_leavers stores counts hs).stores hs

-- ---- the laws

abbrev pub MetHaveKeys : Type 0
MetHaveKeys =
    (holders : List Holder) (fields : Fields) (os : List Occurrence)
    → HaveKeys (packet_key holders fields) (met_holdings holders fields os)

abbrev pub AggregatedHaveKeys : Type 0
AggregatedHaveKeys =
    (holders : List Holder) (key : Key) (aggregations : List AggregationEntry)
    → HaveKeys (record_key holders key) (intakes holders key aggregations)

-- Holders accept counts, if any two records for one holder have the same key.
abbrev pub TakingIn : Type 0
TakingIn =
    (stores : List (Option Stored)) (held : List (List Record)) (counts : Counts)
    (keys : ℕ → Key) (hs : List Holding)
    → AreHeld stores held → AreUsable stores → AreThere (length stores) hs → HaveKeys keys hs
    → TakesIn stores counts hs held

-- Holders without a bound only add records.
abbrev pub TakersJoin : Type 0
TakersJoin =
    (stores : List (Option Stored)) (held : List (List Record)) (counts : Counts) (hs : List Holding)
    → AreHeld stores held → AreUsable stores → AreUnbounded stores hs → Join stores counts hs held
