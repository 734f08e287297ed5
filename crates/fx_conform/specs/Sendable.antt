-- Records that can be sent: held records have keys that match their layouts.
use Rattle.std.specs.Prelude.{◌≡◌, ℕ, ◌^◌, ◌<◌, List, slice_get, Some}
use Rattle.std.specs.List.{AllByRecursion}
use Rattle.fx_base.specs.declared.counts.Counts.{Counts}
use Rattle.fx_elements.specs.Axes.{Fields}
use Rattle.fx_boxes.specs.Boxes.{IsFields}
use Rattle.fx_layout.specs.Keys.{Key, IsLayout, HasBits}
use Rattle.fx_tables.specs.declared.holding.Holding.{Holding}
use Rattle.fx_tables.specs.declared.observation.Occurrence.{Occurrence}
use Rattle.fx_tables.specs.declared.record.Record.{Record}
use Rattle.fx_tables.specs.Network.{Holder, AggregationEntry, layout_of}
use Rattle.fx_machine.specs.Acts.{Choices}
use Rattle.fx_machine.specs.Holds.{hold_all}
use Rattle.fx_tables.specs.Holdings.{met_holdings}
use Rattle.fx_tables.specs.Takers.{intakes}
use Rattle.fx_link.specs.Sending.{IsSent}
use Rattle.fx_conform.specs.Held.{Leaver, Leave}

-- the key's values have the bits of its layout
pub record IsKey (key : Key) : Type 0 where
  pub layout : IsLayout key.layout
  pub bits : HasBits key.layout key.values

pub record AreCounts (counts : Counts) : Type 0 where
  pub packets : counts.packets < 2 ^ 64
  pub octets : counts.octets < 2 ^ 64

-- each holder has a valid layout
abbrev pub HaveLayouts : List Holder → Type 0
HaveLayouts holders = (holder : ℕ) → IsLayout (layout_of (slice_get holders holder))

abbrev pub AreSent : List (List Record) → Type 0
AreSent held = AllByRecursion (AllByRecursion IsSent) held

abbrev pub HaveRightKeys : List Holding → Type 0
HaveRightKeys hs = AllByRecursion (λ (h : Holding). IsKey h.key) hs

-- ---- the laws

-- Keys of packets have the bits of their layouts.
abbrev pub MetCanBeSent : Type 0
MetCanBeSent =
    (holders : List Holder) (fields : Fields) (os : List Occurrence)
    → HaveLayouts holders → IsFields fields → HaveRightKeys (met_holdings holders fields os)

-- Keys that aggregations project have the bits of their layouts too.
abbrev pub AggregatedCanBeSent : Type 0
AggregatedCanBeSent =
    (holders : List Holder) (key : Key) (aggregations : List AggregationEntry)
    → HaveLayouts holders → IsKey key → HaveRightKeys (intakes holders key aggregations)

-- A record that leaves can be sent, and so can the remaining ones.
abbrev pub LeavingsCanBeSent : Type 0
LeavingsCanBeSent =
    (l : Leaver) (held : List (List Record)) (now : List (List Record))
    → Leave l held now → AreSent held → IsSent l.flow × AreSent now

-- The records of holders can be sent after counts are added.
abbrev pub TakenCanBeSent : Type 0
TakenCanBeSent =
    (counts : Counts) (hs : List Holding) (held : List (List Record)) (choices : Choices) (now : List (List Record))
    → AreCounts counts → HaveRightKeys hs → AreSent held → hold_all counts hs held choices ≡ Some now → AreSent now
