-- The numbers of steps in which a packet can have a given fate.
use Rattle.std.specs.Prelude.{◌≡◌, true, false, ℕ, suc, ◌+◌, ◌<◌, List, [], ◌∷◌, length, Option, Some, None, slice_get, if◌then◌else◌}
use Rattle.fx_elements.specs.Axes.{Fields}
use Rattle.fx_layout.specs.Keys.{Key, refines}
use Rattle.fx_tables.specs.declared.traffic.Crossing.{Crossing}
use Rattle.fx_tables.specs.Network.{Net, Exporter}
use Rattle.fx_base.specs.Entries.{entry_numbered}
use Rattle.fx_tables.specs.Runnable.{IsHolder}
use Rattle.fx_machine.specs.Acts.{Act, Tally, Send, Hold}
use Rattle.fx_machine.specs.Steps.{crossing_acts, acts_of_leaving, acts_of_arrival}
use Rattle.fx_leaf.specs.declared.verdict.Fate.{Fate}
use Rattle.fx_leaf.specs.declared.verdict.Fate.TheVariants.{Never, Once, Unassigned}
use Rattle.fx_leaf.specs.Fates.{both}

abbrev pub tally_fate : Net → Key → Fate
tally_fate net key = if refines key.layout net.report_layout then Once else Unassigned

-- a task: acts, one act, or a key sent to these destinations
pub data Task : Type 0 where
  acts : List Act → Task
  one : Act → Task
  to : Key → List (Option ℕ) → Task

-- for some choices, without joining records, a task and everything that follows from it has this fate in this number of
-- steps
pub data Comes (net : Net) : Task → Fate → ℕ → Type 0 where
  -- no acts: never counted, in 0 steps
  no_act : Comes net (acts []) Never 0
  next_act : (a : Act) (as' : List Act) (f g : Fate) (m n : ℕ) → Comes net (one a) f m → Comes net (acts as') g n
      → Comes net (acts (a ∷ as')) (both f g) (m + n)
  tally : (key : Key) → Comes net (one (Tally key)) (tally_fate net key) 0
  -- a held record leaves, by one step
  hold : (holder : ℕ) (key : Key) (f : Fate) (n : ℕ) → IsHolder net holder
      → Comes net (acts (acts_of_leaving net holder key)) f n → Comes net (one (Hold holder key)) f (suc n)
  -- the record is sent to all destinations, or to one of them
  to_all : (e : Exporter) (key : Key) (f : Fate) (n : ℕ) → e.parallel ≡ true → Comes net (to key e.destinations) f n
      → Comes net (one (Send e key)) f n
  to_any : (e : Exporter) (key : Key) (number : ℕ) (d : Option ℕ) (f : Fate) (n : ℕ) → e.parallel ≡ false
      → entry_numbered e.destinations number ≡ Some d → Comes net (to key (d ∷ [])) f n
      → Comes net (one (Send e key)) f n
  no_destination : (key : Key) → Comes net (to key []) Never 0
  -- a record sent on a link arrives, by one step; without a link it leaves the network
  to_outside : (key : Key) (ds : List (Option ℕ)) (f : Fate) (n : ℕ) → Comes net (to key ds) f n
      → Comes net (to key (None ∷ ds)) f n
  to_link : (key : Key) (link : ℕ) (ds : List (Option ℕ)) (f g : Fate) (m n : ℕ) → link < length net.links
      → Comes net (acts (acts_of_arrival net key (slice_get net.links link))) f m → Comes net (to key ds) g n
      → Comes net (to key (Some link ∷ ds)) (both f g) (suc m + n)

-- a packet that makes these crossings, by one step each
pub data PacketComes (net : Net) (fields : Fields) : List Crossing → Fate → ℕ → Type 0 where
  no_crossing : PacketComes net fields [] Never 0
  cross : (c : Crossing) (cs : List Crossing) (f g : Fate) (m n : ℕ)
      → Comes net (acts (crossing_acts net fields (Some c))) f m → PacketComes net fields cs g n
      → PacketComes net fields (c ∷ cs) (both f g) (suc m + n)
