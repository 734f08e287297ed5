-- What a network may do, whatever choices are made.
use Rattle.std.specs.Prelude.{◌≡◌, ◌⊎◌, ℕ, Bool, true, false, List, [], ◌∷◌, ◌++◌, Option, Some, slice_get, slice_set, remove}
use Rattle.fx_base.specs.declared.counts.Counts.{Counts}
use Rattle.fx_base.specs.Counts.{add_counts}
use Rattle.fx_layout.specs.Keys.{same_key}
use Rattle.fx_tables.specs.declared.packet.Packet.{Packet}
use Rattle.fx_tables.specs.declared.record.Record.{Record}
use Rattle.fx_tables.specs.declared.holder_name.HolderName.{HolderName}
use Rattle.fx_tables.specs.Network.{Net, holder_place}
use Rattle.fx_base.specs.Entries.{entry_numbered}
use Rattle.fx_tables.specs.Classes.{Class, path}
use Rattle.fx_machine.specs.States.{State, with_entry, without, after_tally, sent_to, sent_to_all}
use Rattle.fx_machine.specs.Acts.{Act, Tally, Send, Hold}
use Rattle.fx_machine.specs.Steps.{one_packet, crossing_acts, acts_of_leaving, acts_of_arrival, place}

-- the record is sent to all destinations, or to one of them
abbrev pub MaySend : Bool → List (Option ℕ) → Record → State → State → Type 0
MaySend true destinations r s new = new ≡ sent_to_all destinations r s
MaySend false destinations r s new = (n : ℕ) × (d : Option ℕ) × (entry_numbered destinations n ≡ Some d)
    × (new ≡ sent_to d r s)

-- a new record is added at the end, or the counts are added to one held record of equal key
abbrev pub MayTakeIn : List Record → Record → List Record → Type 0
MayTakeIn rs r new =
    (new ≡ rs ++ r ∷ []) ⊎ ((n : ℕ) × (old : Record) × (entry_numbered rs n ≡ Some old)
    × (same_key old.key r.key ≡ true) × (new
    ≡ with_entry rs n (record { key = old.key; counts = add_counts old.counts r.counts })))

abbrev pub MayDo : Net → Counts → Act → State → State → Type 0
MayDo net counts (Tally key) s new = new ≡ after_tally net key counts s
MayDo net counts (Send e key) s new = MaySend e.parallel e.destinations (record { key = key; counts = counts }) s new
MayDo net counts (Hold holder key) s new =
    (rs : List Record) × (after : List Record) × (slice_get s.held holder ≡ Some rs)
    × MayTakeIn rs (record { key = key; counts = counts }) after
    × (new ≡ record s { held = slice_set s.held holder after })

-- these acts in order
abbrev pub MayDoAll : Net → Counts → List Act → State → State → Type 0
MayDoAll net counts [] s new = s ≡ new
MayDoAll net counts (a ∷ acts) s new = (mid : State) × MayDo net counts a s mid × MayDoAll net counts acts mid new

-- a pending crossing is made, a held record leaves, or a record on a link arrives
pub data Moves (net : Net) (classes : List Class) (packets : List Packet) (s new : State) : Type 0 where
  crosses : (packet crossing n : ℕ) (p : Packet) → entry_numbered packets packet ≡ Some p
      → place s.coming packet crossing ≡ Some n
      → MayDoAll net (one_packet p) (crossing_acts net p.fields (entry_numbered (path classes p) crossing))
      (record s { coming = remove s.coming n }) new → Moves net classes packets s new
  expires : (name : HolderName) (holder number : ℕ) (rs : List Record) (r : Record) → holder_place net name
      ≡ Some holder → slice_get s.held holder ≡ Some rs → entry_numbered rs number ≡ Some r
      → MayDoAll net r.counts (acts_of_leaving net holder r.key)
      (record s { held = slice_set s.held holder (without rs number) }) new → Moves net classes packets s new
  arrives : (link number : ℕ) (rs : List Record) (r : Record) → slice_get s.carried link ≡ Some rs
      → entry_numbered rs number ≡ Some r → MayDoAll net r.counts (acts_of_arrival net r.key (slice_get net.links link))
      (record s { carried = slice_set s.carried link (without rs number) }) new → Moves net classes packets s new

-- any number of moves, in order
pub data Runs (net : Net) (classes : List Class) (packets : List Packet) : State → State → Type 0 where
  ended : (s final : State) → s ≡ final → Runs net classes packets s final
  moved : (s next final : State) → Moves net classes packets s next → Runs net classes packets next final
      → Runs net classes packets s final
