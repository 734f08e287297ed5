-- The state of a network.
use Rattle.std.specs.Prelude.{◌≡◌, ℕ, zero, suc, ◌+◌, ◌%◌, ◌^◌, Bool, true, false, List, [], ◌∷◌, ◌++◌, Option, Some, None, if◌then◌else◌, slice_set, remove}
use Rattle.fx_base.specs.declared.counts.Counts.{Counts}
use Rattle.fx_base.specs.Counts.{add_counts}
use Rattle.fx_layout.specs.Keys.{Key, project, refines, same_key}
use Rattle.fx_tables.specs.declared.packet.Packet.{Packet}
use Rattle.fx_tables.specs.declared.record.Record.{Record}
use Rattle.fx_tables.specs.Network.{Net}
use Rattle.fx_tables.specs.Classes.{Class, path}
use Rattle.fx_tables.specs.declared.traffic.Crossing.{Crossing}

-- a pending crossing, by the numbers of the packet and of the crossing on its path
pub record Coming : Type 0 where
  pub packet : ℕ
  pub crossing : ℕ

pub record State : Type 0 where
  pub coming : List Coming
  pub held : List (List Record)  -- at each holder
  pub carried : List (List Record)  -- on each link
  pub totals : List Record
  pub unassigned : ℕ  -- the number of records that couldn't be tallied

-- ---- the opening

-- all crossings of a packet, numbered from this one
abbrev pub crossings_from : ℕ → ℕ → List Crossing → List Coming
crossings_from packet n [] = []
crossings_from packet n (c ∷ cs) = record { packet = packet; crossing = n } ∷ crossings_from packet (suc n) cs

abbrev pub coming_from : List Class → ℕ → List Packet → List Coming
coming_from classes n [] = []
coming_from classes n (p ∷ ps) = crossings_from n 1 (path classes p) ++ coming_from classes (suc n) ps

abbrev pub nothing_at : {A : Type 0} → List A → List (List Record)
nothing_at [] = []
nothing_at (x ∷ xs) = [] ∷ nothing_at xs

abbrev pub opening : Net → List Class → List Packet → State
opening net classes packets = record {
  coming = coming_from classes 1 packets;
  held = nothing_at net.holders;
  carried = nothing_at net.links;
  totals = [];
  unassigned = 0;
}

-- ---- the end

abbrev pub all_empty : List (List Record) → Bool
all_empty [] = true
all_empty ([] ∷ rss) = all_empty rss
all_empty ((r ∷ rs) ∷ rss) = false

-- no crossing is pending, no record is held, and none is on a link
pub record Complete (s : State) : Type 0 where
  pub crossed : s.coming ≡ []
  pub nothing_held : all_empty s.held ≡ true
  pub nothing_carried : all_empty s.carried ≡ true

-- ---- changes

-- the list with the entry of this number replaced, and the list without it
abbrev pub with_entry : {A : Type 0} → List A → ℕ → A → List A
with_entry xs zero y = xs
with_entry xs (suc n) y = slice_set xs n y

abbrev pub without : {A : Type 0} → List A → ℕ → List A
without xs zero = xs
without xs (suc n) = remove xs n

-- the counts are added at the key, which is appended if it is new
abbrev pub add_at : List Record → Key → Counts → List Record
add_at [] key counts = record { key = key; counts = counts } ∷ []
add_at (t ∷ ts) key counts =
    if same_key t.key key then record { key = t.key; counts = add_counts t.counts counts } ∷ ts else t
    ∷ add_at ts key counts

-- the record is tallied under the projected key, or counted as unassigned
abbrev pub after_tally : Net → Key → Counts → State → State
after_tally net key counts s =
    if refines key.layout net.report_layout
    then record s { totals = add_at s.totals (project key net.report_layout) counts }
    else record s { unassigned = s.unassigned + 1 }

-- the record is appended to the list at this index
abbrev pub put_last : List (List Record) → ℕ → Record → List (List Record)
put_last [] n r = []
put_last (rs ∷ rss) zero r = (rs ++ r ∷ []) ∷ rss
put_last (rs ∷ rss) (suc n) r = rs ∷ put_last rss n r

-- a record goes to a destination; without a link the record leaves the network
abbrev pub sent_to : Option ℕ → Record → State → State
sent_to None r s = s
sent_to (Some link) r s = record s { carried = put_last s.carried link r }

abbrev pub sent_to_all : List (Option ℕ) → Record → State → State
sent_to_all [] r s = s
sent_to_all (d ∷ ds) r s = sent_to_all ds r (sent_to d r s)

-- the state as a program reports it: the number of unassigned records is modulo 2 to the 64
abbrev pub wrapped_state : State → State
wrapped_state s = record s { unassigned = s.unassigned % 2 ^ 64 }
