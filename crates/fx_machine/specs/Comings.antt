-- Pending crossings, represented by a mark for each crossing.
use Rattle.std.specs.Prelude.{ℕ, suc, replicate, map, length, Bool, true, false, List, [], ◌∷◌, ◌++◌, Option, Some, None, if◌then◌else◌}
use Rattle.fx_base.specs.Entries.{entry_numbered}
use Rattle.fx_tables.specs.Network.{entries}
use Rattle.fx_tables.specs.declared.packet.Packet.{Packet}
use Rattle.fx_tables.specs.Classes.{Class, path}
use Rattle.fx_machine.specs.States.{Coming, with_entry}

-- the pending crossings of a packet by its marks, numbered from this one
abbrev pub coming_by_marks : ℕ → ℕ → List Bool → List Coming
coming_by_marks packet n [] = []
coming_by_marks packet n (b ∷ bs) = if b then record { packet = packet; crossing = n }
    ∷ coming_by_marks packet (suc n) bs else coming_by_marks packet (suc n) bs

-- the pending crossings of all packets, numbered from this one
abbrev pub coming_of : ℕ → List (List Bool) → List Coming
coming_of n [] = []
coming_of n (f ∷ fs) = coming_by_marks n 1 f ++ coming_of (suc n) fs

abbrev pub is_marked : Option Bool → Bool
is_marked None = false
is_marked (Some b) = b

abbrev pub has_mark : Option (List Bool) → ℕ → Bool
has_mark None crossing = false
has_mark (Some bs) crossing = is_marked (entry_numbered bs crossing)

-- whether a crossing of a packet is marked
abbrev pub has_mark_at : List (List Bool) → ℕ → ℕ → Bool
has_mark_at fs packet crossing = has_mark (entry_numbered fs packet) crossing

-- the marks without that of this crossing
abbrev pub without_mark : List (List Bool) → ℕ → ℕ → List (List Bool)
without_mark fs packet crossing = with_entry fs packet (with_entry (entries (entry_numbered fs packet)) crossing false)

abbrev pub none_marked : List Bool → Bool
none_marked [] = true
none_marked (b ∷ bs) = if b then false else none_marked bs

abbrev pub all_crossed : List (List Bool) → Bool
all_crossed [] = true
all_crossed (f ∷ fs) = if none_marked f then all_crossed fs else false

-- this number of marks, all set
abbrev pub marks : ℕ → List Bool
marks n = replicate n true

-- a mark for each crossing of each packet
abbrev pub marks_of : List Class → List Packet → List (List Bool)
marks_of classes packets = map (λ p. marks (length (path classes p))) packets
