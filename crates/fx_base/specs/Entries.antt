-- Entries of a list by their numbers, and the value behind an optional reference.
use Rattle.std.specs.Prelude.{ℕ, zero, suc, List, Option, Some, None, slice_get}
use denote.Ref.{Bor}

-- the entry with this number, counted from 1
abbrev pub entry_numbered : {A : Type 0} → List A → ℕ → Option A
entry_numbered entries zero = None
entry_numbered entries (suc n) = slice_get entries n

-- the value that the reference points to, if there is a reference
abbrev pub now_of : {A : Type 0} → Option (Bor A) → Option A
now_of None = None
now_of (Some r) = Some r.now
