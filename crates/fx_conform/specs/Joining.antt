-- A record that is added to a list with one record for each flow, and one that is removed from it.
use Rattle.std.specs.Prelude.{◌≡◌, ℕ, true, List, Option, Some, None}
use Rattle.std.specs.FinMap.{get, remove}
use Rattle.fx_base.specs.declared.counts.Counts.{Counts}
use Rattle.fx_layout.specs.Keys.{Key, same_key}
use Rattle.fx_tables.specs.declared.record.Record.{Record}
use Rattle.fx_base.specs.Entries.{entry_numbered}
use Rattle.fx_machine.specs.Acts.{taken_in}
use Rattle.fx_machine.specs.States.{without}
use Rattle.fx_machine.specs.Sums.{total_at}
use Rattle.fx_store.specs.Flows.{Flows, with_added}
use Rattle.fx_conform.specs.Held.{IsHeld}

-- the choice is the number of the held record of the key, or a new record if there is none
abbrev pub Chooses : List Record → Key → Option ℕ → Type 0
Chooses rs key None = total_at rs key ≡ None
Chooses rs key (Some number) = (r : Record) × (entry_numbered rs number ≡ Some r) × (same_key r.key key ≡ true)

-- ---- the laws

-- A record of a key is added to the held one, or is a new one if there is none; afterwards there is again one record
-- for
-- each flow.
abbrev pub JoinsAreMade : Type 0
JoinsAreMade =
    (held : Flows) (rs : List Record) (key : Key) (counts : Counts) → IsHeld held rs
    → (choice : Option ℕ) × (new : List Record) × Chooses rs key choice
    × (taken_in rs choice (record { key = key; counts = counts }) ≡ Some new)
    × IsHeld (with_added held key counts) new

-- Each flow is held by one record; when that record is removed, one record remains for each other flow.
abbrev pub LeavingsAreMade : Type 0
LeavingsAreMade =
    (held : Flows) (rs : List Record) (key : Key) (counts : Counts) → IsHeld held rs
    → get held key ≡ Some counts
    → (number : ℕ) × (entry_numbered rs number ≡ Some (record { key = key; counts = counts }))
    × IsHeld (remove held key) (without rs number)
