-- The names of entries of lists.
use Rattle.std.specs.Prelude.{◌≡◌, ℕ, List, ◌∷◌, codes, Result, Ok, Err}
use Rattle.serde_json.specs.Data.{Data}
use Rattle.fx_base.specs.declared.fault.Fault.{Fault}
use Rattle.fx_base.specs.declared.name.Name.{Name}
use Rattle.fx_walk.specs.Lists.{name_once}
use Rattle.fx_walk.specs.Scalars.{text_of}
use Rattle.fx_walk.specs.Walk.{Refuses, Row, listed_in, member_of, object_faults, required_row, row_faults}

-- the row for the name of an entry that follows entries with these names
abbrev pub name_row : List (List ℕ) → Row
name_row earlier = required_row (codes "name") (name_once earlier)

-- The result of checking an object's kind, its other members and its name, if the rows after that of the name
-- list the rest of these members.
abbrev pub IsEntryName : List (List ℕ) → List (List ℕ) → List ℕ → Data → Result Name Fault → Type 0
IsEntryName listed earlier up d (Ok name) =
    ((rows : List Row) → listed_in (name_row earlier ∷ rows) ≡ listed → object_faults (name_row earlier ∷ rows) up d
    ≡ row_faults rows up d)
    × (name ≡ text_of (member_of (codes "name") d))
IsEntryName listed earlier up d (Err e) = (rows : List Row) → listed_in (name_row earlier ∷ rows) ≡ listed
    → Refuses e (object_faults (name_row earlier ∷ rows) up d)
