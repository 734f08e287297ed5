-- An entry's name.
use Rattle.std.proofs.Common.{◌≡◌, ℕ, List, ◌∷◌, codes, Result, Ok, Err, ◌∙◌}
use Rattle.std.specs.Result.{IsErr, IsErrAnd}
use Rattle.serde_json.specs.Data.{Data}
use Rattle.fx_base.specs.declared.fault.Fault.{Fault}
use Rattle.fx_base.specs.declared.name.Name.{Name}
use Rattle.fx_walk.specs.Scalars.{text_of}
use Rattle.fx_walk.specs.Walk.{Reads, Refuses, Row, listed_in, member_of, object_faults, row_faults}
use Rattle.fx_walk.proofs.Faults.{refuses_more}
use Rattle.fx_config.specs.EntryNames.{IsEntryName, name_row}
use Rattle.fx_walk.proofs.RowFaults.{from_rows, none_first}

-- of an object without other members
pub named : (listed earlier : List (List ℕ)) (up : List ℕ) (d : Data) (r : Result Name Fault)
    → ((rows : List Row) → listed_in rows ≡ listed → object_faults rows up d ≡ row_faults rows up d)
    → Reads ((name_row earlier).faults up d) (text_of (member_of (codes "name") d)) r
    → IsEntryName listed earlier up d r
named listed earlier up d (Ok name) fine h = (
  λ rows is. fine (name_row earlier ∷ rows) is
      ∙ none_first ((name_row earlier).faults up d) (row_faults rows up d) h.0,
  h.1,
)
named listed earlier up d (Err e) fine h =
    λ rows is. from_rows e (object_faults (name_row earlier ∷ rows) up d) (row_faults (name_row earlier ∷ rows) up d)
    (fine (name_row earlier ∷ rows) is) (refuses_more e ((name_row earlier).faults up d) (row_faults rows up d) h)

-- of what is no object, or of one with another member
pub refused : (listed earlier : List (List ℕ)) (up : List ℕ) (d : Data) (r : Result Name Fault) (e : Fault) → IsErr r
    × IsErrAnd r (λ f. f ≡ e) → ((rows : List Row) → listed_in rows ≡ listed → Refuses e (object_faults rows up d))
    → IsEntryName listed earlier up d r
refused listed earlier up d (Ok name) e h refuses = absurd h.1
refused listed earlier up d (Err f) e h refuses = rw h.1 (λ rows is. refuses (name_row earlier ∷ rows) is)
