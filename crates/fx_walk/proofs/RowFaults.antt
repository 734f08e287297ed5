-- The faults of rows one after the other.
use Rattle.std.proofs.Common.{◌≡◌, ℕ, List, [], ◌∷◌, ◌++◌, ◌∙◌, refl, sym, ap, append_assoc, Result}
use Rattle.std.proofs.lemmas.List.{append-nil}
use Rattle.serde_json.specs.Data.{Data}
use Rattle.fx_base.specs.declared.fault.Fault.{Fault}
use Rattle.fx_walk.specs.Walk.{FoundFault, Reads, Refuses, Row, row_faults}

-- faults that are those of the rows
pub from_rows : (e : Fault) (a b : List FoundFault) → a ≡ b → Refuses e b → Refuses e a
from_rows e a b same h = rw same h

-- a row without faults changes nothing
pub skip : (e : Fault) (a b : List FoundFault) → a ≡ [] → Refuses e b → Refuses e (a ++ b)
skip e a b none h = rw none h

pub none_first : (a b : List FoundFault) → a ≡ [] → a ++ b ≡ b
none_first a b none = rw none refl

-- nor has it any with rows that have none
pub none_more : (a b : List FoundFault) → a ≡ [] → b ≡ [] → a ++ b ≡ []
none_more a b none rest = rw none rest

pub no_rows : (a b : List FoundFault) → a ≡ b → b ≡ [] → a ≡ []
no_rows a b same none = same ∙ none

-- the faults of some rows come before those of the rows below them
pub rows_before : (above rest : List Row) (up : List ℕ) (d : Data) → row_faults (above ++ rest) up d
    ≡ row_faults above up d ++ row_faults rest up d
rows_before [] rest up d = refl
rows_before (row ∷ above) rest up d =
    ap (λ (fs : List FoundFault). row.faults up d ++ fs) (rows_before above rest up d)
    ∙ sym (append_assoc (row.faults up d) (row_faults above up d) (row_faults rest up d))

-- an answer for the last of some rows
module _ {X : Type 0} (x : X) (r : Result X Fault) where
  pub reads_rows : (a b : List FoundFault) → a ≡ b → Reads b x r → Reads a x r
  reads_rows a b same h = rw same h

  pub reads_behind : (a b : List FoundFault) → a ≡ [] → Reads b x r → Reads (a ++ b) x r
  reads_behind a b none h = rw none h

  pub reads_last : (a : List FoundFault) → Reads a x r → Reads (a ++ []) x r
  reads_last a h = rw (append-nil a) h
