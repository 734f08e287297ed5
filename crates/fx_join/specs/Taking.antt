-- What is taken of a source's octets.
use Rattle.std.specs.Prelude.{◌≡◌, ℕ, List, [], ◌++◌, Option, Some, None}
use Rattle.std.specs.Io.KnownBytes.{prepend_known}
use Rattle.fx_base.specs.Device.{MayBeLeft}
use Rattle.fx_base.specs.Lines.{text_lines}
use Rattle.fx_join.specs.PartTexts.{PartText, TextLine, first_part}
use Rattle.fx_join.specs.declared.part_reader.NextPart.{NextPart}
use Rattle.fx_join.specs.declared.part_reader.NextPart.TheVariants as next

-- a way to divide lines into a first value and the lines after it
abbrev pub Dividing : Type 0 → Type 0
Dividing X = List TextLine → Option (X × List TextLine)

-- the first value was taken, and these octets are left of those
pub record TakesFirst {X : Type 0} (first : Dividing X) (old new : Option (List ℕ)) (x : X) : Type 0 where
  pub taken : List ℕ
  pub before : prepend_known taken new ≡ old
  pub is_first : (rest : List ℕ) → first (text_lines (taken ++ rest)) ≡ Some (x, text_lines rest)

-- the octets that may have been left have no first value
pub record LacksFirst {X : Type 0} (first : Dividing X) (old : Option (List ℕ)) : Type 0 where
  pub octets : List ℕ
  pub left : MayBeLeft old octets
  pub none : first (text_lines octets) ≡ None

-- what is found next: a part, no octets, or others with which no part begins
abbrev pub IsNextPart : Option (List ℕ) → Option (List ℕ) → NextPart → Type 0
IsNextPart old new (next.Part part) = TakesFirst first_part old new part
IsNextPart old new next.End = MayBeLeft old []
IsNextPart old new next.Other = (lacks : LacksFirst first_part old) × (text_lines lacks.octets ≡ [] → ⊥)
