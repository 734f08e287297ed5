-- Parts that are joined into a whole one after another, and the classes of the whole that they cover.
use Rattle.std.specs.Prelude.{◌≡◌, ℕ, Bool, true, List, length, Some, slice_get}
use Rattle.fx_tables.specs.Network.{Net}
use Rattle.fx_tables.specs.Classes.{Class}
use Rattle.fx_tables.specs.Ranks.{IsNetwork}
use Rattle.fx_parts.specs.Parts.{AllCertifiedParts, IsCovered, Part}

-- a whole network, its classes, and for each class whether a part covers it
pub record Joined : Type 0 where
  pub whole : Net
  pub classes : List Class
  pub covered : List Bool

abbrev pub joined : Net → List Class → List Bool → Joined
joined whole classes covered = record { whole = whole; classes = classes; covered = covered }

-- some certified parts of the whole cover each class that is marked
pub record IsJoined (j : Joined) : Type 0 where
  pub network : IsNetwork j.whole
  pub each : length j.covered ≡ length j.classes
  pub parts : List Part
  pub certified : AllCertifiedParts j.whole parts
  pub marked : (k : ℕ) (class : Class) → slice_get j.covered k ≡ Some true → slice_get j.classes k ≡ Some class
      → IsCovered j.whole class parts
