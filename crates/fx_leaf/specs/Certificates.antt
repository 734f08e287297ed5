-- Certificates: for each path of each class a tree of splits, with a leaf for each remaining part.
use Rattle.std.specs.Prelude.{◌≡◌, ℕ, Bool, true, false, List, Some}
use Rattle.fx_elements.specs.declared.axis.Axis.{Axis}
use Rattle.fx_elements.specs.Axes.{Fields, axis_index}
use Rattle.fx_boxes.specs.Boxes.{Bounds, holds, IsStrictlyInside, below_part, above_part}
use Rattle.fx_tables.specs.declared.traffic.Crossing.{Crossing}
use Rattle.fx_tables.specs.Network.{Net, entries}
use Rattle.fx_base.specs.Entries.{entry_numbered}
use Rattle.fx_tables.specs.Classes.{Class}
use Rattle.fx_leaf.specs.Fates.{packet_fate, wanted_fate}
use Rattle.fx_leaf.specs.SoundLeaves.{SoundLeaf, SoundNever}

pub data Tree : Type 0 where
  Leaf : (crossing point process : ℕ) → Tree
  Uncounted : Tree
  Split : (axis : Axis) (at : ℕ) (below above : Tree) → Tree

-- each split is strictly inside its region, and each leaf is sound and of the kind that the class requires
abbrev pub SoundTree : Net → List Crossing → Bool → Bounds → Tree → Type 0
SoundTree net path exempt region (Leaf crossing point process) = (exempt ≡ false)
    × SoundLeaf net path region crossing point process
SoundTree net path exempt region Uncounted = (exempt ≡ true) × SoundNever net path region
SoundTree net path exempt region (Split axis at below above) =
    IsStrictlyInside region (axis_index axis) at
    × SoundTree net path exempt (below_part region (axis_index axis) at) below
    × SoundTree net path exempt (above_part region (axis_index axis) at) above

-- a sound tree for each path of each class, over the class's region
abbrev pub Sound : Net → List Class → List (List Tree) → Type 0
Sound net classes trees =
    (c m : ℕ) (class : Class) (path : List Crossing) → entry_numbered classes c ≡ Some class
    → entry_numbered class.paths m ≡ Some path → (tree : Tree)
    × (entry_numbered (entries (entry_numbered trees c)) m ≡ Some tree)
    × SoundTree net path class.exempt class.region tree

-- each packet of a class has, on each of the paths of the class, the fate that the class requires
abbrev pub AllAsWanted : Net → List Class → Type 0
AllAsWanted net classes =
    (c m : ℕ) (class : Class) (path : List Crossing) (fields : Fields) → entry_numbered classes c ≡ Some class
    → entry_numbered class.paths m ≡ Some path → holds class.region fields ≡ true → packet_fate net fields path
    ≡ wanted_fate class.exempt
