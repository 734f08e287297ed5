-- What is wrong with a leaf of a certificate.
use Rattle.std.specs.Prelude.{◌≡◌, ◌⊎◌, ℕ, Bool, false, ◌==◌, ◌&&◌, List, Option, Some, None, Result, Ok, Err, if◌then◌else◌}
use Rattle.fx_base.specs.declared.fault.Fault.{Fault}
use Rattle.fx_base.specs.declared.fault.Place.TheVariants as places
use Rattle.fx_base.specs.Fault.{fault_at}
use Rattle.fx_base.specs.Refusals.{counted_elsewhere}
use Rattle.fx_boxes.specs.Boxes.{Bounds}
use Rattle.fx_tables.specs.declared.traffic.Crossing.{Crossing}
use Rattle.fx_tables.specs.Network.{Net}
use Rattle.fx_leaf.specs.declared.leaf.Counted.{Counted}
use Rattle.fx_leaf.specs.Leaves.{leaf_of, never_of, numbers_of, NoneIsSound}
use Rattle.fx_leaf.specs.SoundLeaves.{SoundLeaf}
use Rattle.fx_leaf.specs.Verdicts.{path_verdict, counter}
use Rattle.fx_traffic.specs.Targets.{Target}

-- the number of the fault of a leaf for a region of a target, if any; a leaf without a place of counting
-- says that nothing is counted
abbrev pub Judge : Type 0
Judge = Target → Bounds → Option Counted → Option ℕ

abbrev pub same_leaf : Counted → Counted → Bool
same_leaf a b = a.crossing == b.crossing && (a.point == b.point && a.process == b.process)

-- the only sound leaf, or why there is none
abbrev pub sound_leaf : Net → List Crossing → Bounds → Result Counted Fault
sound_leaf net path region = leaf_of (path_verdict net region path) (numbers_of (counter net region path))

-- 410 if another leaf is the sound one
abbrev pub unless_same : Counted → Result Counted Fault → Option ℕ
unless_same leaf (Err e) = Some e.number
unless_same leaf (Ok c) = if same_leaf c leaf then None else Some counted_elsewhere

abbrev pub unless_never : Result (Unit {0}) Fault → Option ℕ
unless_never (Err e) = Some e.number
unless_never (Ok x) = None

abbrev pub sound_never : Net → List Crossing → Bounds → Result (Unit {0}) Fault
sound_never net path region = never_of (path_verdict net region path)

abbrev pub judge_of : Net → Judge
judge_of net target region (Some leaf) = unless_same leaf (sound_leaf net target.crossings region)
judge_of net target region None = unless_never (sound_never net target.crossings region)

-- ---- the meaning of the number

-- another leaf is sound
pub record OtherIsSound (net : Net) (path : List Crossing) (region : Bounds) (leaf : Counted) : Type 0 where
  pub other : Counted
  pub sound : SoundLeaf net path region other.crossing other.point other.process
  pub differs : same_leaf other leaf ≡ false

-- no leaf is sound, for the reason with this number; or, for 410, another leaf is sound
abbrev pub IsWrong : Net → List Crossing → Bounds → Counted → ℕ → Type 0
IsWrong net path region leaf number =
    NoneIsSound net path region (fault_at number places.None)
    ⊎ ((number ≡ counted_elsewhere) × OtherIsSound net path region leaf)
