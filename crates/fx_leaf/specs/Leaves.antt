-- The answer for the packets of a region on a path: the sound leaf, or why there is none.
use Rattle.std.specs.Prelude.{◌≡◌, List, map, Option, Some, None, Result, Ok, Err}
use Rattle.fx_base.specs.declared.fault.Fault.{Fault}
use Rattle.fx_base.specs.declared.fault.Place.TheVariants as places
use Rattle.fx_base.specs.Fault.{fault_at}
use Rattle.fx_base.specs.Refusals.{counted_more_than_once, cut_region, destinations_differ, exempt_counted, never_counted, unassigned_record}
use Rattle.fx_boxes.specs.Boxes.{Bounds}
use Rattle.fx_tables.specs.declared.traffic.Crossing.{Crossing}
use Rattle.fx_tables.specs.Network.{Net}
use Rattle.fx_leaf.specs.declared.leaf.Counted.{Counted}
use Rattle.fx_leaf.specs.declared.path.PathFate.{PathFate}
use Rattle.fx_leaf.specs.declared.verdict.Fate.TheVariants.{Never, Once, Many, Differing, Unassigned}
use Rattle.fx_leaf.specs.Answers.{NothingCuts, AllHave}
use Rattle.fx_leaf.specs.Verdicts.{Verdict, SelectionVerdict, verdict_of_both, verdict_of_all, last_counter, path_verdict, counter}

-- the numbers that identify a selection process, if there is one
abbrev pub numbers_of : Option SelectionVerdict → Option Counted
numbers_of None = None
numbers_of (Some s) = Some (record { crossing = s.crossing; point = s.point; process = s.process })

-- nothing has been counted so far
abbrev pub nothing_known : PathFate
nothing_known = record { fate = Never; counted = None }

-- the state after adding these verdicts, none of which is cut: their combination, and the last selection process with
-- verdict `Once`
pub record AddsVerdicts (before after : PathFate) (verdicts : List SelectionVerdict) : Type 0 where
  pub verdict : Some after.fate ≡ verdict_of_both (Some before.fate) (verdict_of_all (map (λ s. s.verdict) verdicts))
  pub counted : (found : Option SelectionVerdict) → before.counted ≡ numbers_of found → after.counted
      ≡ numbers_of (last_counter found verdicts)

-- the fate of a region's packets on a path and, if they are counted once, the selection process that counts them
pub record IsPathFate (net : Net) (path : List Crossing) (region : Bounds) (t : PathFate) : Type 0 where
  pub verdict : Some t.fate ≡ path_verdict net region path
  pub counted : t.fate ≡ Once → t.counted ≡ numbers_of (counter net region path)

-- ---- the answer

-- the fault for a verdict other than `Once`
abbrev pub fault_of : Verdict → Fault
fault_of None = fault_at cut_region places.None
fault_of (Some Unassigned) = fault_at unassigned_record places.None
fault_of (Some Differing) = fault_at destinations_differ places.None
fault_of (Some Many) = fault_at counted_more_than_once places.None
fault_of (Some Once) = fault_at never_counted places.None
fault_of (Some Never) = fault_at never_counted places.None

-- the selection process that counts the packets, if their verdict is `Once`; in that case there always is one
abbrev pub leaf_of : Verdict → Option Counted → Result Counted Fault
leaf_of None counted = Err (fault_of None)
leaf_of (Some Unassigned) counted = Err (fault_of (Some Unassigned))
leaf_of (Some Differing) counted = Err (fault_of (Some Differing))
leaf_of (Some Many) counted = Err (fault_of (Some Many))
leaf_of (Some Never) counted = Err (fault_of (Some Never))
leaf_of (Some Once) None = Err (fault_of (Some Once))
leaf_of (Some Once) (Some c) = Ok c

-- the answer for the packets of a region on a path
abbrev pub path_leaf : Net → List Crossing → Bounds → Result Counted Fault
path_leaf net path region = leaf_of (path_verdict net region path) (numbers_of (counter net region path))

-- why no leaf is sound for the region, as a fault number
pub data NoneIsSound (net : Net) (path : List Crossing) (region : Bounds) : Fault → Type 0 where
  cut : (NothingCuts net path region → ⊥) → NoneIsSound net path region (fault_at cut_region places.None)
  unassigned : NothingCuts net path region → AllHave net path region Unassigned
      → NoneIsSound net path region (fault_at unassigned_record places.None)
  differing : NothingCuts net path region → AllHave net path region Differing
      → NoneIsSound net path region (fault_at destinations_differ places.None)
  many : NothingCuts net path region → AllHave net path region Many
      → NoneIsSound net path region (fault_at counted_more_than_once places.None)
  never : NothingCuts net path region → AllHave net path region Never
      → NoneIsSound net path region (fault_at never_counted places.None)

-- ---- the answer for exempt packets

-- success if nothing is counted, otherwise the reason: as above, and 415 if the packets are counted once
abbrev pub never_of : Verdict → Result (Unit {0}) Fault
never_of None = Err (fault_of None)
never_of (Some Unassigned) = Err (fault_of (Some Unassigned))
never_of (Some Differing) = Err (fault_of (Some Differing))
never_of (Some Many) = Err (fault_of (Some Many))
never_of (Some Once) = Err (fault_at exempt_counted places.None)
never_of (Some Never) = Ok tt

-- why some packets of a region are counted, as a fault number
pub data NeverIsUnsound (net : Net) (path : List Crossing) (region : Bounds) : Fault → Type 0 where
  cut : (NothingCuts net path region → ⊥) → NeverIsUnsound net path region (fault_at cut_region places.None)
  unassigned : NothingCuts net path region → AllHave net path region Unassigned
      → NeverIsUnsound net path region (fault_at unassigned_record places.None)
  differing : NothingCuts net path region → AllHave net path region Differing
      → NeverIsUnsound net path region (fault_at destinations_differ places.None)
  many : NothingCuts net path region → AllHave net path region Many
      → NeverIsUnsound net path region (fault_at counted_more_than_once places.None)
  once : NothingCuts net path region → AllHave net path region Once
      → NeverIsUnsound net path region (fault_at exempt_counted places.None)
