-- What can be said about a region's packets on a path, as a single judgement.
use Rattle.std.specs.Prelude.{List}
use Rattle.fx_boxes.specs.Boxes.{Bounds}
use Rattle.fx_tables.specs.declared.traffic.Crossing.{Crossing}
use Rattle.fx_tables.specs.Network.{Net}
use Rattle.fx_leaf.specs.declared.judgement.Judgement.{Judgement}
use Rattle.fx_leaf.specs.declared.judgement.Judgement.TheVariants.{Cut, Once, Never, Many, Differing, Unassigned}
use Rattle.fx_leaf.specs.declared.verdict.Fate.TheVariants as fates
use Rattle.fx_leaf.specs.Answers.{NothingCuts, AllHave}
use Rattle.fx_leaf.specs.SoundLeaves.{SoundLeaf, SoundNever}
use Rattle.fx_leaf.specs.Splits.{IsSplit}

-- something cuts the region and has this bound strictly inside it, or nothing cuts the region and all its packets have
-- this fate
abbrev pub IsJudged : Net → List Crossing → Bounds → Judgement → Type 0
IsJudged net path region (Cut axis at) = (NothingCuts net path region → ⊥) × IsSplit net path region axis at
IsJudged net path region (Once c) = SoundLeaf net path region c.crossing c.point c.process
    × AllHave net path region fates.Once
IsJudged net path region Never = SoundNever net path region × AllHave net path region fates.Never
IsJudged net path region Many = NothingCuts net path region × AllHave net path region fates.Many
IsJudged net path region Differing = NothingCuts net path region × AllHave net path region fates.Differing
IsJudged net path region Unassigned = NothingCuts net path region × AllHave net path region fates.Unassigned
