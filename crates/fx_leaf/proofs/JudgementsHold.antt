-- Each judgement holds of the region's packets.
use Rattle.std.proofs.Common.{◌≡◌, ℕ, List, Option, Some, None, sym, ap, ◌∙◌, subst, IfSome}
use Rattle.fx_elements.specs.declared.axis.Axis.{Axis}
use Rattle.fx_boxes.specs.Boxes.{Bounds, IsRegion}
use Rattle.fx_tables.specs.declared.traffic.Crossing.{Crossing}
use Rattle.fx_tables.specs.Network.{Net}
use Rattle.fx_tables.specs.Ranks.{IsNetwork}
use Rattle.fx_leaf.specs.declared.leaf.Counted.{Counted}
use Rattle.fx_leaf.specs.declared.judgement.Judgement.TheVariants as judgements
use Rattle.fx_leaf.specs.declared.verdict.Fate.{Fate}
use Rattle.fx_leaf.specs.declared.verdict.Fate.TheVariants.{Once, Never}
use Rattle.fx_leaf.specs.Answers.{NothingCuts, AllHave}
use Rattle.fx_leaf.specs.Judgements.{IsJudged}
use Rattle.fx_leaf.specs.Leaves.{numbers_of}
use Rattle.fx_leaf.specs.SoundLeaves.{SoundLeaf}
use Rattle.fx_leaf.specs.Splits.{IsSplit}
use Rattle.fx_leaf.specs.Verdicts.{Verdict, path_verdict, counter}
use Rattle.fx_leaf.proofs.Answers.{some_is_fate, once_is_sound, never_is_sound}
use Rattle.fx_leaf.proofs.PathSplits.{split_cuts}

pub this_fate : (v : Verdict) (f g : Fate) → v ≡ Some f → f ≡ g → v ≡ Some g
this_fate v f g is same = is ∙ ap Some same

module _ (net : Net) (path : List Crossing) (region : Bounds) where
  pub cut_judgement : (axis : Axis) (at : ℕ) → IsSplit net path region axis at
      → IsJudged net path region (judgements.Cut axis at)
  cut_judgement axis at split = (split_cuts net path region axis at split, split)

  module _ (is_net : IsNetwork net) (r : IsRegion region) (v : Verdict) (known : v ≡ path_verdict net region path) where
    -- the fate that is known is that of all packets
    pub fate_judgement : (f : Fate) → v ≡ Some f → NothingCuts net path region × AllHave net path region f
    fate_judgement f is = some_is_fate net path region is_net r f (sym known ∙ is)

    pub never_judgement : v ≡ Some Never → IsJudged net path region judgements.Never
    never_judgement is = (never_is_sound net path region is_net r (sym known ∙ is), (fate_judgement Never is).1)

    module _ (o : Option Counted) (names : o ≡ numbers_of (counter net region path)) (is : v ≡ Some Once) where
      -- where it is once, a selection process counts them
      pub one_counts : o ≡ None → ⊥
      one_counts none =
          let s = once_is_sound net path region is_net r (sym known ∙ is) in
          let some : o ≡ numbers_of (Some s.0) = names ∙ ap numbers_of s.1 in
          cc

      pub once_judgement : (c : Counted) → o ≡ Some c → IsJudged net path region (judgements.Once c)
      once_judgement c this =
          let s = once_is_sound net path region is_net r (sym known ∙ is) in
          let same : numbers_of (Some s.0) ≡ Some c = sym (names ∙ ap numbers_of s.1) ∙ this in (
            subst (λ x. IfSome x (λ k. SoundLeaf net path region k.crossing k.point k.process)) same s.2,
            (fate_judgement Once is).1,
          )
