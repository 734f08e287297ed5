use Rattle.std.proofs.Common.{◌≡◌, ◌∙◌, ◌+◌, ◌<◌, Global, Vec, length, take, arith, subst, sym, List, false}
use Rattle.std.specs.List.{AllByRecursion}
use Rattle.fx_elements.specs.Axes.{Fields}
use Rattle.fx_boxes.specs.Boxes.{Holds}
use Rattle.fx_tables.specs.declared.aggregation.MatchEntry.{MatchEntry}
use Rattle.fx_tables.specs.Matches.{HasEntries, IsEntry}
use Rattle.fx_tables.specs.Network.{AggregationEntry}
use Rattle.fx_leaf.specs.Remaining.{AcceptsNone, AreRemaining}
use Rattle.fx_leaf.specs.SoundLeaves.{matches_packet}
use Rattle.fx_leaf.proofs.RemainingMatches.{have_at, none_there, remains_next, left_out_next}
use Rattle.fx_leaf.proofs.remaining.list_within.Goals as goal
use Rattle.fx_leaf.proofs.remaining.list_within.Goals.{then-is_some+else-len-capacity, else-is_some}

pub match_part-requires : goal.match_part-requires
match_part-requires c =
    let a = c.at-aggregation.result.now in
    let xs = c.args.others.now in
    let end = c.len-index-end.ensures in
    let before = c.loop-index-test.true in
    let lt : c.loop-index.index < length xs = omega (arith, before, end) in
    subst (AllByRecursion IsEntry) (sym c.matches.ensures)
    (subst HasEntries (sym (c.at-aggregation.ensures.at a))
    (have_at HasEntries xs c.requires c.loop-index.index a lt))

pub loop-index-preserved : goal.loop-index-preserved
loop-index-preserved c =
    let a = c.at-aggregation.result.now in
    let xs = c.args.others.now in
    let region = c.args.region.now in
    let k = c.loop-index.index in
    let end = c.len-index-end.ensures in
    let before = c.loop-index-test.true in
    let lt : k < length xs = omega (arith, before, end) in
    elim c.if-is_some.branch [
      | then-is_some+else-len-capacity w ↦ subst
          (λ (l : Vec AggregationEntry Global). AreRemaining region (take (k + 1) xs) l.items) (sym w.listed-is)
          (remains_next region xs c.loop-index.listed.items k a lt (c.at-aggregation.ensures.at a)
          c.loop-index.invariant w.push_reserved.new.self.items w.push_reserved.ensures.items)
      | else-is_some w ↦
          let none : AcceptsNone region a = subst
          (λ (es : List MatchEntry). (f : Fields) → Holds region f → matches_packet es f ≡ false) c.matches.ensures
          (none_there c.match_part.result _ (sym c.is_some.ensures ∙ w.if-is_some.false) c.match_part.ensures.none)
          in
          subst (λ (l : Vec AggregationEntry Global). AreRemaining region (take (k + 1) xs) l.items) (sym w.listed-is)
          (left_out_next region xs c.loop-index.listed.items k a lt (c.at-aggregation.ensures.at a)
          c.loop-index.invariant none)
    ]
