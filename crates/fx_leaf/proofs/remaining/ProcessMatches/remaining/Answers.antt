use Rattle.std.proofs.Common.{◌∙◌, ◌-◌, ◌<◌, List, arith, length, subst, sym}
use Rattle.std.specs.List.{AllByRecursion}
use Rattle.fx_tables.specs.Matches.{HasEntries}
use Rattle.fx_tables.specs.Network.{AggregationEntry}
use Rattle.fx_leaf.specs.Remaining.{AreRemaining, HasRemaining}
use Rattle.fx_leaf.proofs.RemainingMatches.{all_remain, have_at, remain_within, remaining_have}
use Rattle.fx_leaf.proofs.remaining.ProcessMatches.remaining.Goals as goal

pub returns-then-inside-clause-remain : goal.returns-then-inside-clause-remain
returns-then-inside-clause-remain c =
    let region = c.args.region.now in
    let all = c.self.inside.all.now in
    let entered = c.as_slice-entered.result.now in
    let last = c.index-entered-count.result in
    let k = length entered - 1 - c.loop-later.later in
    let before = c.loop-later-test.true in
    let lt : k < length entered = omega (arith, before) in
    let right : HasRemaining all last = subst (HasRemaining all) (sym c.index-entered-count.is)
    (have_at (HasRemaining all) entered (subst (AllByRecursion (HasRemaining all))
    (sym c.as_slice-entered.ensures.value) c.self.invariant.1) k last lt) in
    let here : AreRemaining c.last.inside.region all c.last.inside.listed.items =
    subst (HasRemaining all) (sym c.last.view_is) right in
    let within = remain_within region c.last.inside.region all c.last.inside.listed.items
    (c.inside.ensures.0 c.if-inside.true) here in
    subst (λ (l : List AggregationEntry). AreRemaining region l c.of_list.result) c.self.view_is
    (subst (AreRemaining region all) (sym (c.of_list.ensures ∙ c.deref.ensures.value)) within)

pub returns-then-inside-clause-entries : goal.returns-then-inside-clause-entries
returns-then-inside-clause-entries c =
    remaining_have HasEntries c.args.region.now c.args.self.now c.of_list.result (returns-then-inside-clause-remain c)
    (subst (AllByRecursion HasEntries) c.self.view_is c.self.invariant.0)

pub returns-clause-remain : goal.returns-clause-remain
returns-clause-remain c =
    let region = c.args.region.now in
    let all = c.args.self.now in
    subst (AreRemaining region all) (sym (c.of_all.ensures ∙ c.self.view_is)) (all_remain region all)
