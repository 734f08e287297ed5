use Rattle.std.proofs.Common.{◌∙◌, List, Option, ap, refl, subst, sym}
use Rattle.fx_tables.specs.Network.{AggregationEntry, Process, aggregations_of}
use Rattle.fx_leaf.specs.Remaining.{AreRemaining}
use Rattle.fx_leaf.proofs.CausesAt.{there_too}
use Rattle.fx_leaf.proofs.RemainingMatches.{all_remain}
use Rattle.fx_leaf.proofs.table.Verdicts.remaining.Goals as goal

pub returns-in_default-clause-remain : goal.returns-in_default-clause-remain
returns-in_default-clause-remain c =
    let region = c.args.self.now.region.now in
    let all = c.args.process.now.aggregations in
    subst (AreRemaining region all) (sym (c.of_all.ensures ∙ c.aggregations.ensures)) (all_remain region all)

pub returns-clause-remain : goal.returns-clause-remain
returns-clause-remain c =
    let matches = c.args.self.now.matches.now in
    let found = c.in-Some.matches.now in
    let at = c.in-Some.ensures.lookup.3 in
    let there = there_too matches matches c.args.index found refl at.0 (at.1 found) in
    let same = c.args.self.now.listed c.args.index found there
    ∙ ap (λ (p : Option Process). aggregations_of p) c.requires.there in
    subst (λ (l : List AggregationEntry). AreRemaining c.args.self.now.region.now l c.remaining.result) same
    c.remaining.ensures.remain
