use Rattle.std.proofs.Common.{◌≡◌, IfNone, None, arith, inr, rules, subst}
use Rattle.fx_leaf.specs.Verdicts.{Verdict}
use Rattle.fx_leaf.proofs.PathSplits.{some_more}
use Rattle.fx_leaf.proofs.RemainingMatches.{all_taken, cause_among_all}
use Rattle.fx_leaf.proofs.table.Verdicts.cause_in_process.Goals as goal

pub returns-in-None-clause-some : goal.returns-in-None-clause-some
returns-in-None-clause-some c =
    let t = c.args.self.now.tables.now in
    some_more _ _ c.cause_in_matches.result
    (λ cause h. inr (cause_among_all t c.args.self.now.region.now c.args.self.now.rows.now c.args.layout.now
    c.args.process.now.aggregations c.args.remaining.now cause c.requires.remain h)) c.cause_in_matches.ensures.some

pub returns-in-None-clause-none : goal.returns-in-None-clause-none
returns-in-None-clause-none c =
    let t = c.args.self.now.tables.now in
    let same = all_taken c.args.self.now.rows.now t.net t.numbering c.args.self.now.region.now c.args.layout.now
    c.args.process.now.aggregations c.args.remaining.now c.bounds_hold.ensures c.requires.remain in
    let none = subst (λ (v : Verdict). IfNone c.cause_in_matches.result (v ≡ None → ⊥)) same
    c.cause_in_matches.ensures.none in
    first_of (grind (arith, none), search (rules, none))
