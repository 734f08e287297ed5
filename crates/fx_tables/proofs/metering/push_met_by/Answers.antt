use Rattle.std.proofs.Common.{◌+◌, ◌∙◌, ap, sym, ◌++◌, cond, [], List, take, append_assoc}
use Rattle.std.proofs.lemmas.List.{append-nil, take_all}
use Rattle.std.proofs.lemmas.Result.{err_from_is_err_and}
use Rattle.fx_tables.specs.declared.observation.Selection.{Selection}
use Rattle.fx_tables.specs.declared.observation.Occurrence.{Occurrence}
use Rattle.fx_tables.specs.Occurrences.{selects, occurrence, met_by}
use Rattle.fx_tables.proofs.Meterings.{met_by_first}
use Rattle.fx_tables.proofs.metering.push_met_by.Goals as goal

pub loop-index-preserved : goal.loop-index-preserved
loop-index-preserved c =
    let s = c.index-selections-index.result in
    let k = c.loop-index.index in
    let front = c.args.found.now.items in
    let p = c.args.point in
    let f = c.args.fields.now in
    let ss = c.args.selections.now in
    let new = cond (selects s.region f) (occurrence p (k + 1) s.holder) [] in
    c.in_ok-push_met.ensures ∙ ap (λ (xs : List Occurrence). xs ++ new) c.loop-index.invariant
    ∙ append_assoc front (met_by p 1 (take k ss) f) new
    ∙ ap (λ (xs : List Occurrence). front ++ xs)
    (sym (met_by_first p k ss f s c.loop-index-test.true c.index-selections-index.is))

pub loop-index-init : goal.loop-index-init
loop-index-init c = sym (append-nil c.args.found.now.items)

pub returns-in_err-push_met : goal.returns-in_err-push_met
returns-in_err-push_met c =
    let p = err_from_is_err_and c.from_residual.result c.from_residual.ensures.1 in
    rw (p.1) tt

pub returns : goal.returns
returns c =
    let front = c.args.found.now.items in
    c.loop-index.invariant ∙ ap (λ (ss : List Selection). front ++ met_by c.args.point 1 ss c.args.fields.now)
    (take_all c.loop-index.index c.args.selections.now c.loop-index-test.false)
