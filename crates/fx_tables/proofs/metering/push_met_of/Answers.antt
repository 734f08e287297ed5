use Rattle.std.proofs.Common.{◌+◌, ◌∙◌, ap, sym, ◌++◌, cond, [], List, take, append_assoc}
use Rattle.std.proofs.lemmas.List.{append-nil, take_all}
use Rattle.std.proofs.lemmas.Result.{err_from_is_err_and}
use Rattle.fx_tables.specs.Network.{Point}
use Rattle.fx_tables.specs.declared.observation.Occurrence.{Occurrence}
use Rattle.fx_tables.specs.Occurrences.{watches, met_by, met_at}
use Rattle.fx_tables.proofs.Meterings.{met_at_first}
use Rattle.fx_tables.proofs.metering.push_met_of.Goals as goal

pub loop-index-preserved : goal.loop-index-preserved
loop-index-preserved c =
    let p = c.index-points-index.result in
    let k = c.loop-index.index in
    let front = c.args.found.now.items in
    let ps = c.args.points.now in
    let f = c.args.fields.now in
    let x = c.args.crossing.now in
    let new = cond (watches p x) (met_by (k + 1) 1 p.selections f) [] in
    c.in_ok-push_met_at.ensures ∙ ap (λ (xs : List Occurrence). xs ++ new) c.loop-index.invariant
    ∙ append_assoc front (met_at 1 (take k ps) x f) new
    ∙ ap (λ (xs : List Occurrence). front ++ xs)
    (sym (met_at_first k ps x f p c.loop-index-test.true c.index-points-index.is))

pub loop-index-init : goal.loop-index-init
loop-index-init c = sym (append-nil c.args.found.now.items)

pub returns-in_err-push_met_at : goal.returns-in_err-push_met_at
returns-in_err-push_met_at c =
    let p = err_from_is_err_and c.from_residual.result c.from_residual.ensures.1 in
    rw (p.1) tt

pub returns : goal.returns
returns c =
    let front = c.args.found.now.items in
    c.loop-index.invariant ∙ ap (λ (ps : List Point). front ++ met_at 1 ps c.args.crossing.now c.args.fields.now)
    (take_all c.loop-index.index c.args.points.now c.loop-index-test.false)
