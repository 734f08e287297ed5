use Rattle.std.proofs.Common.{◌∙◌, ap, sym, ◌++◌, List, take, append_assoc}
use Rattle.std.specs.Prelude.{flat_map}
use Rattle.std.proofs.lemmas.List.{append-nil, take_all}
use Rattle.std.proofs.lemmas.Result.{err_from_is_err_and}
use Rattle.fx_tables.specs.declared.observation.Selection.{Selection}
use Rattle.fx_parts.specs.Meters.{meters_of}
use Rattle.fx_parts.proofs.Metered.{flat_step}
use Rattle.fx_parts.proofs.meters.push_all_meters.Goals as goal

pub loop-index-preserved : goal.loop-index-preserved
loop-index-preserved c =
    let x = c.index-path-index.result in
    let k = c.loop-index.index in
    let front = c.args.found.now.items in
    let xs = c.args.path.now in
    let new = (meters_of c.args.net.now) x in
    c.in_ok-push_meters.ensures ∙ ap (λ (ys : List Selection). ys ++ new) c.loop-index.invariant
    ∙ append_assoc front (flat_map (meters_of c.args.net.now) (take k xs)) new
    ∙ ap (λ (ys : List Selection). front ++ ys)
    (sym (flat_step (meters_of c.args.net.now) xs k x c.loop-index-test.true c.index-path-index.is))

pub loop-index-init : goal.loop-index-init
loop-index-init c = sym (append-nil c.args.found.now.items)

pub returns-in_err-push_meters : goal.returns-in_err-push_meters
returns-in_err-push_meters c =
    let p = err_from_is_err_and c.from_residual.result c.from_residual.ensures.1 in
    rw (p.1) tt

pub returns : goal.returns
returns c =
    let front = c.args.found.now.items in
    c.loop-index.invariant ∙ ap (λ ys. front ++ flat_map (meters_of c.args.net.now) ys)
    (take_all c.loop-index.index c.args.path.now c.loop-index-test.false)
