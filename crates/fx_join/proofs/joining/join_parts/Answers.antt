use Rattle.std.proofs.Common.{◌≡◌, ◌∙◌, ap, subst}
use Rattle.std.proofs.lemmas.Result.{err_from_is_err_and}
use Rattle.fx_base.specs.Device.{MayHaveLeft}
use Rattle.fx_parts.specs.Joins.{Joined}
use Rattle.fx_plan.specs.Tables.{net_of}
use Rattle.fx_tables.specs.Network.{Net}
use Rattle.fx_join.specs.Joins.{IsAllParts}
use Rattle.fx_join.proofs.JoinAnswers.{stopped_in, uncovered}
use Rattle.fx_join.proofs.joining.join_parts.Goals as goal

pub returns-in_err-join_all-clause-err : goal.returns-in_err-join_all-clause-err
returns-in_err-join_all-clause-err g c =
    let p = err_from_is_err_and c.from_residual-in_err-join_all.result c.from_residual-in_err-join_all.ensures.1 in
    let is = rw c.in-Some.is at c.in_ok-join.ensures in
    let whole = ap (λ (j : Joined). j.whole) is ∙ c.net.ensures.value in
    rw (p.1, p.2) (stopped_in (g.P.Source.left c.args.parts.now) (net_of c.args.whole.now.network) _
    c.args.whole.now.traffic _ _ _ _ whole c.in_err-join_all.ensures.err)

pub returns-clause-err : goal.returns-clause-err
returns-clause-err g c =
    let left = g.P.Source.left c.args.parts.now in
    let is = rw c.in-Some.is at c.in_ok-join.ensures in
    let whole = ap (λ (j : Joined). j.whole) is ∙ c.net.ensures.value in
    let classes = c.in_ok-join_all.ensures.more.classes ∙ ap (λ (j : Joined). j.classes) is
    ∙ c.classes-classes.ensures in
    uncovered left (net_of c.args.whole.now.network) c.args.whole.now.traffic _ _ _ c.cover_whole.result classes
    (subst (λ (w : Net). MayHaveLeft left (IsAllParts w)) whole c.in_ok-join_all.ensures.ok) c.cover_whole.ensures.err
