use Rattle.std.proofs.Common.{◌≡◌, ◌+◌, ◌∙◌, ◌∷◌, List, drop, ap, sym}
use Rattle.std.proofs.lemmas.List.{drop_all, drop_more}
use Rattle.fx_tables.specs.declared.traffic.Crossing.{Crossing}
use Rattle.fx_net.specs.Metering.{after_path}
use Rattle.fx_net.proofs.contents.Contents.cross_all.Goals as goal

pub loop-crossing-preserved : goal.loop-crossing-preserved
loop-crossing-preserved c =
    let net = c.args.net.now in
    let fields = c.args.fields.now in
    let counts = c.args.counts in
    let path = c.args.path.now in
    let n = c.loop-crossing.crossing-index in
    let crossing = c.crossing-item.result in
    let rest = drop (n + 1) path in
    let here : drop n path ≡ crossing ∷ rest = drop_more path n crossing c.loop-crossing-test.true
    ∙ ap (λ (x : Crossing). x ∷ rest) (sym c.crossing-item.is) in
    ap (after_path net fields counts rest) c.in_ok-cross.ensures.ok
    ∙ ap (λ (cs : List Crossing). after_path net fields counts cs c.loop-crossing.self) (sym here)
    ∙ c.loop-crossing.invariant

pub returns-clause-ok : goal.returns-clause-ok
returns-clause-ok c =
    let path = c.args.path.now in
    sym (ap (λ (cs : List Crossing). after_path c.args.net.now c.args.fields.now c.args.counts cs c.loop-crossing.self)
    (drop_all c.loop-crossing.crossing-index path c.loop-crossing-test.false))
    ∙ c.loop-crossing.invariant
