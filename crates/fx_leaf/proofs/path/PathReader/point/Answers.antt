use Rattle.fx_tables.specs.Occurrences.{watches}
use Rattle.fx_tables.specs.declared.observation.Selection.{Selection}
use Rattle.std.specs.Prelude.{Contains}
use Rattle.std.proofs.Common.{◌≡◌, ◌∙◌, sym, subst, true, List}
use Rattle.fx_leaf.proofs.PathSplits.{err_more}
use Rattle.fx_leaf.proofs.path.PathReader.point.Goals as goal

pub selections-requires-then-watches-clause-along : goal.selections-requires-then-watches-clause-along
selections-requires-then-watches-clause-along c = λ s. λ at.
    let watched : watches c.args.point.now c.args.crossing.now ≡ true = sym c.watches.ensures ∙ c.if-watches.true in
    c.requires.along watched s (subst (λ (ss : List Selection). Contains ss s) c.selections.ensures at)

pub returns-then-watches-clause-err : goal.returns-then-watches-clause-err
returns-then-watches-clause-err c =
    let watched : watches c.args.point.now c.args.crossing.now ≡ true = sym c.watches.ensures ∙ c.if-watches.true in
    err_more _ _ c.selections-then-watches.result
    (λ x. λ h. λ path. λ all. h path (λ s. λ among. all s watched
    (subst (λ (ss : List Selection). Contains ss s) c.selections.ensures among)))
    c.selections-then-watches.ensures.err
