use Rattle.std.proofs.Common.{subst, sym}
use Rattle.fx_leaf.specs.PathSelections.{IsNarrowed}
use Rattle.fx_leaf.specs.PathTables.{PathTable}
use Rattle.fx_leaf.proofs.path_scratch.PathScratch.narrow.Goals as goal

pub returns-clause-others : goal.returns-clause-others
returns-clause-others c = λ other more le h.
    c.narrow_selections.ensures.others other more le
    (subst (λ (p : PathTable). IsNarrowed p.selections other more) (sym c.enter.ensures) h)
