use Rattle.std.proofs.Common.{ap, subst, sym}
use Rattle.fx_leaf.specs.Leaves.{AddsVerdicts, nothing_known}
use Rattle.fx_leaf.specs.PathSelections.{PathSelection}
use Rattle.fx_leaf.specs.Reach.{HoldsBehindSelection, IsMarked}
use Rattle.fx_leaf.specs.Splits.{Meets}
use Rattle.fx_leaf.specs.Verdicts.{verdict}
use Rattle.fx_leaf.proofs.PathFateGrows.{adds_nothing}
use Rattle.fx_leaf.proofs.PathSelectionVerdicts.{known_more, of_one}
use Rattle.fx_leaf.proofs.PathSplits.{exit_with}
use Rattle.fx_leaf.proofs.path.PathReader.known_of.Goals as goal

pub loop-index-init : goal.loop-index-init
loop-index-init c = adds_nothing nothing_known

pub loop-index-preserved : goal.loop-index-preserved
loop-index-preserved c =
    let net = c.args.self.now.verdicts.tables.now.net in
    let region = c.args.self.now.verdicts.region.now in
    let x = c.index-selections-index.result in
    let same = c.met.view_is in
    let new = subst (λ (s : PathSelection). AddsVerdicts c.loop-index.known c.in_ok-known.known
    (of_one (verdict net region) net region s)) same c.in_ok-known.ensures.ok in
    known_more (verdict net region) net region c.loop-index.index c.args.selections.now x nothing_known
    c.loop-index.known c.in_ok-known.known c.loop-index-test.true c.index-selections-index.is c.loop-index.invariant
    new

pub selection-requires-clause-along : goal.selection-requires-clause-along
selection-requires-clause-along c =
    let t = c.args.self.now.verdicts.tables.now in
    let same = c.met.view_is in
    subst (HoldsBehindSelection t.net t.numbering (IsMarked c.args.self.now.marks.now))
    (ap (λ (s : PathSelection). s.selection) (sym same))
    (c.requires.along c.index-selections-index.result
    (c.loop-index.index, c.loop-index-test.true, sym c.index-selections-index.is))

pub returns-in_err-known-clause-err : goal.returns-in_err-known-clause-err
returns-in_err-known-clause-err c =
    let same = c.met.view_is in
    exit_with _ _ _ c.from_residual.ensures
    (λ path. λ all. c.in_err-known.ensures.err path
    (subst (Meets c.args.self.now.verdicts.tables.now.net path) (ap (λ (s : PathSelection). s.selection) (sym same))
    (all c.index-selections-index.result (
      c.loop-index.index,
      c.loop-index-test.true,
      sym c.index-selections-index.is,
    ))))
