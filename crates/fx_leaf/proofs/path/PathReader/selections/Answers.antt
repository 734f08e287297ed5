use Rattle.std.proofs.Common.{sym}
use Rattle.fx_leaf.specs.Verdicts.{verdict}
use Rattle.fx_leaf.proofs.PathSplits.{exit_with}
use Rattle.fx_leaf.proofs.PathFateGrows.{adds_selection}
use Rattle.fx_leaf.proofs.path.PathReader.selections.Goals as goal

pub loop-index-preserved : goal.loop-index-preserved
loop-index-preserved c =
    let net = c.args.self.now.verdicts.tables.now.net in
    let region = c.args.self.now.verdicts.region.now in
    adds_selection (verdict net region) net region c.args.crossing c.args.point c.loop-index.index c.args.selections.now
    c.index-selections-index.result c.args.known c.loop-index.known c.in_ok-known.known c.loop-index-test.true
    c.index-selections-index.is c.loop-index.invariant c.in_ok-known.ensures.ok

pub selection-requires-clause-along : goal.selection-requires-clause-along
selection-requires-clause-along c =
    c.requires.along c.index-selections-index.result
    (c.loop-index.index, c.loop-index-test.true, sym c.index-selections-index.is)

pub returns-in_err-known-clause-err : goal.returns-in_err-known-clause-err
returns-in_err-known-clause-err c =
    exit_with _ _ _ c.from_residual.ensures
    (λ path. λ all. c.in_err-known.ensures.err path
    (all c.index-selections-index.result (
      c.loop-index.index,
      c.loop-index-test.true,
      sym c.index-selections-index.is,
    )))
