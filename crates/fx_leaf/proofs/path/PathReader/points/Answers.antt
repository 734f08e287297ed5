use Rattle.std.proofs.Common.{sym}
use Rattle.fx_leaf.specs.Verdicts.{verdict}
use Rattle.fx_leaf.proofs.PathSplits.{exit_with}
use Rattle.fx_leaf.proofs.PathFateGrows.{adds_point}
use Rattle.fx_leaf.proofs.path.PathReader.points.Goals as goal

pub loop-index-preserved : goal.loop-index-preserved
loop-index-preserved c =
    let net = c.args.self.now.verdicts.tables.now.net in
    let region = c.args.self.now.verdicts.region.now in
    adds_point (verdict net region) net region c.args.number c.loop-index.index c.args.crossing.now c.args.points.now
    c.index-points-index.result c.args.known c.loop-index.known c.in_ok-known.known c.loop-index-test.true
    c.index-points-index.is c.loop-index.invariant c.in_ok-known.ensures.ok

pub point-requires-clause-along : goal.point-requires-clause-along
point-requires-clause-along c =
    c.requires.along c.index-points-index.result
    (c.loop-index.index, c.loop-index-test.true, sym c.index-points-index.is)

pub returns-in_err-known-clause-err : goal.returns-in_err-known-clause-err
returns-in_err-known-clause-err c =
    let p = c.index-points-index.result in
    exit_with _ _ _ c.from_residual.ensures
    (λ path. λ all. c.in_err-known.ensures.err path
    (λ s. λ watched. λ among. all p s (c.loop-index.index, c.loop-index-test.true, sym c.index-points-index.is)
    watched among))
