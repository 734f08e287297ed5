use Rattle.std.proofs.Common.{sym}
use Rattle.fx_leaf.specs.Verdicts.{verdict}
use Rattle.fx_leaf.proofs.PathSplits.{exit_with}
use Rattle.fx_leaf.proofs.PathFateGrows.{adds_crossing}
use Rattle.fx_leaf.proofs.path.PathReader.along.Goals as goal

pub loop-index-preserved : goal.loop-index-preserved
loop-index-preserved c =
    let net = c.args.self.now.verdicts.tables.now.net in
    let region = c.args.self.now.verdicts.region.now in
    adds_crossing (verdict net region) net region c.loop-index.index c.args.path.now c.index-path-index.result
    c.args.known c.loop-index.known c.in_ok-known.known c.loop-index-test.true c.index-path-index.is
    c.loop-index.invariant c.in_ok-known.ensures.ok

pub crossing-requires-clause-along : goal.crossing-requires-clause-along
crossing-requires-clause-along c = λ p. λ at. λ watched. λ s. λ among.
    c.requires.along s (record {
      crossing = c.index-path-index.result;
      point = p;
      crosses = (c.loop-index.index, c.loop-index-test.true, sym c.index-path-index.is);
      there = at;
      watched = watched;
      among = among;
    })

pub returns-in_err-known-clause-err : goal.returns-in_err-known-clause-err
returns-in_err-known-clause-err c =
    exit_with _ _ _ c.from_residual.ensures
    (c.in_err-known.ensures.err c.args.path.now
    (c.loop-index.index, c.loop-index-test.true, sym c.index-path-index.is))
