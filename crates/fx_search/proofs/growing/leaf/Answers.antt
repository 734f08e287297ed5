use Rattle.fx_search.proofs.ShortLines.{leaf_writable}
use Rattle.fx_search.proofs.growing.leaf.Goals as goal

pub returns-clause-writable : goal.returns-clause-writable
returns-clause-writable c = leaf_writable c.args.crossing c.args.point c.args.process c.ranges.crossing.fits
    c.ranges.point.fits c.ranges.process.fits
