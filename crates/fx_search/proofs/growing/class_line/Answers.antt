use Rattle.fx_search.proofs.ShortLines.{class_writable}
use Rattle.fx_search.proofs.growing.class_line.Goals as goal

pub returns-clause-writable : goal.returns-clause-writable
returns-clause-writable c = class_writable c.args.class c.args.path c.ranges.class.fits c.ranges.path.fits
