use Rattle.fx_search.proofs.ShortLines.{split_writable}
use Rattle.fx_search.proofs.growing.split_item.Goals as goal

pub returns-clause-writable : goal.returns-clause-writable
returns-clause-writable c = split_writable c.args.region.now c.args.axis c.args.at c.far_corner-greatest.ensures.region
    c.requires.inside
