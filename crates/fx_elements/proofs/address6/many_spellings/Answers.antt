use Rattle.fx_elements.proofs.AnyAddress.{address6_fits}
use Rattle.fx_elements.proofs.AnySpelling.{whole_read, parted_read, spelled, groups_read}
use Rattle.fx_elements.proofs.address6.many_spellings.Goals as goal

pub returns-clause-uncompressed : goal.returns-clause-uncompressed
returns-clause-uncompressed c = whole_read

pub returns-clause-compressed : goal.returns-clause-compressed
returns-clause-compressed c = parted_read

pub returns-clause-only : goal.returns-clause-only
returns-clause-only c = spelled

pub returns-clause-written : goal.returns-clause-written
returns-clause-written c = groups_read

pub returns-clause-fits : goal.returns-clause-fits
returns-clause-fits c = address6_fits
