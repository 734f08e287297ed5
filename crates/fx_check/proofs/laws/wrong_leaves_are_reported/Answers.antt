use Rattle.fx_check.proofs.SoundLeaves.{leaf_wrong, never_wrong}
use Rattle.fx_check.proofs.laws.wrong_leaves_are_reported.Goals as goal

pub returns-clause-counted : goal.returns-clause-counted
returns-clause-counted c net target region leaf number is_net is_region e =
    leaf_wrong net is_net target region leaf number is_region e

pub returns-clause-never : goal.returns-clause-never
returns-clause-never c net target region number is_net is_region e =
    never_wrong net is_net target region number is_region e
