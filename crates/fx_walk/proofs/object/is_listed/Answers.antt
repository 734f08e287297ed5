use Rattle.std.proofs.Common.{◌∙◌}
use Rattle.fx_walk.proofs.Faults.{listed-now}
use Rattle.fx_walk.proofs.object.is_listed.Goals as goal

pub returns : goal.returns
returns c = c.is_one_of.ensures ∙ listed-now c.args.listed.now c.args.name.now
