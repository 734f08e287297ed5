use Rattle.fx_elements.specs.Values.{prefix_on}
use Rattle.fx_traffic.proofs.Regions.{prefix_is_on}
use Rattle.fx_traffic.proofs.region.prefix_on.Goals as goal

pub returns-clause-bound : goal.returns-clause-bound
returns-clause-bound c =
    rw c.read_value.ensures (prefix_is_on c.args.axis (prefix_on c.args.axis c.args.text.now)
    (c.values_fit.ensures.leading c.args.axis c.args.text.now))
