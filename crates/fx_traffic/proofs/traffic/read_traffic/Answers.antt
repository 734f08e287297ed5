use Rattle.fx_traffic.specs.Classes.{traffic_faults, traffic_faults_within}
use Rattle.fx_traffic.proofs.traffic.read_traffic.Goals as goal

pub returns : goal.returns
unfolding traffic_faults traffic_faults_within
returns c = rw (c.as_slice.ensures, c.network.ensures) at c.read_classes.ensures
