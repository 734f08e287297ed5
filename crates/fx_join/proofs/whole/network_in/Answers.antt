use Rattle.std.proofs.Common.{Ok}
use Rattle.serde_json.specs.View.{view}
use Rattle.fx_topology.specs.Networks.{network_of}
use Rattle.fx_join.specs.Wholes.{whole_faults}
use Rattle.fx_join.proofs.Wholes.{document_read, network_cyclic}
use Rattle.fx_join.proofs.whole.network_in.Goals as goal

pub returns-clause-err : goal.returns-clause-err
returns-clause-err c =
    network_cyclic c.args.octets.now c.in_ok-network.network c.ranked_network.result
    (document_read whole_faults network_of c.args.octets.now (view c.in_ok-value.value) c.in_ok-value.ensures.ok
    (Ok c.in_ok-network.network) c.in_ok-network.ensures) c.ranked_network.ensures.err
