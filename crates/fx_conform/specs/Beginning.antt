-- The stores and held records before anything is read.
use Rattle.fx_machine.specs.States.{nothing_at}
use Rattle.fx_topology.specs.declared.network.NetworkDocument.{NetworkDocument}
use Rattle.fx_plan.specs.Tables.{net_of}
use Rattle.fx_net.specs.Opening.{stores_of}
use Rattle.fx_conform.specs.Held.{AreHeld}
use Rattle.fx_conform.specs.Usable.{AreUsable}

-- The stores are empty, and no record is held.
abbrev pub Begins : Type 0
Begins =
    (network : NetworkDocument)
    → AreHeld (stores_of network) (nothing_at (net_of network).holders) × AreUsable (stores_of network)
