use Rattle.fx_selectors.proofs.AllPairsLeft.{left_all}
use Rattle.fx_selectors.proofs.feeding.feeds.Goals as goal

pub returns : goal.returns
returns c =
    let device = c.args.device.now in
    left_all device.selection_processes c.args.interface.now c.args.inwards 1 device.observation_points
