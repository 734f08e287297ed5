use Rattle.std.proofs.Common.{◌≡◌, ◌+◌, drop}
use Rattle.fx_selectors.specs.Feeding.{feeds_left}
use Rattle.fx_selectors.proofs.feeding.FedPairs.next_pair.Given as goal

abbrev pub invariant-loop-index : goal.invariant-loop-index
invariant-loop-index l =
    let self = l.self-inside in
    let first = l.initial.self-inside in
    record {
      device : self.device.now ≡ first.device.now;
      interface : self.interface.now ≡ first.interface.now;
      inwards : self.inwards ≡ first.inwards;
      left : feeds_left l.processes first.interface.now first.inwards (first.point + 1) first.process
          (drop first.point l.points) ≡ feeds_left l.processes first.interface.now first.inwards (l.index + 1)
          self.process (drop l.index l.points);
    }
