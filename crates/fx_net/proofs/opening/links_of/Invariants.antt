use Rattle.std.proofs.Common.{◌≡◌, take}
use Rattle.fx_net.specs.Opening.{new_links}
use Rattle.fx_net.proofs.opening.links_of.Given as goal

abbrev pub invariant-loop-process : goal.invariant-loop-process
invariant-loop-process l = l.links.items ≡ new_links (take l._process-index l.processes)
