use Rattle.std.proofs.Common.{◌≡◌, take, map}
use Rattle.fx_plan.specs.Labels.{place}
use Rattle.fx_plan.proofs.processes.link_ends.Given as goal

abbrev pub invariant-loop-link : goal.invariant-loop-link
invariant-loop-link l = l.ends.items ≡ map (λ link. place l.collecting link.to_device link.to_process)
    (take l.link-index l.links)
