use Rattle.std.proofs.Common.{◌≡◌, ◌++◌, take, map}
use Rattle.fx_plan.specs.Tables.{cache_holder}
use Rattle.fx_plan.proofs.holders.push_caches.Given as goal

abbrev pub invariant-loop-cache : goal.invariant-loop-cache
invariant-loop-cache l = l.holders.items ≡ l.initial.holders.items
    ++ map (cache_holder l.exporting l.device) (take l.cache-index l.caches)
