use Rattle.std.proofs.Common.{◌≡◌, ◌++◌, take, map}
use Rattle.fx_net.specs.Opening.{store_of}
use Rattle.fx_net.proofs.opening.push_caches.Given as goal

abbrev pub invariant-loop-cache : goal.invariant-loop-cache
invariant-loop-cache l = l.stores.items ≡ l.initial.stores.items ++ map store_of (take l.cache-index l.caches)
