use Rattle.fx_plan.proofs.Loops.{one_made}
use Rattle.fx_net.specs.Opening.{store_of}
use Rattle.fx_net.proofs.opening.push_caches.Goals as goal

pub loop-cache-preserved : goal.loop-cache-preserved
loop-cache-preserved c =
    one_made store_of c.args.stores.now.items c.args.caches.now c.loop-cache.cache-index c.cache-item.result
    c.in_ok-store_of.field-0 c.loop-cache.stores.items _ c.loop-cache-test.true c.cache-item.is
    c.in_ok-store_of.ensures.ok c.loop-cache.invariant c.in_ok-push.ensures.items
