use Rattle.std.proofs.Common.{◌≡◌, ◌∙◌, ap, length, map, min, List}
use Rattle.std.specs.List.{flat_map}
use Rattle.fx_topology.specs.declared.network_device.NetworkDevice.{NetworkDevice}
use Rattle.fx_topology.specs.declared.network.NetworkDocument.{NetworkDocument}
use Rattle.fx_tables.specs.Network.{Net}
use Rattle.fx_net.specs.Opening.{store_of}
use Rattle.fx_net.proofs.HoldersInOrder.{all_stores}
use Rattle.fx_net.proofs.opening.stores_of.Goals as goal

pub returns-clause-ok : goal.returns-clause-ok
returns-clause-ok c =
    let stores = c.in_ok-stores.stores.items in
    let hs = c.holders-holders.result.now in
    let n = c.min-caches.result in
    let n_is : n ≡ min (length stores) (length hs) = c.min-caches.ensures
    ∙ ap (λ m. min m (length hs)) (c.len.ensures ∙ c.in_ok-stores.stores.ok.0) in
    c.in_ok-push_aggregations.ensures.ok ∙ all_stores c.args.plan.now stores n hs
    (c.in_ok-stores.ensures.ok ∙ ap (λ (ds : List NetworkDevice). map store_of
    (flat_map (λ (d : NetworkDevice). d.config.caches) ds))
    (c.as_slice.ensures ∙ ap (λ (w : NetworkDocument). w.devices) c.network.ensures))
    (c.holders-holders.ensures ∙ ap (λ (net : Net). net.holders) c.net.ensures.value) n_is
