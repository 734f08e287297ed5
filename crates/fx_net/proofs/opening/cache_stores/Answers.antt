use Rattle.std.proofs.Common.{◌≡◌, ℕ, zero, suc, ◌<◌, ◌∙◌, ◌++◌, List, [], ◌∷◌, length, map, take, get_or, ap, sym, arith, rules, append-nil, append_assoc, add-one, le_of_suc-le-suc}
use Rattle.std.proofs.lemmas.List.{map-append, take_all}
use Rattle.std.specs.List.{flat_map}
use Rattle.fx_config.specs.declared.cache.Cache.{Cache}
use Rattle.fx_topology.specs.declared.network_device.NetworkDevice.{NetworkDevice}
use Rattle.fx_net.specs.Opening.{store_of}
use Rattle.fx_net.proofs.opening.cache_stores.Goals as goal

-- the lists of one element more
one_more : {A B : Type 0} (f : A → List B) (xs : List A) (n : ℕ) (x : A) → n < length xs → x ≡ get_or xs n x
    → flat_map f (take n xs) ++ f x ≡ flat_map f (take (suc n) xs)
one_more f [] n x lt is = absurd (omega arith)
one_more f (y ∷ ys) zero x lt is = ap f is ∙ sym (append-nil (f y))
one_more {B = B} f (y ∷ ys) (suc n) x lt is = append_assoc (f y) (flat_map f (take n ys)) (f x)
    ∙ ap (λ (zs : List B). f y ++ zs) (one_more f ys n x (le_of_suc-le-suc lt) is)

caches : NetworkDevice → List Cache
caches d = d.config.caches

pub loop-device-preserved : goal.loop-device-preserved
unfolding caches
loop-device-preserved c =
    let devices = c.args.devices.now in
    let n = c.loop-device.device-index in
    let d = c.device-item.result in
    let before = flat_map caches (take n devices) in
    let here : c.as_slice.result.now ≡ caches d = search rules in
    c.in_ok-push_caches.ensures.ok
    ∙ ap (λ (xs : List Cache). c.loop-device.stores.items ++ map store_of xs) here
    ∙ ap (λ stores. stores ++ map store_of (caches d)) c.loop-device.invariant
    ∙ sym (map-append store_of before (caches d))
    ∙ ap (map store_of) (one_more caches devices n d c.loop-device-test.true c.device-item.is
    ∙ ap (λ k. flat_map caches (take k devices)) (sym (add-one n)))

pub returns-clause-ok : goal.returns-clause-ok
unfolding caches
returns-clause-ok c =
    c.loop-device.invariant ∙ ap (λ (ds : List NetworkDevice). map store_of (flat_map caches ds))
    (take_all c.loop-device.device-index c.args.devices.now c.loop-device-test.false)
