-- Before anything is read nothing is held.
use Rattle.std.proofs.Common.{◌≡◌, ℕ, eqb, Bool, true, false, cond, min, List, [], ◌∷◌, ◌++◌, map, length, drop, Option, Some, None, refl, sym, ap, arith, length-append}
use Rattle.std.specs.List.{AllByRecursion}
use Rattle.std.proofs.lemmas.List.{length-drop, length-map}
use Rattle.fx_config.specs.declared.cache.Cache.{Cache}
use Rattle.fx_config.specs.declared.cache.CacheKind.{CacheKind}
use Rattle.fx_config.specs.declared.cache.CacheKind.TheVariants as kind
use Rattle.fx_tables.specs.Network.{Holder}
use Rattle.fx_machine.specs.States.{nothing_at}
use Rattle.fx_topology.specs.declared.network.NetworkDocument.{NetworkDocument}
use Rattle.fx_plan.specs.Tables.{net_of}
use Rattle.fx_store.specs.Flows.{flows_of}
use Rattle.fx_store.proofs.Recency.{counted}
use Rattle.fx_net.specs.Stores.{Stored, unbounded, bounded, flows_in, new_store}
use Rattle.fx_net.specs.Opening.{store_of_kind, store_of, caches_in, aggregations_in, aggregation_stores, stores_of}
use Rattle.fx_net.proofs.HoldersInOrder.{behind_caches, caches_are_holders}
use Rattle.fx_conform.specs.Held.{IsHeld, AreHeld}
use Rattle.fx_conform.specs.Usable.{IsUsable, AreUsable}
use Rattle.fx_conform.proofs.UsableStores.{new_is_usable}

-- ---- new stores

abbrev IsNew : Option Stored → Type 0
IsNew None = Unit {0}
IsNew (Some s) = IsHeld (flows_in s) [] × IsUsable s

new_holds : (max_flows : ℕ) → IsHeld (flows_in (new_store max_flows)) []
new_holds max_flows = by (eqb max_flows 0) where
  by : (b : Bool) → IsHeld (flows_in (cond b (unbounded (flows_of []))
      (bounded (record { entries = []; capacity = min max_flows 65536 })))) []
  by true = record { differ = tt; same = λ key. sym (counted key []) }
  by false = record { differ = tt; same = λ key. sym (counted key []) }

new_is_new : (max_flows : ℕ) → IsNew (Some (new_store max_flows))
new_is_new max_flows = (new_holds max_flows, new_is_usable max_flows)

kind_is_new : (k : CacheKind) (max_flows : ℕ) → IsNew (store_of_kind k max_flows)
kind_is_new kind.Immediate max_flows = tt
kind_is_new kind.Timeout max_flows = new_is_new max_flows
kind_is_new kind.Natural max_flows = new_is_new max_flows
kind_is_new kind.Permanent max_flows = new_is_new max_flows

aggregations_new : (aggregations : List Holder) → AllByRecursion IsNew (aggregation_stores aggregations)
aggregations_new [] = tt
aggregations_new (a ∷ rest) = (new_is_new 0, aggregations_new rest)

all_new : (caches : List Cache) (aggregations : List Holder)
    → AllByRecursion IsNew (map store_of caches ++ aggregation_stores aggregations)
all_new [] aggregations = aggregations_new aggregations
all_new (c ∷ caches) aggregations = (kind_is_new c.kind c.max_flows, all_new caches aggregations)

-- ---- as many places

new_held : {A : Type 0} (xs : List A) (stores : List (Option Stored)) → length xs ≡ length stores
    → AllByRecursion IsNew stores → AreHeld stores (nothing_at xs) × AreUsable stores
new_held [] [] e h = (tt, tt)
new_held [] (s ∷ stores) e h = absurd (omega arith)
new_held (x ∷ xs) [] e h = absurd (omega arith)
new_held (x ∷ xs) (None ∷ stores) e h = let rest = new_held xs stores (omega arith) h.1 in
    ((refl, rest.0), (tt, rest.1))
new_held (x ∷ xs) (Some s ∷ stores) e h = let rest = new_held xs stores (omega arith) h.1 in
    ((h.0.0, rest.0), (h.0.1, rest.1))

as_many : (network : NetworkDocument) → length (net_of network).holders ≡ length (stores_of network)
as_many network =
    let holders : List Holder = (net_of network).holders in
    let caches : List (Option Stored) = map store_of (caches_in network) in
    let behind : length (drop (length caches) holders) ≡ length (aggregations_in network) =
    ap (λ (hs : List Holder). length hs) (behind_caches network) in
    let few = caches_are_holders network in
    let less = length-drop (length caches) holders in
    let all = length-append caches (aggregation_stores (aggregations_in network)) in
    let more = length-map (aggregations_in network) (λ (_ : Holder). Some (new_store 0)) in
    omega (arith, behind, few, less, all, more)

pub begins : (network : NetworkDocument) → AreHeld (stores_of network) (nothing_at (net_of network).holders)
    × AreUsable (stores_of network)
begins network = new_held (net_of network).holders (stores_of network) (as_many network)
    (all_new (caches_in network) (aggregations_in network))
