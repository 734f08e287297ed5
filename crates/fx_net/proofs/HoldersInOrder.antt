-- The holders of a network: all caches, and behind them all aggregations.
use Rattle.std.proofs.Common.{◌≡◌, ℕ, zero, suc, ◌+◌, ◌-◌, ◌<◌, ◌≤◌, min, Option, Result, Ok, Err, List, [], ◌∷◌, ◌++◌, map, length, take, drop, refl, sym, ap, ◌∙◌, subst, arith, add-one, le_of_suc-le-suc, length-append}
use Rattle.std.specs.List.{flat_map}
use Rattle.std.proofs.Math.Nat.{min-eq_left}
use Rattle.std.proofs.Math.Seq.{drop-append_seam, take-length}
use Rattle.std.proofs.lemmas.List.{length-drop, length-map}
use Rattle.fx_tables.specs.Network.{Holder}
use Rattle.fx_base.specs.declared.fault.Fault.{Fault}
use Rattle.fx_link.specs.Ongoing.{Ongoing, at_rest}
use Rattle.fx_link.specs.Wires.{new_wire}
use Rattle.fx_topology.specs.declared.network.NetworkDocument.{NetworkDocument}
use Rattle.fx_topology.specs.declared.network_device.NetworkDevice.{NetworkDevice}
use Rattle.fx_plan.specs.Labels.{Label, exporting_labels}
use Rattle.fx_plan.specs.Tables.{net_of, cache_holder, cache_holders}
use Rattle.fx_net.specs.Opening.{store_of, stores_of, caches_in, aggregations_in, aggregation_stores}
use Rattle.fx_net.specs.Stores.{Stored}

as_many : (exporting : List Label) (ds : List NetworkDevice) → length (cache_holders exporting ds)
    ≡ length (flat_map (λ (d : NetworkDevice). d.config.caches) ds)
as_many exporting [] = refl
as_many exporting (d ∷ ds) =
    length-append (map (cache_holder exporting d.name) d.config.caches) (cache_holders exporting ds)
    ∙ ap (λ n. n + length (cache_holders exporting ds)) (length-map d.config.caches (cache_holder exporting d.name))
    ∙ ap (λ n. length d.config.caches + n) (as_many exporting ds)
    ∙ sym (length-append d.config.caches (flat_map (λ (d : NetworkDevice). d.config.caches) ds))

pub behind_caches : (network : NetworkDocument)
    → drop (length (map store_of (caches_in network))) (net_of network).holders ≡ aggregations_in network
unfolding net_of
behind_caches network =
    let exporting = exporting_labels network.devices in
    ap (λ n. drop n (cache_holders exporting network.devices ++ aggregations_in network))
    (length-map (caches_in network) store_of ∙ sym (as_many exporting network.devices))
    ∙ drop-append_seam (cache_holders exporting network.devices) (aggregations_in network)

pub caches_are_holders : (network : NetworkDocument) → length (map store_of (caches_in network))
    ≤ length (net_of network).holders
unfolding net_of
caches_are_holders network =
    let exporting = exporting_labels network.devices in
    omega (
      arith,
      length-map (caches_in network) store_of,
      as_many exporting network.devices,
      length-append
          (cache_holders exporting network.devices) (aggregations_in network),
    )

-- a list that has the same for each item of another, for one item more
pub same_more : {A B : Type 0} (b : B) (xs : List A) (n : ℕ) → n < length xs → map (λ (_ : A). b) (take n xs) ++ b ∷ []
    ≡ map (λ (_ : A). b) (take (n + 1) xs)
same_more {A} b xs n lt = subst (λ m. map (λ (_ : A). b) (take n xs) ++ b ∷ [] ≡ map (λ (_ : A). b) (take m xs))
    (sym (add-one n)) (go xs n lt)
  where
    go : (xs : List A) (n : ℕ) → n < length xs → map (λ (_ : A). b) (take n xs) ++ b ∷ []
        ≡ map (λ (_ : A). b) (take (suc n) xs)
    go [] n lt = absurd (omega arith)
    go (x ∷ xs) zero lt = refl
    go (x ∷ xs) (suc n) lt = ap (λ ys. b ∷ ys) (go xs n (le_of_suc-le-suc lt))

pub all_stores : (network : NetworkDocument) (stores : List (Option Stored)) (n : ℕ) (hs : List Holder) → stores
    ≡ map store_of (caches_in network) → hs ≡ (net_of network).holders → n ≡ min (length stores) (length hs)
    → stores ++ aggregation_stores (take (length hs - n) (drop n hs)) ≡ stores_of network
all_stores network stores n hs stores_are hs_are n_is =
    let few : length stores ≤ length hs = subst (λ m. m ≤ length hs) (sym (ap length stores_are))
    (subst (λ m. length (map store_of (caches_in network)) ≤ m) (sym (ap length hs_are))
    (caches_are_holders network)) in
    let as_many : n ≡ length (map store_of (caches_in network)) = n_is ∙ min-eq_left few ∙ ap length stores_are in
    ap (λ xs. stores ++ aggregation_stores xs)
    (ap (λ m. take m (drop n hs)) (sym (length-drop n hs)) ∙ take-length (drop n hs) ∙ ap (λ m. drop m hs) as_many
    ∙ ap (drop (length (map store_of (caches_in network)))) hs_are ∙ behind_caches network)
    ∙ ap (λ xs. xs ++ aggregation_stores (aggregations_in network)) stores_are

-- what a link is made as
made : Result Ongoing Fault → Ongoing
made (Ok o) = o
made (Err e) = at_rest new_wire

pub made_new : (o : Ongoing) → ◌≡◌ {A = Result Ongoing Fault} (Ok o) (Ok (at_rest new_wire)) → o ≡ at_rest new_wire
unfolding made
made_new o e = ap made e
