-- A network before anything is read, as the opening of a run over no packets.
use Rattle.std.proofs.Common.{◌≡◌, ◌≢◌, ℕ, zero, suc, ◌+◌, ◌<◌, ◌≤◌, eqb, Bool, true, false, cond, min, List, [], ◌∷◌, ◌++◌, length, drop, map, slice_get, refl, ap, sym, ◌∙◌, subst, arith, Option, Some, None, inr}
use Rattle.std.specs.Prelude.{IfSome}
use Rattle.std.specs.List.{AllByRecursion}
use Rattle.std.proofs.lemmas.List.{length-drop}
use Rattle.fx_config.specs.declared.cache.Cache.{Cache}
use Rattle.fx_config.specs.declared.cache.CacheKind.{CacheKind}
use Rattle.fx_config.specs.declared.cache.CacheKind.TheVariants as kind
use Rattle.fx_config.specs.declared.aggregation.Aggregation.{Aggregation}
use Rattle.fx_config.specs.declared.collecting_process.CollectingProcess.{CollectingProcess}
use Rattle.fx_tables.specs.declared.record.Record.{Record}
use Rattle.fx_tables.specs.Network as machine
use Rattle.fx_tables.specs.Classes.{Class}
use Rattle.fx_tables.specs.Runnable.{IsRunnable, HasDestinations}
use Rattle.fx_machine.specs.States.{nothing_at, opening}
use Rattle.fx_link.specs.Links.{Put}
use Rattle.fx_topology.specs.declared.network.NetworkDocument.{NetworkDocument}
use Rattle.fx_topology.specs.declared.network_device.NetworkDevice.{NetworkDevice}
use Rattle.fx_plan.specs.Labels.{Label, exporting_labels}
use Rattle.fx_plan.specs.Tables.{net_of, aggregations_from, processes_from, processes_in, held_by, cache_holders, aggregation_holders, aggregation_holder}
use Rattle.std.specs.FinMap.{len-empty}
use Rattle.fx_base.specs.declared.counts.Counts.{Counts}
use Rattle.fx_store.specs.Order.{key_cmp}
use Rattle.fx_store.specs.Flows.{flows_of}
use Rattle.fx_runs.specs.Destinations.{AllUsable, number_in_use}
use Rattle.fx_net.specs.Contents.{inner_option, stored_at}
use Rattle.fx_net.specs.Stores.{Stored, unbounded, bounded, new_store}
use Rattle.fx_net.specs.Leaving.{count_of}
use Rattle.fx_net.specs.Opening.{store_of_kind, store_of, caches_in, aggregations_in, aggregation_stores, stores_of, first_chosen, opening_contents}
use Rattle.fx_net.proofs.HoldersInOrder.{behind_caches, caches_are_holders}
use Rattle.fx_net.proofs.LinksPutOut.{writes_nothing}
use Rattle.fx_conform.specs.Held.{AreHeld}
use Rattle.fx_conform.specs.Emptying.{count_in}
use Rattle.fx_conform.specs.TakingIn.{IsUnbounded}
use Rattle.fx_conform.specs.Sendable.{AreSent}
use Rattle.fx_conform.specs.Conforming.{IsSound, AreBoundless, Conforms}
use Rattle.fx_conform.proofs.AllLinks.{links_begin}
use Rattle.fx_conform.proofs.NothingAtFirst.{begins}
use Rattle.fx_conform.proofs.PacketsCross.{all_at, all_to_list, all_join}

-- ---- lengths

nothing_length : {A : Type 0} (xs : List A) → length (nothing_at xs) ≡ length xs
nothing_length [] = refl
nothing_length (x ∷ xs) = ap suc (nothing_length xs)

held_length : (stores : List (Option Stored)) (held : List (List Record)) → AreHeld stores held → length stores
    ≡ length held
held_length [] [] h = refl
held_length [] (rs ∷ held) h = absurd h
held_length (s ∷ stores) [] h = absurd h
held_length (s ∷ stores) (rs ∷ held) h = ap suc (held_length stores held h.1)

map_length : {A B : Type 0} (f : A → B) (xs : List A) → length (map f xs) ≡ length xs
map_length f [] = refl
map_length f (x ∷ xs) = ap suc (map_length f xs)

append_length : {A : Type 0} (xs ys : List A) → length (xs ++ ys) ≡ length xs + length ys
append_length [] ys = omega arith
append_length (x ∷ xs) ys = let ih = append_length xs ys in omega (arith, ih)

nothing_sent : {A : Type 0} (xs : List A) → AreSent (nothing_at xs)
nothing_sent [] = tt
nothing_sent (x ∷ xs) = (tt, nothing_sent xs)

-- ---- aggregations are held behind the caches

abbrev Within : ℕ → ℕ → machine.AggregationEntry → Type 0
Within low high a = (low ≤ a.holder) × (a.holder < high)

abbrev HasWithin : ℕ → ℕ → machine.Process → Type 0
HasWithin low high p = AllByRecursion (Within low high) p.aggregations

wider : (low high less more : ℕ) → less ≤ low → high ≤ more → (xs : List machine.AggregationEntry)
    → AllByRecursion (Within low high) xs → AllByRecursion (Within less more) xs
wider low high less more a b [] h = tt
wider low high less more a b (x ∷ xs) h =
    ((omega (arith, a, h.0.0), omega (arith, b, h.0.1)), wider low high less more a b xs h.1)

all_wider : (low high less more : ℕ) → less ≤ low → high ≤ more → (ps : List machine.Process)
    → AllByRecursion (HasWithin low high) ps → AllByRecursion (HasWithin less more) ps
all_wider low high less more a b [] h = tt
all_wider low high less more a b (p ∷ ps) h =
    (wider low high less more a b p.aggregations h.0, all_wider low high less more a b ps h.1)

from_here : (holder : ℕ) (xs : List Aggregation)
    → AllByRecursion (Within holder (holder + length xs)) (aggregations_from holder xs)
from_here holder [] = tt
from_here holder (a ∷ rest) = (
  (omega arith, omega arith),
  wider (holder + 1) ((holder + 1) + length rest) holder (holder + suc (length rest)) (omega arith) (omega arith) _
      (from_here (holder + 1) rest),
)

module _ (exporting : List Label) where
  held_more : (device : List ℕ) (p : CollectingProcess) (ps : List CollectingProcess)
      → length (held_by exporting device (p ∷ ps)) ≡ length p.aggregations + length (held_by exporting device ps)
  held_more device p ps =
      append_length (map (aggregation_holder exporting device) p.aggregations) (held_by exporting device ps)
      ∙ ap (λ (n : ℕ). n + length (held_by exporting device ps))
      (map_length (aggregation_holder exporting device) p.aggregations)

  of_device : (device : List ℕ) (holder : ℕ) (ps : List CollectingProcess)
      → AllByRecursion (HasWithin holder (holder + length (held_by exporting device ps)))
      (processes_from exporting device holder ps)
  of_device device holder [] = tt
  of_device device holder (p ∷ ps) =
      let more = held_more device p ps in
      let high : ℕ = holder + length (held_by exporting device (p ∷ ps)) in (
        wider holder (holder + length p.aggregations) holder high (omega arith) (omega (arith, more)) _
            (from_here holder p.aggregations),
        all_wider (holder + length p.aggregations)
            ((holder + length p.aggregations) + length (held_by exporting device ps)) holder high (omega arith)
            (omega (arith, more)) _ (of_device device (holder + length p.aggregations) ps),
      )

  of_devices : (holder : ℕ) (xs : List NetworkDevice)
      → AllByRecursion (HasWithin holder (holder + length (aggregation_holders exporting xs)))
      (processes_in exporting holder xs)
  of_devices holder [] = tt
  of_devices holder (x ∷ xs) =
      let own : ℕ = length (held_by exporting x.name x.config.collecting_processes) in
      let high : ℕ = holder + length (aggregation_holders exporting (x ∷ xs)) in
      let more : length (aggregation_holders exporting (x ∷ xs)) ≡ own + length (aggregation_holders exporting xs) =
      append_length (held_by exporting x.name x.config.collecting_processes) (aggregation_holders exporting xs) in
      all_join (HasWithin holder high) _ _
      (all_wider holder (holder + own) holder high (omega arith) (omega (arith, more)) _
      (of_device x.name holder x.config.collecting_processes))
      (all_wider (holder + own) ((holder + own) + length (aggregation_holders exporting xs)) holder high (omega arith)
      (omega (arith, more)) _ (of_devices (holder + own) xs))

-- ---- stores

behind_all : {A : Type 0} (xs ys : List A) (n : ℕ) → length xs ≤ n → (m : ℕ) × (n ≡ length xs + m)
    × (slice_get (xs ++ ys) n ≡ slice_get ys m)
behind_all [] ys n h = (n, omega arith, refl)
behind_all (x ∷ xs) ys zero h = absurd (omega (arith, h))
behind_all (x ∷ xs) ys (suc n) h =
    let r = behind_all xs ys n (omega (arith, h)) in
    (r.0, (let e = r.1 in omega (arith, e)), r.2)

aggregation_unbounded : (hs : List machine.Holder) (n : ℕ) → n < length hs
    → IsUnbounded (stored_at (aggregation_stores hs) n)
aggregation_unbounded [] n lt = absurd (omega (arith, lt))
aggregation_unbounded (h ∷ hs) zero lt = tt
aggregation_unbounded (h ∷ hs) (suc n) lt = aggregation_unbounded hs n (omega (arith, lt))

module _ (network : NetworkDocument) where
  abbrev devices : List NetworkDevice
  devices = network.devices

  abbrev exporting : List Label
  exporting = exporting_labels network.devices

  abbrev caches : List (Option Stored)
  caches = map store_of (caches_in network)

  abbrev first_aggregation : ℕ
  first_aggregation = length (cache_holders exporting devices)

  holders_length : length (net_of network).holders ≡ first_aggregation + length (aggregations_in network)
  unfolding net_of
  holders_length = append_length (cache_holders (exporting_labels network.devices) network.devices)
      (aggregations_in network)

  caches_length : length caches ≡ first_aggregation
  caches_length =
      let behind : length (drop (length caches) (net_of network).holders) ≡ length (aggregations_in network) =
      ap (λ (hs : List machine.Holder). length hs) (behind_caches network) in
      let few = caches_are_holders network in
      let less = length-drop (length caches) (net_of network).holders in
      let all = holders_length in
      omega (arith, behind, few, less, all)

  unbounded_behind : (n : ℕ) → first_aggregation ≤ n → n < first_aggregation + length (aggregations_in network)
      → IsUnbounded (stored_at (stores_of network) n)
  unbounded_behind n low high =
      let long = caches_length in
      let r = behind_all caches (aggregation_stores (aggregations_in network)) n (omega (arith, long, low)) in
      let below : r.0 < length (aggregations_in network) = (let e = r.1 in omega (arith, e, long, high)) in
      subst (λ (o : Option (Option Stored)). IsUnbounded (inner_option o)) (sym r.2)
      (aggregation_unbounded (aggregations_in network) r.0 below)

  within_all : (xs : List machine.AggregationEntry)
      → AllByRecursion (Within first_aggregation (first_aggregation + length (aggregations_in network))) xs
      → AllByRecursion (λ (a : machine.AggregationEntry). IsUnbounded (stored_at (stores_of network) a.holder)) xs
  within_all [] h = tt
  within_all (a ∷ xs) h = (unbounded_behind a.holder h.0.0 h.0.1, within_all xs h.1)

  within_process : (o : Option machine.Process)
      → IfSome o (HasWithin first_aggregation (first_aggregation + length (aggregations_in network)))
      → AllByRecursion (λ (a : machine.AggregationEntry). IsUnbounded (stored_at (stores_of network) a.holder))
      (machine.aggregations_of o)
  within_process None h = tt
  within_process (Some p) h = within_all p.aggregations h

  pub boundless_first : AreBoundless (net_of network) (stores_of network)
  unfolding net_of
  boundless_first process =
      within_process (slice_get (net_of network).processes process)
      (all_at (HasWithin first_aggregation (first_aggregation + length (aggregations_in network)))
      (net_of network).processes process (of_devices (exporting_labels network.devices)
      (length (cache_holders (exporting_labels network.devices) network.devices)) network.devices))

-- ---- nothing is in the stores

abbrev IsNone : Option Stored → Type 0
IsNone stored = count_of stored ≡ 0

new_counted : (max_flows : ℕ) → IsNone (Some (new_store max_flows))
new_counted max_flows = by (eqb max_flows 0) where
  by : (b : Bool) → IsNone (Some (cond b (unbounded (flows_of []))
      (bounded (record { entries = []; capacity = min max_flows 65536 }))))
  by true = len-empty key_cmp Counts
  by false = len-empty key_cmp Counts

kind_counted : (k : CacheKind) (max_flows : ℕ) → IsNone (store_of_kind k max_flows)
kind_counted kind.Immediate max_flows = refl
kind_counted kind.Timeout max_flows = new_counted max_flows
kind_counted kind.Natural max_flows = new_counted max_flows
kind_counted kind.Permanent max_flows = new_counted max_flows

aggregations_counted : (hs : List machine.Holder) → AllByRecursion IsNone (aggregation_stores hs)
aggregations_counted [] = tt
aggregations_counted (h ∷ hs) = (new_counted 0, aggregations_counted hs)

all_counted : (caches : List Cache) (hs : List machine.Holder)
    → AllByRecursion IsNone (map store_of caches ++ aggregation_stores hs)
all_counted [] hs = aggregations_counted hs
all_counted (c ∷ caches) hs = (kind_counted c.kind c.max_flows, all_counted caches hs)

none_at : (o : Option (Option Stored)) → IfSome o IsNone → count_of (inner_option o) ≡ 0
none_at None h = refl
none_at (Some s) h = h

pub nothing_counted : (network : NetworkDocument) (place : ℕ) → count_in (stores_of network) place ≡ 0
nothing_counted network place = none_at (slice_get (stores_of network) place)
    (all_at IsNone (stores_of network) place (all_counted (caches_in network) (aggregations_in network)))

first_used : (es : List machine.Exporter) (place : ℕ) (e : machine.Exporter) → slice_get es place ≡ Some e
    → number_in_use (first_chosen es) place ≡ 1
first_used [] place e is = absurd cc
first_used (x ∷ es) zero e is = refl
first_used (x ∷ es) (suc place) e is = first_used es place e is

some_first : (e : machine.Exporter) → 0 < length e.destinations → machine.entry_numbered e.destinations 1 ≢ None
some_first e lt = by e.destinations lt where
  by : (xs : List (Option ℕ)) → 0 < length xs → slice_get xs 0 ≢ None
  by [] l n = omega (arith, l)
  by (x ∷ xs) l n = absurd cc

usable_first : (net : machine.Net) → IsRunnable net → AllUsable net (first_chosen net.exporters)
usable_first net runnable place e is chooses =
    let has : HasDestinations net e = subst (λ (o : Option machine.Exporter). IfSome o (HasDestinations net)) is
    (all_at (HasDestinations net) net.exporters place
    (all_to_list (HasDestinations net) net.exporters runnable.destinations)) in
    subst (λ (n : ℕ). machine.entry_numbered e.destinations n ≢ None) (sym (first_used net.exporters place e is))
    (some_first e (has.some chooses))

pub starts : (network : NetworkDocument) (classes : List Class) (begin : Put) → IsSound (net_of network)
    → Conforms (net_of network) classes begin begin (opening_contents network) [] []
    (opening (net_of network) classes [])
starts network classes begin sound =
    let net : machine.Net = net_of network in
    let b = begins network in
    record {
      history = λ link. [];
      written = λ link. writes_nothing (begin (suc link));
      run_is = refl;
      crossed = refl;
      as_many = nothing_length net.links;
      stores = record {
        as_many = held_length (stores_of network) (nothing_at net.holders) b.0 ∙ nothing_length net.holders;
        held = b.0;
        usable = b.1;
        boundless = boundless_first network;
        named = λ place. inr (nothing_counted network place);
        sent = nothing_sent net.holders;
      };
      links = links_begin net.links;
      chosen = usable_first net sound.runnable;
      totals = refl;
      second = omega arith;
    }
