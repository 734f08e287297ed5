-- A holder that can be named is one of the caches or an aggregation's.
use Rattle.std.proofs.Common.{◌≡◌, ◌⊎◌, inl, inr, ℕ, zero, suc, ◌==◌, true, List, [], ◌∷◌, map, Option, Some, None, ◌∙◌, slice_get}
use Rattle.std.specs.List.{flat_map}
use Rattle.std.proofs.lemmas.Bool.{eq-eqb, or_left, or_right}
use Rattle.std.proofs.lemmas.List.Folds.{list_any-append}
use Rattle.fx_tables.specs.declared.holder_name.HolderName.{HolderName}
use Rattle.fx_tables.specs.declared.holder_name.HolderName.TheVariants.{Cache, Aggregation as AggregationOf}
use Rattle.fx_tables.specs.Network.{Net, AggregationEntry, DeviceEntry, aggregations_of, caches_of, held_at, holder_place, process_at, processes_of}
use Rattle.fx_base.specs.Entries.{entry_numbered}
use Rattle.fx_ranks.specs.Ranks.{is_in}
use Rattle.fx_net.specs.Doings.{caches_of_all, holders_of}

-- a process has the holder
abbrev pub IsAggregated : Net → ℕ → Type 0
IsAggregated net holder = (process : ℕ) × (is_in (holders_of (slice_get net.processes process)) holder ≡ true)

in_list : (xs : List ℕ) (n x : ℕ) → slice_get xs n ≡ Some x → is_in xs x ≡ true
in_list [] n x at = absurd cc
in_list (y ∷ xs) zero x at = let same : y ≡ x = cc in or_left (y == x) (is_in xs x) (eq-eqb y x same)
in_list (y ∷ xs) (suc n) x at = or_right (y == x) (is_in xs x) (in_list xs n x at)

numbered_in : (xs : List ℕ) (n x : ℕ) → entry_numbered xs n ≡ Some x → is_in xs x ≡ true
numbered_in xs zero x at = absurd cc
numbered_in xs (suc n) x at = in_list xs n x at

-- ---- caches

abbrev all_caches : List DeviceEntry → List ℕ
all_caches devices = flat_map (λ (d : DeviceEntry). d.caches) devices

cache_in : (devices : List DeviceEntry) (n cache holder : ℕ) → entry_numbered (caches_of (slice_get devices n)) cache
    ≡ Some holder → is_in (all_caches devices) holder ≡ true
cache_in [] n cache holder at = let none : is_in [] holder ≡ true = numbered_in [] cache holder at in absurd cc
cache_in (d ∷ devices) zero cache holder at =
    let rest : List ℕ = all_caches devices in
    list_any-append (λ p. p == holder) d.caches rest
    ∙ or_left (is_in d.caches holder) (is_in rest holder) (numbered_in d.caches cache holder at)
cache_in (d ∷ devices) (suc n) cache holder at =
    let rest : List ℕ = all_caches devices in
    list_any-append (λ p. p == holder) d.caches rest
    ∙ or_right (is_in d.caches holder) (is_in rest holder) (cache_in devices n cache holder at)

named_cache_in : (devices : List DeviceEntry) (n cache holder : ℕ)
    → entry_numbered (caches_of (entry_numbered devices n)) cache ≡ Some holder → is_in (all_caches devices) holder
    ≡ true
named_cache_in devices zero cache holder at = let none : is_in [] holder ≡ true = numbered_in [] cache holder at in
    absurd cc
named_cache_in devices (suc n) cache holder at = cache_in devices n cache holder at

-- ---- aggregations

held_in : (xs : List AggregationEntry) (n holder : ℕ) → held_at (slice_get xs n) ≡ Some holder
    → is_in (map (λ (a : AggregationEntry). a.holder) xs) holder ≡ true
held_in [] n holder at = absurd cc
held_in (a ∷ xs) zero holder at =
    let same : a.holder ≡ holder = cc in or_left (a.holder == holder)
    (is_in (map (λ (b : AggregationEntry). b.holder) xs) holder) (eq-eqb a.holder holder same)
held_in (a ∷ xs) (suc n) holder at = or_right (a.holder == holder)
    (is_in (map (λ (b : AggregationEntry). b.holder) xs) holder) (held_in xs n holder at)

numbered_held_in : (xs : List AggregationEntry) (n holder : ℕ) → held_at (entry_numbered xs n) ≡ Some holder
    → is_in (map (λ (a : AggregationEntry). a.holder) xs) holder ≡ true
numbered_held_in xs zero holder at = absurd cc
numbered_held_in xs (suc n) holder at = held_in xs n holder at

named_aggregation : (net : Net) (o : Option ℕ) (n holder : ℕ)
    → held_at (entry_numbered (aggregations_of (process_at net.processes o)) n) ≡ Some holder → IsAggregated net holder
named_aggregation net None n holder at = let none : is_in [] holder ≡ true = numbered_held_in [] n holder at in
    absurd cc
named_aggregation net (Some process) n holder at =
    (process, numbered_held_in (aggregations_of (slice_get net.processes process)) n holder at)

pub cache_or_aggregation : (net : Net) (name : HolderName) (holder : ℕ) → holder_place net name ≡ Some holder
    → (is_in (caches_of_all net) holder ≡ true) ⊎ IsAggregated net holder
cache_or_aggregation net (Cache device cache) holder at = inl (named_cache_in net.devices device cache holder at)
cache_or_aggregation net (AggregationOf device process aggregation) holder at =
    inr (named_aggregation net (entry_numbered (processes_of (entry_numbered net.devices device)) process) aggregation
    holder at)
