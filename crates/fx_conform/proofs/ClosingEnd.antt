-- Once the closing phase is over, nothing is in the stores, and no octets are on the links.
use Rattle.std.proofs.Common.{◌≡◌, inl, inr, ℕ, zero, suc, ◌<◌, true, false, List, [], ◌∷◌, length, Option, Some, None, refl, subst, slice_get}
use Rattle.std.specs.List.{AllByRecursion}
use Rattle.std.proofs.lemmas.Bool.{both_ways}
use Rattle.fx_tables.specs.Network.{Net, Process, named_by}
use Rattle.fx_machine.proofs.LastLeaves.{there}
use Rattle.fx_link.specs.Links.{Put}
use Rattle.fx_link.specs.Ongoing.{Ongoing}
use Rattle.fx_ranks.specs.Ranks.{IsWhole, is_in}
use Rattle.fx_runs.specs.Destinations.{links_used}
use Rattle.fx_net.specs.Contents.{Contents}
use Rattle.fx_net.specs.Doings.{EmptiesNetwork, caches_of_all, holders_of}
use Rattle.fx_conform.specs.Closing.{CanBeNamed, NothingIsStored, NothingWaits, OnlyNamedHold}
use Rattle.fx_conform.specs.OnLinks.{NoOctets}
use Rattle.fx_conform.specs.Usable.{AreUsable}
use Rattle.fx_conform.proofs.NetworkMidway.{there_is_below}
use Rattle.fx_conform.proofs.CalmLinks.{LeavesOn, Rests, rests_once_all_emptied, holds_in_more}
use Rattle.fx_conform.proofs.ClosingHolders.{cache_or_aggregation}
use Rattle.fx_conform.proofs.ClosingRanks.{IsToCome, LeadsOn, all_finished}

all_so : {A : Type 0} (P : A → Type 0) (xs : List A) → ((x : A) → P x) → AllByRecursion P xs
all_so P [] h = tt
all_so P (x ∷ xs) h = (h x, all_so P xs h)

all_by_place : {A : Type 0} (P : A → Type 0) (xs : List A) → ((n : ℕ) (x : A) → slice_get xs n ≡ Some x → P x)
    → AllByRecursion P xs
all_by_place P [] h = tt
all_by_place P (x ∷ xs) h = (h zero x refl, all_by_place P xs (λ n y at. h (suc n) y at))

module _ (net : Net) where
  -- ---- at the beginning no process is finished

  -- what is named and no cache is an aggregation's
  to_come : (place : ℕ) → CanBeNamed net place → is_in (caches_of_all net) place ≡ false → IsToCome net [] place
  to_come place named no_cache =
      elim (cache_or_aggregation net named.0 place named.1) [
        | inl cache ↦ absurd (both_ways (is_in (caches_of_all net) place) no_cache cache)
        | inr held ↦ (held.0, refl, held.1)
      ]

  caches_emptied : (before : Put) (old : Contents) (after : Put) (new : Contents) (ranked : List ℕ) → length old.links
      ≡ length net.links → AreUsable old.stores → OnlyNamedHold net old.stores → NothingWaits old.links
      → (e : EmptiesNetwork net ranked before old after new) → Rests net (LeadsOn net []) (IsToCome net []) e.1
  caches_emptied before old after new ranked many usable named still e =
      let caches : List ℕ = caches_of_all net in
      let any : (link : ℕ) → LeadsOn net [] link = λ link to at. refl in
      let leave : AllByRecursion (LeavesOn net (LeadsOn net [])) caches =
      all_so (LeavesOn net (LeadsOn net [])) caches
      (λ place chosen. all_so (LeadsOn net []) (links_used net chosen (named_by (slice_get net.holders place))) any)
      in
      let first : Rests net (LeadsOn net []) (CanBeNamed net) old =
      (record { links = λ link o at. inl (any link); stores = named; usable = usable; as_many = many }, still) in
      holds_in_more net (LeadsOn net []) (λ n. CanBeNamed net n × (is_in caches n ≡ false)) (IsToCome net []) e.1
      (λ place h. to_come place h.0 h.1)
      (rests_once_all_emptied net (LeadsOn net []) (CanBeNamed net) caches before old e.0 e.1 leave first e.2)

  -- ---- at the end all processes are

  module _ (ranked : List ℕ) (whole : IsWhole net ranked) where
    process_there : (process holder : ℕ) → is_in (holders_of (slice_get net.processes process)) holder ≡ true
        → is_in ranked process ≡ true
    process_there process holder held = by (slice_get net.processes process) refl held where
      by : (o : Option Process) → slice_get net.processes process ≡ o → is_in (holders_of o) holder ≡ true
          → is_in ranked process ≡ true
      by None at h = absurd cc
      by (Some p) at h = whole.all process (there_is_below net.processes process p at)

    none_to_come : (holder : ℕ) → IsToCome net ranked holder → ⊥
    none_to_come holder h = both_ways (is_in ranked h.0) h.1 (process_there h.0 holder h.2)

    none_leads_on : (link : ℕ) → link < length net.links → LeadsOn net ranked link → ⊥
    none_leads_on link low on =
        let to = there net.links link low in
        both_ways (is_in ranked to.0) (on to.0 to.1) (whole.all to.0 (whole.leads link to.0 to.1))

    nothing_left : (c : Contents) → Rests net (LeadsOn net ranked) (IsToCome net ranked) c → NothingIsStored c.stores
        × NoOctets c.links
    nothing_left c h = (
      λ place. elim (h.0.stores place) [ inl held ↦ absurd (none_to_come place held) | inr none ↦ none ],
      all_by_place (λ (o : Ongoing). o.queue ≡ []) c.links (λ link o at. elim (h.0.links link o at) [
        | inl on ↦ absurd (none_leads_on link (subst (λ (n : ℕ). link < n) h.0.as_many
            (there_is_below c.links link o at)) on)
        | inr idle ↦ idle.queue
      ]),
    )

pub closing_empties : (net : Net) (ranked : List ℕ) (before after : Put) (old new : Contents) → IsWhole net ranked
    → length old.links ≡ length net.links → AreUsable old.stores → OnlyNamedHold net old.stores → NothingWaits old.links
    → EmptiesNetwork net ranked before old after new → NothingIsStored new.stores × NoOctets new.links
closing_empties net ranked before after old new whole many usable named still e =
    nothing_left net ranked whole new
    (all_finished net [] ranked e.0 e.1 after new whole.order_is (λ p q come f. absurd cc)
    (caches_emptied net before old after new ranked many usable named still e) e.3)
