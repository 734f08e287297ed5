-- Names of holders, noted one after another.
use Rattle.std.proofs.Common.{◌≡◌, ◌⊎◌, inl, inr, ℕ, zero, suc, ◌+◌, ◌<◌, List, [], ◌∷◌, length, Option, Some, None, refl, sym, ap, subst, ◌∙◌, arith, slice_get}
use Rattle.std.proofs.lemmas.Bool.{cases_lt}
use Rattle.fx_tables.specs.declared.holder_name.HolderName.{HolderName}
use Rattle.fx_tables.specs.declared.holder_name.HolderName.TheVariants.{Cache, Aggregation as AggregationOf}
use Rattle.fx_tables.specs.Network.{Net, DeviceEntry, AggregationEntry, caches_of, processes_of, process_at, aggregations_of, held_at, holder_place}
use Rattle.fx_base.specs.Entries.{entry_numbered}
use Rattle.fx_steps.specs.Names.{NameAll, IsNamed, Keep, Note, device_of}

pub inside : {A : Type 0} (xs : List A) (k : ℕ) (x : A) → slice_get xs k ≡ Some x → k < length xs
inside [] k x h = absurd (cc)
inside (y ∷ ys) zero x h = omega arith
inside (y ∷ ys) (suc k) x h = let lt = inside ys k x h in omega arith

pub before_next : (k n : ℕ) → k < n + 1 → (k < n) ⊎ (k ≡ n)
before_next k n lt = elim (cases_lt k n) [ inl l ↦ inl l | inr le ↦ inr (omega (arith, le, lt)) ]

module _ (net : Net) where
  pub kept_on : (a b c : List HolderName) → Keep net a b → Keep net b c → Keep net a c
  kept_on a b c h k = record { size = k.size ∙ h.size; named = λ holder n. k.named holder (h.named holder n) }

  pub note_kept : (old new : List HolderName) (name : HolderName) → Keep net old new → Note net old name
      → Note net new name
  note_kept old new name k n holder at lt = k.named holder (n holder at (let e = k.size in omega arith))

  none_numbered : {A : Type 0} (c : ℕ) (x : A) → entry_numbered {A = A} [] c ≡ Some x → ⊥
  none_numbered zero x h = absurd (cc)
  none_numbered (suc c) x h = absurd (cc)

  there : {A : Type 0} (xs : List A) (n : ℕ) (x : A) → entry_numbered xs n ≡ Some x → (k : ℕ) × (n ≡ suc k)
      × (k < length xs)
  there xs zero x h = absurd (cc)
  there xs (suc k) x h = (k, refl, inside xs k x h)

  -- the device of a name is there
  device_there : (name : HolderName) (holder : ℕ) → holder_place net name ≡ Some holder → (k : ℕ)
      × (device_of name ≡ suc k) × (k < length net.devices)
  device_there (Cache device cache) holder h = from (entry_numbered net.devices device) refl h where
    from : (o : Option DeviceEntry) → entry_numbered net.devices device ≡ o → entry_numbered (caches_of o) cache
        ≡ Some holder → (k : ℕ) × (device ≡ suc k) × (k < length net.devices)
    from None e b = absurd (none_numbered cache holder b)
    from (Some d) e b = there net.devices device d e
  device_there (AggregationOf device process aggregation) holder h =
      from (entry_numbered net.devices device) refl h where
        last : held_at (entry_numbered (aggregations_of (process_at net.processes (entry_numbered [] process)))
            aggregation)
            ≡ Some holder → ⊥
        last b = none_held (entry_numbered [] process) refl b where
          none_held : (o : Option ℕ) → entry_numbered [] process ≡ o
              → held_at (entry_numbered (aggregations_of (process_at net.processes o)) aggregation) ≡ Some holder → ⊥
          none_held None e b = nothing aggregation b where
            nothing : (a : ℕ) → held_at (entry_numbered [] a) ≡ Some holder → ⊥
            nothing zero b = absurd (cc)
            nothing (suc a) b = absurd (cc)
          none_held (Some place) e b = none_numbered process place e

        from : (o : Option DeviceEntry) → entry_numbered net.devices device ≡ o
            → held_at (entry_numbered (aggregations_of
            (process_at net.processes (entry_numbered (processes_of o) process)))
            aggregation) ≡ Some holder → (k : ℕ) × (device ≡ suc k) × (k < length net.devices)
        from None e b = absurd (last b)
        from (Some d) e b = there net.devices device d e

  pub all_named : (names : List HolderName) → length names ≡ length net.holders
      → ((k : ℕ) (name : HolderName) → k < length net.devices → device_of name ≡ suc k → Note net names name)
      → NameAll net names
  all_named names size h holder is =
      let d = device_there is.name holder is.named in
      h d.0 is.name d.2 d.1 holder is.named (let lt = is.there in omega arith)

  -- ---- the holders of one device

  nothing : (a holder : ℕ) → held_at (entry_numbered [] a) ≡ Some holder → ⊥
  nothing zero holder b = absurd (cc)
  nothing (suc a) holder b = absurd (cc)

  held_inside : (xs : List AggregationEntry) (a holder : ℕ) → held_at (slice_get xs a) ≡ Some holder → a < length xs
  held_inside [] a holder b = absurd (cc)
  held_inside (x ∷ xs) zero holder b = omega arith
  held_inside (x ∷ xs) (suc a) holder b = let lt = held_inside xs a holder b in omega arith

  module _ (number : ℕ) (d : DeviceEntry) (here : entry_numbered net.devices number ≡ Some d) (new : List HolderName)
    where
      cache_noted : ((k : ℕ) → k < length d.caches → Note net new (Cache number (suc k))) → (cache : ℕ)
          → Note net new (Cache number cache)
      cache_noted caches zero holder at lt = absurd (cc)
      cache_noted caches (suc k) holder at lt =
          let among : slice_get d.caches k ≡ Some holder =
          ap (λ (o : Option DeviceEntry). slice_get (caches_of o) k) (sym here) ∙ at in
          caches k (inside d.caches k holder among) holder at lt

      aggregation_noted : ((p place a : ℕ) → slice_get d.processes p ≡ Some place → a
          < length (aggregations_of (slice_get net.processes place))
          → Note net new (AggregationOf number (suc p) (suc a))) → (process a : ℕ)
          → Note net new (AggregationOf number process a)
      aggregation_noted aggregations zero a holder at lt = absurd (nothing a holder at)
      aggregation_noted aggregations (suc p) a holder at lt =
          by (slice_get d.processes p) refl a at (subst
          (λ (o : Option DeviceEntry). held_at (entry_numbered
          (aggregations_of (process_at net.processes (slice_get (processes_of o) p))) a) ≡ Some holder) here at)
        where
          by : (o : Option ℕ) → slice_get d.processes p ≡ o → (b : ℕ)
              → holder_place net (AggregationOf number (suc p) b)
              ≡ Some holder → held_at (entry_numbered (aggregations_of (process_at net.processes o)) b) ≡ Some holder
              → IsNamed net new holder
          by None e b at held = absurd (nothing b holder held)
          by (Some place) e zero at held = absurd (cc)
          by (Some place) e (suc b) at held =
              aggregations p place b e (held_inside (aggregations_of (slice_get net.processes place)) b holder held)
              holder at lt

  pub device_noted : (number : ℕ) (d : DeviceEntry) (mid new : List HolderName) → entry_numbered net.devices number
      ≡ Some d → Keep net mid new → ((k : ℕ) → k < length d.caches → Note net mid (Cache number (suc k)))
      → ((p place a : ℕ) → slice_get d.processes p ≡ Some place → a
      < length (aggregations_of (slice_get net.processes place)) → Note net new (AggregationOf number (suc p) (suc a)))
      → (name : HolderName) → device_of name ≡ number → Note net new name
  device_noted number d mid new here kept caches aggregations (Cache device cache) e =
      let kept_caches = λ (k : ℕ) (lt : k < length d.caches). note_kept mid new (Cache number (suc k)) kept
      (caches k lt) in
      subst (λ m. Note net new (Cache m cache)) (sym e) (cache_noted number d here new kept_caches cache)
  device_noted number d mid new here kept caches aggregations (AggregationOf device process a) e =
      subst (λ m. Note net new (AggregationOf m process a)) (sym e)
      (aggregation_noted number d here new aggregations process a)
