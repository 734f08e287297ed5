-- What sinks tell, one of which took octets.
use Rattle.std.proofs.Common.{◌≡◌, ◌≢◌, ℕ, zero, suc, ◌-◌, ◌<◌, ◌≤◌, List, [], ◌∷◌, length, get_or, Option, Some, refl, ap, sym, subst, arith, slice_get}
use Rattle.std.proofs.Math.ListN.{set}
use Rattle.std.proofs.lemmas.Option.{slice_get_past, slice_get_read}
use Rattle.fx_base.specs.Device.{Writes}
use Rattle.fx_base.specs.Entries.{entry_numbered}
use Rattle.fx_link.specs.Links.{Puts, octets_known}

got_same : {S : Type 0} (xs : List S) (i : ℕ) (x : S) → i < length xs → slice_get (set xs i x) i ≡ Some x
got_same [] i x h = absurd (omega arith)
got_same (y ∷ ys) zero x h = refl
got_same (y ∷ ys) (suc i) x h = got_same ys i x (omega arith)

got_other : {S : Type 0} (xs : List S) (i j : ℕ) (x : S) → j ≢ i → slice_get (set xs i x) j ≡ slice_get xs j
got_other [] i j x n = refl
got_other (y ∷ ys) zero zero x n = absurd (n refl)
got_other (y ∷ ys) zero (suc j) x n = refl
got_other (y ∷ ys) (suc i) zero x n = refl
got_other (y ∷ ys) (suc i) (suc j) x n = got_other ys i j x (λ e. n (ap suc e))

other_reported : {S : Type 0} (taken : S → Option (List ℕ)) (xs : List S) (i : ℕ) (new : S) (n : ℕ) → n ≢ suc i
    → octets_known taken (entry_numbered (set xs i new) n) ≡ octets_known taken (entry_numbered xs n)
other_reported taken xs i new zero apart = refl
other_reported taken xs i new (suc k) apart = ap (octets_known taken) (got_other xs i k new (λ e. apart (ap suc e)))

reported_at : {S : Type 0} (taken : S → Option (List ℕ)) (xs : List S) (i : ℕ) (old new : S) (octets : List ℕ) → i
    < length xs → old ≡ get_or xs i old → Writes (taken old) (taken new) octets
    → Puts (λ n. octets_known taken (entry_numbered xs n)) (λ n. octets_known taken (entry_numbered (set xs i new) n))
    (suc i) octets
reported_at taken xs i old new octets within was reported =
    let before : slice_get xs i ≡ Some old = slice_get_read xs (length xs) i old refl within was in
    let after : slice_get (set xs i new) i ≡ Some new = got_same xs i new within in
    record {
      here = subst (λ o. Writes (octets_known taken o) (octets_known taken (slice_get (set xs i new) i)) octets)
          (sym before)
          (subst (λ o. Writes (taken old) (octets_known taken o) octets) (sym after) reported);
      others = other_reported taken xs i new;
    }

-- the octets come behind those of the sink with this number, and the others tell what they reported
pub sink_known : {S : Type 0} (taken : S → Option (List ℕ)) (xs : List S) (link : ℕ) (old new : S) (octets : List ℕ)
    → (link ≡ 0 → ⊥) → link ≤ length xs → old ≡ get_or xs (link - 1) old → Writes (taken old) (taken new) octets
    → Puts (λ n. octets_known taken (entry_numbered xs n))
    (λ n. octets_known taken (entry_numbered (set xs (link - 1) new) n)) link octets
sink_known taken xs link old new octets some within was reported =
    let same : suc (link - 1) ≡ link = omega arith in
    subst (λ k. Puts (λ n. octets_known taken (entry_numbered xs n))
    (λ n. octets_known taken (entry_numbered (set xs (link - 1) new) n)) k octets) same
    (reported_at taken xs (link - 1) old new octets (omega arith) was reported)

-- where there is no sink with this number, nothing is reported of it
pub none_known : {S : Type 0} (taken : S → Option (List ℕ)) (xs : List S) (link : ℕ) (octets : List ℕ) → length xs
    < link → Puts (λ n. octets_known taken (entry_numbered xs n)) (λ n. octets_known taken (entry_numbered xs n)) link
    octets
none_known taken xs zero octets past = absurd (omega arith)
none_known taken xs (suc i) octets past =
    record {
      here = subst (λ o. Writes (octets_known taken o) (octets_known taken o) octets)
          (sym (slice_get_past xs i (omega arith))) refl;
      others = λ n apart. refl;
    }

pub none_known_first : {S : Type 0} (taken : S → Option (List ℕ)) (xs : List S) (link : ℕ) (octets : List ℕ) → link ≡ 0
    → Puts (λ n. octets_known taken (entry_numbered xs n)) (λ n. octets_known taken (entry_numbered xs n)) link octets
none_known_first taken xs zero octets first = record { here = refl; others = λ n apart. refl }
none_known_first taken xs (suc i) octets first = absurd (omega arith)
