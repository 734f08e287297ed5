-- Facts of each place, of its store and of the records that are held there.
use Rattle.std.proofs.Common.{◌≡◌, ℕ, zero, suc, ◌<◌, List, [], ◌∷◌, length, Option, Some, None, refl, arith, slice_get, slice_set, le_of_suc-le-suc}
use Rattle.fx_tables.specs.declared.record.Record.{Record}
use Rattle.fx_net.specs.Stores.{Stored, flows_in}
use Rattle.fx_conform.specs.Held.{IsHeld, AreHeld}
use Rattle.fx_conform.specs.Usable.{IsUsable, AreUsable}

abbrev pub Stand : (ℕ → Option Stored → List Record → Type 0) → List (Option Stored) → List (List Record) → Type 0
Stand P [] [] = Unit {0}
Stand P (s ∷ ss) (rs ∷ rss) = P 0 s rs × Stand (λ n. P (suc n)) ss rss
Stand P _ _ = ⊥

-- what stands at a place
pub record SessionState (P : ℕ → Option Stored → List Record → Type 0) (ss : List (Option Stored))
    (rss : List (List Record)) (n : ℕ) : Type 0 where
  pub s : Option Stored
  pub rs : List Record
  pub store_is : slice_get ss n ≡ Some s
  pub records_are : slice_get rss n ≡ Some rs
  pub fact : P n s rs

pub standing : (P : ℕ → Option Stored → List Record → Type 0) (ss : List (Option Stored)) (rss : List (List Record))
    (n : ℕ) → Stand P ss rss → n < length ss → SessionState P ss rss n
standing P [] rss n h lt = absurd (omega arith)
standing P (s ∷ ss) [] n h lt = absurd h
standing P (s ∷ ss) (rs ∷ rss) zero h lt = record { s = s; rs = rs; store_is = refl; records_are = refl; fact = h.0 }
standing P (s ∷ ss) (rs ∷ rss) (suc n) h lt =
    let at = standing (λ m. P (suc m)) ss rss n h.1 (le_of_suc-le-suc lt) in
    record { s = at.s; rs = at.rs; store_is = at.store_is; records_are = at.records_are; fact = at.fact }

pub stand_map : (P Q : ℕ → Option Stored → List Record → Type 0) (ss : List (Option Stored)) (rss : List (List Record))
    → Stand P ss rss → ((n : ℕ) (s : Option Stored) (rs : List Record) → P n s rs → Q n s rs) → Stand Q ss rss
stand_map P Q [] [] h f = tt
stand_map P Q [] (rs ∷ rss) h f = absurd h
stand_map P Q (s ∷ ss) [] h f = absurd h
stand_map P Q (s ∷ ss) (rs ∷ rss) h f =
    (f 0 s rs h.0, stand_map (λ n. P (suc n)) (λ n. Q (suc n)) ss rss h.1 (λ n. f (suc n)))

-- another store and other records stand there
pub stand_set : (P Q : ℕ → Option Stored → List Record → Type 0) (ss : List (Option Stored)) (rss : List (List Record))
    (n : ℕ) (s : Option Stored) (rs : List Record) → Stand P ss rss → Q n s rs
    → ((m : ℕ) (t : Option Stored) (ts : List Record) → (m ≡ n → ⊥) → P m t ts → Q m t ts)
    → Stand Q (slice_set ss n s) (slice_set rss n rs)
stand_set P Q [] [] n s rs h q f = tt
stand_set P Q [] (ts ∷ rss) n s rs h q f = absurd h
stand_set P Q (t ∷ ss) [] n s rs h q f = absurd h
stand_set P Q (t ∷ ss) (ts ∷ rss) zero s rs h q f =
    (q, stand_map (λ m. P (suc m)) (λ m. Q (suc m)) ss rss h.1 (λ m u us. f (suc m) u us (λ e. absurd (omega arith))))
stand_set P Q (t ∷ ss) (ts ∷ rss) (suc n) s rs h q f = (
  f 0 t ts (λ e. absurd (omega arith)) h.0,
  stand_set (λ m. P (suc m)) (λ m. Q (suc m)) ss rss n s rs h.1 q
      (λ m u us ne. f (suc m) u us (λ e. ne (omega arith))),
)

-- ---- what is held, where these records wait at an immediate cache

abbrev pub Holds : List Record → Option Stored → List Record → Type 0
Holds waiting None rs = rs ≡ waiting
Holds waiting (Some s) rs = IsHeld (flows_in s) rs × IsUsable s

-- none waits
abbrev pub AllHeld : List (Option Stored) → List (List Record) → Type 0
AllHeld ss rss = Stand (λ n. Holds []) ss rss

pub held_stand : (ss : List (Option Stored)) (rss : List (List Record)) → AreHeld ss rss → AreUsable ss → AllHeld ss rss
held_stand [] [] h u = tt
held_stand [] (rs ∷ rss) h u = absurd h
held_stand (s ∷ ss) [] h u = absurd h
held_stand (None ∷ ss) (rs ∷ rss) h u = (h.0, held_stand ss rss h.1 u.1)
held_stand (Some s ∷ ss) (rs ∷ rss) h u = ((h.0, u.0), held_stand ss rss h.1 u.1)

pub stand_held : (ss : List (Option Stored)) (rss : List (List Record)) → AllHeld ss rss → AreHeld ss rss
stand_held [] [] h = tt
stand_held [] (rs ∷ rss) h = absurd h
stand_held (s ∷ ss) [] h = absurd h
stand_held (None ∷ ss) (rs ∷ rss) h = (h.0, stand_held ss rss h.1)
stand_held (Some s ∷ ss) (rs ∷ rss) h = (h.0.0, stand_held ss rss h.1)

pub stand_usable : (ss : List (Option Stored)) (rss : List (List Record)) → AllHeld ss rss → AreUsable ss
stand_usable [] [] h = tt
stand_usable [] (rs ∷ rss) h = absurd h
stand_usable (s ∷ ss) [] h = absurd h
stand_usable (None ∷ ss) (rs ∷ rss) h = (tt, stand_usable ss rss h.1)
stand_usable (Some s ∷ ss) (rs ∷ rss) h = (h.0.1, stand_usable ss rss h.1)
