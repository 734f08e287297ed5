-- Lists that are set or changed at a place.
use Rattle.std.proofs.Common.{◌≡◌, ℕ, zero, suc, List, [], ◌∷◌, Option, Some, option_map, refl, ap, slice_get, slice_set}
use Rattle.fx_net.specs.Contents.{with_changed, inner_option, stored_at}
use Rattle.fx_net.specs.Stores.{Stored}

-- ---- set

pub at_set : {A : Type 0} (xs : List A) (n : ℕ) (x y : A) → slice_get xs n ≡ Some x → slice_get (slice_set xs n y) n
    ≡ Some y
at_set [] n x y h = absurd (cc)
at_set (z ∷ zs) zero x y h = refl
at_set (z ∷ zs) (suc n) x y h = at_set zs n x y h

pub at_other : {A : Type 0} (xs : List A) (n m : ℕ) (y : A) → (m ≡ n → ⊥) → slice_get (slice_set xs n y) m
    ≡ slice_get xs m
at_other [] n m y ne = refl
at_other (z ∷ zs) zero zero y ne = absurd (ne refl)
at_other (z ∷ zs) zero (suc m) y ne = refl
at_other (z ∷ zs) (suc n) zero y ne = refl
at_other (z ∷ zs) (suc n) (suc m) y ne = at_other zs n m y (λ e. ne (ap suc e))

pub set_same : {A : Type 0} (xs : List A) (n : ℕ) (x : A) → slice_get xs n ≡ Some x → slice_set xs n x ≡ xs
set_same [] n x h = absurd (cc)
set_same (z ∷ zs) zero x h = let e : x ≡ z = cc in ap (λ y. y ∷ zs) e
set_same (z ∷ zs) (suc n) x h = ap (λ ys. z ∷ ys) (set_same zs n x h)

pub set_twice : {A : Type 0} (xs : List A) (n : ℕ) (x y : A) → slice_set (slice_set xs n x) n y ≡ slice_set xs n y
set_twice [] n x y = refl
set_twice (z ∷ zs) zero x y = refl
set_twice (z ∷ zs) (suc n) x y = ap (λ ys. z ∷ ys) (set_twice zs n x y)

-- ---- changed

pub changed_is : {A : Type 0} (f : A → A) (xs : List A) (n : ℕ) (x : A) → slice_get xs n ≡ Some x → with_changed f xs n
    ≡ slice_set xs n (f x)
changed_is f [] n x h = absurd (cc)
changed_is f (z ∷ zs) zero x h = let e : z ≡ x = cc in ap (λ y. f y ∷ zs) e
changed_is f (z ∷ zs) (suc n) x h = ap (λ ys. z ∷ ys) (changed_is f zs n x h)

pub changed_other : {A : Type 0} (f : A → A) (xs : List A) (n m : ℕ) → (m ≡ n → ⊥) → slice_get (with_changed f xs n) m
    ≡ slice_get xs m
changed_other f [] n m ne = refl
changed_other f (z ∷ zs) zero zero ne = absurd (ne refl)
changed_other f (z ∷ zs) zero (suc m) ne = refl
changed_other f (z ∷ zs) (suc n) zero ne = refl
changed_other f (z ∷ zs) (suc n) (suc m) ne = changed_other f zs n m (λ e. ne (ap suc e))

-- ---- stores

pub stored_other : (f : Option Stored → Option Stored) (stores : List (Option Stored)) (n m : ℕ) → (m ≡ n → ⊥)
    → stored_at (with_changed f stores n) m ≡ stored_at stores m
stored_other f stores n m ne = ap inner_option (changed_other f stores n m ne)

pub stored_here : (f : Stored → Stored) (stores : List (Option Stored)) (n : ℕ)
    → stored_at (with_changed (option_map f) stores n) n ≡ option_map f (stored_at stores n)
stored_here f [] n = refl
stored_here f (s ∷ stores) zero = refl
stored_here f (s ∷ stores) (suc n) = stored_here f stores n

-- what has a store is there
pub stored_there : (stores : List (Option Stored)) (n : ℕ) (s : Stored) → stored_at stores n ≡ Some s
    → slice_get stores n ≡ Some (Some s)
stored_there [] n s h = absurd (cc)
stored_there (t ∷ stores) zero s h = ap Some h
stored_there (t ∷ stores) (suc n) s h = stored_there stores n s h
