-- The place of the first of a list that passes, as of a name among others.
use Rattle.std.proofs.Common.{◌≡◌, ℕ, suc, Bool, true, false, ◌||◌, List, [], ◌∷◌, ◌++◌, map, length, cond, not, ◌+◌, Option, Some, None, is_some, refl, ap, sym, ◌∙◌, arith, true≢false}
use Rattle.std.proofs.lemmas.Bool.{cond-true, cond-false}
use Rattle.std.proofs.lemmas.Iterator.Adapters.{position_from-zero}
use Rattle.std.specs.List.{list_any, position, position_from, position_or_len}

position_or_len-map : {X : Type 0} (p : List ℕ → Bool) (f : X → List ℕ) (xs : List X) → position_or_len p (map f xs)
    ≡ position_or_len (λ x. p (f x)) xs
position_or_len-map p f [] = refl
position_or_len-map p f (x ∷ xs) = ap (λ (n : ℕ). cond (not (p (f x))) (1 + n) 0) (position_or_len-map p f xs)

length-map_lem : {X : Type 0} (f : X → List ℕ) (xs : List X) → length (map f xs) ≡ length xs
length-map_lem f [] = refl
length-map_lem f (x ∷ xs) = ap (λ (n : ℕ). suc n) (length-map_lem f xs)

pub position-map : {X : Type 0} (p : List ℕ → Bool) (f : X → List ℕ) (xs : List X) → position p (map f xs)
    ≡ position (λ x. p (f x)) xs
position-map p f xs = rw (position_or_len-map p f xs, length-map_lem f xs) refl

some-counted : {X : Type 0} (p : X → Bool) (i : ℕ) (xs : List X) → is_some (position_from p i xs) ≡ list_any p xs
some-counted p i [] = refl
some-counted {X = X} p i (x ∷ xs) = by (p x) (some-counted p (i + 1) xs)
  where
    by : (b : Bool) → is_some (position_from p (i + 1) xs) ≡ list_any p xs
        → is_some (cond b (Some i) (position_from p (i + 1) xs)) ≡ (b || list_any p xs)
    by true rest = refl
    by false rest = rest

-- a place is found where one passes
pub some-position : {X : Type 0} (p : X → Bool) (xs : List X) → is_some (position p xs) ≡ list_any p xs
some-position p xs = ap is_some (position_from-zero p xs) ∙ some-counted p 0 xs

failing-counted : {X : Type 0} (p : X → Bool) (i : ℕ) (xs : List X) (y : X) → p y ≡ false
    → position_from p i (xs ++ y ∷ []) ≡ position_from p i xs
failing-counted p i [] y fails = cond-false (p y) (Some i) None fails
failing-counted p i (x ∷ xs) y fails = ap (λ (o : Option ℕ). cond (p x) (Some i) o)
    (failing-counted p (i + 1) xs y fails)

-- one more behind, that doesn't pass, changes no place
pub position-push_failing : {X : Type 0} (p : X → Bool) (xs : List X) (y : X) → p y ≡ false → position p (xs ++ y ∷ [])
    ≡ position p xs
position-push_failing p xs y fails = position_from-zero p (xs ++ y ∷ []) ∙ failing-counted p 0 xs y fails
    ∙ sym (position_from-zero p xs)

passing-counted : {X : Type 0} (p : X → Bool) (i : ℕ) (xs : List X) (y : X) → p y ≡ true → list_any p xs ≡ false
    → position_from p i (xs ++ y ∷ []) ≡ Some (length xs + i)
passing-counted p i [] y passes none = cond-true (p y) (Some i) None passes ∙ ap (λ (n : ℕ). Some n) (omega arith)
passing-counted {X = X} p i (x ∷ xs) y passes none = by (p x) none (λ h. passing-counted p (i + 1) xs y passes h)
  where
    by : (b : Bool) → (b || list_any p xs) ≡ false
        → (list_any p xs ≡ false → position_from p (i + 1) (xs ++ y ∷ []) ≡ Some (length xs + (i + 1)))
        → cond b (Some i) (position_from p (i + 1) (xs ++ y ∷ [])) ≡ Some (suc (length xs) + i)
    by true h rest = absurd (true≢false h)
    by false h rest = rest h ∙ ap (λ (n : ℕ). Some n) (omega arith)

-- one more that is the first to pass has the place behind the others
pub position-push_passing : {X : Type 0} (p : X → Bool) (xs : List X) (y : X) → p y ≡ true → list_any p xs ≡ false
    → position p (xs ++ y ∷ []) ≡ Some (length xs)
position-push_passing p xs y passes none = position_from-zero p (xs ++ y ∷ []) ∙ passing-counted p 0 xs y passes none
    ∙ ap (λ (n : ℕ). Some n) (omega arith)
