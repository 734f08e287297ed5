-- Numbers that are compared with what is made of a list, one after another.
use Rattle.std.proofs.Common.{◌≡◌, ◌≢◌, ℕ, suc, ◌+◌, ◌<◌, ◌≤◌, ◌==◌, ◌&&◌, Bool, true, false, List, [], ◌∷◌, length, get_or, drop, map, refl, ap, ap₂, ◌∙◌, eq-eqb, ne_eqb}
use Rattle.std.specs.Str.{bytes_eq}
use Rattle.std.proofs.lemmas.List.{at_drop_more, drop_all}

none_of : (b : Bool) → (b && false) ≡ false
none_of true = refl
none_of false = refl

module _ {A : Type 0} (f : A → ℕ) where
  at_next : (xs : List ℕ) (ys : List A) (n : ℕ) (d : A) → n < length xs → n < length ys
      → bytes_eq (drop n xs) (map f (drop n ys))
      ≡ ((get_or xs n 0 == f (get_or ys n d)) && bytes_eq (drop (n + 1) xs) (map f (drop (n + 1) ys)))
  at_next xs ys n d lt lt' =
      ap₂ (λ (a : List ℕ) (b : List A). bytes_eq a (map f b)) (at_drop_more (λ (rest : List ℕ). rest) xs n 0 lt)
      (at_drop_more (λ (rest : List A). rest) ys n d lt')

  pub one_same : (xs : List ℕ) (ys : List A) (n : ℕ) (d : A) → n < length xs → n < length ys → get_or xs n 0
      ≡ f (get_or ys n d) → bytes_eq (drop n xs) (map f (drop n ys))
      ≡ bytes_eq (drop (n + 1) xs) (map f (drop (n + 1) ys))
  one_same xs ys n d lt lt' same =
      at_next xs ys n d lt lt' ∙ ap (λ b. b && bytes_eq (drop (n + 1) xs) (map f (drop (n + 1) ys))) (eq-eqb _ _ same)

  pub one_differs : (xs : List ℕ) (ys : List A) (n : ℕ) (d : A) → n < length xs → n < length ys
      → get_or xs n 0 ≢ f (get_or ys n d) → bytes_eq (drop n xs) (map f (drop n ys)) ≡ false
  one_differs xs ys n d lt lt' other =
      at_next xs ys n d lt lt' ∙ ap (λ b. b && bytes_eq (drop (n + 1) xs) (map f (drop (n + 1) ys))) (ne_eqb _ _ other)

  pub all_same : (xs : List ℕ) (ys : List A) (n : ℕ) → length xs ≤ n → length ys ≤ n
      → bytes_eq (drop n xs) (map f (drop n ys)) ≡ true
  all_same xs ys n le le' = ap₂ (λ (a : List ℕ) (b : List A). bytes_eq a (map f b)) (drop_all n xs le)
      (drop_all n ys le')

  pub not_as_many : (xs : List ℕ) (ys : List A) → length xs ≢ length ys → bytes_eq xs (map f ys) ≡ false
  not_as_many [] [] differ = absurd (differ refl)
  not_as_many [] (y ∷ ys) differ = refl
  not_as_many (x ∷ xs) [] differ = refl
  not_as_many (x ∷ xs) (y ∷ ys) differ = ap (λ b. (x == f y) && b) (not_as_many xs ys (λ same. differ (ap suc same)))
      ∙ none_of (x == f y)
