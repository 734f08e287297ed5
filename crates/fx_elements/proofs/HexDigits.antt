-- One to four hexadecimal digits, read by twos.
use Rattle.std.proofs.Common.{◌≡◌, ℕ, ◌+◌, ◌*◌, ◌≤◌, ◌<◌, ◌&&◌, ◌==◌, nat_lt, false, true, List, [], ◌∷◌, length, get_or, Option, Some, None, IfSome, option_map, refl, ap, ◌∙◌, arith}
use Rattle.std.specs.Option.{option_and_then}
use Rattle.fx_elements.specs.Groups.{hex_of, group_of}
use Rattle.fx_elements.specs.Address6.{any_hex_of, any_group_of}
use Rattle.fx_elements.specs.Spelling.{◌>>=◌}

by_two : (o p : Option ℕ) → (o >>= λ x. p >>= λ y. Some (x * 16 + y))
    ≡ option_and_then (λ x. option_map (λ y. x * 16 + y) p) o
by_two None p = refl
by_two (Some x) None = refl
by_two (Some x) (Some y) = refl

by_three : (o p q : Option ℕ) → (o >>= λ x. p >>= λ y. q >>= λ z. Some ((x * 16 + y) * 16 + z))
    ≡ (option_and_then (λ x. option_map (λ y. x * 16 + y) p) o >>= λ v. option_map (λ z. v * 16 + z) q)
by_three None p q = refl
by_three (Some x) None q = refl
by_three (Some x) (Some y) None = refl
by_three (Some x) (Some y) (Some z) = refl

by_four : (o p q r : Option ℕ) → (o >>= λ w. p >>= λ x. q >>= λ y. r >>= λ z. Some (((w * 16 + x) * 16 + y) * 16 + z))
    ≡ (option_and_then (λ x. option_map (λ y. x * 16 + y) p) o >>= λ v. option_map (λ z. v * 256 + z)
    (option_and_then (λ x. option_map (λ y. x * 16 + y) r) q))
by_four None p q r = refl
by_four (Some w) None q r = refl
by_four (Some w) (Some x) None r = refl
by_four (Some w) (Some x) (Some y) None = refl
by_four (Some w) (Some x) (Some y) (Some z) = let same : ((w * 16 + x) * 16 + y) * 16 + z ≡ (w * 16 + x) * 256
    + (y * 16 + z) = omega arith in ap Some same

module _ (hex : ℕ → Option ℕ) where
  abbrev pub pair : ℕ → ℕ → Option ℕ
  pair a b = option_and_then (λ x. option_map (λ y. x * 16 + y) (hex b)) (hex a)

  abbrev pub digits : List ℕ → Option ℕ
  digits (a ∷ []) = hex a
  digits (a ∷ b ∷ []) = do
    x ← hex a
    y ← hex b
    Some (x * 16 + y)
  digits (a ∷ b ∷ c ∷ []) = do
    x ← hex a
    y ← hex b
    z ← hex c
    Some ((x * 16 + y) * 16 + z)
  digits (a ∷ b ∷ c ∷ d ∷ []) = do
    w ← hex a
    x ← hex b
    y ← hex c
    z ← hex d
    Some (((w * 16 + x) * 16 + y) * 16 + z)
  digits _ = None

  pub no_digits : (text : List ℕ) → length text < 1 → digits text ≡ None
  no_digits [] few = refl
  no_digits (a ∷ bs) few = absurd (omega (arith, few))

  pub one_digit : (text : List ℕ) → 1 ≤ length text → length text < 2 → digits text ≡ hex (get_or text 0 0)
  one_digit [] some few = absurd (omega (arith, some))
  one_digit (a ∷ []) some few = refl
  one_digit (a ∷ b ∷ bs) some few = absurd (omega (arith, few))

  pub two_digits : (text : List ℕ) → 2 ≤ length text → length text < 3 → digits text
      ≡ pair (get_or text 0 0) (get_or text 1 0)
  two_digits [] some few = absurd (omega (arith, some))
  two_digits (a ∷ []) some few = absurd (omega (arith, some))
  two_digits (a ∷ b ∷ []) some few = by_two (hex a) (hex b)
  two_digits (a ∷ b ∷ c ∷ cs) some few = absurd (omega (arith, few))

  three : (text : List ℕ) → 3 ≤ length text → length text < 4 → digits text
      ≡ (pair (get_or text 0 0) (get_or text 1 0) >>= λ v. option_map (λ z. v * 16 + z) (hex (get_or text 2 0)))
  three [] some few = absurd (omega (arith, some))
  three (a ∷ []) some few = absurd (omega (arith, some))
  three (a ∷ b ∷ []) some few = absurd (omega (arith, some))
  three (a ∷ b ∷ c ∷ []) some few = by_three (hex a) (hex b) (hex c)
  three (a ∷ b ∷ c ∷ d ∷ ds) some few = absurd (omega (arith, few))

  four : (text : List ℕ) → 4 ≤ length text → length text < 5 → digits text
      ≡ (pair (get_or text 0 0) (get_or text 1 0) >>= λ v. option_map (λ z. v * 256 + z)
      (pair (get_or text 2 0) (get_or text 3 0)))
  four [] some few = absurd (omega (arith, some))
  four (a ∷ []) some few = absurd (omega (arith, some))
  four (a ∷ b ∷ []) some few = absurd (omega (arith, some))
  four (a ∷ b ∷ c ∷ []) some few = absurd (omega (arith, some))
  four (a ∷ b ∷ c ∷ d ∷ []) some few = by_four (hex a) (hex b) (hex c) (hex d)
  four (a ∷ b ∷ c ∷ d ∷ e ∷ es) some few = absurd (omega (arith, few))

  pub many_digits : (text : List ℕ) → 5 ≤ length text → digits text ≡ None
  many_digits [] some = absurd (omega (arith, some))
  many_digits (a ∷ []) some = absurd (omega (arith, some))
  many_digits (a ∷ b ∷ []) some = absurd (omega (arith, some))
  many_digits (a ∷ b ∷ c ∷ []) some = absurd (omega (arith, some))
  many_digits (a ∷ b ∷ c ∷ d ∷ []) some = absurd (omega (arith, some))
  many_digits (a ∷ b ∷ c ∷ d ∷ e ∷ es) some = refl

  -- what the pairs and digits were read as
  pub three_digits : (text : List ℕ) (o p : Option ℕ) → 3 ≤ length text → length text < 4 → o
      ≡ pair (get_or text 0 0) (get_or text 1 0) → p ≡ hex (get_or text 2 0) → digits text
      ≡ (o >>= λ v. option_map (λ z. v * 16 + z) p)
  three_digits text o p some few is is' = three text some few ∙ rw (is, is') refl

  pub four_digits : (text : List ℕ) (o p : Option ℕ) → 4 ≤ length text → length text < 5 → o
      ≡ pair (get_or text 0 0) (get_or text 1 0) → p ≡ pair (get_or text 2 0) (get_or text 3 0) → digits text
      ≡ (o >>= λ v. option_map (λ z. v * 256 + z) p)
  four_digits text o p some few is is' = four text some few ∙ rw (is, is') refl

pub wider : (o : Option ℕ) (few many : ℕ) → IfSome o (λ v. v < few) → few ≤ many → IfSome o (λ v. v < many)
wider None few many below le = tt
wider (Some v) few many below le = omega (arith, below, le)

-- ---- a group in its written form, and one in digits of either case

pub group_digits : (text : List ℕ) → (nat_lt 1 (length text) && get_or text 0 0 == 48) ≡ false → group_of text
    ≡ digits hex_of text
unfolding group_of
group_digits [] none = refl
group_digits (a ∷ []) none = refl
group_digits (a ∷ b ∷ []) none = let no : (a == 48) ≡ false = none in rw no refl
group_digits (a ∷ b ∷ c ∷ []) none = let no : (a == 48) ≡ false = none in rw no refl
group_digits (a ∷ b ∷ c ∷ d ∷ []) none = let no : (a == 48) ≡ false = none in rw no refl
group_digits (a ∷ b ∷ c ∷ d ∷ e ∷ es) none = refl

pub leading_zero : (text : List ℕ) → (nat_lt 1 (length text) && get_or text 0 0 == 48) ≡ true → group_of text ≡ None
unfolding group_of
leading_zero [] some = absurd (cc)
leading_zero (a ∷ []) some = absurd (cc)
leading_zero (a ∷ b ∷ []) some = let zero : (a == 48) ≡ true = some in rw zero refl
leading_zero (a ∷ b ∷ c ∷ []) some = let zero : (a == 48) ≡ true = some in rw zero refl
leading_zero (a ∷ b ∷ c ∷ d ∷ []) some = let zero : (a == 48) ≡ true = some in rw zero refl
leading_zero (a ∷ b ∷ c ∷ d ∷ e ∷ es) some = refl

pub any_digits : (text : List ℕ) → any_group_of text ≡ digits any_hex_of text
unfolding any_group_of
any_digits [] = refl
any_digits (a ∷ []) = refl
any_digits (a ∷ b ∷ []) = refl
any_digits (a ∷ b ∷ c ∷ []) = refl
any_digits (a ∷ b ∷ c ∷ d ∷ []) = refl
any_digits (a ∷ b ∷ c ∷ d ∷ e ∷ es) = refl
