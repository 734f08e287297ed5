-- Numbers in one octet, in two, four, eight and sixteen.
use Rattle.std.proofs.Common.{◌≡◌, ℕ, ◌+◌, ◌*◌, ◌^◌, ◌<◌, List, [], ◌∷◌, length, arith, get_or, fold, ◌∙◌}
use Rattle.std.specs.Int.{from_be_bytes, w16, w32, w64, w128}
use Rattle.std.proofs.Math.Nat.{mod-eq_of_lt}
use Rattle.fx_session.specs.Flows.{number_in}

pub one : (bs : List ℕ) → ((i : ℕ) → get_or bs i 0 < 256) → length bs ≡ 1 → number_in bs ≡ get_or bs 0 0
unfolding number_in
one [] small is = absurd cc
one (a ∷ []) small is =
    let whole : ℕ = fold (λ n b. n * 256 + b) 0 (a ∷ []) in
    let below : whole < 2 ^ 128 = omega (arith, small 0) in
    mod-eq_of_lt below ∙ (let same : whole ≡ a = omega arith in same)
one (a ∷ b ∷ rest) small is = absurd (omega (arith, is))

pub two : (bs : List ℕ) → ((i : ℕ) → get_or bs i 0 < 256) → length bs ≡ 2 → number_in bs ≡ from_be_bytes w16 bs
unfolding number_in
two [] small is = absurd cc
two (a ∷ []) small is = absurd (omega (arith, is))
two (a ∷ b ∷ []) small is =
    let whole : ℕ = fold (λ n b. n * 256 + b) 0 (a ∷ b ∷ []) in
    let below : whole < 2 ^ 128 = omega (arith, small 0, small 1) in
    mod-eq_of_lt below ∙ (let same : whole ≡ from_be_bytes w16 (a ∷ b ∷ []) = omega arith in same)
two (a ∷ b ∷ c ∷ rest) small is = absurd (omega (arith, is))

pub four : (bs : List ℕ) → ((i : ℕ) → get_or bs i 0 < 256) → length bs ≡ 4 → number_in bs ≡ from_be_bytes w32 bs
unfolding number_in
four [] small is = absurd cc
four (a ∷ []) small is = absurd (omega (arith, is))
four (a ∷ b ∷ []) small is = absurd (omega (arith, is))
four (a ∷ b ∷ c ∷ []) small is = absurd (omega (arith, is))
four (a ∷ b ∷ c ∷ d ∷ []) small is =
    let whole : ℕ = fold (λ n b. n * 256 + b) 0 (a ∷ b ∷ c ∷ d ∷ []) in
    let below : whole < 2 ^ 128 = omega (arith, small 0, small 1, small 2, small 3) in
    mod-eq_of_lt below ∙ (let same : whole ≡ from_be_bytes w32 (a ∷ b ∷ c ∷ d ∷ []) = omega arith in same)
four (a ∷ b ∷ c ∷ d ∷ e ∷ rest) small is = absurd (omega (arith, is))

-- of eight octets nothing is cut off
eight_of : (a b c d e f g h : ℕ) → ((i : ℕ) → get_or (a ∷ b ∷ c ∷ d ∷ e ∷ f ∷ g ∷ h ∷ []) i 0 < 256)
    → number_in (a ∷ b ∷ c ∷ d ∷ e ∷ f ∷ g ∷ h ∷ []) ≡ from_be_bytes w64 (a ∷ b ∷ c ∷ d ∷ e ∷ f ∷ g ∷ h ∷ [])
unfolding number_in
eight_of a b c d e f g h small =
    let whole : ℕ = fold (λ n b. n * 256 + b) 0 (a ∷ b ∷ c ∷ d ∷ e ∷ f ∷ g ∷ h ∷ []) in
    let below : whole < 2 ^ 128 = omega (arith, small 0, small 1, small 2, small 3, small 4, small 5, small 6, small 7)
    in
    mod-eq_of_lt below ∙ (let same : whole ≡ from_be_bytes w64 (a ∷ b ∷ c ∷ d ∷ e ∷ f ∷ g ∷ h ∷ []) = omega arith in
    same)

pub eight : (bs : List ℕ) → ((i : ℕ) → get_or bs i 0 < 256) → length bs ≡ 8 → number_in bs ≡ from_be_bytes w64 bs
eight [] small is = absurd cc
eight (a ∷ []) small is = absurd (omega (arith, is))
eight (a ∷ b ∷ []) small is = absurd (omega (arith, is))
eight (a ∷ b ∷ c ∷ []) small is = absurd (omega (arith, is))
eight (a ∷ b ∷ c ∷ d ∷ []) small is = absurd (omega (arith, is))
eight (a ∷ b ∷ c ∷ d ∷ e ∷ []) small is = absurd (omega (arith, is))
eight (a ∷ b ∷ c ∷ d ∷ e ∷ f ∷ []) small is = absurd (omega (arith, is))
eight (a ∷ b ∷ c ∷ d ∷ e ∷ f ∷ g ∷ []) small is = absurd (omega (arith, is))
eight (a ∷ b ∷ c ∷ d ∷ e ∷ f ∷ g ∷ h ∷ []) small is = eight_of a b c d e f g h small
eight (a ∷ b ∷ c ∷ d ∷ e ∷ f ∷ g ∷ h ∷ i ∷ rest) small is = absurd (omega (arith, is))

-- ---- of sixteen neither

sixteen_of : (a b c d e f g h i j k l m n o p : ℕ)
    → ((x : ℕ) → get_or (a ∷ b ∷ c ∷ d ∷ e ∷ f ∷ g ∷ h ∷ i ∷ j ∷ k ∷ l ∷ m ∷ n ∷ o ∷ p ∷ []) x 0 < 256)
    → number_in (a ∷ b ∷ c ∷ d ∷ e ∷ f ∷ g ∷ h ∷ i ∷ j ∷ k ∷ l ∷ m ∷ n ∷ o ∷ p ∷ [])
    ≡ from_be_bytes w128 (a ∷ b ∷ c ∷ d ∷ e ∷ f ∷ g ∷ h ∷ i ∷ j ∷ k ∷ l ∷ m ∷ n ∷ o ∷ p ∷ [])
unfolding number_in
sixteen_of a b c d e f g h i j k l m n o p small =
    let whole : ℕ = fold (λ n b. n * 256 + b) 0 (a ∷ b ∷ c ∷ d ∷ e ∷ f ∷ g ∷ h ∷ i ∷ j ∷ k ∷ l ∷ m ∷ n ∷ o ∷ p ∷ []) in
    let below : whole < 2 ^ 128 = omega (
      arith,
      small 0,
      small 1,
      small 2,
      small 3,
      small 4,
      small 5,
      small 6,
      small 7,
      small 8,
      small 9,
      small 10,
      small 11,
      small 12,
      small 13,
      small 14,
      small 15,
    ) in
    mod-eq_of_lt below ∙ (let same : whole ≡ from_be_bytes w128
    (a ∷ b ∷ c ∷ d ∷ e ∷ f ∷ g ∷ h ∷ i ∷ j ∷ k ∷ l ∷ m ∷ n ∷ o ∷ p ∷ []) = omega arith in same)

pub sixteen : (bs : List ℕ) → ((i : ℕ) → get_or bs i 0 < 256) → length bs ≡ 16 → number_in bs ≡ from_be_bytes w128 bs
sixteen ([]) small is = absurd (omega (arith, is))
sixteen (a ∷ []) small is = absurd (omega (arith, is))
sixteen (a ∷ b ∷ []) small is = absurd (omega (arith, is))
sixteen (a ∷ b ∷ c ∷ []) small is = absurd (omega (arith, is))
sixteen (a ∷ b ∷ c ∷ d ∷ []) small is = absurd (omega (arith, is))
sixteen (a ∷ b ∷ c ∷ d ∷ e ∷ []) small is = absurd (omega (arith, is))
sixteen (a ∷ b ∷ c ∷ d ∷ e ∷ f ∷ []) small is = absurd (omega (arith, is))
sixteen (a ∷ b ∷ c ∷ d ∷ e ∷ f ∷ g ∷ []) small is = absurd (omega (arith, is))
sixteen (a ∷ b ∷ c ∷ d ∷ e ∷ f ∷ g ∷ h ∷ []) small is = absurd (omega (arith, is))
sixteen (a ∷ b ∷ c ∷ d ∷ e ∷ f ∷ g ∷ h ∷ i ∷ []) small is = absurd (omega (arith, is))
sixteen (a ∷ b ∷ c ∷ d ∷ e ∷ f ∷ g ∷ h ∷ i ∷ j ∷ []) small is = absurd (omega (arith, is))
sixteen (a ∷ b ∷ c ∷ d ∷ e ∷ f ∷ g ∷ h ∷ i ∷ j ∷ k ∷ []) small is = absurd (omega (arith, is))
sixteen (a ∷ b ∷ c ∷ d ∷ e ∷ f ∷ g ∷ h ∷ i ∷ j ∷ k ∷ l ∷ []) small is = absurd (omega (arith, is))
sixteen (a ∷ b ∷ c ∷ d ∷ e ∷ f ∷ g ∷ h ∷ i ∷ j ∷ k ∷ l ∷ m ∷ []) small is = absurd (omega (arith, is))
sixteen (a ∷ b ∷ c ∷ d ∷ e ∷ f ∷ g ∷ h ∷ i ∷ j ∷ k ∷ l ∷ m ∷ n ∷ []) small is = absurd (omega (arith, is))
sixteen (a ∷ b ∷ c ∷ d ∷ e ∷ f ∷ g ∷ h ∷ i ∷ j ∷ k ∷ l ∷ m ∷ n ∷ o ∷ []) small is = absurd (omega (arith, is))
sixteen (a ∷ b ∷ c ∷ d ∷ e ∷ f ∷ g ∷ h ∷ i ∷ j ∷ k ∷ l ∷ m ∷ n ∷ o ∷ p ∷ []) small is =
    sixteen_of a b c d e f g h i j k l m n o p small
sixteen (a ∷ b ∷ c ∷ d ∷ e ∷ f ∷ g ∷ h ∷ i ∷ j ∷ k ∷ l ∷ m ∷ n ∷ o ∷ p ∷ q ∷ rest) small is = absurd (omega (arith, is))
