-- The words of numbers that are written as octets.
use Rattle.std.proofs.Common.{◌≡◌, ℕ, ◌+◌, ◌*◌, ◌/◌, ◌%◌, ◌^◌, ◌<◌, bit_xor, arith}
use Rattle.std.specs.Hash.{le_bytes}
use Rattle.std.proofs.Math.Nat as nat
use Rattle.std.proofs.lemmas.Nat.{from_le_bytes-to_le_bytes_8}
use Rattle.fx_layout.specs.Seeds.{folded_product, word}
use Rattle.fx_layout.specs.declared.seed.SeededHasher.{SeededHasher}

-- a number is its lowest octet, and the rest
octet_and_rest : (n p : ℕ) → n / p ≡ n / p % 256 + n / (p * 256) * 256
octet_and_rest n p = omega (arith, nat.div-div-eq-div-mul n p 256)

-- a number is its eight lowest octets, and the rest
joined : (a b c d e f g h n p q r s t u v w : ℕ) → n ≡ a + p * 256 → p ≡ b + q * 256 → q ≡ c + r * 256 → r ≡ d + s * 256
    → s ≡ e + t * 256 → t ≡ f + u * 256 → u ≡ g + v * 256 → v ≡ h + w * 256
    → a + b * 256 + c * 65536 + d * 16777216 + e * 4294967296 + f * 1099511627776 + g * 281474976710656
    + h * 72057594037927936 + w * 18446744073709551616 ≡ n
joined a b c d e f g h n p q r s t u v w at_0 at_1 at_2 at_3 at_4 at_5 at_6 at_7 = omega arith

-- the word of 64 bits
pub own_word : (n : ℕ) → n < 2 ^ 64 → word (le_bytes 8 n) 0 ≡ n
unfolding le_bytes
own_word n fits = from_le_bytes-to_le_bytes_8 n fits

-- the lower word of 128 bits
pub low_word : (n : ℕ) → word (le_bytes 16 n) 0 ≡ n % 2 ^ 64
unfolding le_bytes
low_word n =
    let lowest : n ≡ n % 256 + n / 256 * 256 = omega arith in
    let all = joined _ _ _ _ _ _ _ _ n _ _ _ _ _ _ _ _ lowest (octet_and_rest n 256) (octet_and_rest n 65536)
    (octet_and_rest n 16777216) (octet_and_rest n 4294967296) (octet_and_rest n 1099511627776)
    (octet_and_rest n 281474976710656) (octet_and_rest n 72057594037927936) in
    omega (arith, all)

-- the higher one
pub high_word : (n : ℕ) → n < 2 ^ 128 → word (le_bytes 16 n) 8 ≡ n / 2 ^ 64
unfolding le_bytes
high_word n fits =
    let rest : n / (256 ^ 15 * 256) ≡ 0 = omega (arith, fits) in
    let all = joined _ _ _ _ _ _ _ _ (n / 256 ^ 8) _ _ _ _ _ _ _ _ (octet_and_rest n (256 ^ 8))
    (octet_and_rest n (256 ^ 9)) (octet_and_rest n (256 ^ 10)) (octet_and_rest n (256 ^ 11))
    (octet_and_rest n (256 ^ 12)) (octet_and_rest n (256 ^ 13)) (octet_and_rest n (256 ^ 14))
    (octet_and_rest n (256 ^ 15)) in
    omega (arith, all, rest)

-- ---- what hashing a word does

abbrev pub after_word : ℕ → ℕ → ℕ → ℕ
after_word second state w = folded_product (bit_xor w state) second

abbrev pub hasher_at : ℕ → ℕ → SeededHasher
hasher_at second state = record { state = state; second = second }
