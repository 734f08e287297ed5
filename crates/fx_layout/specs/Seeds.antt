-- How keys are hashed: two 64-bit numbers and the octets give 64 bits, by products of 128 bits.
use Rattle.std.specs.Prelude.{ℕ, zero, suc, ◌+◌, ◌-◌, ◌*◌, ◌/◌, ◌^◌, List, [], ◌∷◌, length, drop, slice_index, bit_and, bit_xor}
use Rattle.std.specs.List.{fold}
use Rattle.std.specs.Int.{w64, from_le_bytes}
use Rattle.fx_layout.specs.declared.seed.Seed.{Seed}
use Rattle.fx_layout.specs.declared.seed.SeededHasher.{SeededHasher}

-- a hasher to which nothing was written
abbrev pub first_hasher : Seed → SeededHasher
first_hasher s = record { state = s.first; second = s.second }

-- the two halves of a product of 128 bits, combined by exclusive or
abbrev pub folded_product : ℕ → ℕ → ℕ
folded_product a b = bit_xor (bit_and (a * b) (2 ^ 64 - 1)) (a * b / 2 ^ 64)

-- the number formed by the eight octets from this index on, the lowest first
abbrev pub word : List ℕ → ℕ → ℕ
word os i = from_le_bytes w64 (slice_index os i ∷ slice_index os (i + 1) ∷ slice_index os (i + 2)
    ∷ slice_index os (i + 3)
    ∷ slice_index os (i + 4) ∷ slice_index os (i + 5) ∷ slice_index os (i + 6) ∷ slice_index os (i + 7) ∷ [])

-- the state after the first n words
unfoldable pub after_words : List ℕ → ℕ → ℕ → ℕ → ℕ
after_words os second state zero = state
after_words os second state (suc n) = folded_product (bit_xor (word os (8 * n)) (after_words os second state n)) second

-- the state after these octets, one by one
abbrev pub after_octets : ℕ → ℕ → List ℕ → ℕ
after_octets second state os = fold (λ s o. folded_product (bit_xor o s) second) state os

-- whole words first, then the remaining octets
abbrev pub with_octets : SeededHasher → List ℕ → SeededHasher
with_octets h os = record h {
  state = after_octets h.second (after_words os h.second h.state (length os / 8)) (drop (8 * (length os / 8)) os);
}
