-- A text with its control characters as `?`, by characters and by octets.
use Rattle.std.proofs.Common.{◌≡◌, ℕ, ◌+◌, ◌/◌, ◌<◌, ◌≤◌, List, [], ◌∷◌, refl, sym, ap, ◌∙◌, arith, inl, inr, Bool, true, false, cond, ◌||◌, ◌==◌, nat_lt}
use Rattle.std.specs.Prelude.{map}
use Rattle.std.specs.List.{flat_map}
use Rattle.std.proofs.lemmas.Bool.{cases_lt, le-ltb, ne_eqb}
use Rattle.std.proofs.lemmas.List.{map-append}
use Rattle.std.proofs.lemmas.Str.{encode_ascii, encodes-chars}
use Rattle.std.specs.Str.{chars, IsUtf8}
use lib.Utf8.{encode, encodes, next}
use Rattle.fx_base.specs.Fault.{shown}

-- a character's bytes as they are printed
abbrev pub shown_bytes : ℕ → List ℕ
shown_bytes c = encode (shown c)

shown_high : (b : ℕ) → 128 ≤ b → shown b ≡ b
shown_high b h = rw (le-ltb b 32 (omega (arith, h)), ne_eqb b 127 (λ e. omega (arith, e, h))) refl

shown_low : (b : ℕ) → b < 128 → shown b < 128
shown_low b h = elim (nat_lt b 32 || b == 127) as (λ t. cond t 63 b < 128) [ true ↦ omega arith | false ↦ h ]

-- octets that are printed as they are
kept_cons : (b : ℕ) (bs : List ℕ) → 128 ≤ b → map shown bs ≡ bs → map shown (b ∷ bs) ≡ b ∷ bs
kept_cons b bs high kept = rw (shown_high b high) (ap (λ (l : List ℕ). b ∷ l) kept)

kept_either : (t : Bool) (xs ys : List ℕ) → map shown xs ≡ xs → map shown ys ≡ ys → map shown (cond t xs ys)
    ≡ cond t xs ys
kept_either true xs ys p q = p
kept_either false xs ys p q = q

encode_high : (c : ℕ) → 128 ≤ c → map shown (encode c) ≡ encode c
unfolding encode
encode_high c h =
    let last : map shown (next c ∷ []) ≡ next c ∷ [] = kept_cons (next c) [] (omega arith) refl in
    let middle : map shown (next (c / 64) ∷ next c ∷ []) ≡ next (c / 64) ∷ next c ∷ [] =
    kept_cons (next (c / 64)) (next c ∷ []) (omega arith) last in
    let after : map shown (next (c / 4096) ∷ next (c / 64) ∷ next c ∷ []) ≡ next (c / 4096) ∷ next (c / 64) ∷ next c
    ∷ [] = kept_cons (next (c / 4096)) (next (c / 64) ∷ next c ∷ []) (omega arith) middle in
    rw (le-ltb c 128 h) (
    kept_either
    (nat_lt c 2048)
    ((192 + c / 64) ∷ next c ∷ [])
    (cond (nat_lt c 65536) ((224 + c / 4096) ∷ next (c / 64) ∷ next c ∷ [])
    ((240 + c / 262144) ∷ next (c / 4096) ∷ next (c / 64) ∷ next c ∷ []))
    (kept_cons (192 + c / 64) (next c ∷ []) (omega arith) last)
    (
    kept_either
    (nat_lt c 65536)
    ((224 + c / 4096) ∷ next (c / 64) ∷ next c ∷ [])
    ((240 + c / 262144) ∷ next (c / 4096) ∷ next (c / 64) ∷ next c ∷ [])
    (kept_cons (224 + c / 4096) (next (c / 64) ∷ next c ∷ []) (omega arith) middle)
    (kept_cons (240 + c / 262144) (next (c / 4096) ∷ next (c / 64) ∷ next c ∷ []) (omega arith) after)
    )
    )

shown_encode : (c : ℕ) → shown_bytes c ≡ map shown (encode c)
shown_encode c =
    elim (cases_lt c 128) [
      | inl low ↦ rw (encode_ascii (shown c) (shown_low c low), encode_ascii c low) refl
      | inr high ↦ rw (shown_high c high) (sym (encode_high c high))
    ]

shown_all : (cs : List ℕ) → flat_map shown_bytes cs ≡ map shown (encodes cs)
shown_all [] = refl
shown_all (c ∷ cs) = rw (shown_encode c, shown_all cs) (sym (map-append shown (encode c) (encodes cs)))

pub shown_text : (cs bs : List ℕ) → IsUtf8 bs → cs ≡ chars bs → flat_map shown_bytes cs ≡ map shown bs
shown_text cs bs u e = rw e (shown_all (chars bs) ∙ ap (map shown) (encodes-chars bs u))
