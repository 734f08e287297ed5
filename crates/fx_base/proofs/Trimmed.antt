-- Where trimming a text leaves it as it is.
use Rattle.std.proofs.Common.{◌≡◌, ℕ, ◌-◌, ◌≤◌, ◌<◌, List, [], ◌∷◌, ◌++◌, length, get_or, refl, sym, ap, subst, suc, ◌∙◌, arith, Bool, true, false, cond, not, ◌&&◌, ◌==◌}
use Rattle.std.proofs.lemmas.List.{length-append}
use Rattle.std.proofs.lemmas.Str.{chars-encodes, encodes-chars, scalars-chars, length-encode, len_utf8_bounds}
use Rattle.std.proofs.lemmas.Bool.{eq-eqb, ne_eqb}
use Rattle.std.specs.Char.{is_whitespace}
use Rattle.std.specs.Str.{chars, trim, trim_start, trim_end, skip_leading_whitespace, drop_trailing_whitespace, IsUtf8}
use lib.Utf8.{scalar, scalars, encode, encodes}
use Rattle.fx_base.specs.Name.{has_bare_ends}

encode_some : (c : ℕ) → 0 < length (encode c)
encode_some c = omega (arith, length-encode c, len_utf8_bounds c)

-- what is skipped at the start
skip_le : (cs : List ℕ) → length (encodes (skip_leading_whitespace cs)) ≤ length (encodes cs)
skip_le [] = omega arith
skip_le (c ∷ cs) =
    elim (is_whitespace c) as (λ b. length (encodes (cond b (skip_leading_whitespace cs) (c ∷ cs)))
    ≤ length (encodes (c ∷ cs))) [
      | true ↦ omega (arith, skip_le cs, length-append (encode c) (encodes cs))
      | false ↦ omega arith
    ]

skip_lt : (cs : List ℕ) → is_whitespace (get_or cs 0 0) ≡ true → length (encodes (skip_leading_whitespace cs))
    < length (encodes cs)
skip_lt [] h = cc
skip_lt (c ∷ cs) h =
    let h' : is_whitespace c ≡ true = h in
    rw h' (omega (arith, skip_le cs, encode_some c, length-append (encode c) (encodes cs)))

skip_same : (cs : List ℕ) → is_whitespace (get_or cs 0 0) ≡ false → skip_leading_whitespace cs ≡ cs
skip_same [] h = refl
skip_same (c ∷ cs) h = let h' : is_whitespace c ≡ false = h in rw h' refl

and_right : (a b : Bool) → (a && b) ≡ true → b ≡ true
and_right true b h = h
and_right false b h = cc

scalars-skip : (cs : List ℕ) → scalars cs ≡ true → scalars (skip_leading_whitespace cs) ≡ true
scalars-skip [] h = refl
scalars-skip (c ∷ cs) h =
    elim (is_whitespace c) as (λ b. scalars (cond b (skip_leading_whitespace cs) (c ∷ cs)) ≡ true) [
      | true ↦ scalars-skip cs (and_right (scalar c) (scalars cs) h)
      | false ↦ h
    ]

-- what is dropped at the end
last_tail : (c d : ℕ) (ds : List ℕ) → get_or (c ∷ (d ∷ ds)) (length (c ∷ (d ∷ ds)) - 1) 0
    ≡ get_or (d ∷ ds) (length (d ∷ ds) - 1) 0
last_tail c d ds = let e : length (c ∷ (d ∷ ds)) - 1 ≡ suc (length (d ∷ ds) - 1) = omega arith in rw e refl

and_false : (a : Bool) → (a && false) ≡ false
and_false true = refl
and_false false = refl

trail_lt : (cs : List ℕ) → is_whitespace (get_or cs (length cs - 1) 0) ≡ true
    → length (encodes (drop_trailing_whitespace cs)) < length (encodes cs)
trail_lt [] h = cc
trail_lt (c ∷ []) h =
    let white : is_whitespace c ≡ true = h in
    rw white (omega (arith, encode_some c, length-append (encode c) []))
trail_lt (c ∷ (d ∷ ds)) h =
    let white : is_whitespace (get_or (d ∷ ds) (length (d ∷ ds) - 1) 0) ≡ true =
    sym (ap is_whitespace (last_tail c d ds)) ∙ h in
    let rest = trail_lt (d ∷ ds) white in
    elim (is_whitespace c && length (drop_trailing_whitespace (d ∷ ds)) == 0)
    as (λ b. length (encodes (cond b [] (c ∷ drop_trailing_whitespace (d ∷ ds))))
    < length (encode c ++ encodes (d ∷ ds))) [
      | true ↦ omega (arith, encode_some c, length-append (encode c) (encodes (d ∷ ds)))
      | false ↦ omega (
        arith,
        rest,
        length-append (encode c) (encodes (drop_trailing_whitespace (d ∷ ds))),
        length-append (encode c) (encodes (d ∷ ds)),
      )
    ]

trail_same : (cs : List ℕ) → is_whitespace (get_or cs (length cs - 1) 0) ≡ false → drop_trailing_whitespace cs ≡ cs
trail_same [] h = refl
trail_same (c ∷ []) h = let dark : is_whitespace c ≡ false = h in rw dark refl
trail_same (c ∷ (d ∷ ds)) h =
    let dark : is_whitespace (get_or (d ∷ ds) (length (d ∷ ds) - 1) 0) ≡ false =
    sym (ap is_whitespace (last_tail c d ds)) ∙ h in
    let some : (is_whitespace c && length (d ∷ ds) == 0) ≡ false =
    rw (ne_eqb (length (d ∷ ds)) 0 (λ e. omega (arith, e))) (and_false (is_whitespace c)) in
    subst (λ (xs : List ℕ). cond (is_whitespace c && length xs == 0) [] (c ∷ xs) ≡ c ∷ (d ∷ ds))
    (sym (trail_same (d ∷ ds) dark)) (rw some refl)

trim_is : (bs : List ℕ) → IsUtf8 bs → trim bs ≡ encodes (drop_trailing_whitespace (skip_leading_whitespace (chars bs)))
unfolding trim_start trim_end
trim_is bs u = rw (chars-encodes (skip_leading_whitespace (chars bs)) (scalars-skip (chars bs) (scalars-chars bs u)))
    refl

trail_le : (cs : List ℕ) → length (encodes (drop_trailing_whitespace cs)) ≤ length (encodes cs)
trail_le cs =
    elim (is_whitespace (get_or cs (length cs - 1) 0))
    as (λ b. is_whitespace (get_or cs (length cs - 1) 0) ≡ b → length (encodes (drop_trailing_whitespace cs))
    ≤ length (encodes cs)) [
      | true ↦ λ h. omega (arith, trail_lt cs h)
      | false ↦ λ h. rw (trail_same cs h) (omega arith)
    ] refl

by_ends : (cs : List ℕ) (a b : Bool) → is_whitespace (get_or cs 0 0) ≡ a → is_whitespace (get_or cs (length cs - 1) 0)
    ≡ b → (length (encodes (drop_trailing_whitespace (skip_leading_whitespace cs))) == length (encodes cs))
    ≡ (not a && not b)
by_ends cs true b first last = ne_eqb _ _
    (λ e. omega (arith, e, skip_lt cs first, trail_le (skip_leading_whitespace cs)))
by_ends cs false true first last = rw (skip_same cs first) (ne_eqb _ _ (λ e. omega (arith, e, trail_lt cs last)))
by_ends cs false false first last = rw (skip_same cs first, trail_same cs last) (eq-eqb _ _ refl)

pub trim_keeps : (bs : List ℕ) → IsUtf8 bs → (length (trim bs) == length bs) ≡ has_bare_ends (chars bs)
trim_keeps bs u =
    rw (trim_is bs u) (ap (λ (xs : List ℕ). length
    (encodes (drop_trailing_whitespace (skip_leading_whitespace (chars bs)))) == length xs)
    (sym (encodes-chars bs u)) ∙ by_ends (chars bs) _ _ refl refl)
