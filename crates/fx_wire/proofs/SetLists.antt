-- Sets, one after another.
use Rattle.std.proofs.Common.{◌≡◌, ℕ, zero, suc, ◌≤◌, ◌<◌, Bool, true, false, cond, ltb, ◌==◌, ◌||◌, List, [], ◌∷◌, length, drop, refl, ap, ◌∙◌, arith, Result, Ok, Err, ltb-false, inl, inr, ◌⊎◌, length-drop}
use Rattle.std.proofs.lemmas.Bool.Decides.{nat_tests}
use Rattle.std.specs.Int.{w16}
use Rattle.std.specs.Prelude.{is_ok}
use Rattle.fx_wire.specs.Numbers.{number_at}
use Rattle.fx_wire.specs.Sets.{SetParts, set_at, sets_in, sets_of, before_sets, is_reserved, sets_or_none}
use Rattle.fx_wire.specs.declared.malformed.Malformed.{Malformed}
use Rattle.fx_wire.specs.declared.malformed.Malformed.TheVariants as malformed

pub chosen : {A : Type 0} (t : Bool) (x y z : A) → cond t x y ≡ z → ((t ≡ true) × (x ≡ z)) ⊎ ((t ≡ false) × (y ≡ z))
chosen true x y z e = inl (refl, e)
chosen false x y z e = inr (refl, e)

pub or_false : (a b : Bool) → (a || b) ≡ false → (a ≡ false) × (b ≡ false)
or_false true b e = absurd cc
or_false false b e = (refl, e)

abbrev rest_or : List ℕ → Result (SetParts × List ℕ) Malformed → List ℕ
rest_or other (Ok p) = p.1
rest_or other (Err n) = other

-- a set has four octets at least
pub shorter : (bs : List ℕ) (p : SetParts × List ℕ) → set_at bs ≡ Ok p → (n : ℕ) × (4 ≤ n) × (n ≤ length bs)
    × (drop n bs ≡ p.1)
shorter bs p e =
    let s : ℕ = number_at w16 2 bs in
    elim (chosen (ltb (length bs) 4) (Err malformed.SetLength) _ (Ok p) e) [
      | inl h ↦ absurd cc
      | inr h ↦ elim (chosen (ltb s 4 || ltb (length bs) s) (Err malformed.SetLength) _ (Ok p) h.1) [
        | inl i ↦ absurd cc
        | inr i ↦ elim (chosen (is_reserved (number_at w16 0 bs)) (Err malformed.SetId) _ (Ok p) i.1) [
          | inl j ↦ absurd cc
          | inr j ↦ let o = or_false (ltb s 4) (ltb (length bs) s) i.0 in
              (s, ltb-false s 4 o.0, ltb-false (length bs) s o.1, ap (rest_or []) j.1)
        ]
      ]
    ]

-- one turn, by the set at the front
abbrev turn : ℕ → Result (SetParts × List ℕ) Malformed → Result (List SetParts) Malformed
turn turns (Ok first) = before_sets first.0 (sets_in turns first.1)
turn turns (Err n) = Err n

step_same : (j k : ℕ) (bs : List ℕ) → ((rest : List ℕ) → length rest < length bs → sets_in j rest ≡ sets_in k rest)
    → (r : Result (SetParts × List ℕ) Malformed) → set_at bs ≡ r → turn j r ≡ turn k r
step_same j k bs ih (Ok p) e =
    let s = shorter bs p e in
    ap (before_sets p.0) (ih p.1 (omega (arith, s.1, s.2, ap length s.3, length-drop s.0 bs)))
step_same j k bs ih (Err n) e = refl

-- more turns than octets change nothing
turns_same : (j k : ℕ) (bs : List ℕ) → length bs ≤ j → length bs ≤ k → sets_in j bs ≡ sets_in k bs
unfolding sets_in
turns_same zero zero [] h l = refl
turns_same zero zero (b ∷ bs) h l = refl
turns_same zero (suc k) [] h l = refl
turns_same zero (suc k) (b ∷ bs) h l = absurd (omega arith)
turns_same (suc j) zero [] h l = refl
turns_same (suc j) zero (b ∷ bs) h l = absurd (omega arith)
turns_same (suc j) (suc k) [] h l = refl
turns_same (suc j) (suc k) (b ∷ bs) h l =
    step_same j k (b ∷ bs) (λ rest less. turns_same j k rest (omega arith) (omega arith)) (set_at (b ∷ bs)) refl

pub sets_of-none : sets_of [] ≡ Ok []
unfolding sets_of sets_in
sets_of-none = refl

pub sets_of-first : (bs : List ℕ) (p : SetParts × List ℕ) → set_at bs ≡ Ok p
    → (sets_of bs ≡ before_sets p.0 (sets_of p.1)) × (length p.1 < length bs)
unfolding sets_of sets_in
sets_of-first [] p e = let s = shorter [] p e in absurd (omega (arith, s.1, s.2))
sets_of-first (b ∷ bs) p e =
    let s = shorter (b ∷ bs) p e in
    let less : length p.1 < length (b ∷ bs) = omega (arith, s.1, s.2, ap length s.3, length-drop s.0 (b ∷ bs)) in (
      ap (turn (length bs)) e ∙ ap (before_sets p.0)
          (turns_same (length bs) (length p.1) p.1 (omega arith) (omega arith)),
      less,
    )

pub sets_of-refused : (bs : List ℕ) (n : Malformed) → 0 < length bs → set_at bs ≡ Err n → sets_of bs ≡ Err n
unfolding sets_of sets_in
sets_of-refused [] n h e = absurd (omega arith)
sets_of-refused (b ∷ bs) n h e = ap (turn (length bs)) e

pub is_ok-before : (first : SetParts) (r : Result (List SetParts) Malformed) → is_ok (before_sets first r) ≡ is_ok r
is_ok-before first (Ok ss) = refl
is_ok-before first (Err n) = refl

pub sets_or_none-before : (first : SetParts) (r : Result (List SetParts) Malformed) → is_ok r ≡ true
    → sets_or_none (before_sets first r) ≡ first ∷ sets_or_none r
sets_or_none-before first (Ok ss) e = refl
sets_or_none-before first (Err n) e = absurd cc

pub err_before : (first : SetParts) (r : Result (List SetParts) Malformed) (n : Malformed) → r ≡ Err n
    → before_sets first r ≡ Err n
err_before first (Ok ss) n e = absurd cc
err_before first (Err m) n e = e

-- ---- emptiness, as the code tests it

pub some_octets : (bs : List ℕ) (b : Bool) → b ≡ (length bs == 0) → b ≡ false → 0 < length bs
some_octets [] b e f = absurd cc
some_octets (x ∷ bs) b e f = omega arith

pub no_octets : (bs : List ℕ) (b : Bool) → b ≡ (length bs == 0) → b ≡ true → bs ≡ []
no_octets [] b e f = refl
no_octets (x ∷ bs) b e f = absurd (grind (arith, nat_tests))
