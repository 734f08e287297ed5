-- Cutting a text at its first two colons side by side.
use Rattle.std.proofs.Common.{◌≡◌, ◌≢◌, ℕ, zero, suc, ◌+◌, ◌-◌, ◌<◌, ◌≤◌, Bool, true, false, ◌&&◌, eqb, List, [], ◌∷◌, ◌++◌, length, get_or, take, drop, Some, None, refl, ap, sym, ◌∙◌, subst, arith, eq-eqb, eqb-true, inl, inr}
use Rattle.fx_elements.proofs.Cuts.{put_parts, chosen}
use Rattle.fx_elements.proofs.Numbers.{both}
use Rattle.fx_elements.proofs.Addresses.{some_is}
use Rattle.fx_elements.specs.Spelling.{put_before}
use Rattle.fx_elements.specs.Address6.{cut_at_zeros}

-- no two colons stand at k and behind it
abbrev pub NotTwo : List ℕ → ℕ → Type 0
NotTwo text k = get_or text k 0 ≡ 58 → get_or text (suc k) 0 ≢ 58

not_both : (s t : Bool) → (s ≡ true → t ≡ true → ⊥) → (s && t) ≡ false
not_both true true h = absurd (h refl refl)
not_both true false h = refl
not_both false t h = refl

pub not_here : (b : ℕ) (bs : List ℕ) → (0 < length bs → NotTwo (b ∷ bs) 0) → (eqb b 58 && eqb (get_or bs 0 0) 58)
    ≡ false
not_here b [] h = not_both (eqb b 58) false (λ s t. absurd cc)
not_here b (c ∷ bs) h = not_both (eqb b 58) (eqb c 58) (λ s t. h (omega arith) (eqb-true b 58 s) (eqb-true c 58 t))

-- the first two stand at i and behind it
zeros_first : (text : List ℕ) (i : ℕ) → ((k : ℕ) → k < i → NotTwo text k) → suc i < length text → get_or text i 0 ≡ 58
    → get_or text (suc i) 0 ≡ 58 → cut_at_zeros text ≡ Some (take i text, drop (suc (suc i)) text)
unfolding cut_at_zeros
zeros_first [] i before lt at next = absurd (omega arith)
zeros_first (b ∷ bs) zero before lt at next = rw (eq-eqb b 58 at, eq-eqb (get_or bs 0 0) 58 next) refl
zeros_first (b ∷ bs) (suc i) before lt at next =
    let rest : cut_at_zeros bs ≡ Some (take i bs, drop (suc (suc i)) bs) =
    zeros_first bs i (λ k h. before (suc k) (omega arith)) (omega arith) at next in
    rw (not_here b bs (λ some. before 0 (omega arith)), rest) refl

pub zeros_at : (text : List ℕ) (j : ℕ) → 1 ≤ j → j < length text → ((k : ℕ) → suc k < j → NotTwo text k)
    → get_or text (j - 1) 0 ≡ 58 → get_or text j 0 ≡ 58 → cut_at_zeros text
    ≡ Some (take (j - 1) text, drop (j + 1) text)
zeros_at text zero some lt before at next = absurd (omega arith)
zeros_at text (suc i) some lt before at next =
    let e : suc i - 1 ≡ i = omega arith in
    let f : suc i + 1 ≡ suc (suc i) = omega arith in
    let here = rw e at at in
    rw (e, f) (zeros_first text i (λ k h. before k (omega arith)) lt here next)

-- there are none
pub zeros_nowhere : (text : List ℕ) → ((k : ℕ) → suc k < length text → NotTwo text k) → cut_at_zeros text ≡ None
unfolding cut_at_zeros
zeros_nowhere [] before = refl
zeros_nowhere (b ∷ bs) before = rw (
  not_here b bs (λ some. before 0 (omega arith)),
  zeros_nowhere bs
      (λ k h. before (suc k) (omega arith)),
) refl

-- the parts of what was cut
pub zeros_parts : (text : List ℕ) (p : List ℕ × List ℕ) → cut_at_zeros text ≡ Some p → text ≡ p.0 ++ 58 ∷ (58 ∷ p.1)
unfolding cut_at_zeros
zeros_parts [] p e = absurd cc
zeros_parts (b ∷ bs) p e = elim (chosen (eqb b 58 && eqb (get_or bs 0 0) 58) (Some ([], drop 1 bs))
    (put_before b (cut_at_zeros bs)) (Some p) e) [
      | inl h ↦
          let two = both (eqb b 58) (eqb (get_or bs 0 0) 58) h.0 in
          let k : ([], drop 1 bs) ≡ p = some_is h.1 in
          subst (λ (q : List ℕ × List ℕ). b ∷ bs ≡ q.0 ++ 58 ∷ (58 ∷ q.1)) k
          (two_first b bs (eqb-true b 58 two.0) (eqb-true (get_or bs 0 0) 58 two.1))
      | inr h ↦
          let q = put_parts b (cut_at_zeros bs) p h.1 in
          ap (λ (x : List ℕ). b ∷ x) (zeros_parts bs q.0 q.1)
          ∙ ap (λ (r : List ℕ × List ℕ). r.0 ++ 58 ∷ (58 ∷ r.1)) (sym q.2)
    ] where
      two_first : (b : ℕ) (bs : List ℕ) → b ≡ 58 → get_or bs 0 0 ≡ 58 → b ∷ bs ≡ 58 ∷ (58 ∷ drop 1 bs)
      two_first b [] e f = absurd (omega (arith, f))
      two_first b (c ∷ bs) e f = rw (e, f) refl
