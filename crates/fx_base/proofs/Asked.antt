-- Calls of a source, counted modulo 2 to the 64.
use Rattle.std.proofs.Common.{◌≡◌, ℕ, zero, suc, ◌+◌, ◌-◌, ◌%◌, ◌^◌, ◌≤◌, refl, sym, ap, ◌∙◌, subst, arith}
use Rattle.std.proofs.Math.Nat.{mod-add-mod}
use Rattle.fx_base.specs.Device.{IsAsked}
use Rattle.fx_base.specs.Lines.{Lines, CallsForLines}

-- after some calls, and then more
pub asked_then : (a b c m n : ℕ) → IsAsked a m b → IsAsked b n c → IsAsked a (m + n) c
asked_then a b c m zero first next = subst (λ k. IsAsked a k c) (let e : m ≡ m + zero = omega arith in e)
    (subst (IsAsked a m) (sym next) first)
asked_then a b c zero (suc n) first next =
    let same : zero + suc n ≡ suc n = omega arith in
    subst (λ k. IsAsked a k c) (sym same) (subst (λ x. IsAsked x (suc n) c) first next)
asked_then a b c (suc m) (suc n) first next =
    let more : a + suc m + suc n ≡ a + suc (m + suc n) = omega arith in
    let all : c ≡ (a + suc (m + suc n)) % 2 ^ 64 = next ∙ ap (λ x. (x + suc n) % 2 ^ 64) first
    ∙ mod-add-mod (a + suc m) (2 ^ 64) (suc n) ∙ ap (λ k. k % 2 ^ 64) more in
    let same : suc m + suc n ≡ suc (m + suc n) = omega arith in
    subst (λ k. IsAsked a k c) (sym same) all

-- by another name for their number
pub asked_so_often : (a b m n : ℕ) → m ≡ n → IsAsked a m b → IsAsked a n b
asked_so_often a b m n same asked = subst (λ k. IsAsked a k b) same asked

-- none since
pub none_since : (a n : ℕ) → IsAsked a (n - n) a
none_since a n = let same : n - n ≡ 0 = omega arith in subst (λ k. IsAsked a k a) (sym same) refl

-- some since, and then more
pub asked_further : (a b c k m n : ℕ) → k ≤ m → m ≤ n → IsAsked a (m - k) b → IsAsked b (n - m) c → IsAsked a (n - k) c
asked_further a b c k m n first next before after =
    let more : m - k + (n - m) ≡ n - k = omega (arith, first, next) in
    subst (λ x. IsAsked a x c) more (asked_then a b c (m - k) (n - m) before after)

-- a reader's calls, and then more
pub asks_then : (k l m : Lines) → CallsForLines k l → CallsForLines l m → CallsForLines k m
asks_then k l m first next = record {
  calls = omega (arith, first.calls, next.calls);
  asked = asked_further k.asked l.asked m.asked k.calls l.calls m.calls first.calls next.calls first.asked next.asked;
}
