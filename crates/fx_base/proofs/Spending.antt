-- What calls of a source gave.
use Rattle.std.proofs.Common.{◌-◌, drop, refl, subst, ◌≡◌, ℕ, ◌+◌, ◌≤◌, List, ◌++◌, length, take, Option, Some, None, IfSome, sym, ap, ◌∙◌, arith, inl, inr}
use Rattle.std.proofs.lemmas.List.{length-append, length-drop, take-take}
use Rattle.std.specs.Io.KnownBytes.{prepend_known}
use Rattle.fx_base.specs.Device.{IsAsked}
use Rattle.fx_base.specs.Window.{Held, octets_of, HasFailed}
use Rattle.fx_base.specs.Limits.{call_limit}

-- octets that were read are fewer than are left
pub left_to_read : (before after : List ℕ) (old new : Option (List ℕ)) (n calls : ℕ) → prepend_known after new
    ≡ prepend_known before old → n + length before ≤ calls + length after → IfSome old (λ left. n ≤ calls + length left)
left_to_read before after None new n calls same le = tt
left_to_read before after (Some l) None n calls same le = absurd (cc)
left_to_read before after (Some l) (Some m) n calls same le =
    let all : after ++ m ≡ before ++ l = cc in
    let sizes : length after + length m ≡ length before + length l = sym (length-append after m) ∙ ap length all
    ∙ length-append before l in
    omega (arith, sizes, le)

-- a window that could be filled for so many octets, and then not for more
pub failed_behind : (w0 w1 w2 : Held) → octets_of w1 ≡ octets_of w0 → w1.calls + length w0.held ≤ w0.calls
    + length w1.held → HasFailed w1 w2 → HasFailed w0 w2
failed_behind w0 w1 w2 same le (inl failed) = inl failed
failed_behind w0 w1 w2 same le (inr (all, endless)) = inr (all, reported w0.left w1.left same endless) where
  reported : (old new : Option (List ℕ)) → prepend_known w1.held new ≡ prepend_known w0.held old
      → IfSome new (λ left. call_limit ≤ w1.calls + length left)
      → IfSome old (λ left. call_limit ≤ w0.calls + length left)
  reported None new is h = tt
  reported (Some l) None is h = absurd (cc)
  reported (Some l) (Some m) is h =
      let octets : w1.held ++ m ≡ w0.held ++ l = cc in
      let sizes : length w1.held + length m ≡ length w0.held + length l = sym (length-append w1.held m)
      ∙ ap length octets ∙ length-append w0.held l in
      omega (arith, sizes, le, h)

-- what calls gave to a reader that holds some octets before them, and holds others behind those that it lends now
pub gained : (front held behind : List ℕ) (left left' : Option (List ℕ)) (nothing calls calls' before after : ℕ)
    → prepend_known held left' ≡ prepend_known front left → calls' + length front ≤ calls + length held + nothing
    → length front ≡ before → length behind ≡ after
    → IfSome (prepend_known front left) (λ octets. (rest : List ℕ) × (prepend_known behind left' ≡ Some rest)
    × (calls' + (length rest - after) ≤ calls + (length octets - before) + nothing))
gained front held behind None left' nothing calls calls' before after same le size size' = tt
gained front held behind (Some a) None nothing calls calls' before after same le size size' = absurd (cc)
gained front held behind (Some a) (Some b) nothing calls calls' before after same le size size' =
    let all : held ++ b ≡ front ++ a = cc in
    let sizes : length held + length b ≡ length front + length a = sym (length-append held b) ∙ ap length all
    ∙ length-append front a in
    (behind ++ b, refl, omega (arith, sizes, le, size, size', length-append behind b, length-append front a))

-- the calls of a window that passed some octets and was filled then
pub asked_since : (w w1 w2 : Held) (n : ℕ) → w1 ≡ record w { held = drop n w.held } → w1.calls ≤ w2.calls
    → IsAsked w1.asked (w2.calls - w1.calls) w2.asked → (w.calls ≤ w2.calls)
    × IsAsked w.asked (w2.calls - w.calls) w2.asked
asked_since w w1 w2 n passed more asked =
    let calls : w1.calls ≡ w.calls = ap (λ (x : Held). x.calls) passed in
    (omega (arith, calls, more), subst (λ (x : Held). IsAsked x.asked (w2.calls - x.calls) w2.asked) passed asked)

-- and what those calls gave to a reader that lends some octets of it
pub gained_since : (w w1 w2 : Held) (n m nothing : ℕ) → w1 ≡ record w { held = drop n w.held } → octets_of w2
    ≡ octets_of w1 → w2.calls + length w1.held ≤ w1.calls + length w2.held + nothing
    → IfSome (prepend_known (drop n w.held) w.left)
    (λ octets. (rest : List ℕ) × (prepend_known (drop m w2.held) w2.left ≡ Some rest)
    × (w2.calls + (length rest - (length w2.held - m)) ≤ w.calls + (length octets - (length w.held - n)) + nothing))
gained_since w w1 w2 n m nothing passed same spent =
    let calls : w1.calls ≡ w.calls = ap (λ (x : Held). x.calls) passed in
    let size : length w1.held ≡ length (drop n w.held) = ap (λ (x : Held). length x.held) passed in
    gained (drop n w.held) w2.held (drop m w2.held) w.left w2.left nothing w.calls w2.calls (length w.held - n)
    (length w2.held - m) (same ∙ ap octets_of passed) (omega (arith, calls, size, spent)) (length-drop n w.held)
    (length-drop m w2.held)

-- what stands in front of octets that stayed
pub front_stays : (n m : ℕ) (a b : List ℕ) → n ≤ m → take m a ≡ take m b → take n a ≡ take n b
front_stays n m a b le same = sym (take-take n m a le) ∙ ap (take n) same ∙ take-take n m b le
