-- The groups on the sides of `::`, or of a text without it, make the address.
use Rattle.std.proofs.Common.{◌≡◌, ◌≢◌, ℕ, zero, suc, ◌+◌, ◌-◌, ◌*◌, ◌^◌, ◌<◌, ◌≤◌, nat_le, eqb, Bool, true, false, List, [], ◌∷◌, ◌++◌, length, Option, Some, None, refl, ap, sym, ◌∙◌, arith, inl, inr, leb-true, le-leb, eqb-true, eq-eqb, ne_eqb, length-append, pow-add}
use Rattle.std.proofs.Math.ListN.{replicate}
use Rattle.std.proofs.Math.Nat.{pow-suc, pow-le-pow_right, mul-le-mul_left, one-le-pow}
use Rattle.std.proofs.lemmas.Bool.{lt-leb, cases_lt}
use Rattle.std.proofs.lemmas.List.{length-replicate}
use Rattle.std.proofs.lemmas.List.Sums.{fold-append}
use Rattle.fx_elements.specs.declared.address6.Side.{Side}
use Rattle.fx_elements.specs.Spelling.{◌>>=◌}
use Rattle.fx_elements.specs.Address6.{groups_in, side_of, number_behind, cut_at_zeros, uncompressed_of, compressed_of, address6_of, no_groups, side_with}
use Rattle.fx_elements.proofs.Cuts.{chosen}
use Rattle.fx_elements.proofs.Addresses.{by_some, some_is}
use Rattle.fx_elements.proofs.Sizes.{AreGroups, number_fits, all_both, all_zeros, groups_in_fit}
use Rattle.fx_elements.proofs.Pieces.{pieces_some}

-- ---- what groups make

number_scaled : (gs : List ℕ) (n : ℕ) → number_behind n gs ≡ n * 65536 ^ length gs + number_behind 0 gs
number_scaled [] n = omega arith
number_scaled (g ∷ gs) n =
    let more = number_scaled gs (n * 65536 + g) in
    let one = number_scaled gs (0 * 65536 + g) in
    let p : 65536 ^ suc (length gs) ≡ 65536 ^ length gs * 65536 = pow-suc 65536 (length gs) in
    rw (p, more, one) (omega arith)

number_zeros : (n m : ℕ) → number_behind m (replicate n 0) ≡ m * 65536 ^ n
number_zeros zero m = omega arith
number_zeros (suc n) m =
    let more = number_zeros n (m * 65536 + 0) in
    let p : 65536 ^ suc n ≡ 65536 ^ n * 65536 = pow-suc 65536 n in
    rw (p, more) (omega arith)

number_round : (x y : List ℕ) → length x + length y ≤ 7
    → number_behind 0 (x ++ (replicate (8 - (length x + length y)) 0 ++ y))
    ≡ number_behind 0 x * 65536 * 65536 ^ (7 - length x) + number_behind 0 y
number_round x y le =
    let n : ℕ = 8 - (length x + length y) in
    let left : ℕ = number_behind 0 x in
    let split : number_behind 0 (x ++ (replicate n 0 ++ y)) ≡ number_behind (number_behind left (replicate n 0)) y =
    fold-append (λ v g. v * 65536 + g) 0 x (replicate n 0 ++ y)
    ∙ fold-append (λ v g. v * 65536 + g) left (replicate n 0) y in
    let zeros : number_behind left (replicate n 0) ≡ left * 65536 ^ n = number_zeros n left in
    let last = number_scaled y (number_behind left (replicate n 0)) in
    let e : n + length y ≡ suc (7 - length x) = omega arith in
    let p : 65536 ^ n * 65536 ^ length y ≡ 65536 ^ (7 - length x) * 65536 = sym (pow-add 65536 n (length y))
    ∙ ap (λ k. 65536 ^ k) e ∙ pow-suc 65536 (7 - length x) in
    let times : left * (65536 ^ n * 65536 ^ length y) ≡ left * (65536 ^ (7 - length x) * 65536) = ap (λ k. left * k) p
    in
    let sum : left * 65536 ^ n * 65536 ^ length y + number_behind 0 y ≡ left * 65536 * 65536 ^ (7 - length x)
    + number_behind 0 y = omega (arith, times) in
    split ∙ last ∙ ap (λ k. k * 65536 ^ length y + number_behind 0 y) zeros ∙ sum

-- ---- the address

record Counted (o : Option (List ℕ)) (s : Side) : Type 0 where
  groups : List ℕ
  are : o ≡ Some groups
  count : s.count ≡ length groups
  few : length groups ≤ 8
  value : s.value ≡ number_behind 0 groups

counted : (o : Option (List ℕ)) (s : Side) → side_with no_groups o ≡ Some s → Counted o s
unfolding side_with
counted None s e = absurd cc
counted (Some gs) s e = elim (chosen (nat_le (0 + length gs) 8) _ None (Some s) e) [
  | inl h ↦
      let le : 0 + length gs ≤ 8 = leb-true _ _ h.0 in
      let is : record { count = 0 + length gs; value = number_behind 0 gs } ≡ s = some_is h.1 in
      let n : 0 + length gs ≡ s.count = ap (λ (s : Side). s.count) is in
      let v : number_behind 0 gs ≡ s.value = ap (λ (s : Side). s.value) is in
      record { groups = gs; are = refl; count = omega (arith, n); few = omega (arith, le); value = sym v }
  | inr h ↦ absurd cc
]

too_many : (o : Option (List ℕ)) (gs : List ℕ) → side_with no_groups o ≡ None → o ≡ Some gs → 8 < length gs
unfolding side_with
too_many None gs e is = absurd cc
too_many (Some hs) gs e is = elim (cases_lt 8 (length hs)) [
  | inl h ↦ let same : hs ≡ gs = some_is is in rw same at h
  | inr h ↦ let f = rw (le-leb (0 + length hs) 8 (omega (arith, h))) at e in absurd cc
]

pub side_fits : (ends : Bool) (text gs : List ℕ) → side_of ends text ≡ Some gs → AreGroups gs
unfolding side_of
side_fits ends [] gs e = let is : [] ≡ gs = some_is e in rw (← is) tt
side_fits ends (b ∷ bs) gs e =
    let q = pieces_some (b ∷ bs) in
    let f : groups_in ends (q.0 ∷ q.1) ≡ Some gs = rw q.2 at e in
    (groups_in_fit ends q.0 q.1 gs f).0

bind_none : {A B : Type 0} (o : Option A) (f : A → Option B) → ((x : A) → o ≡ Some x → f x ≡ None) → (o >>= f) ≡ None
bind_none None f h = refl
bind_none (Some x) f h = h x refl

-- without `::`
eight_not : (gs : List ℕ) → length gs ≢ 8 → uncompressed_of gs ≡ None
unfolding uncompressed_of
eight_not gs ne = rw (ne_eqb (length gs) 8 ne) refl

pub eight_is : (gs : List ℕ) → length gs ≡ 8 → uncompressed_of gs ≡ Some (number_behind 0 gs)
unfolding uncompressed_of
eight_is gs is = rw (eq-eqb (length gs) 8 is) refl

pub whole_is : (text : List ℕ) → cut_at_zeros text ≡ None → address6_of text ≡ (side_of true text >>= uncompressed_of)
unfolding address6_of
whole_is text cut = rw (cut, address6_of) refl

pub whole_none : (text : List ℕ) → cut_at_zeros text ≡ None → side_with no_groups (side_of true text) ≡ None
    → address6_of text ≡ None
whole_none text cut none = whole_is text cut
    ∙ bind_none (side_of true text) uncompressed_of
    (λ gs is. eight_not gs (λ e. let n = too_many (side_of true text) gs none is in omega (arith, n, e)))

pub whole_other : (text : List ℕ) (s : Side) → cut_at_zeros text ≡ None → side_with no_groups (side_of true text)
    ≡ Some s → s.count ≢ 8 → address6_of text ≡ None
whole_other text s cut is ne =
    let c = counted (side_of true text) s is in
    whole_is text cut ∙ ap (λ (o : Option (List ℕ)). o >>= uncompressed_of) c.are
    ∙ eight_not c.groups (λ e. ne (c.count ∙ e))

pub whole_some : (text : List ℕ) (s : Side) → cut_at_zeros text ≡ None → side_with no_groups (side_of true text)
    ≡ Some s → s.count ≡ 8 → address6_of text ≡ Some s.value
whole_some text s cut is all =
    let c = counted (side_of true text) s is in
    whole_is text cut ∙ ap (λ (o : Option (List ℕ)). o >>= uncompressed_of) c.are
    ∙ eight_is c.groups (sym c.count ∙ all) ∙ ap (λ (v : ℕ). Some v) (sym c.value)

-- with `::`
round_not : (x y : List ℕ) → 7 < length x + length y → compressed_of x y ≡ None
unfolding compressed_of
round_not x y lt = rw (lt-leb (length x + length y) 7 lt) refl

pub round_eight : (x y : List ℕ) → length x + length y ≤ 7 → compressed_of x y
    ≡ Some (number_behind 0 (x ++ (replicate (8 - (length x + length y)) 0 ++ y)))
unfolding compressed_of
round_eight x y le =
    let all : length (x ++ (replicate (8 - (length x + length y)) 0 ++ y)) ≡ 8 =
    omega (
      arith,
      length-append x (replicate (8 - (length x + length y)) 0 ++ y),
      length-append
          (replicate (8 - (length x + length y)) 0) y,
      length-replicate {A = ℕ} (8 - (length x + length y)) 0,
    ) in
    rw (le-leb (length x + length y) 7 le) (eight_is (x ++ (replicate (8 - (length x + length y)) 0 ++ y)) all)

round_is : (x y : List ℕ) → length x + length y ≤ 7 → compressed_of x y
    ≡ Some (number_behind 0 x * 65536 * 65536 ^ (7 - length x) + number_behind 0 y)
round_is x y le = round_eight x y le ∙ ap (λ (v : ℕ). Some v) (number_round x y le)

pub parted_is : (text : List ℕ) (p : List ℕ × List ℕ) → cut_at_zeros text ≡ Some p → address6_of text
    ≡ (side_of false p.0 >>= λ x. side_of true p.1 >>= λ y. compressed_of x y)
unfolding address6_of
parted_is text p cut = rw (cut, address6_of) refl

parted_none : (text : List ℕ) (p : List ℕ × List ℕ) → cut_at_zeros text ≡ Some p
    → ((x y : List ℕ) → side_of false p.0 ≡ Some x → side_of true p.1 ≡ Some y → 7 < length x + length y)
    → address6_of text ≡ None
parted_none text p cut many =
    parted_is text p cut ∙ bind_none (side_of false p.0) _
    (λ x hx. bind_none (side_of true p.1) _ (λ y hy. round_not x y (many x y hx hy)))

pub before_none : (text : List ℕ) (p : List ℕ × List ℕ) → cut_at_zeros text ≡ Some p
    → side_with no_groups (side_of false p.0) ≡ None → address6_of text ≡ None
before_none text p cut none = parted_none text p cut
    (λ x y hx hy. let n = too_many (side_of false p.0) x none hx in omega (arith, n))

pub after_none : (text : List ℕ) (p : List ℕ × List ℕ) → cut_at_zeros text ≡ Some p
    → side_with no_groups (side_of true p.1) ≡ None → address6_of text ≡ None
after_none text p cut none = parted_none text p cut
    (λ x y hx hy. let n = too_many (side_of true p.1) y none hy in omega (arith, n))

same_sum : {a b c x y n : ℕ} → a ≡ x → b ≡ y → c ≡ n → x * 65536 * 65536 ^ (7 - n) + y ≡ a * 65536 * 65536 ^ (7 - c) + b
same_sum p q r = rw (p, q, r) refl

-- both sides are counted
module _ (text : List ℕ) (p : List ℕ × List ℕ) (s t : Side) (cut : cut_at_zeros text ≡ Some p)
    (hs : side_with no_groups (side_of false p.0) ≡ Some s) (ht : side_with no_groups (side_of true p.1) ≡ Some t) where
  before : Counted (side_of false p.0) s
  before = counted (side_of false p.0) s hs

  after : Counted (side_of true p.1) t
  after = counted (side_of true p.1) t ht

  both_are : address6_of text ≡ compressed_of before.groups after.groups
  both_are = parted_is text p cut ∙ ap (λ (o : Option (List ℕ)). o >>= λ x. side_of true p.1 >>= λ y. compressed_of x y)
      before.are ∙ ap (λ (o : Option (List ℕ)). o >>= λ y. compressed_of before.groups y) after.are

  pub both_few : (s.count ≤ 8) × (t.count ≤ 8)
  both_few = (omega (arith, before.count, before.few), omega (arith, after.count, after.few))

  pub round_none : 7 < s.count + t.count → address6_of text ≡ None
  round_none many = both_are ∙ round_not before.groups after.groups (omega (arith, before.count, after.count, many))

  pub round_some : s.count + t.count ≤ 7 → address6_of text ≡ Some (s.value * 65536 * 65536 ^ (7 - s.count) + t.value)
  round_some few = both_are ∙ round_is before.groups after.groups (omega (arith, before.count, after.count, few))
      ∙ ap (λ (v : ℕ). Some v) (same_sum before.value after.value before.count)

-- ---- an address has 128 bits

eight_fits : (gs : List ℕ) (v : ℕ) → AreGroups gs → uncompressed_of gs ≡ Some v → v < 2 ^ 128
unfolding uncompressed_of
eight_fits gs v all e = elim (chosen (eqb (length gs) 8) _ None (Some v) e) [
  | inl h ↦
      let n : length gs ≡ 8 = eqb-true (length gs) 8 h.0 in
      let small : number_behind 0 gs < 65536 ^ 8 = rw n at (number_fits gs all) in
      omega (arith, small, some_is h.1)
  | inr h ↦ absurd cc
]

round_fits : (x y : List ℕ) (v : ℕ) → AreGroups x → AreGroups y → compressed_of x y ≡ Some v → v < 2 ^ 128
unfolding compressed_of
round_fits x y v hx hy e = elim (chosen (nat_le (length x + length y) 7) _ None (Some v) e) [
  | inl h ↦ eight_fits _ v (all_both x _ hx
      (all_both (replicate (8 - (length x + length y)) 0) y (all_zeros (8 - (length x + length y))) hy)) h.1
  | inr h ↦ absurd cc
]

pub address6_fits : (text : List ℕ) (v : ℕ) → address6_of text ≡ Some v → v < 2 ^ 128
address6_fits text v e = by_cut (cut_at_zeros text) refl where
  by_cut : (o : Option (List ℕ × List ℕ)) → cut_at_zeros text ≡ o → v < 2 ^ 128
  by_cut None h =
      by_some (side_of true text) uncompressed_of v (sym (whole_is text h) ∙ e) (λ gs are is.
      eight_fits gs v (side_fits true text gs are) is)
  by_cut (Some p) h =
      by_some (side_of false p.0) _ v (sym (parted_is text p h) ∙ e) (λ x hx ex.
      by_some (side_of true p.1) _ v ex (λ y hy ey.
      round_fits x y v (side_fits false p.0 x hx) (side_fits true p.1 y hy) ey))

-- and no number on the way to it has more
pub sums_fit : (v c w : ℕ) → v * 65536 * 65536 ^ (7 - c) + w < 2 ^ 128 → (v * 65536 < 2 ^ 128)
    × (65536 ^ (7 - c) < 2 ^ 128)
sums_fit v c w fits =
    let q : ℕ = 65536 ^ (7 - c) in
    let some : 1 ≤ q = one-le-pow (7 - c) 65536 (omega arith) in
    let times : v * 65536 * 1 ≤ v * 65536 * q = mul-le-mul_left (v * 65536) some in
    let few : 7 - c ≤ 7 = omega arith in
    let most : q ≤ 65536 ^ 7 = pow-le-pow_right {n = 65536} (omega arith) few in
    (omega (arith, times, fits), omega (arith, most))
