-- Groups make a number of 16 bits for each of them.
use Rattle.std.proofs.Common.{◌≡◌, ℕ, zero, suc, ◌+◌, ◌-◌, ◌*◌, ◌/◌, ◌%◌, ◌^◌, ◌<◌, ◌≤◌, ◌&&◌, nat_le, Bool, List, [], ◌∷◌, ◌++◌, length, Option, Some, None, option_map, refl, ap, ◌∙◌, arith, inl, inr, ◌⊎◌, leb-true}
use Rattle.std.proofs.Math.ListN.{replicate}
use Rattle.std.proofs.Math.Nat.{pow-suc, pow-le-pow_right}
use Rattle.std.specs.List.{AllByRecursion}
use Rattle.std.specs.Option.{option_or}
use Rattle.fx_elements.specs.Spelling.{quad_of}
use Rattle.fx_elements.specs.Address6.{any_hex_of, any_group_of, last_of, groups_in, number_behind}
use Rattle.fx_elements.proofs.Cuts.{chosen}
use Rattle.fx_elements.proofs.Numbers.{both}
use Rattle.fx_elements.proofs.Addresses.{by_some, some_is, quad_found}
use Rattle.fx_elements.proofs.GroupTexts.{hex_found}

pub more_fits : (v g c : ℕ) → v < 65536 ^ c → g < 65536 → v * 65536 + g < 65536 ^ (c + 1)
more_fits v g c h k =
    let e : c + 1 ≡ suc c = omega arith in
    let p : 65536 ^ (c + 1) ≡ 65536 ^ c * 65536 = ap (λ n. 65536 ^ n) e ∙ pow-suc 65536 c in
    omega (arith, h, k, p)

pub within : (v c n : ℕ) → v < 65536 ^ c → c ≤ n → v < 65536 ^ n
within v c n h le = let p : 65536 ^ c ≤ 65536 ^ n = pow-le-pow_right {n = 65536} (omega arith) le in omega arith

-- ---- groups of 16 bits

abbrev pub AreGroups : List ℕ → Type 0
AreGroups gs = AllByRecursion (λ g. g < 65536) gs

pub behind_fits : (gs : List ℕ) (n c : ℕ) → n < 65536 ^ c → AreGroups gs → number_behind n gs < 65536 ^ (c + length gs)
behind_fits [] n c h all = let e : c + 0 ≡ c = omega arith in rw e h
behind_fits (g ∷ gs) n c h all =
    let e : c + suc (length gs) ≡ c + 1 + length gs = omega arith in
    rw e (behind_fits gs (n * 65536 + g) (c + 1) (more_fits n g c h all.0) all.1)

pub number_fits : (gs : List ℕ) → AreGroups gs → number_behind 0 gs < 65536 ^ length gs
number_fits gs all = let e : 0 + length gs ≡ length gs = omega arith in rw e at (behind_fits gs 0 0 (omega arith) all)

pub all_both : (xs ys : List ℕ) → AreGroups xs → AreGroups ys → AreGroups (xs ++ ys)
all_both [] ys h k = k
all_both (x ∷ xs) ys h k = (h.0, all_both xs ys h.1 k)

pub all_zeros : (n : ℕ) → AreGroups (replicate n 0)
all_zeros zero = tt
all_zeros (suc n) = (omega arith, all_zeros n)

-- ---- what is read is groups of 16 bits

any_hex_fits : (b d : ℕ) → any_hex_of b ≡ Some d → d < 16
unfolding any_hex_of
any_hex_fits b d e = elim (chosen (nat_le 65 b && nat_le b 70) _ _ (Some d) e) [
  | inl h ↦
      let two = both (nat_le 65 b) (nat_le b 70) h.0 in
      let high : b ≤ 70 = leb-true _ _ two.1 in
      let is : b - 55 ≡ d = some_is h.1 in
      omega (arith, high, is)
  | inr h ↦ (hex_found d b h.1).1
]

any_group_fits : (text : List ℕ) (g : ℕ) → any_group_of text ≡ Some g → g < 65536
unfolding any_group_of
any_group_fits [] g e = absurd cc
any_group_fits (a ∷ []) g e = let h = any_hex_fits a g e in omega (arith, h)
any_group_fits (a ∷ b ∷ []) g e =
    by_some (any_hex_of a) _ g e (λ x px ex.
    by_some (any_hex_of b) _ g ex (λ y py ey.
    omega (arith, any_hex_fits a x px, any_hex_fits b y py, some_is ey)))
any_group_fits (a ∷ b ∷ c ∷ []) g e =
    by_some (any_hex_of a) _ g e (λ x px ex.
    by_some (any_hex_of b) _ g ex (λ y py ey.
    by_some (any_hex_of c) _ g ey (λ z pz ez.
    omega (arith, any_hex_fits a x px, any_hex_fits b y py, any_hex_fits c z pz, some_is ez))))
any_group_fits (a ∷ b ∷ c ∷ d ∷ []) g e =
    by_some (any_hex_of a) _ g e (λ w pw ew.
    by_some (any_hex_of b) _ g ew (λ x px ex.
    by_some (any_hex_of c) _ g ex (λ y py ey.
    by_some (any_hex_of d) _ g ey (λ z pz ez.
    omega (arith, any_hex_fits a w pw, any_hex_fits b x px, any_hex_fits c y py, any_hex_fits d z pz, some_is ez)))))
any_group_fits (a ∷ b ∷ c ∷ d ∷ f ∷ fs) g e = absurd cc

-- one of two, or what a function makes of one
either : {A : Type 0} (o p : Option A) (x : A) → option_or o p ≡ Some x → (o ≡ Some x) ⊎ (p ≡ Some x)
either (Some y) p x e = inl e
either None p x e = inr e

mapped : {A B : Type 0} (f : A → B) (o : Option A) (y : B) → option_map f o ≡ Some y → (x : A) × (o ≡ Some x)
    × (f x ≡ y)
mapped f (Some x) y e = (x, refl, some_is e)
mapped f None y e = absurd cc

last_fits : (ends : Bool) (text gs : List ℕ) → last_of ends text ≡ Some gs → AreGroups gs × (0 < length gs)
unfolding last_of
last_fits ends text gs e = elim (either (option_map (λ g. g ∷ []) (any_group_of text)) _ gs e) [
  | inl h ↦ let g = mapped (λ (g : ℕ). g ∷ []) (any_group_of text) gs h in
      rw (← g.2) ((any_group_fits text g.0 g.1, tt), omega arith)
  | inr h ↦ elim (chosen ends (option_map (λ v. v / 65536 ∷ v % 65536 ∷ []) (quad_of text)) None (Some gs) h) [
    | inl i ↦
        let v = mapped (λ (v : ℕ). v / 65536 ∷ v % 65536 ∷ []) (quad_of text) gs i.1 in
        let small : v.0 < 2 ^ 32 = (quad_found v.0 text v.1).1 in
        rw (← v.2) ((omega (arith, small), (omega arith, tt)), omega arith)
    | inr i ↦ absurd cc
  ]
]

pub groups_in_fit : (ends : Bool) (p : List ℕ) (ps : List (List ℕ)) (gs : List ℕ) → groups_in ends (p ∷ ps) ≡ Some gs
    → AreGroups gs × (0 < length gs)
unfolding groups_in
groups_in_fit ends p [] gs e = last_fits ends p gs e
groups_in_fit ends p (q ∷ ps) gs e =
    by_some (any_group_of p) _ gs e (λ g pg eg.
    by_some (groups_in ends (q ∷ ps)) _ gs eg (λ hs ph eh.
    let rest = groups_in_fit ends q ps hs ph in
    let is : g ∷ hs ≡ gs = some_is eh in
    rw (← is) ((any_group_fits p g pg, rest.0), omega arith)))

-- ---- the bounds that a side's sums keep

pub seven_fit : (v c : ℕ) → v < 65536 ^ c → c ≤ 7 → v < 2 ^ 112
seven_fit v c h le = within v c 7 h le

pub six_fit : (v c : ℕ) → v < 65536 ^ c → c < 7 → v < 2 ^ 96
six_fit v c h lt = within v c 6 h (omega arith)
