-- Which texts spell an address: eight groups, or groups before and after `::`; the written form is one of them.
use Rattle.std.proofs.Common.{◌≡◌, ◌≢◌, ℕ, ◌+◌, ◌-◌, ◌*◌, ◌^◌, ◌<◌, ◌≤◌, ◌&&◌, nat_le, eqb, Bool, true, false, List, [], ◌∷◌, ◌++◌, length, get_or, Option, Some, None, refl, ap, sym, ◌∙◌, arith, inl, inr, ◌⊎◌, leb-true, le-leb, eqb-true, eq-eqb, ne_eqb, append-nil}
use Rattle.std.proofs.lemmas.Bool.{lt-leb}
use Rattle.std.proofs.Math.ListN.{replicate}
use Rattle.std.specs.List.{AllByRecursion}
use Rattle.fx_elements.specs.Spelling.{◌>>=◌, cut_at, quad_of}
use Rattle.fx_elements.specs.Groups.{groups, hex_of, group_of, groups_of}
use Rattle.fx_elements.specs.Address6.{any_hex_of, any_group_of, put_first, pieces, last_of, groups_in, side_of, number_behind, cut_at_zeros, uncompressed_of, compressed_of, address6_of, IsUncompressed, IsCompressed}
use Rattle.fx_elements.proofs.Cuts.{chosen}
use Rattle.fx_elements.proofs.Numbers.{both}
use Rattle.fx_elements.proofs.Addresses.{Avoids, by_some, just, some_is}
use Rattle.fx_elements.proofs.GroupTexts.{group_found, group_avoids, groups_text}
use Rattle.fx_elements.proofs.ZeroCuts.{zeros_parts}
use Rattle.fx_elements.proofs.Pieces.{pieces_cut, pieces_whole}
use Rattle.fx_elements.proofs.AnyAddress.{eight_is, whole_is, round_eight, parted_is}

-- ---- pieces that spell groups aren't empty

abbrev NoneEmpty : List (List ℕ) → Type 0
NoneEmpty ps = AllByRecursion (λ p. 0 < length p) ps

group_some : (p : List ℕ) (g : ℕ) → any_group_of p ≡ Some g → 0 < length p
unfolding any_group_of
group_some [] g e = absurd cc
group_some (b ∷ bs) g e = omega arith

last_some : (ends : Bool) (p gs : List ℕ) → last_of ends p ≡ Some gs → 0 < length p
unfolding last_of any_group_of quad_of
last_some true [] gs e = absurd cc
last_some false [] gs e = absurd cc
last_some ends (b ∷ bs) gs e = omega arith

some_in : (ends : Bool) (ps : List (List ℕ)) (gs : List ℕ) → groups_in ends ps ≡ Some gs → NoneEmpty ps
unfolding groups_in
some_in ends [] gs e = tt
some_in ends (p ∷ []) gs e = (last_some ends p gs e, tt)
some_in ends (p ∷ q ∷ ps) gs e =
    by_some (any_group_of p) _ gs e (λ g pg eg.
    by_some (groups_in ends (q ∷ ps)) _ gs eg (λ hs ph eh.
    (group_some p g pg, some_in ends (q ∷ ps) hs ph)))

-- the pieces behind the first colon aren't
abbrev BehindNoneEmpty : List (List ℕ) → Type 0
BehindNoneEmpty [] = Unit {0}
BehindNoneEmpty (p ∷ ps) = NoneEmpty ps

behind_of : (ps : List (List ℕ)) → NoneEmpty ps → BehindNoneEmpty ps
behind_of [] h = tt
behind_of (p ∷ ps) h = h.1

behind_put : (b : ℕ) (ps : List (List ℕ)) → BehindNoneEmpty (put_first b ps) → BehindNoneEmpty ps
behind_put b [] h = tt
behind_put b (p ∷ ps) h = h

-- a text whose first piece isn't empty doesn't begin with a colon
begins : (bs back : List ℕ) → NoneEmpty (pieces bs) → get_or (bs ++ back) 0 0 ≢ 58
unfolding pieces
begins [] back h e = absurd (omega (arith, h.0))
begins (b ∷ bs) back h e = let no = rw (eq-eqb b 58 e) at h in absurd (omega (arith, no.0))

none_at : (b : ℕ) (bs back : List ℕ) → BehindNoneEmpty (pieces (b ∷ bs))
    → (eqb b 58 && eqb (get_or (bs ++ back) 0 0) 58) ≡ false
unfolding pieces
none_at b bs back h = by_colon (eqb b 58) refl where
  by_colon : (t : Bool) → eqb b 58 ≡ t → (eqb b 58 && eqb (get_or (bs ++ back) 0 0) 58) ≡ false
  by_colon true e = let rest = rw e at h in rw (e, ne_eqb (get_or (bs ++ back) 0 0) 58 (begins bs back rest)) refl
  by_colon false e = rw e refl

rest_of : (b : ℕ) (bs : List ℕ) → BehindNoneEmpty (pieces (b ∷ bs)) → BehindNoneEmpty (pieces bs)
unfolding pieces
rest_of b bs h = by_colon (eqb b 58) refl where
  by_colon : (t : Bool) → eqb b 58 ≡ t → BehindNoneEmpty (pieces bs)
  by_colon true e = let rest = rw e at h in behind_of (pieces bs) rest
  by_colon false e = let rest = rw e at h in behind_put b (pieces bs) rest

no_zeros : (text : List ℕ) → BehindNoneEmpty (pieces text) → cut_at_zeros text ≡ None
unfolding cut_at_zeros
no_zeros [] h = refl
no_zeros (b ∷ bs) h =
    let here : (eqb b 58 && eqb (get_or bs 0 0) 58) ≡ false = rw append-nil at (none_at b bs [] h) in
    rw (here, no_zeros bs (rest_of b bs h)) refl

zeros_behind : (a b : List ℕ) → BehindNoneEmpty (pieces a) → cut_at_zeros (a ++ 58 ∷ (58 ∷ b)) ≡ Some (a, b)
unfolding cut_at_zeros
zeros_behind [] b h = refl
zeros_behind (c ∷ cs) b h = rw (none_at c cs (58 ∷ (58 ∷ b)) h, zeros_behind cs b (rest_of c cs h)) refl

-- ---- the spellings

side_behind : (ends : Bool) (text gs : List ℕ) → side_of ends text ≡ Some gs → BehindNoneEmpty (pieces text)
unfolding side_of pieces
side_behind ends [] gs e = tt
side_behind ends (b ∷ bs) gs e = behind_of (pieces (b ∷ bs)) (some_in ends (pieces (b ∷ bs)) gs e)

eight_read : (text gs : List ℕ) → side_of true text ≡ Some gs → address6_of text ≡ uncompressed_of gs
eight_read text gs e = whole_is text (no_zeros text (side_behind true text gs e))
    ∙ ap (λ (o : Option (List ℕ)). o >>= uncompressed_of) e

round_read : (a b x y : List ℕ) → side_of false a ≡ Some x → side_of true b ≡ Some y → address6_of (a ++ 58 ∷ (58 ∷ b))
    ≡ compressed_of x y
round_read a b x y ex ey = parted_is (a ++ 58 ∷ (58 ∷ b)) (a, b) (zeros_behind a b (side_behind false a x ex))
    ∙ rw (ex, ey) refl

pub whole_read : (text : List ℕ) (v : ℕ) → IsUncompressed text v → address6_of text ≡ Some v
whole_read text v h = eight_read text h.0 h.1 ∙ eight_is h.0 h.2 ∙ ap just (sym h.3)

pub parted_read : (text : List ℕ) (v : ℕ) → IsCompressed text v → address6_of text ≡ Some v
parted_read text v h =
    let front : List ℕ = h.0 in let back : List ℕ = h.1 in let x : List ℕ = h.2 in let y : List ℕ = h.3 in
    let n : ℕ = h.4 in
    let same : 8 - (length x + length y) ≡ n = omega (arith, h.9) in
    ap address6_of h.5 ∙ round_read front back x y h.6 h.7 ∙ round_eight x y (omega (arith, h.8, h.9))
    ∙ ap (λ (k : ℕ). just (number_behind 0 (x ++ (replicate k 0 ++ y)))) same ∙ ap just (sym h.10)

eight_found : (gs : List ℕ) (v : ℕ) → uncompressed_of gs ≡ Some v → (length gs ≡ 8) × (v ≡ number_behind 0 gs)
unfolding uncompressed_of
eight_found gs v e = elim (chosen (eqb (length gs) 8) _ None (Some v) e) [
  | inl h ↦ (eqb-true (length gs) 8 h.0, sym (some_is h.1))
  | inr h ↦ absurd cc
]

round_found : (x y : List ℕ) (v : ℕ) → compressed_of x y ≡ Some v → (length x + length y ≤ 7)
    × (v ≡ number_behind 0 (x ++ (replicate (8 - (length x + length y)) 0 ++ y)))
unfolding compressed_of
round_found x y v e = elim (chosen (nat_le (length x + length y) 7) _ None (Some v) e) [
  | inl h ↦ (leb-true _ _ h.0, (eight_found _ v h.1).1)
  | inr h ↦ absurd cc
]

pub spelled : (text : List ℕ) (v : ℕ) → address6_of text ≡ Some v → IsUncompressed text v ⊎ IsCompressed text v
spelled text v e = by_cut (cut_at_zeros text) refl where
  by_cut : (o : Option (List ℕ × List ℕ)) → cut_at_zeros text ≡ o → IsUncompressed text v ⊎ IsCompressed text v
  by_cut None h =
      by_some (side_of true text) uncompressed_of v (sym (whole_is text h) ∙ e) (λ gs are is.
      let f = eight_found gs v is in inl (gs, are, f.0, f.1))
  by_cut (Some p) h =
      by_some (side_of false p.0) _ v (sym (parted_is text p h) ∙ e) (λ x hx ex.
      by_some (side_of true p.1) _ v ex (λ y hy ey.
      let f = round_found x y v ey in
      inr (
        p.0,
        p.1,
        x,
        y,
        8 - (length x + length y),
        zeros_parts text p h,
        hx,
        hy,
        omega (arith, f.0),
        omega (arith, f.0),
        f.1,
      )))

-- ---- the written form

-- no upper case is a digit of the written form
lower : (b d : ℕ) → hex_of b ≡ Some d → (nat_le 65 b && nat_le b 70) ≡ false
unfolding hex_of
lower b d e = elim (chosen (nat_le 48 b && nat_le b 57) _ _ (Some d) e) [
  | inl h ↦ let high : b ≤ 57 = leb-true _ _ (both (nat_le 48 b) (nat_le b 57) h.0).1 in
      rw (lt-leb 65 b (omega (arith, high))) refl
  | inr h ↦ elim (chosen (nat_le 97 b && nat_le b 102) _ _ (Some d) h.1) [
    | inl i ↦ let low : 97 ≤ b = leb-true _ _ (both (nat_le 97 b) (nat_le b 102) i.0).0 in
        rw (le-leb 65 b (omega (arith, low)), lt-leb b 70 (omega (arith, low))) refl
    | inr i ↦ absurd cc
  ]
]

any_hex : (b d : ℕ) → hex_of b ≡ Some d → any_hex_of b ≡ Some d
unfolding any_hex_of
any_hex b d e = rw (lower b d e) e

any_group : (text : List ℕ) (g : ℕ) → group_of text ≡ Some g → any_group_of text ≡ Some g
unfolding group_of any_group_of
any_group [] g e = absurd cc
any_group (a ∷ []) g e = any_hex a g e
any_group (a ∷ b ∷ []) g e = elim (chosen (eqb a 48) None _ (Some g) e) [
  | inl h ↦ absurd cc
  | inr h ↦
      by_some (hex_of a) _ g h.1 (λ w pw ew.
      by_some (hex_of b) _ g ew (λ x px ex.
      rw (any_hex a w pw, any_hex b x px) ex))
]
any_group (a ∷ b ∷ c ∷ []) g e = elim (chosen (eqb a 48) None _ (Some g) e) [
  | inl h ↦ absurd cc
  | inr h ↦
      by_some (hex_of a) _ g h.1 (λ w pw ew.
      by_some (hex_of b) _ g ew (λ x px ex.
      by_some (hex_of c) _ g ex (λ y py ey.
      rw (any_hex a w pw, any_hex b x px, any_hex c y py) ey)))
]
any_group (a ∷ b ∷ c ∷ d ∷ []) g e = elim (chosen (eqb a 48) None _ (Some g) e) [
  | inl h ↦ absurd cc
  | inr h ↦
      by_some (hex_of a) _ g h.1 (λ w pw ew.
      by_some (hex_of b) _ g ew (λ x px ex.
      by_some (hex_of c) _ g ex (λ y py ey.
      by_some (hex_of d) _ g ey (λ z pz ez.
      rw (any_hex a w pw, any_hex b x px, any_hex c y py, any_hex d z pz) ez))))
]
any_group (a ∷ b ∷ c ∷ d ∷ f ∷ fs) g e = absurd cc

cut_nowhere_in : (c : ℕ) (text : List ℕ) → Avoids c text → cut_at c text ≡ None
cut_nowhere_in c [] h = refl
cut_nowhere_in c (b ∷ bs) h = rw (ne_eqb b c h.0, cut_nowhere_in c bs h.1) refl

-- a group has no colon
group_whole : (text : List ℕ) (g : ℕ) → group_of text ≡ Some g → pieces text ≡ text ∷ []
group_whole text g e =
    let f = group_found g text e in
    pieces_whole text (cut_nowhere_in 58 text (rw f.0 (group_avoids 58 g (inr refl) f.1)))

side_pieces : (ends : Bool) (text p q : List ℕ) (ps : List (List ℕ)) → pieces text ≡ p ∷ q ∷ ps → side_of ends text
    ≡ groups_in ends (pieces text)
unfolding side_of pieces
side_pieces ends [] p q ps e = absurd cc
side_pieces ends (b ∷ bs) p q ps e = refl

eight_groups : (a b c d e f g h : List ℕ) (s t u v w x y z : ℕ) → any_group_of a ≡ Some s → any_group_of b ≡ Some t
    → any_group_of c ≡ Some u → any_group_of d ≡ Some v → any_group_of e ≡ Some w → any_group_of f ≡ Some x
    → any_group_of g ≡ Some y → any_group_of h ≡ Some z
    → groups_in true (a ∷ b ∷ c ∷ d ∷ e ∷ f ∷ g ∷ h ∷ []) ≡ Some (s ∷ t ∷ u ∷ v ∷ w ∷ x ∷ y ∷ z ∷ [])
unfolding groups_in last_of
eight_groups a b c d e f g h s t u v w x y z ha hb hc hd he hf hg hh = rw (ha, hb, hc, hd, he, hf, hg, hh) refl

pub written_read : (text : List ℕ) (v : ℕ) → groups_of text ≡ Some v → address6_of text ≡ Some v
unfolding groups_of
written_read text n is =
    by_some (cut_at 58 text) _ n is (λ a pa ea.
    by_some (cut_at 58 a.1) _ n ea (λ b pb eb.
    by_some (cut_at 58 b.1) _ n eb (λ c pc ec.
    by_some (cut_at 58 c.1) _ n ec (λ d pd ed.
    by_some (cut_at 58 d.1) _ n ed (λ e pe ee.
    by_some (cut_at 58 e.1) _ n ee (λ f pf ef.
    by_some (cut_at 58 f.1) _ n ef (λ g pg eg.
    by_some (group_of a.0) _ n eg (λ s ps es.
    by_some (group_of b.0) _ n es (λ t pt et.
    by_some (group_of c.0) _ n et (λ u pu eu.
    by_some (group_of d.0) _ n eu (λ v pv ev.
    by_some (group_of e.0) _ n ev (λ w pw ew.
    by_some (group_of f.0) _ n ew (λ x px ex.
    by_some (group_of g.0) _ n ex (λ y py ey.
    by_some (group_of g.1) _ n ey (λ z pz ez.
    let cut : pieces text ≡ a.0 ∷ b.0 ∷ c.0 ∷ d.0 ∷ e.0 ∷ f.0 ∷ g.0 ∷ g.1 ∷ [] =
    rw (
      pieces_cut text a pa,
      pieces_cut a.1 b pb,
      pieces_cut b.1 c pc,
      pieces_cut c.1 d pd,
      pieces_cut d.1 e pe,
      pieces_cut e.1 f pf,
      pieces_cut f.1 g pg,
      group_whole g.1 z pz,
    ) refl in
    let read : groups_in true (pieces text) ≡ Some (s ∷ t ∷ u ∷ v ∷ w ∷ x ∷ y ∷ z ∷ []) =
    ap (groups_in true) cut ∙ eight_groups a.0 b.0 c.0 d.0 e.0 f.0 g.0 g.1 s t u v w x y z (any_group a.0 s ps)
    (any_group b.0 t pt) (any_group c.0 u pu) (any_group d.0 v pv) (any_group e.0 w pw) (any_group f.0 x px)
    (any_group g.0 y py) (any_group g.1 z pz) in
    let number : ((((((((0 * 65536 + s) * 65536 + t) * 65536 + u) * 65536 + v) * 65536 + w) * 65536 + x) * 65536 + y) *
    65536 + z) ≡ n = omega (arith, some_is ez) in
    eight_read text (s ∷ t ∷ u ∷ v ∷ w ∷ x ∷ y ∷ z ∷ []) (side_pieces true text a.0 b.0 _ cut ∙ read)
    ∙ eight_is (s ∷ t ∷ u ∷ v ∷ w ∷ x ∷ y ∷ z ∷ []) refl ∙ ap just number)))))))))))))))

pub groups_read : (v : ℕ) → v < 2 ^ 128 → address6_of (groups v) ≡ Some v
groups_read v small = written_read (groups v) v (groups_text v small)
