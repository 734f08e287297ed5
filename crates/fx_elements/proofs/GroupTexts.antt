-- The eight groups of an address of IPv6 are read as what they spell, and no other text is.
use Rattle.std.proofs.Common.{◌≡◌, ◌≢◌, ℕ, ◌+◌, ◌-◌, ◌*◌, ◌/◌, ◌%◌, ◌^◌, ◌<◌, ◌≤◌, eqb, ◌&&◌, false, nat_le, List, [], ◌∷◌, ◌++◌, Some, None, refl, ap, sym, ◌∙◌, arith, ne_eqb, le-leb, leb-true, lt-ltb, le-ltb, inl, inr, ◌⊎◌, append_assoc}
use Rattle.std.proofs.lemmas.Bool.{eqb-false, cases_lt, lt-leb}
use Rattle.fx_elements.specs.Spelling.{cut_at}
use Rattle.fx_elements.specs.Groups.{hex_digit, group, half, groups, hex_of, group_of, groups_of}
use Rattle.fx_elements.proofs.Cuts.{cut_text, cut_parts, chosen}
use Rattle.fx_elements.proofs.Numbers.{both}
use Rattle.fx_elements.proofs.Addresses.{Avoids, by_some, just, some_is}

-- ---- digits

hex_range : (d : ℕ) → d < 16 → ((48 ≤ hex_digit d) × (hex_digit d ≤ 57) × (hex_digit d ≡ 48 + d))
    ⊎ ((97 ≤ hex_digit d) × (hex_digit d ≤ 102) × (hex_digit d ≡ 87 + d))
hex_range d lt = elim (cases_lt d 10) [
  | inl h ↦ rw (lt-ltb d 10 h) (inl (omega arith, omega arith, refl))
  | inr h ↦ rw (le-ltb d 10 h) (inr (omega arith, omega arith, refl))
]

hex_text : (d : ℕ) → d < 16 → hex_of (hex_digit d) ≡ Some d
unfolding hex_of
hex_text d lt = elim (cases_lt d 10) [
  | inl h ↦ let back : 48 + d - 48 ≡ d = omega arith in
      rw (lt-ltb d 10 h, le-leb 48 (48 + d) (omega arith), le-leb (48 + d) 57 (omega arith), back) refl
  | inr h ↦ let back : 87 + d - 87 ≡ d = omega arith in
      rw (
        le-ltb d 10 h,
        le-leb 48 (87 + d) (omega arith),
        lt-leb (87 + d) 57 (omega arith),
        le-leb 97 (87 + d)
            (omega arith),
        le-leb (87 + d) 102 (omega arith),
        back,
      ) refl
]

pub hex_found : (d b : ℕ) → hex_of b ≡ Some d → (b ≡ hex_digit d) × (d < 16)
unfolding hex_of
hex_found d b e = elim (chosen (nat_le 48 b && nat_le b 57) _ _ (Some d) e) [
  | inl h ↦
      let two = both (nat_le 48 b) (nat_le b 57) h.0 in
      let low : 48 ≤ b = leb-true _ _ two.0 in
      let high : b ≤ 57 = leb-true _ _ two.1 in
      let is : b - 48 ≡ d = some_is h.1 in
      let small : d < 10 = omega (arith, low, high, is) in
      let same : b ≡ 48 + d = omega (arith, low, is) in
      (rw (lt-ltb d 10 small) same, omega (arith, small))
  | inr h ↦ elim (chosen (nat_le 97 b && nat_le b 102) _ _ (Some d) h.1) [
    | inl i ↦
        let two = both (nat_le 97 b) (nat_le b 102) i.0 in
        let low : 97 ≤ b = leb-true _ _ two.0 in
        let high : b ≤ 102 = leb-true _ _ two.1 in
        let is : b - 87 ≡ d = some_is i.1 in
        let large : 10 ≤ d = omega (arith, low, high, is) in
        let same : b ≡ 87 + d = omega (arith, low, is) in
        (rw (le-ltb d 10 large) same, omega (arith, high, is))
    | inr i ↦ absurd cc
  ]
]

-- a digit other than 0 isn't the byte of 0
leads : (d : ℕ) → 0 < d → d < 16 → eqb (hex_digit d) 48 ≡ false
leads d some lt = ne_eqb (hex_digit d) 48
    (λ e. elim (hex_range d lt) [ inl h ↦ omega (arith, h.2, e) | inr h ↦ omega (arith, h.0, e) ])

-- ---- groups

pub group_text : (g : ℕ) → g < 65536 → group_of (group g) ≡ Some g
unfolding group_of
group_text g lt = elim (cases_lt g 16) [
  | inl h ↦ rw (lt-ltb g 16 h) (hex_text g h)
  | inr h ↦ elim (cases_lt g 256) [
    | inl i ↦
        let back : g / 16 * 16 + g % 16 ≡ g = omega arith in
        rw (
          le-ltb g 16 h,
          lt-ltb g 256 i,
          leads (g / 16) (omega arith) (omega arith),
          hex_text (g / 16) (omega arith),
          hex_text (g % 16) (omega arith),
          back,
        ) refl
    | inr i ↦ elim (cases_lt g 4096) [
      | inl j ↦
          let back : (g / 256 * 16 + g / 16 % 16) * 16 + g % 16 ≡ g = omega arith in
          rw (
            le-ltb g 16 h,
            le-ltb g 256 i,
            lt-ltb g 4096 j,
            leads (g / 256) (omega arith) (omega arith),
            hex_text
                (g / 256) (omega arith),
            hex_text (g / 16 % 16) (omega arith),
            hex_text (g % 16) (omega arith),
            back,
          ) refl
      | inr j ↦
          let back : ((g / 4096 * 16 + g / 256 % 16) * 16 + g / 16 % 16) * 16 + g % 16 ≡ g = omega arith in
          rw (
            le-ltb g 16 h,
            le-ltb g 256 i,
            le-ltb g 4096 j,
            leads (g / 4096) (omega arith) (omega arith),
            hex_text
                (g / 4096) (omega arith),
            hex_text (g / 256 % 16) (omega arith),
            hex_text (g / 16 % 16) (omega arith),
            hex_text (g % 16) (omega arith),
            back,
          ) refl
    ]
  ]
]

-- a digit that leads
leading_digit : (w a : ℕ) → eqb a 48 ≡ false → (a ≡ hex_digit w) × (w < 16) → 0 < w
leading_digit w a e h = elim (hex_range w h.1) [
  | inl r ↦ let ne = eqb-false a 48 e in let k : a ≡ 48 + w = h.0 ∙ r.2 in omega (arith, ne, k)
  | inr r ↦ let k : hex_digit w ≡ 87 + w = r.2 in omega (arith, k, r.0)
]

two_parts : (g w x a b : ℕ) → 0 < w → (a ≡ hex_digit w) × (w < 16) → (b ≡ hex_digit x) × (x < 16) → w * 16 + x ≡ g
    → (a ∷ b ∷ [] ≡ group g) × (g < 65536)
two_parts g w x a b some hw hx is =
    let p : g / 16 ≡ w = omega (arith, is, hx.1) in
    let q : g % 16 ≡ x = omega (arith, is, hx.1) in (
      rw (le-ltb g 16 (omega (arith, some, is)), lt-ltb g 256 (omega (arith, is, hw.1, hx.1)), p, q, ← hw.0, ← hx.0)
          refl,
      omega (arith, is, hw.1, hx.1),
    )

three_parts : (g w x y a b c : ℕ) → 0 < w → (a ≡ hex_digit w) × (w < 16) → (b ≡ hex_digit x) × (x < 16)
    → (c ≡ hex_digit y) × (y < 16) → (w * 16 + x) * 16 + y ≡ g → (a ∷ b ∷ c ∷ [] ≡ group g) × (g < 65536)
three_parts g w x y a b c some hw hx hy is =
    let p : g / 256 ≡ w = omega (arith, is, hx.1, hy.1) in
    let q : g / 16 % 16 ≡ x = omega (arith, is, hx.1, hy.1) in
    let r : g % 16 ≡ y = omega (arith, is, hy.1) in (
      rw (
        le-ltb g 16 (omega (arith, some, is)),
        le-ltb g 256 (omega (arith, some, is)),
        lt-ltb g 4096
            (omega (arith, is, hw.1, hx.1, hy.1)),
        p,
        q,
        r,
        ← hw.0,
        ← hx.0,
        ← hy.0,
      ) refl,
      omega (arith, is, hw.1, hx.1, hy.1),
    )

four_parts : (g w x y z a b c d : ℕ) → 0 < w → (a ≡ hex_digit w) × (w < 16) → (b ≡ hex_digit x) × (x < 16)
    → (c ≡ hex_digit y) × (y < 16) → (d ≡ hex_digit z) × (z < 16) → ((w * 16 + x) * 16 + y) * 16 + z ≡ g
    → (a ∷ b ∷ c ∷ d ∷ [] ≡ group g) × (g < 65536)
four_parts g w x y z a b c d some hw hx hy hz is =
    let p : g / 4096 ≡ w = omega (arith, is, hx.1, hy.1, hz.1) in
    let q : g / 256 % 16 ≡ x = omega (arith, is, hx.1, hy.1, hz.1) in
    let r : g / 16 % 16 ≡ y = omega (arith, is, hy.1, hz.1) in
    let s : g % 16 ≡ z = omega (arith, is, hz.1) in (
      rw (
        le-ltb g 16 (omega (arith, some, is)),
        le-ltb g 256 (omega (arith, some, is)),
        le-ltb g 4096
            (omega (arith, some, is)),
        p,
        q,
        r,
        s,
        ← hw.0,
        ← hx.0,
        ← hy.0,
        ← hz.0,
      ) refl,
      omega (arith, is, hw.1, hx.1, hy.1, hz.1),
    )

pub group_found : (g : ℕ) (text : List ℕ) → group_of text ≡ Some g → (text ≡ group g) × (g < 65536)
unfolding group_of
group_found g [] e = absurd cc
group_found g (a ∷ []) e = let h = hex_found g a e in (rw (lt-ltb g 16 h.1, ← h.0) refl, omega (arith, h.1))
group_found g (a ∷ b ∷ []) e = elim (chosen (eqb a 48) None _ (Some g) e) [
  | inl h ↦ absurd cc
  | inr h ↦
      by_some (hex_of a) _ g h.1 (λ w pw ew.
      by_some (hex_of b) _ g ew (λ x px ex.
      two_parts g w x a b (leading_digit w a h.0 (hex_found w a pw)) (hex_found w a pw) (hex_found x b px)
      (some_is ex)))
]
group_found g (a ∷ b ∷ c ∷ []) e = elim (chosen (eqb a 48) None _ (Some g) e) [
  | inl h ↦ absurd cc
  | inr h ↦
      by_some (hex_of a) _ g h.1 (λ w pw ew.
      by_some (hex_of b) _ g ew (λ x px ex.
      by_some (hex_of c) _ g ex (λ y py ey.
      three_parts g w x y a b c (leading_digit w a h.0 (hex_found w a pw)) (hex_found w a pw) (hex_found x b px)
      (hex_found y c py) (some_is ey))))
]
group_found g (a ∷ b ∷ c ∷ d ∷ []) e = elim (chosen (eqb a 48) None _ (Some g) e) [
  | inl h ↦ absurd cc
  | inr h ↦
      by_some (hex_of a) _ g h.1 (λ w pw ew.
      by_some (hex_of b) _ g ew (λ x px ex.
      by_some (hex_of c) _ g ex (λ y py ey.
      by_some (hex_of d) _ g ey (λ z pz ez.
      four_parts g w x y z a b c d (leading_digit w a h.0 (hex_found w a pw)) (hex_found w a pw) (hex_found x b px)
      (hex_found y c py) (hex_found z d pz) (some_is ez)))))
]
group_found g (a ∷ b ∷ c ∷ d ∷ f ∷ fs) e = absurd cc

-- no colon, and no byte before the digits, stands in a group
hex_avoids : (c d : ℕ) → c < 48 ⊎ (c ≡ 58) → d < 16 → c ≢ hex_digit d
hex_avoids c d h lt e = elim (hex_range d lt) [
  | inl r ↦ elim h [ inl low ↦ omega (arith, r.0, low, e) | inr colon ↦ omega (arith, r.1, colon, e) ]
  | inr r ↦ elim h [ inl low ↦ omega (arith, r.0, low, e) | inr colon ↦ omega (arith, r.0, colon, e) ]
]

pub group_avoids : (c g : ℕ) → c < 48 ⊎ (c ≡ 58) → g < 65536 → Avoids c (group g)
group_avoids c g h lt =
    let no : (d : ℕ) → d < 16 → ◌≢◌ {A = ℕ} (hex_digit d) c = λ d k e. hex_avoids c d h k (sym e) in
    elim (cases_lt g 16) [
      | inl a ↦ rw (lt-ltb g 16 a) (no g a, tt)
      | inr a ↦ elim (cases_lt g 256) [
        | inl b ↦ rw (le-ltb g 16 a, lt-ltb g 256 b) (no (g / 16) (omega arith), (no (g % 16) (omega arith), tt))
        | inr b ↦ elim (cases_lt g 4096) [
          | inl d ↦ rw (le-ltb g 16 a, le-ltb g 256 b, lt-ltb g 4096 d)
              (no (g / 256) (omega arith), (no (g / 16 % 16) (omega arith), (no (g % 16) (omega arith), tt)))
          | inr d ↦ rw (le-ltb g 16 a, le-ltb g 256 b, le-ltb g 4096 d) (
            no (g / 4096) (omega arith),
            (
              no (g / 256 % 16) (omega arith),
              (no (g / 16 % 16) (omega arith), (no (g % 16) (omega arith), tt)),
            ),
          )
        ]
      ]
    ]

-- ---- addresses

joined : (a b c d rest : List ℕ) → (a ++ 58 ∷ (b ++ 58 ∷ (c ++ 58 ∷ d))) ++ rest ≡ a ++ 58
    ∷ (b ++ 58 ∷ (c ++ 58 ∷ (d ++ rest)))
joined a b c d rest =
    append_assoc a _ rest ∙ ap (λ (x : List ℕ). a ++ 58 ∷ x)
    (append_assoc b _ rest ∙ ap (λ (x : List ℕ). b ++ 58 ∷ x) (append_assoc c _ rest))

-- what eight groups with colons between them are read as
eight_text : (a b c d e f g h : ℕ) → a < 65536 → b < 65536 → c < 65536 → d < 65536 → e < 65536 → f < 65536 → g < 65536
    → h < 65536
    → groups_of (group a ++ 58 ∷ (group b ++ 58
    ∷ (group c ++ 58 ∷ (group d ++ 58 ∷ (group e ++ 58 ∷ (group f ++ 58 ∷ (group g ++ 58 ∷ group h)))))))
    ≡ Some (((((((a * 65536 + b) * 65536 + c) * 65536 + d) * 65536 + e) * 65536 + f) * 65536 + g) * 65536 + h)
unfolding groups_of
eight_text a b c d e f g h la lb lc ld le lf lg lh =
    rw (
      cut_text 58 (group a) _ (group_avoids 58 a (inr refl) la),
      cut_text 58 (group b) _ (group_avoids 58 b (inr refl) lb),
      cut_text 58 (group c) _ (group_avoids 58 c (inr refl) lc),
      cut_text 58 (group d) _ (group_avoids 58 d (inr refl) ld),
      cut_text 58 (group e) _ (group_avoids 58 e (inr refl) le),
      cut_text 58 (group f) _ (group_avoids 58 f (inr refl) lf),
      cut_text 58 (group g) (group h) (group_avoids 58 g (inr refl) lg),
      group_text a la,
      group_text b lb,
      group_text c lc,
      group_text d ld,
      group_text e le,
      group_text f lf,
      group_text g lg,
      group_text h lh,
    ) refl

groups_are : (v : ℕ) → groups v ≡ group (v / 2 ^ 64 / 2 ^ 48) ++ 58
    ∷ (group (v / 2 ^ 64 / 2 ^ 32 % 65536) ++ 58
    ∷ (group (v / 2 ^ 64 / 2 ^ 16 % 65536) ++ 58
    ∷ (group (v / 2 ^ 64 % 65536) ++ 58 ∷ (group (v % 2 ^ 64 / 2 ^ 48) ++ 58
    ∷ (group (v % 2 ^ 64 / 2 ^ 32 % 65536) ++ 58
    ∷ (group (v % 2 ^ 64 / 2 ^ 16 % 65536) ++ 58 ∷ group (v % 2 ^ 64 % 65536)))))))
unfolding groups half
groups_are v = joined _ _ _ _ _

halves : (h : ℕ) → ((h / 2 ^ 48 * 65536 + h / 2 ^ 32 % 65536) * 65536 + h / 2 ^ 16 % 65536) * 65536 + h % 65536 ≡ h
halves h = omega arith

pub groups_text : (v : ℕ) → v < 2 ^ 128 → groups_of (groups v) ≡ Some v
groups_text v small =
    let high = halves (v / 2 ^ 64) in
    let low = halves (v % 2 ^ 64) in
    let sum :
    ((((((v / 2 ^ 64 / 2 ^ 48 * 65536 + v / 2 ^ 64 / 2 ^ 32 % 65536) * 65536 + v / 2 ^ 64 / 2 ^ 16 % 65536) * 65536
    + v / 2 ^ 64 % 65536) * 65536 + v % 2 ^ 64 / 2 ^ 48) * 65536 + v % 2 ^ 64 / 2 ^ 32 % 65536) * 65536
    + v % 2 ^ 64 / 2 ^ 16 % 65536) * 65536 + v % 2 ^ 64 % 65536 ≡ v = omega (arith, high, low) in
    ap groups_of (groups_are v) ∙ eight_text _ _ _ _ _ _ _ _ (omega (arith, small)) (omega arith) (omega arith)
    (omega arith) (omega arith) (omega arith) (omega arith) (omega arith) ∙ ap (λ (x : ℕ). just x) sum

groups_parts : (n s t u v w x y z : ℕ) (text r1 r2 r3 r4 r5 r6 a b c d e f g h : List ℕ)
    → text ≡ a ++ 58 ∷ r1 → r1 ≡ b ++ 58 ∷ r2 → r2 ≡ c ++ 58 ∷ r3 → r3 ≡ d ++ 58 ∷ r4 → r4 ≡ e ++ 58 ∷ r5 → r5 ≡ f ++ 58
    ∷ r6 → r6 ≡ g ++ 58 ∷ h
    → (a ≡ group s) × (s < 65536) → (b ≡ group t) × (t < 65536) → (c ≡ group u) × (u < 65536) → (d ≡ group v)
    × (v < 65536) → (e ≡ group w) × (w < 65536) → (f ≡ group x) × (x < 65536) → (g ≡ group y) × (y < 65536)
    → (h ≡ group z) × (z < 65536)
    → ((((((s * 65536 + t) * 65536 + u) * 65536 + v) * 65536 + w) * 65536 + x) * 65536 + y) * 65536 + z ≡ n
    → (text ≡ groups n) × (n < 2 ^ 128)
groups_parts n s t u v w x y z text r1 r2 r3 r4 r5 r6 a b c d e f g h p1 p2 p3 p4 p5 p6 p7 hs ht hu hv hw hx hy hz is =
    let high : ((s * 65536 + t) * 65536 + u) * 65536 + v ≡ n / 2 ^ 64 = omega (arith, is, hw.1, hx.1, hy.1, hz.1) in
    let low : ((w * 65536 + x) * 65536 + y) * 65536 + z ≡ n % 2 ^ 64 = omega (arith, is, hw.1, hx.1, hy.1, hz.1) in
    let es = four s t u v (n / 2 ^ 64) ht.1 hu.1 hv.1 high in
    let ew = four w x y z (n % 2 ^ 64) hx.1 hy.1 hz.1 low in (
      rw (
        p1,
        p2,
        p3,
        p4,
        p5,
        p6,
        p7,
        hs.0,
        ht.0,
        hu.0,
        hv.0,
        hw.0,
        hx.0,
        hy.0,
        hz.0,
        groups_are n,
        es.0,
        es.1,
        es.2,
        es.3,
        ew.0,
        ew.1,
        ew.2,
        ew.3,
      ) refl,
      omega (arith, is, hs.1, ht.1, hu.1, hv.1, hw.1, hx.1, hy.1, hz.1),
    )
  where
    four : (a b c d m : ℕ) → b < 65536 → c < 65536 → d < 65536 → ((a * 65536 + b) * 65536 + c) * 65536 + d ≡ m
        → (m / 2 ^ 48 ≡ a) × (m / 2 ^ 32 % 65536 ≡ b) × (m / 2 ^ 16 % 65536 ≡ c) × (m % 65536 ≡ d)
    four a b c d m hb hc hd is = (omega arith, omega arith, omega arith, omega arith)

pub groups_found : (n : ℕ) (text : List ℕ) → groups_of text ≡ Some n → (text ≡ groups n) × (n < 2 ^ 128)
unfolding groups_of
groups_found n text is =
    by_some (cut_at 58 text) _ n is (λ a pa ea.
    by_some (cut_at 58 a.1) _ n ea (λ b pb eb.
    by_some (cut_at 58 b.1) _ n eb (λ c pc ec.
    by_some (cut_at 58 c.1) _ n ec (λ d pd ed.
    by_some (cut_at 58 d.1) _ n ed (λ e pe ee.
    by_some (cut_at 58 e.1) _ n ee (λ f pf ef.
    by_some (cut_at 58 f.1) _ n ef (λ g pg eg.
    by_some (group_of a.0) _ n eg (λ s ps es.
    by_some (group_of b.0) _ n es (λ t pt et.
    by_some (group_of c.0) _ n et (λ u pu eu.
    by_some (group_of d.0) _ n eu (λ v pv ev.
    by_some (group_of e.0) _ n ev (λ w pw ew.
    by_some (group_of f.0) _ n ew (λ x px ex.
    by_some (group_of g.0) _ n ex (λ y py ey.
    by_some (group_of g.1) _ n ey (λ z pz ez.
    groups_parts n s t u v w x y z text a.1 b.1 c.1 d.1 e.1 f.1 a.0 b.0 c.0 d.0 e.0 f.0 g.0 g.1 (cut_parts 58 text a pa)
    (cut_parts 58 a.1 b pb) (cut_parts 58 b.1 c pc) (cut_parts 58 c.1 d pd) (cut_parts 58 d.1 e pe)
    (cut_parts 58 e.1 f pf) (cut_parts 58 f.1 g pg)
    (group_found s a.0 ps) (group_found t b.0 pt) (group_found u c.0 pu) (group_found v d.0 pv) (group_found w e.0 pw)
    (group_found x f.0 px) (group_found y g.0 py) (group_found z g.1 pz) (some_is ez))))))))))))))))
