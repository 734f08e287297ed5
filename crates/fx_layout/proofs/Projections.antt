-- Projections compose.
use Rattle.std.proofs.Common.{◌≡◌, ℕ, ◌+◌, ◌-◌, ◌/◌, ◌^◌, ◌≤◌, Bool, true, false, cond, ◌&&◌, ◌==◌, List, [], ◌∷◌, map, Option, Some, None, refl, sym, ap, ap₂, ◌∙◌, subst, arith, eqb-true, eq-eqb, leb-true, le-leb, pow-add, bytes_eq}
use Rattle.std.specs.Bool.{Decides}
use Rattle.std.proofs.Math.Nat.{div-div-eq-div-mul, zero-div}
use Rattle.std.proofs.lemmas.Slice.Eq.{bytes_eq-Decides}
use Rattle.fx_elements.specs.declared.axis.Axis.{Axis}
use Rattle.fx_elements.proofs.EveryAxis.{axis_is}
use Rattle.fx_elements.specs.Axes.{Fields, field, axis_width, axis_index, same_axis}
use Rattle.fx_layout.specs.declared.layout.Part.{Part}
use Rattle.fx_layout.specs.Keys.{Layout, Key, part_at, has_bits, reads, refines, leading_bits, key_of, cut_in, bits_on, project, same_layout, same_key, Fits}

-- both halves of a test
pub and_true : (a b : Bool) → (a && b) ≡ true → (a ≡ true) × (b ≡ true)
and_true true true h = (refl, refl)
and_true true false h = absurd (cc)
and_true false b h = absurd (cc)

pub and_both : (a b : Bool) → a ≡ true → b ≡ true → (a && b) ≡ true
and_both true true h k = refl
and_both true false h k = absurd (cc)
and_both false b h k = absurd (cc)

-- a layout is the same as itself
pub layout_same : (layout : Layout) → same_layout layout layout ≡ true
layout_same [] = refl
layout_same (part ∷ parts) =
    and_both _ _ (and_both _ _ (eq-eqb (axis_index part.axis) (axis_index part.axis) refl)
    (eq-eqb part.bits part.bits refl)) (layout_same parts)

part_has_axis : (layout : Layout) (axis : Axis) (q : Part) → part_at layout axis ≡ Some q → q.axis ≡ axis
part_has_axis [] axis q h = absurd (cc)
part_has_axis (p ∷ ps) axis q h =
    let rest = part_has_axis ps axis q in
    elim (same_axis p.axis axis) as (λ t. same_axis p.axis axis ≡ t → cond t (Some p) (part_at ps axis) ≡ Some q
    → q.axis ≡ axis) [
      | true ↦ λ e k. let here = axis_is p.axis axis e in cc
      | false ↦ λ e k. rest k
    ] refl h

-- what stands at an axis of a key whose values are those of its parts
cut_of_map : (g : Part → ℕ) (layout : Layout) (axis : Axis) (bits : ℕ) (q : Part) → part_at layout axis ≡ Some q
    → cut_in layout (map g layout) axis bits ≡ leading_bits q.bits bits (g q)
cut_of_map g [] axis bits q h = absurd (cc)
cut_of_map g (p ∷ ps) axis bits q h =
    let rest = cut_of_map g ps axis bits q in
    elim (same_axis p.axis axis) as (λ t. cond t (Some p) (part_at ps axis) ≡ Some q
    → cond t (leading_bits p.bits bits (g p)) (cut_in ps (map g ps) axis bits) ≡ leading_bits q.bits bits (g q)) [
      | true ↦ λ k. let same : p ≡ q = cc in ap (λ (x : Part). leading_bits x.bits bits (g x)) same
      | false ↦ λ k. rest k
    ] h

abbrev CutsOf : Layout → List ℕ → Axis → Part → Type 0
CutsOf layout values axis q = (value : ℕ)
    × ((bits : ℕ) → cut_in layout values axis bits ≡ leading_bits q.bits bits value)

-- what stands at an axis of any key
cuts_of : (layout : Layout) (values : List ℕ) (axis : Axis) (q : Part) → part_at layout axis ≡ Some q
    → CutsOf layout values axis q
cuts_of [] values axis q h = absurd (cc)
cuts_of (p ∷ ps) [] axis q h = (0, λ bits. sym (zero-div (2 ^ (q.bits - bits))))
cuts_of (p ∷ ps) (v ∷ vs) axis q h =
    let rest = cuts_of ps vs axis q in
    elim (same_axis p.axis axis) as (λ t. cond t (Some p) (part_at ps axis) ≡ Some q → (value : ℕ)
    × ((bits : ℕ) → cond t (leading_bits p.bits bits v) (cut_in ps vs axis bits) ≡ leading_bits q.bits bits value)) [
      | true ↦ λ k. let same : p ≡ q = cc in (v, λ bits. ap (λ (x : Part). leading_bits x.bits bits v) same)
      | false ↦ λ k. rest k
    ] h

pub leading_again : (width more fewer value : ℕ) → fewer ≤ more → more ≤ width
    → leading_bits more fewer (leading_bits width more value) ≡ leading_bits width fewer value
leading_again width more fewer value h k =
    let e : width - more + (more - fewer) ≡ width - fewer = omega arith in
    div-div-eq-div-mul value (2 ^ (width - more)) (2 ^ (more - fewer))
    ∙ ap (λ n. value / n) (sym (pow-add 2 (width - more) (more - fewer)) ∙ ap (λ n. 2 ^ n) e)

-- the part that is read
read_part : (o : Option Part) (bits : ℕ) → has_bits o bits ≡ true → (q : Part) × (o ≡ Some q) × (bits ≤ q.bits)
read_part None bits h = absurd (cc)
read_part (Some q) bits h = (q, refl, leb-true bits q.bits h)

-- a layout reads each part of one that it refines
reads_part : (layout other : Layout) (axis : Axis) (q : Part) → refines layout other ≡ true → part_at other axis
    ≡ Some q → reads layout axis q.bits ≡ true
reads_part layout [] axis q r h = absurd (cc)
reads_part layout (p ∷ ps) axis q r h =
    let both = and_true (reads layout p.axis p.bits) (refines layout ps) r in
    let rest = reads_part layout ps axis q both.1 in
    elim (same_axis p.axis axis) as (λ t. same_axis p.axis axis ≡ t → cond t (Some p) (part_at ps axis) ≡ Some q
    → reads layout axis q.bits ≡ true) [
      | true ↦ λ e k.
          let same : p ≡ q = cc in
          subst (λ a. reads layout a q.bits ≡ true) (axis_is p.axis axis e)
          (subst (λ (x : Part). reads layout p.axis x.bits ≡ true) same both.0)
      | false ↦ λ e k. rest k
    ] refl h

reads_fewer : (o : Option Part) (more fewer : ℕ) → fewer ≤ more → has_bits o more ≡ true → has_bits o fewer ≡ true
reads_fewer None more fewer le h = h
reads_fewer (Some q) more fewer le h = le-leb fewer q.bits
    (let k : more ≤ q.bits = leb-true more q.bits h in omega arith)

pub reads_through : (a b : Layout) (axis : Axis) (bits : ℕ) → refines a b ≡ true → reads b axis bits ≡ true
    → reads a axis bits ≡ true
reads_through a b axis bits r h =
    let found = read_part (part_at b axis) bits h in
    reads_fewer (part_at a axis) found.0.bits bits found.2 (reads_part a b axis found.0 r found.1)

pub refines_through : (a b c : Layout) → refines a b ≡ true → refines b c ≡ true → refines a c ≡ true
refines_through a b [] r s = refl
refines_through a b (p ∷ ps) r s =
    let both = and_true (reads b p.axis p.bits) (refines b ps) s in
    and_both _ _ (reads_through a b p.axis p.bits r both.0) (refines_through a b ps r both.1)

-- a cut of a cut
cut_again : (key : Key) (layout : Layout) (axis : Axis) (bits : ℕ) → refines key.layout layout ≡ true
    → reads layout axis bits ≡ true → bits_on (project key layout) axis bits ≡ bits_on key axis bits
cut_again key layout axis bits r h =
    let found = read_part (part_at layout axis) bits h in
    let q = found.0 in
    let below = read_part (part_at key.layout axis) q.bits (reads_part key.layout layout axis q r found.1) in
    let cuts = cuts_of key.layout key.values axis below.0 below.1 in
    let here = cut_of_map (λ part. bits_on key part.axis part.bits) layout axis bits q found.1 in
    let at : q.axis ≡ axis = part_has_axis layout axis q found.1 in
    here ∙ ap (λ a. leading_bits q.bits bits (bits_on key a q.bits)) at ∙ ap (leading_bits q.bits bits) (cuts.1 q.bits)
    ∙ leading_again below.0.bits q.bits bits cuts.0 found.2 below.2 ∙ sym (cuts.1 bits)

cuts_again : (key : Key) (layout other : Layout) → refines key.layout layout ≡ true → refines layout other ≡ true
    → map (λ part. bits_on (project key layout) part.axis part.bits) other
    ≡ map (λ part. bits_on key part.axis part.bits) other
cuts_again key layout [] r s = refl
cuts_again key layout (p ∷ ps) r s =
    let both = and_true (reads layout p.axis p.bits) (refines layout ps) s in
    ap₂ (λ x xs. x ∷ xs) (cut_again key layout p.axis p.bits r both.0) (cuts_again key layout ps r both.1)

-- projections compose
pub project_again : (key : Key) (layout other : Layout) → refines key.layout layout ≡ true → refines layout other ≡ true
    → project (project key layout) other ≡ project key other
project_again key layout other r s = ap (λ (vs : List ℕ). record { layout = other; values = vs })
    (cuts_again key layout other r s)

fits_at : (layout : Layout) (axis : Axis) (q : Part) → Fits layout → part_at layout axis ≡ Some q → q.bits
    ≤ axis_width axis
fits_at [] axis q f h = absurd (cc)
fits_at (p ∷ ps) axis q f h =
    let rest = fits_at ps axis q f.1 in
    elim (same_axis p.axis axis) as (λ t. same_axis p.axis axis ≡ t → cond t (Some p) (part_at ps axis) ≡ Some q
    → q.bits ≤ axis_width axis) [
      | true ↦ λ e k.
          let same : p ≡ q = cc in
          subst (λ a. q.bits ≤ axis_width a) (axis_is p.axis axis e)
          (subst (λ (x : Part). x.bits ≤ axis_width p.axis) same f.0)
      | false ↦ λ e k. rest k
    ] refl h

-- a cut of a packet's key
pub cut_of_key : (layout : Layout) (fields : Fields) (axis : Axis) (bits : ℕ) → Fits layout → reads layout axis bits
    ≡ true → bits_on (key_of layout fields) axis bits ≡ leading_bits (axis_width axis) bits (field fields axis)
cut_of_key layout fields axis bits f h =
    let found = read_part (part_at layout axis) bits h in
    let q = found.0 in
    let at : q.axis ≡ axis = part_has_axis layout axis q found.1 in
    cut_of_map (λ part. leading_bits (axis_width part.axis) part.bits (field fields part.axis)) layout axis bits q
    found.1 ∙ ap (λ a. leading_bits q.bits bits (leading_bits (axis_width a) q.bits (field fields a))) at
    ∙ leading_again (axis_width axis) q.bits bits (field fields axis) found.2 (fits_at layout axis q f found.1)

cuts_of_key : (layout other : Layout) (fields : Fields) → Fits layout → refines layout other ≡ true
    → map (λ part. bits_on (key_of layout fields) part.axis part.bits) other
    ≡ map (λ part. leading_bits (axis_width part.axis) part.bits (field fields part.axis)) other
cuts_of_key layout [] fields f r = refl
cuts_of_key layout (p ∷ ps) fields f r =
    let both = and_true (reads layout p.axis p.bits) (refines layout ps) r in
    ap₂ (λ x xs. x ∷ xs) (cut_of_key layout fields p.axis p.bits f both.0) (cuts_of_key layout ps fields f both.1)

-- the projection of a packet's key is its key under the coarser layout
pub project_key : (layout other : Layout) (fields : Fields) → Fits layout → refines layout other ≡ true
    → project (key_of layout fields) other ≡ key_of other fields
project_key layout other fields f r = ap (λ (vs : List ℕ). record { layout = other; values = vs })
    (cuts_of_key layout other fields f r)

pub same_layout_is : (a b : Layout) → same_layout a b ≡ true → a ≡ b
same_layout_is [] [] h = refl
same_layout_is [] (q ∷ qs) h = absurd (cc)
same_layout_is (p ∷ ps) [] h = absurd (cc)
same_layout_is (p ∷ ps) (q ∷ qs) h =
    let both = and_true (same_axis p.axis q.axis && p.bits == q.bits) (same_layout ps qs) h in
    let here = and_true (same_axis p.axis q.axis) (p.bits == q.bits) both.0 in
    let axis = axis_is p.axis q.axis here.0 in
    let bits = eqb-true p.bits q.bits here.1 in
    ap₂ (λ x xs. x ∷ xs) (ap₂ (λ (x : Axis) (y : ℕ). record { axis = x; bits = y }) axis bits)
    (same_layout_is ps qs both.1)

-- keys that pass the test are equal
pub same_key_is : (a b : Key) → same_key a b ≡ true → a ≡ b
same_key_is a b h =
    let both = and_true (same_layout a.layout b.layout) (bytes_eq a.values b.values) h in
    ap₂ (λ (x : Layout) (y : List ℕ). record { layout = x; values = y }) (same_layout_is a.layout b.layout both.0)
    ((bytes_eq-Decides a.values b.values).0 both.1)

-- equal keys pass it
pub key_same : (k : Key) → same_key k k ≡ true
key_same k = and_both _ _ (layout_same k.layout) ((bytes_eq-Decides k.values k.values).1 refl)

pub same_key_decides : (a b : Key) → Decides (same_key a b) (a ≡ b)
same_key_decides a b = (same_key_is a b, λ e. subst (λ (k : Key). same_key a k ≡ true) e (key_same a))
