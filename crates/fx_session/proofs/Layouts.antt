-- Layouts that are built along the axes.
use Rattle.std.proofs.Common.{◌≡◌, ◌≢◌, ℕ, suc, ◌≤◌, ◌<◌, Bool, true, false, ◌&&◌, not, ◌==◌, cond, le-ltb, List, [], ◌∷◌, ◌++◌, refl, ap, sym, ◌∙◌, arith, Option, Some, None, get_or}
use Rattle.std.specs.Prelude.{is_some, nat_le, bytes_eq}
use Rattle.std.proofs.lemmas.Slice.Eq.{bytes_eq-Decides}
use Rattle.std.proofs.lemmas.Bool.Decides.{nat_tests}
use Rattle.fx_elements.specs.declared.axis.Axis.{Axis}
use Rattle.fx_elements.specs.Axes.{axes, axis_index}
use Rattle.std.specs.List.{flat_map}
use Rattle.fx_layout.specs.declared.layout.Part.{Part}
use Rattle.fx_layout.specs.Keys.{Layout, part_at, with_part, can_stand}
use Rattle.fx_session.specs.Flows.{Found, part_of, layout_of}
use Rattle.fx_session.specs.Parts.{AllBefore, BitsStand, Stands, bits_of, part_by, layout_by}

pub before-more : (l : Layout) (j k : ℕ) → AllBefore l j → j ≤ k → AllBefore l k
before-more [] j k b h = tt
before-more (p ∷ ps) j k b h = (omega (arith, b.0), before-more ps j k b.1 h)

pub before-push : (l : Layout) (p : Part) → AllBefore l (axis_index p.axis)
    → AllBefore (l ++ p ∷ []) (suc (axis_index p.axis))
before-push [] p b = (omega arith, tt)
before-push (q ∷ qs) p b = (omega (arith, b.0), before-push qs p b.1)

apart : (m n : ℕ) → m < n → (m == n) ≡ false
apart m n h = grind (arith, nat_tests)

part_at-none : (l : Layout) (axis : Axis) → AllBefore l (axis_index axis) → part_at l axis ≡ None
part_at-none [] axis b = refl
part_at-none (p ∷ ps) axis b = ap (λ (t : Bool). cond t (Some p) (part_at ps axis))
    (apart (axis_index p.axis) (axis_index axis) b.0) ∙ part_at-none ps axis b.1

pub with_part-last : (l : Layout) (p : Part) → AllBefore l (axis_index p.axis) → with_part l p ≡ l ++ p ∷ []
with_part-last [] p b = refl
with_part-last (q ∷ qs) p b =
    ap (λ (t : Bool). cond t (p ∷ q ∷ qs) (q ∷ with_part qs p))
    (le-ltb (axis_index p.axis) (axis_index q.axis) (omega (arith, b.0)))
    ∙ ap (λ (l : Layout). q ∷ l) (with_part-last qs p b.1)

pub can_add : (l : Layout) (p : Part) → can_stand p ≡ true → AllBefore l (axis_index p.axis)
    → (can_stand p && not (is_some (part_at l p.axis))) ≡ true
can_add l p s b = ap (λ (t : Bool). t && not (is_some (part_at l p.axis))) s
    ∙ ap (λ (o : Option Part). not (is_some o)) (part_at-none l p.axis b)

-- ---- layouts by the number of bits on each axis

apart_from_none : (n : ℕ) (b : Bool) → (nat_le 1 n && b) ≡ true → (n == 0) ≡ false
apart_from_none n b h = by (nat_le 1 n) refl h where
  by : (t : Bool) → nat_le 1 n ≡ t → (t && b) ≡ true → (n == 0) ≡ false
  by true e h = grind (arith, nat_tests)
  by false e h = absurd cc

part_by-is : (axis : Axis) (f : Found) → Stands axis f → part_of axis f ≡ part_by axis (bits_of f)
part_by-is axis None s = refl
part_by-is axis (Some p) s = ap (λ (t : Bool). cond t [] (record { axis = axis; bits = p.bits } ∷ []))
    (sym (apart_from_none p.bits _ s))

-- layouts along axes whose parts are the same
pub same_parts : (f g : Axis → Layout) (xs : List Axis) → ((axis : Axis) → f axis ≡ g axis) → flat_map f xs
    ≡ flat_map g xs
same_parts f g [] h = refl
same_parts f g (x ∷ xs) h = cc (h x, same_parts f g xs h)

pub part_by-some : (axis : Axis) (bits : ℕ) → bits ≢ 0 → part_by axis bits ≡ record { axis = axis; bits = bits } ∷ []
part_by-some axis bits some = ap (λ (t : Bool). cond t [] (record { axis = axis; bits = bits } ∷ []))
    (let no : (bits == 0) ≡ false = grind (arith, nat_tests) in no)

pub layout_by-is : (own : Axis → Found) (bits : List ℕ) → ((axis : Axis) → Stands axis (own axis))
    → ((axis : Axis) → get_or bits (axis_index axis) 0 ≡ bits_of (own axis)) → layout_of own ≡ layout_by bits
layout_by-is own bits s is =
    same_parts (λ axis. part_of axis (own axis)) (λ axis. part_by axis (get_or bits (axis_index axis) 0)) axes
    (λ axis. part_by-is axis (own axis) (s axis) ∙ ap (part_by axis) (sym (is axis)))

pub bits_stand : (axis : Axis) (f : Found) (bits : ℕ) → Stands axis f → bits ≡ bits_of f → BitsStand axis bits
bits_stand axis None bits s is = λ some. absurd (some is)
bits_stand axis (Some p) bits s is = λ some. ap (λ (n : ℕ). can_stand (record { axis = axis; bits = n })) is ∙ s

-- the same bits have the same layout
pub same_bits : (l : Layout) (old new : List ℕ) → l ≡ layout_by old → false ≡ not (bytes_eq old new) → l ≡ layout_by new
same_bits l old new h e = by (bytes_eq old new) refl e where
  by : (t : Bool) → bytes_eq old new ≡ t → false ≡ not t → l ≡ layout_by new
  by true k e = h ∙ ap layout_by ((bytes_eq-Decides old new).0 k)
  by false k e = absurd cc
