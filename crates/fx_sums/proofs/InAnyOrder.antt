-- Texts add up to the same in any order.
use Rattle.std.proofs.Common.{◌≡◌, ℕ, zero, suc, ◌+◌, ◌%◌, ◌^◌, ◌<◌, List, [], ◌∷◌, length, get_or, set, Option, refl, sym, ap, ap₂, ◌∙◌, subst, arith}
use Rattle.std.specs.List.{swap}
use Rattle.std.specs.List.Sorted.{IsPermutation}
use Rattle.std.proofs.lemmas.List.Sorted.{IsPermutation-keeps}
use Rattle.std.proofs.lemmas.List.Edits.{swap_is}
use Rattle.fx_base.specs.declared.counts.Counts.{Counts}
use Rattle.fx_base.specs.Counts.{add_counts}
use Rattle.fx_layout.specs.Keys.{Layout, Key}
use Rattle.fx_machine.specs.Sums.{total_at}
use Rattle.fx_collect.specs.Totals.{with_records}
use Rattle.fx_sums.specs.declared.notes.Notes.{Notes}
use Rattle.fx_sums.specs.Sums.{Sum, joined, plus, plus_all, plus_notes, AreSameSums}
use Rattle.fx_sums.proofs.SumsOfParts.{shares, reported, lost, left_out, layouts_kept, exchanged}

-- alike, and under the same keys
abbrev AreSame : Sum → Sum → Type 0
AreSame s t = AreSameSums s t × (s.totals.layout ≡ t.totals.layout)

as_is : (s : Sum) → AreSame s s
as_is s = ((((λ key. refl), refl), refl), refl)

follows : (s t u : Sum) → AreSame s t → AreSame t u → AreSame s u
follows s t u h k = ((((λ key. h.0.0.0 key ∙ k.0.0.0 key), h.0.0.1 ∙ k.0.0.1), h.0.1 ∙ k.0.1), h.1 ∙ k.1)

-- a text more leaves the layout
layout_stays : (s t : Sum) → (plus s t).totals.layout ≡ s.totals.layout
layout_stays s t = layouts_kept s.totals t.totals.entries

-- what is the same stays so with a text more
with_text : (s t u : Sum) → AreSame s t → AreSame (plus s u) (plus t u)
with_text s t u h = (
  ((totals, unassigned), ap (λ (n : Notes). plus_notes n u.notes) h.0.1),
  layout_stays s u ∙ h.1
      ∙ sym (layout_stays t u),
) where
  totals : (key : Key) → total_at (plus s u).totals.entries key ≡ total_at (plus t u).totals.entries key
  totals key =
      reported s.totals key u.totals.entries
      ∙ ap₂ (λ (o : Option Counts) (l : Layout). joined add_counts o (shares l key u.totals.entries)) (h.0.0.0 key) h.1
      ∙ sym (reported t.totals key u.totals.entries)

  numbers : (a b x y m n e : ℕ) → a % 2 ^ 64 ≡ (x + m) % 2 ^ 64 → b % 2 ^ 64 ≡ (y + n) % 2 ^ 64 → x ≡ y → m ≡ n
      → (a + e) % 2 ^ 64 ≡ (b + e) % 2 ^ 64
  numbers a b x y m n e first second same lost_same = omega (arith, first, second, same, lost_same)

  unassigned : (plus s u).totals.unassigned ≡ (plus t u).totals.unassigned
  unassigned =
      numbers (with_records s.totals u.totals.entries).unassigned (with_records t.totals u.totals.entries).unassigned
      s.totals.unassigned t.totals.unassigned (lost s.totals.layout u.totals.entries)
      (lost t.totals.layout u.totals.entries) u.totals.unassigned
      (left_out s.totals u.totals.entries) (left_out t.totals u.totals.entries) h.0.0.1
      (ap (λ (l : Layout). lost l u.totals.entries) h.1)

with_texts : (us : List Sum) (s t : Sum) → AreSame s t → AreSame (plus_all s us) (plus_all t us)
with_texts [] s t h = h
with_texts (u ∷ us) s t h = with_texts us (plus s u) (plus t u) (with_text s t u h)

-- neighbours exchanged, with others behind them
neighbours : (s t u : Sum) (us : List Sum) → AreSame (plus_all (plus (plus s t) u) us) (plus_all (plus (plus s u) t) us)
neighbours s t u us =
    with_texts us (plus (plus s t) u) (plus (plus s u) t) (
      exchanged s t u,
      layout_stays (plus s t) u ∙ layout_stays s t ∙ sym (layout_stays s u)
          ∙ sym (layout_stays (plus s u) t),
    )

-- the first exchanged with a later one
first_exchanged : (ts : List Sum) (s t d : Sum) (i : ℕ) → i < length ts
    → AreSame (plus_all (plus s t) ts) (plus_all (plus s (get_or ts i d)) (set ts i t))
first_exchanged [] s t d i lt = absurd (omega (arith, lt))
first_exchanged (u ∷ us) s t d zero lt = neighbours s t u us
first_exchanged (u ∷ us) s t d (suc i) lt =
    let other = get_or us i d in
    let a = neighbours s t u us in
    let b = first_exchanged us (plus s u) t d i (omega (arith, lt)) in
    let c = neighbours s u other (set us i t) in
    follows _ _ _ a (follows _ _ _ b c)

any_exchanged : (ts : List Sum) (s d : Sum) (i j : ℕ) → i < length ts → j < length ts
    → AreSame (plus_all s ts) (plus_all s (set (set ts i (get_or ts j d)) j (get_or ts i d)))
any_exchanged [] s d i j p q = absurd (omega (arith, p))
any_exchanged (t ∷ ts) s d zero zero p q = as_is (plus_all s (t ∷ ts))
any_exchanged (t ∷ ts) s d zero (suc j) p q = first_exchanged ts s t d j (omega (arith, q))
any_exchanged (t ∷ ts) s d (suc i) zero p q = first_exchanged ts s t d i (omega (arith, p))
any_exchanged (t ∷ ts) s d (suc i) (suc j) p q = any_exchanged ts (plus s t) d i j (omega (arith, p)) (omega (arith, q))

swapped : (s : Sum) (ts : List Sum) (i j : ℕ) → i < length ts → j < length ts
    → AreSame (plus_all s ts) (plus_all s (swap ts i j))
swapped s ts i j p q = subst (λ (us : List Sum). AreSame (plus_all s ts) (plus_all s us)) (swap_is ts i j s p q)
    (any_exchanged ts s s i j p q)

pub in_any_order : (s : Sum) (ts us : List Sum) → IsPermutation ts us → AreSameSums (plus_all s ts) (plus_all s us)
in_any_order s ts us order =
    (IsPermutation-keeps ts (λ (l : List Sum). AreSame (plus_all s ts) (plus_all s l)) (as_is (plus_all s ts))
    (λ l i j p q h. follows (plus_all s ts) (plus_all s l) (plus_all s (swap l i j)) h (swapped s l i j p q)) us
    order).0
