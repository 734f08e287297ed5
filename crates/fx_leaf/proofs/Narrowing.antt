-- Selection processes in two parts: those that count packets of a region, and behind them those that are apart from it.
use Rattle.std.proofs.Common.{◌≡◌, inl, inr, ℕ, ◌+◌, ◌<◌, ◌≤◌, List, length, get_or, refl, sym, ap, subst, ◌∙◌, arith}
use Rattle.std.specs.List.{swap}
use Rattle.std.specs.List.Sorted.{IsPermutation}
use Rattle.std.proofs.lemmas.Bool.Decides.{eqb_tells}
use Rattle.std.proofs.lemmas.List.{get_or_default}
use Rattle.std.proofs.lemmas.Bool.{cases_lt}
use Rattle.std.proofs.lemmas.List.Edits.{swapped_from_swap}
use Rattle.std.proofs.lemmas.List.Sorted.{IsPermutation-swap, IsPermutation-trans, IsPermutation-refl}
use Rattle.fx_boxes.specs.Boxes.{Bounds}
use Rattle.fx_leaf.specs.PathSelections.{PathSelection, IsApart, IsNarrowed}

-- those before a place are in two parts, and the others are where they were
pub record IsParted (region : Bounds) (old now : List PathSelection) (kept place : ℕ) : Type 0 where
  pub within : kept ≤ place
  pub overlapping : (k : ℕ) (d : PathSelection) → k < kept → IsApart region (get_or now k d).selection → ⊥
  pub apart : (k : ℕ) (d : PathSelection) → kept ≤ k → k < place → IsApart region (get_or now k d).selection
  pub others : (k : ℕ) (d : PathSelection) → place ≤ k → get_or now k d ≡ get_or old k d
  pub moved : IsPermutation old now

pub none_parted : (region : Bounds) (old : List PathSelection) → IsParted region old old 0 0
none_parted region old = record {
  within = omega arith;
  overlapping = λ k d less. absurd (omega (arith, less));
  apart = λ k d from less. absurd (omega (arith, less));
  others = λ k d le. refl;
  moved = IsPermutation-refl old;
}

module _ (region : Bounds) (old now : List PathSelection) (kept place : ℕ) (x : PathSelection) (lt : place < length now)
    (is : x ≡ get_or now place x) (h : IsParted region old now kept place) where
  here : (d : PathSelection) → get_or now place d ≡ x
  here d = sym (is ∙ get_or_default now place x d lt)

  -- one more that is apart stays where it is
  pub apart_more : IsApart region x.selection → IsParted region old now kept (place + 1)
  apart_more reported = record {
    within = let le = h.within in omega (arith, le);
    overlapping = h.overlapping;
    apart = λ k d from less. elim (eqb_tells k place) [
      | inl same ↦ subst (λ (s : PathSelection). IsApart region s.selection)
          (sym (ap (λ (m : ℕ). get_or now m d) same.1 ∙ here d)) reported
      | inr other ↦ h.apart k d from (let ne = other.1 in omega (arith, ne, less))
    ];
    others = λ k d le. h.others k d (omega (arith, le));
    moved = h.moved;
  }

  -- one more that counts packets takes the place of the first that is apart
  pub kept_more : (next : List PathSelection) → next ≡ swap now kept place → (IsApart region x.selection → ⊥)
      → IsParted region old next (kept + 1) (place + 1)
  kept_more next swapped counts =
      let first : kept < length now = let le = h.within in omega (arith, le, lt) in
      record {
        within = let le = h.within in omega (arith, le);
        overlapping = λ k d less. elim (eqb_tells k kept) [
          | inl same ↦ λ it. counts (subst (λ (s : PathSelection). IsApart region s.selection)
              (ap (λ (m : ℕ). get_or next m d) same.1 ∙ (swapped_from_swap now next kept place d first lt swapped).0
              ∙ here d) it)
          | inr other ↦ λ it.
              let ne = other.1 in
              let small : k < kept = omega (arith, ne, less) in
              let le = h.within in
              h.overlapping k d small (subst (λ (s : PathSelection). IsApart region s.selection)
              ((swapped_from_swap now next kept place d first lt swapped).2 k ne
              (λ (e : k ≡ place). omega (arith, e, small, le))) it)
        ];
        apart = λ k d from less. elim (eqb_tells k place) [
          | inl same ↦
              let at = same.1 in
              let before : kept < place = omega (arith, from, at) in
              subst (λ (s : PathSelection). IsApart region s.selection)
              (sym (ap (λ (m : ℕ). get_or next m d) at
              ∙ (swapped_from_swap now next kept place d first lt swapped).1)) (h.apart kept d (omega arith) before)
          | inr other ↦
              let ne = other.1 in
              subst (λ (s : PathSelection). IsApart region s.selection)
              (sym ((swapped_from_swap now next kept place d first lt swapped).2 k
              (λ (e : k ≡ kept). omega (arith, e, from)) ne))
              (h.apart k d (omega (arith, from)) (omega (arith, ne, less)))
        ];
        others = λ k d le.
            let within = h.within in
            (swapped_from_swap now next kept place d first lt swapped).2 k
            (λ (e : k ≡ kept). omega (arith, e, le, within)) (λ (e : k ≡ place). omega (arith, e, le))
            ∙ h.others k d (omega (arith, le));
        moved = IsPermutation-trans old now next h.moved (IsPermutation-swap now next kept place first lt swapped);
      }

-- what was apart before stays so
pub all_narrowed : (region : Bounds) (old now : List PathSelection) (kept active : ℕ) → length now ≡ length old
    → IsParted region old now kept active → IsNarrowed old region active → IsNarrowed now region kept
all_narrowed region old now kept active same h before k d from less = elim (cases_lt k active) [
  | inl lt ↦ h.apart k d from lt
  | inr le ↦ subst (λ (s : PathSelection). IsApart region s.selection) (sym (h.others k d le))
      (before k d le (omega (arith, less, same)))
]
