-- Labels in groups: where one is found, and where none is.
use Rattle.std.proofs.Common.{◌≡◌, ℕ, zero, suc, ◌+◌, ◌-◌, ◌<◌, ◌≤◌, Bool, false, List, [], ◌∷◌, ◌++◌, length, get_or, drop, refl, sym, ap, ◌∙◌, arith, inl, inr, Some, None, position}
use Rattle.std.specs.List.{slice_range}
use Rattle.std.specs.Str.{bytes_eq}
use Rattle.std.proofs.lemmas.Bool.{and_left, cases_lt, cases_Bool, both_ways}
use Rattle.std.proofs.lemmas.List.{get_or_append_left, get_or-append-add, get_or-drop, get_or-take, length-append, length-drop, length-take}
use Rattle.std.proofs.lemmas.List.Folds.{list_any_at}
use Rattle.std.proofs.lemmas.List.Quantifiers.{position-Some}
use Rattle.std.proofs.lemmas.List.Sums.{position_or_len_is}
use Rattle.fx_plan.specs.Labels.{AreGrouped, AreOfDevice, Group, Label, device_labels, is_label, place}
use Rattle.fx_plan.proofs.Numberings.{none_any, none_passes}

-- no label from the first place up to the second is looked for
abbrev pub NoneIn : List ℕ → List ℕ → List Label → ℕ → ℕ → Type 0
NoneIn device name labels from end = (k : ℕ) (d : Label) → from ≤ k → k < end → is_label device name (get_or labels k d)
    ≡ false

-- ---- parts of lists

part_at : {X : Type 0} (xs : List X) (s e j : ℕ) (d : X) → j < e - s → get_or (slice_range xs s e) j d
    ≡ get_or xs (s + j) d
part_at xs s e j d low = get_or-take (e - s) (drop s xs) j d low ∙ get_or-drop s xs j d

part_length : {X : Type 0} (xs : List X) (s e : ℕ) → e ≤ length xs → length (slice_range xs s e) ≡ e - s
part_length xs s e within = simp (length-take, length-drop) (omega arith)

-- ---- a group without what is looked for

pub of_others : (device name : List ℕ) (labels : List Label) (group : Group) → AreOfDevice group labels
    → bytes_eq group.device device ≡ false → NoneIn device name labels group.start group.end
of_others device name labels group own other k d low high =
    and_left (bytes_eq (get_or labels k d).device device) (bytes_eq (get_or labels k d).name name)
    (ap (λ (x : List ℕ). bytes_eq x device) (own k d low high) ∙ other)

pub not_there : (device name : List ℕ) (labels : List Label) (s e : ℕ) → e ≤ length labels → None
    ≡ position (is_label device name) (slice_range labels s e) → NoneIn device name labels s e
not_there device name labels s e within none k d low high =
    let p : Label → Bool = is_label device name in
    let part = slice_range labels s e in
    let j : ℕ = k - s in
    let short : j < e - s = omega arith in
    let inside : j < length part = omega (arith, part_length labels s e within, short) in
    let at : get_or part j d ≡ get_or labels k d = part_at labels s e j d short
    ∙ (let same : s + j ≡ k = omega arith in ap (λ (x : ℕ). get_or labels x d) same) in
    elim (cases_Bool (p (get_or labels k d))) [
      | inl y ↦ absurd (both_ways _ (none_any p part (none_passes p part (sym none)))
          (list_any_at p part j d inside (ap p at ∙ y)))
      | inr n ↦ n
    ]

pub passed : (device name : List ℕ) (labels : List Label) (from : ℕ) (group : Group) → group.start ≡ from
    → NoneIn device name labels 0 from → NoneIn device name labels group.start group.end
    → NoneIn device name labels 0 group.end
passed device name labels from group is before here k d low high =
    elim (cases_lt k from) [
      | inl lt ↦ before k d low lt
      | inr le ↦ here k d (omega (arith, is, le)) high
    ]

-- ---- what is found

pub found_at : (device name : List ℕ) (labels : List Label) (s e n : ℕ) → e ≤ length labels
    → NoneIn device name labels 0 s → Some n ≡ position (is_label device name) (slice_range labels s e) → s + n
    ≡ place labels device name
found_at device name labels s e n within before some =
    let p : Label → Bool = is_label device name in
    let part = slice_range labels s e in
    let d : Label = record { device = device; name = name } in
    let at = position-Some p part n d (sym some) in
    let short : n < e - s = omega (arith, at.0, part_length labels s e within) in
    let fits : s + n ≤ length labels = omega arith in
    sym (position_or_len_is p labels (s + n) d fits
    (λ k low. elim (cases_lt k s) [
      | inl lt ↦ before k d (omega arith) lt
      | inr le ↦
          (let j : ℕ = k - s in
          let less : j < n = omega arith in
          let same : s + j ≡ k = omega arith in
          ap p (sym (part_at labels s e j d (omega arith) ∙ ap (λ (x : ℕ). get_or labels x d) same)) ∙ at.2 j less)
    ])
    (λ _. ap p (sym (part_at labels s e n d short)) ∙ at.1))

pub nowhere : (device name : List ℕ) (labels : List Label) → NoneIn device name labels 0 (length labels) → length labels
    ≡ place labels device name
nowhere device name labels none =
    sym (position_or_len_is (is_label device name) labels (length labels) (record { device = device; name = name })
    (omega arith) (λ k low. none k _ (omega arith) low) (λ low. absurd (omega arith)))

-- ---- a group more

grown : (group : Group) (labels new : List Label) → group.end ≤ length labels → AreOfDevice group labels
    → AreOfDevice group (labels ++ new)
grown group labels new within own k d low high =
    let here : k < length labels = omega arith in
    ap (λ (l : Label). l.device) (get_or_append_left labels new d k here) ∙ own k d low high

pub one_group_more : (from : ℕ) (labels new : List Label) (groups : List Group) (group : Group)
    → AreGrouped from labels groups (length labels) → group.start ≡ length labels → group.end ≡ length (labels ++ new)
    → ((k : ℕ) (d : Label) → k < length new → (get_or new k d).device ≡ group.device)
    → AreGrouped from (labels ++ new) (groups ++ group ∷ []) (length (labels ++ new))
one_group_more from labels new [] group g start end own =
    let long : length (labels ++ new) ≡ length labels + length new = length-append labels new in (
      start ∙ sym g,
      omega (arith, g, end, long),
      omega (arith, end),
      λ k d low high.
          (let j : ℕ = k - length labels in
          let same : length labels + j ≡ k = omega arith in
          let inside : j < length new = omega (arith, end, long) in
          ap (λ (l : Label). l.device) (ap (λ (x : ℕ). get_or (labels ++ new) x d) (sym same)
          ∙ get_or-append-add labels new j d) ∙ own j d inside),
      end,
    )
one_group_more from labels new (first ∷ rest) group g start end own = (
  g.0,
  g.1,
  omega (arith, g.2, length-append labels new),
  grown first labels new g.2 g.3,
  one_group_more first.end
      labels new rest group g.4 start end own,
)

pub own_device : {X : Type 0} (name : X → List ℕ) (device : List ℕ) (things : List X) (k : ℕ) (d : Label) → k
    < length (device_labels name device things) → (get_or (device_labels name device things) k d).device ≡ device
own_device name device [] k d low = absurd (omega arith)
own_device name device (x ∷ xs) zero d low = refl
own_device name device (x ∷ xs) (suc k) d low = own_device name device xs k d (omega arith)
