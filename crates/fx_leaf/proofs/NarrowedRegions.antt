-- Regions that wait for their turn stay narrowed while others are looked at.
use Rattle.std.proofs.Common.{◌≡◌, ℕ, zero, suc, ◌-◌, ◌≤◌, List, [], ◌∷◌, ◌++◌, inl, inr, arith, slice_index, slice_set}
use Rattle.fx_boxes.specs.Boxes.{Bounds, IsInside, IsStrictlyInside, below_part, above_part}
use Rattle.fx_leaf.specs.PathSelections.{PathSelection, IsNarrowed, AllOver, AllUnder, AreNarrowed}

-- ---- parts of a region

set_below : (xs : List ℕ) (i v : ℕ) → v ≤ slice_index xs i → (k : ℕ) → slice_index (slice_set xs i v) k
    ≤ slice_index xs k
set_below [] i v le k = omega arith
set_below (x ∷ xs) zero v le zero = le
set_below (x ∷ xs) zero v le (suc k) = omega arith
set_below (x ∷ xs) (suc i) v le zero = omega arith
set_below (x ∷ xs) (suc i) v le (suc k) = set_below xs i v le k

set_above : (xs : List ℕ) (i v : ℕ) → slice_index xs i ≤ v → (k : ℕ) → slice_index xs k
    ≤ slice_index (slice_set xs i v) k
set_above [] i v le k = omega arith
set_above (x ∷ xs) zero v le zero = le
set_above (x ∷ xs) zero v le (suc k) = omega arith
set_above (x ∷ xs) (suc i) v le zero = omega arith
set_above (x ∷ xs) (suc i) v le (suc k) = set_above xs i v le k

pub below_lies : (b : Bounds) (i at : ℕ) → IsStrictlyInside b i at → IsInside (below_part b i at) b
below_lies b i at inside f h k small = (
  (h k small).0,
  let top = set_below b.high i (at - 1) (omega (arith, inside.1)) k in
      omega (arith, top, (h k small).1),
)

pub above_lies : (b : Bounds) (i at : ℕ) → IsStrictlyInside b i at → IsInside (above_part b i at) b
above_lies b i at inside f h k small =
    (let low = set_above b.low i at (omega (arith, inside.0)) k in omega (arith, low, (h k small).0), (h k small).1)

-- what is apart from a region is apart from each part of it
pub part_narrowed : (xs : List PathSelection) (b part : Bounds) (m : ℕ) → IsInside part b → IsNarrowed xs b m
    → IsNarrowed xs part m
part_narrowed xs b part m inside h k d from less = elim (h k d from less) [
  | inl none ↦ inl none
  | inr apart ↦ inr (λ other is f held. apart other is f (inside f held))
]

-- ---- regions that wait

module _ {A : Type 0} (region : A → Bounds) (active : A → ℕ) where
  over_less : (ws : List A) (m n : ℕ) → m ≤ n → AllOver active n ws → AllOver active m ws
  over_less [] m n le h = tt
  over_less (w ∷ ws) m n le h = ((let more = h.0 in omega (arith, more, le)), over_less ws m n le h.1)

  over_last : (ws : List A) (v : A) (n : ℕ) → AllOver active n ws → n ≤ active v → AllOver active n (ws ++ v ∷ [])
  over_last [] v n h le = (le, tt)
  over_last (w ∷ ws) v n h le = (h.0, over_last ws v n h.1 le)

  under_front : (ws : List A) (v : A) (n : ℕ) → AllUnder active n (ws ++ v ∷ []) → AllUnder active n ws × (active v ≤ n)
  under_front [] v n h = (tt, h.0)
  under_front (w ∷ ws) v n h = let r = under_front ws v n h.1 in ((h.0, r.0), r.1)

  under_last : (ws : List A) (v : A) (n : ℕ) → AllUnder active n ws → active v ≤ n → AllUnder active n (ws ++ v ∷ [])
  under_last [] v n h le = (le, tt)
  under_last (w ∷ ws) v n h le = (h.0, under_last ws v n h.1 le)

  -- the last is narrowed, and the others have its number or more
  pub last_narrowed : (xs : List PathSelection) (ws : List A) (v : A) → AreNarrowed region active xs (ws ++ v ∷ [])
      → IsNarrowed xs (region v) (active v)
  last_narrowed xs [] v h = h.0
  last_narrowed xs (w ∷ ws) v h = last_narrowed xs ws v h.2

  others_over : (xs : List PathSelection) (ws : List A) (v : A) → AreNarrowed region active xs (ws ++ v ∷ [])
      → AllOver active (active v) ws
  others_over xs [] v h = tt
  others_over xs (w ∷ ws) v h = ((under_front ws v (active w) h.1).1, others_over xs ws v h.2)

  -- without the last
  pub front_narrowed : (xs : List PathSelection) (ws : List A) (v : A) → AreNarrowed region active xs (ws ++ v ∷ [])
      → AreNarrowed region active xs ws
  front_narrowed xs [] v h = tt
  front_narrowed xs (w ∷ ws) v h = (h.0, (under_front ws v (active w) h.1).0, front_narrowed xs ws v h.2)

  -- with one more
  put_last : (xs : List PathSelection) (ws : List A) (v : A) → AllOver active (active v) ws
      → IsNarrowed xs (region v) (active v) → AreNarrowed region active xs ws
      → AreNarrowed region active xs (ws ++ v ∷ [])
  put_last xs [] v over new h = (new, tt, tt)
  put_last xs (w ∷ ws) v over new h = (h.0, under_last ws v (active w) h.1 over.0, put_last xs ws v over.1 new h.2)

  -- in another order, of which those from a number on are still apart
  kept : (xs ys : List PathSelection) (n : ℕ) (ws : List A)
      → ((b : Bounds) (m : ℕ) → n ≤ m → IsNarrowed xs b m → IsNarrowed ys b m) → AllOver active n ws
      → AreNarrowed region active xs ws → AreNarrowed region active ys ws
  kept xs ys n [] keeps over h = tt
  kept xs ys n (w ∷ ws) keeps over h = (keeps (region w) (active w) over.0 h.0, h.1, kept xs ys n ws keeps over.1 h.2)

  -- without the last, in another order
  pub still_narrowed : (xs ys : List PathSelection) (ws : List A) (here : A)
      → ((b : Bounds) (m : ℕ) → active here ≤ m → IsNarrowed xs b m → IsNarrowed ys b m)
      → AreNarrowed region active xs (ws ++ here ∷ []) → AreNarrowed region active ys ws
  still_narrowed xs ys ws here keeps h = kept xs ys (active here) ws keeps (others_over xs ws here h)
      (front_narrowed xs ws here h)

  -- the last is split: its parts come next, each with the number of those that count packets of the whole
  pub split_narrowed : (xs ys : List PathSelection) (ws : List A) (here above below : A) → active above ≤ active here
      → active below ≡ active above → IsNarrowed ys (region above) (active above)
      → IsNarrowed ys (region below) (active below)
      → ((b : Bounds) (m : ℕ) → active here ≤ m → IsNarrowed xs b m → IsNarrowed ys b m)
      → AreNarrowed region active xs (ws ++ here ∷ []) → AreNarrowed region active ys ((ws ++ above ∷ []) ++ below ∷ [])
  split_narrowed xs ys ws here above below fewer same up down keeps h =
      let over = others_over xs ws here h in
      let still = still_narrowed xs ys ws here keeps h in
      let over_above = over_less ws (active above) (active here) fewer over in
      let with_above = put_last ys ws above over_above up still in
      let over_below = over_last ws above (active below)
      (over_less ws (active below) (active here) (omega (arith, fewer, same)) over) (omega (arith, same)) in
      put_last ys (ws ++ above ∷ []) below over_below down with_above
