-- A sound certificate has each packet counted as its class wants.
use Rattle.std.proofs.Common.{◌≡◌, inl, inr, ℕ, zero, suc, ◌+◌, ◌-◌, ◌<◌, ◌≤◌, Bool, true, List, [], ◌∷◌, ◌++◌, map, All, refl, sym, ap, ap₂, ◌∙◌, arith, slice_index, slice_set}
use Rattle.std.proofs.lemmas.Bool.{cases_lt}
use Rattle.fx_elements.specs.Axes.{Fields, axis_index}
use Rattle.fx_boxes.specs.Boxes.{Bounds, holds, below_part, above_part}
use Rattle.fx_boxes.proofs.Holding.{holds_is, holds_if}
use Rattle.fx_tables.specs.declared.traffic.Crossing.{Crossing}
use Rattle.fx_tables.specs.declared.observation.Occurrence.{Occurrence}
use Rattle.fx_tables.specs.Network.{Net}
use Rattle.fx_tables.specs.Classes.{Class}
use Rattle.fx_tables.specs.Occurrences.{occurrences}
use Rattle.fx_machine.specs.Steps.{meet}
use Rattle.fx_leaf.specs.declared.verdict.Fate.{Fate}
use Rattle.fx_leaf.specs.declared.verdict.Fate.TheVariants.{Once, Never}
use Rattle.fx_leaf.specs.Fates.{both, all_happen, act_fate, fate, acts_along, packet_fate, wanted_fate}
use Rattle.fx_leaf.specs.SoundLeaves.{Met, met_along, met_fate, OneCounted, NoneCounted}
use Rattle.fx_leaf.proofs.FateLaws.{all_never}
use Rattle.fx_leaf.specs.Certificates.{AllAsWanted, Tree, Leaf, Uncounted, Split, SoundTree, Sound}

-- a greatest value that is lowered, or a least value that is raised, where the fields allow it
lowered : (highs : List ℕ) (i at : ℕ) (f : ℕ → ℕ) → f i < at → (k : ℕ) → f k ≤ slice_index highs k → f k
    ≤ slice_index (slice_set highs i (at - 1)) k
lowered [] i at f lt k h = h
lowered (x ∷ xs) zero at f lt zero h = omega (arith, lt)
lowered (x ∷ xs) zero at f lt (suc k) h = h
lowered (x ∷ xs) (suc i) at f lt zero h = h
lowered (x ∷ xs) (suc i) at f lt (suc k) h = lowered xs i at (λ n. f (suc n)) lt k h

raised : (lows : List ℕ) (i at : ℕ) (f : ℕ → ℕ) → at ≤ f i → (k : ℕ) → slice_index lows k ≤ f k
    → slice_index (slice_set lows i at) k ≤ f k
raised [] i at f le k h = h
raised (x ∷ xs) zero at f le zero h = le
raised (x ∷ xs) zero at f le (suc k) h = h
raised (x ∷ xs) (suc i) at f le zero h = h
raised (x ∷ xs) (suc i) at f le (suc k) h = raised xs i at (λ n. f (suc n)) le k h

-- the fields of a region that are on one side of a split
below_holds : (region : Bounds) (fields : Fields) (i at : ℕ) → slice_index fields i < at → holds region fields ≡ true
    → holds (below_part region i at) fields ≡ true
below_holds region fields i at lt h =
    let all = holds_is region fields h in
    holds_if (below_part region i at) fields
    (λ k. λ small. ((all k small).0, lowered region.high i at (slice_index fields) lt k (all k small).1))

above_holds : (region : Bounds) (fields : Fields) (i at : ℕ) → at ≤ slice_index fields i → holds region fields ≡ true
    → holds (above_part region i at) fields ≡ true
above_holds region fields i at le h =
    let all = holds_is region fields h in
    holds_if (above_part region i at) fields
    (λ k. λ small. (raised region.low i at (slice_index fields) le k (all k small).0, (all k small).1))

pub map_append' : {A B : Type 0} (f : A → B) (xs ys : List A) → map f (xs ++ ys) ≡ map f xs ++ map f ys
map_append' f [] ys = refl
map_append' f (x ∷ xs) ys = ap (λ zs. f x ∷ zs) (map_append' f xs ys)

-- fates of occurrences, with and without their numbers
module _ (net : Net) (fields : Fields) where
  fates_of_mapped : (n : ℕ) (os : List Occurrence)
      → map (met_fate net fields) (map (λ o. record { crossing = n; occurrence = o }) os)
      ≡ map (act_fate (fate net) net) (map (meet net fields) os)
  fates_of_mapped n [] = refl
  fates_of_mapped n (o ∷ os) = ap (λ fs. act_fate (fate net) net (meet net fields o) ∷ fs) (fates_of_mapped n os)

  pub fates_along : (n : ℕ) (cs : List Crossing) → map (met_fate net fields) (met_along net fields n cs)
      ≡ map (act_fate (fate net) net) (acts_along net fields cs)
  fates_along n [] = refl
  fates_along n (c ∷ cs) =
      map_append' (met_fate net fields) (map (λ o. record { crossing = n; occurrence = o }) (occurrences net c fields))
      (met_along net fields (n + 1) cs) ∙ ap₂ (λ (x y : List Fate). x ++ y)
      (fates_of_mapped n (occurrences net c fields)) (fates_along (n + 1) cs)
      ∙ sym (map_append' (act_fate (fate net) net) (map (meet net fields) (occurrences net c fields))
      (acts_along net fields cs))

  nevers : (ms : List Met) → All (λ m. met_fate net fields m ≡ Never) ms → all_happen (map (met_fate net fields) ms)
      ≡ Never
  nevers [] h = refl
  nevers (m ∷ ms) h = ap₂ both (h 0 m (omega arith)) (nevers ms (λ k. λ d. λ lt. h (suc k) d (omega arith)))

  once_among : (before after : List Met) (m : Met) → All (λ x. met_fate net fields x ≡ Never) before
      → All (λ x. met_fate net fields x ≡ Never) after → met_fate net fields m ≡ Once
      → all_happen (map (met_fate net fields) (before ++ m ∷ after)) ≡ Once
  once_among [] after m b a h = ap₂ both h (nevers after a)
  once_among (x ∷ before) after m b a h =
      ap₂ both (b 0 x (omega arith)) (once_among before after m (λ k. λ d. λ lt. b (suc k) d (omega arith)) a h)

  pub counted_once : (path : List Crossing) (crossing point process : ℕ)
      → OneCounted net path crossing point process fields → packet_fate net fields path ≡ Once
  counted_once path crossing point process c =
      sym (ap all_happen (fates_along 1 path)) ∙ ap (λ ms. all_happen (map (met_fate net fields) ms)) c.all
      ∙ once_among c.before c.after c.named c.never_before c.never_after c.once

  pub counted_never : (path : List Crossing) → NoneCounted net path fields → packet_fate net fields path ≡ Never
  counted_never path c = sym (ap all_happen (fates_along 1 path)) ∙ nevers (met_along net fields 1 path) c

  pub never_counted : (path : List Crossing) → packet_fate net fields path ≡ Never → NoneCounted net path fields
  never_counted path h = all_never (met_fate net fields) (met_along net fields 1 path)
      (ap all_happen (fates_along 1 path) ∙ h)

tree_wanted : (net : Net) (path : List Crossing) (exempt : Bool) (tree : Tree) (region : Bounds) (fields : Fields)
    → SoundTree net path exempt region tree → holds region fields ≡ true → packet_fate net fields path
    ≡ wanted_fate exempt
tree_wanted net path exempt (Leaf crossing point process) region fields sound h =
    counted_once net fields path crossing point process (sound.1.counted fields h) ∙ sym (ap wanted_fate sound.0)
tree_wanted net path exempt Uncounted region fields sound h =
    counted_never net fields path (sound.1.uncounted fields h) ∙ sym (ap wanted_fate sound.0)
tree_wanted net path exempt (Split axis at below above) region fields sound h =
    elim (cases_lt (slice_index fields (axis_index axis)) at) [
      | inl lt ↦ tree_wanted net path exempt below (below_part region (axis_index axis) at) fields sound.1
          (below_holds region fields (axis_index axis) at lt h)
      | inr le ↦ tree_wanted net path exempt above (above_part region (axis_index axis) at) fields sound.2
          (above_holds region fields (axis_index axis) at le h)
    ]

-- a sound certificate
pub sound_wanted : (net : Net) (classes : List Class) (trees : List (List Tree)) → Sound net classes trees
    → AllAsWanted net classes
sound_wanted net classes trees sound c m class path fields at_class at_path h =
    let found = sound c m class path at_class at_path in
    tree_wanted net path class.exempt found.0 class.region fields found.2 h
