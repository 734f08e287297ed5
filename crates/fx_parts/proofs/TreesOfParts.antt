-- A tree that is sound over a part of a network gives one that is sound over the whole.
use Rattle.std.proofs.Common.{◌≡◌, ℕ, zero, suc, ◌-◌, ◌<◌, ◌≤◌, Bool, List, [], ◌∷◌, refl, sym, ◌∙◌, arith, slice_index, slice_set, Some}
use Rattle.fx_elements.specs.Axes.{axis_index}
use Rattle.fx_boxes.specs.Boxes.{Bounds, IsRegion, IsStrictlyInside, below_part, above_part}
use Rattle.fx_tables.specs.declared.traffic.Crossing.{Crossing}
use Rattle.fx_tables.specs.Network.{Net}
use Rattle.fx_tables.specs.Ranks.{IsNetwork}
use Rattle.fx_leaf.specs.declared.verdict.Fate.TheVariants.{Once}
use Rattle.fx_leaf.specs.Certificates.{Tree, Leaf, Uncounted, Split, SoundTree}
use Rattle.fx_leaf.specs.SoundLeaves.{SoundLeaf, SoundNever}
use Rattle.fx_leaf.specs.Verdicts.{path_verdict}
use Rattle.fx_leaf.proofs.Answers.{once_is_sound, no_other_is_sound, never_is_sound, sound_is_never}
use Rattle.fx_parts.specs.Parts.{IsPart, MetersTheSame}
use Rattle.fx_parts.specs.Trees.{SplitAlike}
use Rattle.fx_parts.proofs.VerdictsOfParts.{verdict_same}

-- ---- regions of parts

lowered : (highs : List ℕ) (i at : ℕ) (f : ℕ → ℕ) → f i < at → (k : ℕ) → f k ≤ slice_index highs k → f k
    ≤ slice_index (slice_set highs i (at - 1)) k
lowered [] i at f lt k h = h
lowered (x ∷ xs) zero at f lt zero h = omega (arith, lt)
lowered (x ∷ xs) zero at f lt (suc k) h = h
lowered (x ∷ xs) (suc i) at f lt zero h = h
lowered (x ∷ xs) (suc i) at f lt (suc k) h = lowered xs i at (λ n. f (suc n)) lt k h

raised : (lows : List ℕ) (i at : ℕ) (f : ℕ → ℕ) → at ≤ f i → (k : ℕ) → slice_index lows k ≤ f k
    → slice_index (slice_set lows i at) k ≤ f k
raised [] i at f le k h = h
raised (x ∷ xs) zero at f le zero h = le
raised (x ∷ xs) zero at f le (suc k) h = h
raised (x ∷ xs) (suc i) at f le zero h = h
raised (x ∷ xs) (suc i) at f le (suc k) h = raised xs i at (λ n. f (suc n)) le k h

below_region : (b : Bounds) (i at : ℕ) → IsRegion b → IsStrictlyInside b i at → IsRegion (below_part b i at)
below_region b i at r inside k small = (
  lowered b.high i at (slice_index b.low) inside.0 k (r k small).0,
  let top : slice_index (slice_set b.high i (at - 1)) k ≤ slice_index b.high k =
      raised b.high i (at - 1) (slice_index b.high) (omega (arith, inside.1)) k (omega arith) in
      omega (arith, top, (r k small).1),
)

above_region : (b : Bounds) (i at : ℕ) → IsRegion b → IsStrictlyInside b i at → IsRegion (above_part b i at)
above_region b i at r inside k small = (raised b.low i at (slice_index b.high) inside.1 k (r k small).0, (r k small).1)

-- ---- leaves and trees

module _ (part whole : Net) (places : List ℕ) (is_part : IsPart part whole places) (in_part : IsNetwork part)
    (in_whole : IsNetwork whole) (inner outer : List Crossing) (sees : MetersTheSame part whole places inner outer)
  where
    same_verdict : (region : Bounds) → path_verdict part region inner ≡ path_verdict whole region outer
    same_verdict region = verdict_same part whole places is_part in_part.ranked in_whole.ranked region inner outer sees

    pub leaf_sound : (region : Bounds) (crossing point process : ℕ) → IsRegion region
        → SoundLeaf part inner region crossing point process → (c : ℕ) × (p : ℕ) × (s : ℕ)
        × SoundLeaf whole outer region c p s
    leaf_sound region crossing point process r leaf =
        let once : path_verdict whole region outer ≡ Some Once = sym (same_verdict region)
        ∙ (no_other_is_sound part inner region in_part r crossing point process leaf).0 in
        let found = once_is_sound whole outer region in_whole r once in
        (found.0.crossing, found.0.point, found.0.process, found.2)

    pub never_sound : (region : Bounds) → IsRegion region → SoundNever part inner region → SoundNever whole outer region
    never_sound region r leaf =
        never_is_sound whole outer region in_whole r
        (sym (same_verdict region) ∙ sound_is_never part inner region in_part r leaf)

    pub tree_sound : (exempt : Bool) (region : Bounds) (tree : Tree) → IsRegion region
        → SoundTree part inner exempt region tree → (other : Tree) × SplitAlike tree other
        × SoundTree whole outer exempt region other
    tree_sound exempt region (Leaf crossing point process) r sound =
        let found = leaf_sound region crossing point process r sound.1 in
        (Leaf found.0 found.1 found.2, tt, (sound.0, found.3))
    tree_sound exempt region Uncounted r sound = (Uncounted, tt, (sound.0, never_sound region r sound.1))
    tree_sound exempt region (Split axis at below above) r sound =
        let low = tree_sound exempt (below_part region (axis_index axis) at) below
        (below_region region (axis_index axis) at r sound.0) sound.1 in
        let high = tree_sound exempt (above_part region (axis_index axis) at) above
        (above_region region (axis_index axis) at r sound.0) sound.2 in
        (Split axis at low.0 high.0, (refl, refl, low.1, high.1), (sound.0, low.2, high.2))
