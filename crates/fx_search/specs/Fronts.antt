-- The states of a search: the beginnings of certificates, and why a search gives up.
use Rattle.std.specs.Prelude.{◌≡◌, ◌≢◌, ◌⊎◌, ◌<◌, ℕ, suc, ◌+◌, min, true, false, List, ◌∷◌, map}
use Rattle.fx_elements.specs.declared.axis.Axis.{Axis}
use Rattle.fx_elements.specs.Axes.{axis_index}
use Rattle.fx_boxes.specs.Boxes.{Bounds, below_part, above_part}
use Rattle.fx_tables.specs.Network.{Net}
use Rattle.fx_leaf.specs.Answers.{NothingCuts}
use Rattle.fx_leaf.specs.Fates.{packet_fate, wanted_fate}
use Rattle.fx_leaf.specs.SoundLeaves.{SoundLeaf, SoundNever}
use Rattle.fx_leaf.specs.Splits.{IsSplit}
use Rattle.fx_traffic.specs.Targets.{Target}
use Rattle.fx_check.specs.FirstRefusal.{line_limit, depth_limit}
use Rattle.fx_steps.specs.WrongRun.{HasNoRun}
use Rattle.fx_search.specs.declared.outcome.Limit.{Limit}
use Rattle.fx_search.specs.declared.outcome.Limit.TheVariants as limits

-- ---- fronts

-- a region of a target whose tree is still to come, and the depth of that tree's root
pub record RegionAhead : Type 0 where
  pub target : Target
  pub region : Bounds
  pub depth : ℕ

abbrev pub root : Target → RegionAhead
root t = record { target = t; region = t.region; depth = 0 }

-- the lower and the upper part of the region
abbrev pub lower : RegionAhead → Axis → ℕ → RegionAhead
lower a axis at = record { target = a.target; region = below_part a.region (axis_index axis) at; depth = a.depth + 1 }

abbrev pub upper : RegionAhead → Axis → ℕ → RegionAhead
upper a axis at = record { target = a.target; region = above_part a.region (axis_index axis) at; depth = a.depth + 1 }

-- a leaf of the kind that the class requires is sound for the region
pub data HasLeaf (net : Net) (a : RegionAhead) : Type 0 where
  counted : (crossing point process : ℕ) → a.target.exempt ≡ false
      → SoundLeaf net a.target.crossings a.region crossing point process → HasLeaf net a
  never : a.target.exempt ≡ true → SoundNever net a.target.crossings a.region → HasLeaf net a

-- after `n` split and leaf lines these regions are ahead: each leaf was sound, each split at a bound of something that
-- cuts
pub data SearchFront (net : Net) (targets : List Target) : List RegionAhead → ℕ → Type 0 where
  begins : SearchFront net targets (map root targets) 0
  leaf : (a : RegionAhead) (rest : List RegionAhead) (n : ℕ) → SearchFront net targets (a ∷ rest) n → HasLeaf net a
      → SearchFront net targets rest (suc n)
  split : (a : RegionAhead) (rest : List RegionAhead) (n : ℕ) (axis : Axis) (at : ℕ)
      → SearchFront net targets (a ∷ rest) n → a.depth < depth_limit → IsSplit net a.target.crossings a.region axis at
      → SearchFront net targets (lower a axis at ∷ upper a axis at ∷ rest) (suc n)

-- ---- why nothing is found

-- something cuts the region
abbrev pub IsCut : Net → RegionAhead → Type 0
IsCut net a = NothingCuts net a.target.crossings a.region → ⊥

-- the most split and leaf lines that are written
abbrev pub most_lines : ℕ → ℕ
most_lines limit = min limit line_limit

-- a certificate of at most `most` split and leaf lines, or a refutation, would be too large
pub data IsTooLarge (net : Net) (targets : List Target) (most : ℕ) : Type 0 where
  -- one more line would be needed
  lines : (a : RegionAhead) (rest : List RegionAhead) → SearchFront net targets (a ∷ rest) most → IsCut net a
      ⊎ HasLeaf net a → IsTooLarge net targets most
  -- a split deeper than allowed would be needed
  depth : (a : RegionAhead) (rest : List RegionAhead) (n : ℕ) → SearchFront net targets (a ∷ rest) n → a.depth
      ≡ depth_limit → IsCut net a → IsTooLarge net targets most
  -- nothing cuts the region, and its least packet hasn't the fate that the class requires, but no run that shows it is
  -- short enough
  steps : (a : RegionAhead) (rest : List RegionAhead) (n : ℕ) → SearchFront net targets (a ∷ rest) n
      → NothingCuts net a.target.crossings a.region
      → packet_fate net a.region.low a.target.crossings ≢ wanted_fate a.target.exempt
      → HasNoRun net a.region.low a.target.crossings a.target.exempt → IsTooLarge net targets most

-- what is needed is too large at this region, because of this limit
pub data IsTooLargeAt (net : Net) (targets : List Target) (most : ℕ) (a : RegionAhead) : Limit → Type 0 where
  at_lines : (rest : List RegionAhead) → SearchFront net targets (a ∷ rest) most → IsCut net a ⊎ HasLeaf net a
      → IsTooLargeAt net targets most a limits.Lines
  at_depth : (rest : List RegionAhead) (n : ℕ) → SearchFront net targets (a ∷ rest) n → a.depth ≡ depth_limit
      → IsCut net a → IsTooLargeAt net targets most a limits.Depth
  at_steps : (rest : List RegionAhead) (n : ℕ) → SearchFront net targets (a ∷ rest) n
      → NothingCuts net a.target.crossings a.region
      → packet_fate net a.region.low a.target.crossings ≢ wanted_fate a.target.exempt
      → HasNoRun net a.region.low a.target.crossings a.target.exempt → IsTooLargeAt net targets most a limits.Steps
