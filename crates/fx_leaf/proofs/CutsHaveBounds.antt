-- What cuts a region has a bound strictly inside it.
use Rattle.std.proofs.Common.{◌≡◌, inl, inr, ℕ, ◌<◌, ◌≤◌, true, false, cond, List, get_or, Option, Some, None, refl, ◌∙◌, subst, arith, nat_le, nat_lt, IfSome, IfNone}
use Rattle.std.specs.Prelude.{◌&&◌}
use Rattle.fx_elements.specs.declared.axis.Axis.{Axis}
use Rattle.fx_elements.specs.declared.axis.Axis.TheVariants.{Source}
use Rattle.fx_elements.specs.Axes.{Fields, axes, axis_count, axis_index}
use Rattle.fx_elements.proofs.EveryAxis.{axis_at, index_below, on_none}
use Rattle.fx_boxes.specs.Boxes.{Bounds, IsRegion, IsInside, IsDisjoint, Holds}
use Rattle.fx_tables.specs.declared.aggregation.MatchEntry.{MatchEntry}
use Rattle.fx_leaf.specs.declared.regions.Overlap.TheVariants.{Whole, Part, Nothing}
use Rattle.fx_leaf.specs.SoundLeaves.{matches_packet}
use Rattle.fx_leaf.specs.Splits.{IsBound, IsSplitBy, NoSplitBy}
use Rattle.fx_leaf.specs.Overlaps.{low_at, high_at, common, is_empty, is_within, region_overlap, match_fields}
use Rattle.fx_leaf.proofs.OverlapsAreRight.{In, not_all_of, one_of, not_below, common_low, common_high, common_left, common_right, match_in, match_out, all_in, to_in, from_in, cut_overlap}

-- nothing splits on any axis
pub on_each : (region other : Bounds) → ((k : ℕ) → k < axis_count → NoSplitBy region other (get_or axes k Source))
    → (axis : Axis) → NoSplitBy region other axis
on_each region other h axis = subst (NoSplitBy region other) (axis_at axis) (h (axis_index axis) (index_below axis))

not_at_most : (a b : ℕ) → nat_le a b ≡ false → b < a
not_at_most a b e = grind (arith, e)

-- what cuts a region has a bound strictly inside it
pub uncut_by : (region other : Bounds) → ((axis : Axis) → NoSplitBy region other axis) → region_overlap region other
    ≡ Part → ⊥
uncut_by region other none h =
    elim (is_empty (common region other)) as (λ t. is_empty (common region other) ≡ t
    → cond t Nothing (cond (is_within region other) Whole Part) ≡ Part → ⊥) [
      | true ↦ λ e k. absurd (cc)
      | false ↦ λ e k. elim (is_within region other)
          as (λ t. is_within region other ≡ t → cond t Whole Part ≡ Part → ⊥) [
            | true ↦ λ w m. absurd (cc)
            | false ↦ λ w m. split e w
          ] refl k
    ] refl h
  where
    split : is_empty (common region other) ≡ false → is_within region other ≡ false → ⊥
    split e w =
        let found = not_all_of (λ axis. nat_le (low_at other axis) (low_at region axis) && nat_le (high_at region axis)
        (high_at other axis)) axes w in
        let axis = found.0 in
        let p : nat_lt (high_at (common region other) axis) (low_at (common region other) axis) ≡ false =
        on_none (λ axis. nat_lt (high_at (common region other) axis) (low_at (common region other) axis)) e axis in
        let meet : low_at (common region other) axis ≤ high_at (common region other) axis = not_below _ _ p in
        let low = common_low region other axis in
        let high = common_high region other axis in
        elim (one_of (nat_le (low_at other axis) (low_at region axis))
        (nat_le (high_at region axis) (high_at other axis)) found.1) [
          | inl f ↦ let lt = not_at_most _ _ f in
              (none axis).low (omega (arith, lt, meet, low, high), omega (arith, lt, meet, low, high))
          | inr f ↦ let lt = not_at_most _ _ f in
              (none axis).high (omega (arith, lt, meet, low, high), omega (arith, lt, meet, low, high))
        ]

abbrev Cut : Bounds → Bounds → List MatchEntry → Type 0
Cut left region es = (f : Fields) → (Holds left f → Holds region f × (matches_packet es f ≡ true))
    × (Holds region f × (matches_packet es f ≡ true) → Holds left f)

-- the bounds of what is left of a region that are strictly inside it are those of the match
module _ (region left : Bounds) (es : List MatchEntry) (r : IsRegion region) (cut : Cut left region es)
    (low_in : Holds left left.low) (high_in : Holds left left.high) where
  fields_in : (f : Fields) → Holds left f → In (match_fields es) f
  fields_in f h = let two = (cut f).0 h in match_in es f (all_in region f r (to_in region f two.0)) two.1

  crossing : (axis : Axis) → low_at (common region (match_fields es)) axis
      ≤ high_at (common region (match_fields es)) axis
  crossing axis =
      let a = common_low region (match_fields es) axis in
      let b = common_high region (match_fields es) axis in
      let w = to_in region left.low ((cut left.low).0 low_in).0 in
      let x = w.low axis in
      let y = w.high axis in
      let m = fields_in left.low low_in in
      let u = m.low axis in
      let v = m.high axis in
      omega (arith, a, b, x, y, u, v)

  in_left : (f : Fields) → In (common region (match_fields es)) f → In left f
  in_left f h =
      to_in left f ((cut f).1 (
        from_in region f (common_left region (match_fields es) f h),
        match_out es f
            (common_right region (match_fields es) f h),
      ))

  low_left : In left (common region (match_fields es)).low
  low_left = in_left (common region (match_fields es)).low (record { low = λ axis. omega arith; high = crossing })

  high_left : In left (common region (match_fields es)).high
  high_left = in_left (common region (match_fields es)).high (record { low = crossing; high = λ axis. omega arith })

  pub same_split : (axis : Axis) (at : ℕ) → IsSplitBy region left axis at → IsSplitBy region (match_fields es) axis at
  same_split axis at s = record { inside = s.inside; bound = bound s.bound }
    where
      bound : IsBound left axis at → IsBound (match_fields es) axis at
      bound (inl e) =
          let below = s.inside.0 in
          let m = (fields_in left.low low_in).low axis in
          let p = low_left.low axis in
          let a = common_low region (match_fields es) axis in
          inl (omega (arith, e, below, m, p, a))
      bound (inr e) =
          let above = s.inside.1 in
          let m = (fields_in left.high high_in).high axis in
          let p = high_left.high axis in
          let a = common_high region (match_fields es) axis in
          inr (omega (arith, e, above, m, p, a))

-- the answer for a match
pub match_split : (region left : Bounds) (es : List MatchEntry) (o : Option (Axis × ℕ)) → IsRegion region
    → Cut left region es → Holds left left.low → Holds left left.high → IfSome o (λ s. IsSplitBy region left s.0 s.1)
    → IfSome o (λ s. IsSplitBy region (match_fields es) s.0 s.1)
match_split region left es None r cut low high h = tt
match_split region left es (Some s) r cut low high h = same_split region left es r cut low high s.0 s.1 h

pub none_cut : (region : Bounds) (es : List MatchEntry) → Nothing ≡ region_overlap region (match_fields es)
    → region_overlap region (match_fields es) ≡ Part → ⊥
none_cut region es e h = let k : Nothing ≡ Part = e ∙ h in absurd (cc)

pub no_split : (region left : Bounds) (es : List MatchEntry) (o : Option (Axis × ℕ)) → region_overlap region left
    ≡ region_overlap region (match_fields es) → IfNone o (region_overlap region left ≡ Part → ⊥)
    → IfNone o (region_overlap region (match_fields es) ≡ Part → ⊥)
no_split region left es None e h = λ k. h (e ∙ k)
no_split region left es (Some s) e h = tt

-- what overlaps a region and has a bound strictly inside it cuts the region
pub overlap_cut : (region other : Bounds) (axis : Axis) (at : ℕ) → IsRegion region → (IsDisjoint region other → ⊥)
    → IsSplitBy region other axis at → region_overlap region other ≡ Part
overlap_cut region other axis at r some by = cut_overlap region other some (λ inside. out inside by.bound)
  where
    low_held : Holds region region.low
    low_held k lt = let bounds = r k lt in (omega arith, bounds.0)

    high_held : Holds region region.high
    high_held k lt = let bounds = r k lt in (bounds.0, omega arith)

    out : IsInside region other → IsBound other axis at → ⊥
    out inside (inl e) =
        let m = (to_in other region.low (inside region.low low_held)).low axis in
        let below = by.inside.0 in
        absurd (omega (arith, e, m, below))
    out inside (inr e) =
        let m = (to_in other region.high (inside region.high high_held)).high axis in
        let above = by.inside.1 in
        absurd (omega (arith, e, m, above))
