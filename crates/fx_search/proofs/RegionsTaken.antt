-- What a search does about a region, by what is said of it.
use Rattle.std.proofs.Common.{◌≡◌, ◌≢◌, inl, inr, ℕ, ◌+◌, ◌<◌, ◌≤◌, Bool, true, false, List, [], ◌∷◌, ◌++◌, map, suc, refl, sym, ap, subst, ◌∙◌, arith, Some, None}
use Rattle.std.specs.List.{AllByRecursion}
use Rattle.fx_boxes.specs.Boxes.{Bounds, IsRegion, holds}
use Rattle.fx_boxes.proofs.Holding.{holds_if}
use Rattle.fx_cert.specs.declared.item.Item.{Item}
use Rattle.fx_cert.specs.declared.item.Item.TheVariants as item
use Rattle.fx_cert.specs.declared.item.Version.{Version}
use Rattle.fx_elements.specs.declared.axis.Axis.{Axis}
use Rattle.fx_tables.specs.Network.{Net}
use Rattle.fx_leaf.specs.declared.judgement.Judgement.{Judgement}
use Rattle.fx_leaf.specs.declared.judgement.Judgement.TheVariants as judged
use Rattle.fx_leaf.specs.declared.verdict.Fate.{Fate}
use Rattle.fx_leaf.specs.declared.verdict.Fate.TheVariants as fates
use Rattle.fx_leaf.specs.Answers.{AllHave}
use Rattle.fx_leaf.specs.Fates.{packet_fate, wanted_fate}
use Rattle.fx_leaf.specs.Judgements.{IsJudged}
use Rattle.fx_leaf.specs.SoundLeaves.{SoundLeaf, SoundNever}
use Rattle.fx_traffic.specs.Targets.{Target}
use Rattle.fx_check.specs.Certificates.{IsWritable}
use Rattle.fx_check.specs.FirstRefusal.{depth_limit}
use Rattle.fx_search.specs.Fronts.{RegionAhead, SearchFront, HasLeaf, IsTooLargeAt, lower, upper, root}
use Rattle.fx_search.specs.Fronts.SearchFront.{begins, leaf, split}
use Rattle.fx_search.specs.Fronts.HasLeaf.{counted, never}
use Rattle.fx_search.specs.Fronts.IsTooLargeAt.{at_lines as too_many, at_depth as too_deep}
use Rattle.fx_search.specs.declared.outcome.Limit.TheVariants as limits
use Rattle.fx_search.specs.Growing.{IsGrowing, IsWrongAt, leaf_item, opening_items}
use Rattle.fx_search.proofs.GrowingCertificate.{leaf_begun, never_begun, split_begun}

abbrev IsShallowEnough : RegionAhead → Type 0
IsShallowEnough a = a.depth ≤ depth_limit

roots_shallow : (ts : List Target) → AllByRecursion IsShallowEnough (map root ts)
roots_shallow [] = tt
roots_shallow (t ∷ ts) = (omega arith, roots_shallow ts)

all_shallow : (net : Net) (targets : List Target) (ahead : List RegionAhead) (n : ℕ) → SearchFront net targets ahead n
    → AllByRecursion IsShallowEnough ahead
all_shallow net targets ahead n begins = roots_shallow targets
all_shallow net targets ahead n (leaf a rest m before sound) = (all_shallow net targets (a ∷ rest) m before).1
all_shallow net targets ahead n (split a rest m axis at before less is) =
    (omega (arith, less), (omega (arith, less), (all_shallow net targets (a ∷ rest) m before).1))

pub written_more : (xs ys : List Item) → AllByRecursion IsWritable xs → AllByRecursion IsWritable ys
    → AllByRecursion IsWritable (xs ++ ys)
written_more [] ys a b = b
written_more (x ∷ xs) ys a b = (a.0, written_more xs ys a.1 b)

module _ (net : Net) (targets : List Target) (version : Version) (most : ℕ) (items new : List Item) (lines : ℕ)
    (a : RegionAhead) (as' : List RegionAhead) (g : IsGrowing net targets version most items lines (a ∷ as')) where
  -- ---- a line more

  pub cut_taken : (axis : Axis) (at : ℕ) → IsJudged net a.target.crossings a.region (judged.Cut axis at) → lines < most
      → a.depth < depth_limit → new ≡ items ++ (opening_items a ++ item.Split axis at ∷ [])
      → AllByRecursion IsWritable new
      → IsGrowing net targets version most new (lines + 1) (lower a axis at ∷ upper a axis at ∷ as')
  cut_taken axis at is less deep same written =
      record {
        front = let f = split a as' lines axis at g.front deep is.1 in let e : lines + 1 ≡ suc lines = omega arith in
            rw e f;
        begun = rw same (split_begun net targets version items a as' lines axis at deep is.1 g.begun);
        written = written;
        few = omega (arith, less);
      }

  pub leaf_taken : (j : Judgement) (i : Item) → IsJudged net a.target.crossings a.region j → leaf_item j a.target.exempt
      ≡ Some i → lines < most → new ≡ items ++ (opening_items a ++ i ∷ []) → AllByRecursion IsWritable new
      → IsGrowing net targets version most new (lines + 1) as'
  leaf_taken j i is named less same written = go j is a.target.exempt refl named where
    next : HasLeaf net a → SearchFront net targets as' (lines + 1)
    next has = let f = leaf a as' lines g.front has in let e : lines + 1 ≡ suc lines = omega arith in rw e f

    by_once : (crossing point process : ℕ) → SoundLeaf net a.target.crossings a.region crossing point process
        → a.target.exempt ≡ false → item.Leaf crossing point process ≡ i
        → IsGrowing net targets version most new (lines + 1) as'
    by_once crossing point process sound wants e =
        record {
          front = next (counted crossing point process wants sound);
          begun = rw (same, ← e) (leaf_begun net targets version items a as' lines crossing point process wants sound
              g.begun);
          written = written;
          few = omega (arith, less);
        }

    by_never : SoundNever net a.target.crossings a.region → a.target.exempt ≡ true → item.Never ≡ i
        → IsGrowing net targets version most new (lines + 1) as'
    by_never sound wants e =
        record {
          front = next (never wants sound);
          begun = rw (same, ← e) (never_begun net targets version items a as' lines wants sound g.begun);
          written = written;
          few = omega (arith, less);
        }

    go : (k : Judgement) → IsJudged net a.target.crossings a.region k → (exempt : Bool) → a.target.exempt ≡ exempt
        → leaf_item k exempt ≡ Some i → IsGrowing net targets version most new (lines + 1) as'
    go (judged.Cut axis at) k exempt wants e = absurd cc
    go (judged.Once c) k true wants e = absurd cc
    go (judged.Once c) k false wants e = by_once c.crossing c.point c.process k.0 wants
        (let same : item.Leaf c.crossing c.point c.process ≡ i = cc in same)
    go judged.Never k true wants e = by_never k.0 wants (let same : item.Never ≡ i = cc in same)
    go judged.Never k false wants e = absurd cc
    go judged.Many k exempt wants e = absurd cc
    go judged.Differing k exempt wants e = absurd cc
    go judged.Unassigned k exempt wants e = absurd cc

  -- ---- no line

  at_most : most ≤ lines → SearchFront net targets (a ∷ as') most
  at_most le = let n : lines ≡ most = omega (arith, le, g.few) in subst (SearchFront net targets (a ∷ as')) n g.front

  pub cut_too_long : (axis : Axis) (at : ℕ) → IsJudged net a.target.crossings a.region (judged.Cut axis at) → most
      ≤ lines → IsTooLargeAt net targets most a limits.Lines
  cut_too_long axis at is le = too_many as' (at_most le) (inl is.0)

  pub cut_too_deep : (axis : Axis) (at : ℕ) → IsJudged net a.target.crossings a.region (judged.Cut axis at)
      → depth_limit ≤ a.depth → IsTooLargeAt net targets most a limits.Depth
  cut_too_deep axis at is le = let h = all_shallow net targets (a ∷ as') lines g.front in
      too_deep as' lines g.front (omega (arith, le, h.0)) is.0

  pub leaf_too_long : (j : Judgement) (i : Item) → IsJudged net a.target.crossings a.region j
      → leaf_item j a.target.exempt ≡ Some i → most ≤ lines → IsTooLargeAt net targets most a limits.Lines
  leaf_too_long j i is named le = too_many as' (at_most le) (inr (go j is a.target.exempt refl named)) where
    go : (k : Judgement) → IsJudged net a.target.crossings a.region k → (exempt : Bool) → a.target.exempt ≡ exempt
        → leaf_item k exempt ≡ Some i → HasLeaf net a
    go (judged.Cut axis at) k exempt wants e = absurd cc
    go (judged.Once c) k true wants e = absurd cc
    go (judged.Once c) k false wants e = counted c.crossing c.point c.process wants k.0
    go judged.Never k true wants e = never wants k.0
    go judged.Never k false wants e = absurd cc
    go judged.Many k exempt wants e = absurd cc
    go judged.Differing k exempt wants e = absurd cc
    go judged.Unassigned k exempt wants e = absurd cc

-- ---- no leaf is of the kind that is wanted

lows_held : (b : Bounds) → IsRegion b → holds b b.low ≡ true
lows_held b r = holds_if b b.low (λ k. λ small. (omega arith, (r k small).0))

pub wrong_at : (net : Net) (a : RegionAhead) (j : Judgement) → IsRegion a.region
    → IsJudged net a.target.crossings a.region j → ((axis : Axis) (at : ℕ) → j ≡ judged.Cut axis at → ⊥)
    → leaf_item j a.target.exempt ≡ None → IsWrongAt net a
wrong_at net a j region is uncut none = go j is uncut a.target.exempt refl none where
  has : (f : Fate) → AllHave net a.target.crossings a.region f → (exempt : Bool) → a.target.exempt ≡ exempt
      → f ≢ wanted_fate exempt → packet_fate net a.region.low a.target.crossings ≢ wanted_fate a.target.exempt
  has f all exempt wants other e = other (sym (all a.region.low (lows_held a.region region)) ∙ e ∙ ap wanted_fate wants)

  go : (k : Judgement) → IsJudged net a.target.crossings a.region k
      → ((axis : Axis) (at : ℕ) → k ≡ judged.Cut axis at → ⊥) → (exempt : Bool) → a.target.exempt ≡ exempt
      → leaf_item k exempt ≡ None → IsWrongAt net a
  go (judged.Cut axis at) k not exempt wants e = absurd (not axis at refl)
  go (judged.Once c) k not true wants e =
      ((k.0.selections, k.0.matches), has fates.Once k.1 true wants (λ h. absurd cc))
  go (judged.Once c) k not false wants e = absurd cc
  go judged.Never k not true wants e = absurd cc
  go judged.Never k not false wants e = (
    (k.0.selections, k.0.matches),
    has fates.Never k.1 false wants
        (λ h. absurd cc),
  )
  go judged.Many k not true wants e = (k.0, has fates.Many k.1 true wants (λ h. absurd cc))
  go judged.Many k not false wants e = (k.0, has fates.Many k.1 false wants (λ h. absurd cc))
  go judged.Differing k not true wants e = (k.0, has fates.Differing k.1 true wants (λ h. absurd cc))
  go judged.Differing k not false wants e = (k.0, has fates.Differing k.1 false wants (λ h. absurd cc))
  go judged.Unassigned k not true wants e = (k.0, has fates.Unassigned k.1 true wants (λ h. absurd cc))
  go judged.Unassigned k not false wants e = (k.0, has fates.Unassigned k.1 false wants (λ h. absurd cc))
