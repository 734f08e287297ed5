-- What is ahead lies within its target, which is one of those to be shown.
use Rattle.std.proofs.Common.{◌≡◌, ℕ, zero, suc, ◌+◌, Bool, List, [], ◌∷◌, ◌++◌, map, refl, arith, Some, slice_get}
use Rattle.std.specs.List.{AllByRecursion}
use Rattle.fx_elements.specs.Axes.{axis_index}
use Rattle.fx_elements.specs.declared.axis.Axis.{Axis}
use Rattle.fx_boxes.specs.Boxes.{Bounds, IsStrictlyInside}
use Rattle.fx_tables.specs.declared.traffic.Crossing.{Crossing}
use Rattle.fx_tables.specs.Classes.{Class}
use Rattle.fx_tables.specs.Network.{Net}
use Rattle.fx_base.specs.Entries.{entry_numbered}
use Rattle.fx_leaf.proofs.NarrowedRegions.{above_lies, below_lies}
use Rattle.fx_leaf.specs.Splits.{IsSplit}
use Rattle.fx_leaf.specs.Splits.IsSplit.{of_selection, of_match}
use Rattle.fx_traffic.specs.Targets.{Target, targets_along, targets_from, targets_of}
use Rattle.fx_search.specs.Fronts.{RegionAhead, SearchFront, root}
use Rattle.fx_search.specs.Growing.{IsTarget, Lies}
use Rattle.fx_search.specs.Fronts.SearchFront.{begins, leaf, split}

-- ---- targets

-- of the classes and paths that come behind some
record IsBehind (ks : List Class) (c : ℕ) (t : Target) : Type 0 where
  at : ℕ
  class : Class
  number : t.class ≡ c + at
  named : slice_get ks at ≡ Some class
  region_is : class.region ≡ t.region
  exempt_is : class.exempt ≡ t.exempt
  path_is : entry_numbered class.paths t.path ≡ Some t.crossings

record IsAlong (c : ℕ) (b : Bounds) (exempt : Bool) (m : ℕ) (paths : List (List Crossing)) (t : Target) : Type 0 where
  at : ℕ
  class_is : t.class ≡ c
  region_is : b ≡ t.region
  exempt_is : exempt ≡ t.exempt
  number : t.path ≡ m + at
  path_is : slice_get paths at ≡ Some t.crossings

joined : (P : Target → Type 0) (ts us : List Target) → AllByRecursion P ts → AllByRecursion P us
    → AllByRecursion P (ts ++ us)
joined P [] us a b = b
joined P (t ∷ ts) us a b = (a.0, joined P ts us a.1 b)

changed : (P Q : Target → Type 0) → ((t : Target) → P t → Q t) → (ts : List Target) → AllByRecursion P ts
    → AllByRecursion Q ts
changed P Q f [] a = tt
changed P Q f (t ∷ ts) a = (f t a.0, changed P Q f ts a.1)

along : (c : ℕ) (b : Bounds) (exempt : Bool) (m : ℕ) (paths : List (List Crossing))
    → AllByRecursion (IsAlong c b exempt m paths) (targets_along c b exempt m paths)
along c b exempt m [] = tt
along c b exempt m (p ∷ ps) = (
  record { at = 0; class_is = refl; region_is = refl; exempt_is = refl; number = omega arith; path_is = refl },
  changed (IsAlong c b exempt (m + 1) ps) (IsAlong c b exempt m (p ∷ ps))
      (λ t h. record {
        at = suc h.at;
        class_is = h.class_is;
        region_is = h.region_is;
        exempt_is = h.exempt_is;
        number =
            omega (arith, h.number);
        path_is = h.path_is;
      }) (targets_along c b exempt (m + 1) ps)
      (along c b exempt (m + 1) ps),
)

of_path : (paths : List (List Crossing)) (n at : ℕ) (cs : List Crossing) → n ≡ 1 + at → slice_get paths at ≡ Some cs
    → entry_numbered paths n ≡ Some cs
of_path paths zero at cs e h = absurd (omega (arith, e))
of_path paths (suc n) at cs e h = let same : n ≡ at = omega (arith, e) in rw same h

behind : (c : ℕ) (ks : List Class) → AllByRecursion (IsBehind ks c) (targets_from c ks)
behind c [] = tt
behind c (k ∷ ks) =
    joined (IsBehind (k ∷ ks) c) (targets_along c k.region k.exempt 1 k.paths) (targets_from (c + 1) ks)
    (changed (IsAlong c k.region k.exempt 1 k.paths) (IsBehind (k ∷ ks) c)
    (λ t h. record {
      at = 0;
      class = k;
      number = omega (arith, h.class_is);
      named = refl;
      region_is =
          h.region_is;
      exempt_is = h.exempt_is;
      path_is = of_path k.paths t.path h.at t.crossings h.number h.path_is;
    })
    (targets_along c k.region k.exempt 1 k.paths) (along c k.region k.exempt 1 k.paths))
    (changed (IsBehind ks (c + 1)) (IsBehind (k ∷ ks) c)
    (λ t h. record {
      at = suc h.at;
      class = h.class;
      number = omega (arith, h.number);
      named = h.named;
      region_is =
          h.region_is;
      exempt_is = h.exempt_is;
      path_is = h.path_is;
    }) (targets_from (c + 1) ks) (behind (c + 1) ks))

of_class : (ks : List Class) (n at : ℕ) (k : Class) → n ≡ 1 + at → slice_get ks at ≡ Some k → entry_numbered ks n
    ≡ Some k
of_class ks zero at k e h = absurd (omega (arith, e))
of_class ks (suc n) at k e h = let same : n ≡ at = omega (arith, e) in rw same h

pub are_targets : (classes : List Class) → AllByRecursion (IsTarget classes) (targets_of classes)
are_targets classes = changed (IsBehind classes 1) (IsTarget classes)
    (λ t h. record {
      class = h.class;
      named = of_class classes t.class h.at h.class h.number h.named;
      region_is =
          h.region_is;
      exempt_is = h.exempt_is;
      path_is = h.path_is;
    }) (targets_of classes) (behind 1 classes)

-- ---- parts of regions

pub split_inside : (net : Net) (path : List Crossing) (b : Bounds) (axis : Axis) (at : ℕ) → IsSplit net path b axis at
    → IsStrictlyInside b (axis_index axis) at
split_inside net path b axis at (of_selection s other meets holder region cut by) = by.inside
split_inside net path b axis at (of_match a reaches cut by) = by.inside

-- ---- fronts

roots_lie : (classes : List Class) (ts : List Target) → AllByRecursion (IsTarget classes) ts
    → AllByRecursion (Lies classes) (map root ts)
roots_lie classes [] h = tt
roots_lie classes (t ∷ ts) h = (
  record { target = h.0; inside = λ f held. held; shallow = omega arith },
  roots_lie
      classes ts h.1,
)

pub all_lie : (net : Net) (classes : List Class) (ahead : List RegionAhead) (n : ℕ)
    → SearchFront net (targets_of classes) ahead n → AllByRecursion (Lies classes) ahead
all_lie net classes ahead n begins = roots_lie classes (targets_of classes) (are_targets classes)
all_lie net classes ahead n (leaf a rest m before sound) = (all_lie net classes (a ∷ rest) m before).1
all_lie net classes ahead n (split a rest m axis at before less is) =
    let h = all_lie net classes (a ∷ rest) m before in
    let inside = split_inside net a.target.crossings a.region axis at is in (
      record {
        target = h.0.target;
        inside = λ f held. h.0.inside f
            (below_lies a.region (axis_index axis) at inside f held);
        shallow = omega (arith, less);
      },
      (
        record {
          target = h.0.target;
          inside =
              λ f held. h.0.inside f (above_lies a.region (axis_index axis) at inside f held);
          shallow =
              omega (arith, less);
        },
        h.1,
      ),
    )
