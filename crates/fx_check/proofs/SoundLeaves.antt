-- A leaf with which nothing is wrong is sound, and so are trees of such leaves.
use Rattle.std.proofs.Common.{◌≡◌, ℕ, zero, suc, ◌+◌, ◌-◌, ◌<◌, ◌≤◌, Bool, true, false, ◌&&◌, cond, eqb, List, [], ◌∷◌, ◌++◌, length, refl, ap, sym, subst, ◌∙◌, arith, Result, Ok, Err, Option, Some, None, inl, inr, IfOk, IfErr, OnOk, eqb-true, eq-eqb, slice_index, slice_set, slice_get}
use Rattle.std.specs.List.{AllByRecursion}
use Rattle.fx_base.specs.declared.fault.Fault.{Fault}
use Rattle.fx_elements.specs.Axes.{axis_index}
use Rattle.fx_boxes.specs.Boxes.{Bounds, IsRegion, IsStrictlyInside, below_part, above_part}
use Rattle.fx_tables.specs.declared.traffic.Crossing.{Crossing}
use Rattle.fx_tables.specs.Classes.{Class}
use Rattle.fx_tables.specs.Network.{Net, entries}
use Rattle.fx_tables.specs.Ranks.{IsNetwork}
use Rattle.fx_leaf.specs.declared.leaf.Counted.{Counted}
use Rattle.fx_cert.specs.declared.item.Version.{Version}
use Rattle.fx_cert.specs.declared.item.Version.TheVariants.{One, Two}
use Rattle.fx_leaf.specs.Certificates.{Tree, Leaf, Uncounted, Split, SoundTree, Sound}
use Rattle.fx_leaf.specs.SoundLeaves.{SoundLeaf, SoundNever}
use Rattle.fx_leaf.proofs.LeafAnswers.{answer_sound, answer_every, answer_none, never_sound, never_every, never_none}
use Rattle.fx_leaf.specs.Leaves.{NoneIsSound, NeverIsUnsound}
use Rattle.fx_leaf.specs.Leaves.NeverIsUnsound.{cut as is_cut, unassigned as is_unassigned, differing as is_differing, many as is_many, once as is_once}
use Rattle.fx_leaf.specs.Leaves.NoneIsSound.{cut, unassigned, differing, many, never}
use Rattle.fx_base.specs.Fault.{fault_at}
use Rattle.fx_base.specs.declared.fault.Place.TheVariants as places
use Rattle.fx_check.specs.Judging.{judge_of, same_leaf, sound_leaf, sound_never, unless_same, unless_never, IsWrong}
use Rattle.fx_traffic.specs.Targets.{Target, targets_along, targets_from, targets_of, AreRegions}
use Rattle.fx_check.specs.Certificates.{IsShallow, AllCounted, AreFor, in_a_row}
use Rattle.fx_check.proofs.Trees.{IsRight, AllRight}

-- a sound tree for each target, in order
abbrev pub AllSound : Net → List Target → List Tree → Type 0
AllSound net [] [] = Unit {0}
AllSound net (t ∷ ts) (x ∷ xs) = SoundTree net t.crossings t.exempt t.region x × AllSound net ts xs
AllSound net [] (x ∷ xs) = ⊥
AllSound net (t ∷ ts) [] = ⊥

-- ---- regions of parts

lowered : (highs : List ℕ) (i at : ℕ) (f : ℕ → ℕ) → f i < at → (k : ℕ) → f k ≤ slice_index highs k → f k
    ≤ slice_index (slice_set highs i (at - 1)) k
lowered [] i at f lt k h = h
lowered (x ∷ xs) zero at f lt zero h = omega (arith, lt)
lowered (x ∷ xs) zero at f lt (suc k) h = h
lowered (x ∷ xs) (suc i) at f lt zero h = h
lowered (x ∷ xs) (suc i) at f lt (suc k) h = lowered xs i at (λ n. f (suc n)) lt k h

raised : (lows : List ℕ) (i at : ℕ) (f : ℕ → ℕ) → at ≤ f i → (k : ℕ) → slice_index lows k ≤ f k
    → slice_index (slice_set lows i at) k ≤ f k
raised [] i at f le k h = h
raised (x ∷ xs) zero at f le zero h = le
raised (x ∷ xs) zero at f le (suc k) h = h
raised (x ∷ xs) (suc i) at f le zero h = h
raised (x ∷ xs) (suc i) at f le (suc k) h = raised xs i at (λ n. f (suc n)) le k h

below_region : (b : Bounds) (i at : ℕ) → IsRegion b → IsStrictlyInside b i at → IsRegion (below_part b i at)
below_region b i at r inside k small = (
  lowered b.high i at (slice_index b.low) inside.0 k (r k small).0,
  let top : slice_index (slice_set b.high i (at - 1)) k ≤ slice_index b.high k =
      raised b.high i (at - 1) (slice_index b.high) (omega (arith, inside.1)) k (omega arith) in
      omega (arith, top, (r k small).1),
)

above_region : (b : Bounds) (i at : ℕ) → IsRegion b → IsStrictlyInside b i at → IsRegion (above_part b i at)
above_region b i at r inside k small = (raised b.low i at (slice_index b.high) inside.1 k (r k small).0, (r k small).1)

-- ---- leaves

both : (a b : Bool) → (a && b) ≡ true → (a ≡ true) × (b ≡ true)
both true b h = (refl, h)
both false b h = absurd cc

is_same : (a b : Counted) → same_leaf a b ≡ true → (a.crossing ≡ b.crossing) × (a.point ≡ b.point)
    × (a.process ≡ b.process)
is_same a b e =
    let k = both (eqb a.crossing b.crossing) (eqb a.point b.point && eqb a.process b.process) e in
    let l = both (eqb a.point b.point) (eqb a.process b.process) k.1 in
    (eqb-true a.crossing b.crossing k.0, eqb-true a.point b.point l.0, eqb-true a.process b.process l.1)

same_as_itself : (a : Counted) → same_leaf a a ≡ true
same_as_itself a = rw (eq-eqb a.crossing a.crossing refl, eq-eqb a.point a.point refl, eq-eqb a.process a.process refl)
    refl

-- 410 unless the leaves are the same
abbrev unless : Bool → Option ℕ
unless same = cond {A = Option ℕ} same None (Some 410)

module _ (net : Net) (is_net : IsNetwork net) where
  leaf_sound : (t : Target) (b : Bounds) (l : Counted) → IsRegion b → judge_of net t b (Some l) ≡ None
      → SoundLeaf net t.crossings b l.crossing l.point l.process
  leaf_sound t b l r e = go (sound_leaf net t.crossings b)
      (answer_sound net t.crossings b is_net r (sound_leaf net t.crossings b) refl) e where
        by_test : (c : Counted) (same : Bool) → same_leaf c l ≡ same
            → SoundLeaf net t.crossings b c.crossing c.point c.process
            → cond same (◌≡◌ {A = Option ℕ} None None) (◌≡◌ {A = Option ℕ} (Some 410) None)
            → SoundLeaf net t.crossings b l.crossing l.point l.process
        by_test c true is sound h = let s = is_same c l is in rw (← s.0, ← s.1, ← s.2) sound
        by_test c false is sound h = absurd cc

        chosen : (same : Bool) → unless same ≡ None
            → cond same (◌≡◌ {A = Option ℕ} None None) (◌≡◌ {A = Option ℕ} (Some 410) None)
        chosen true e = e
        chosen false e = e

        go : (answer : Result Counted Fault) → IfOk answer
            (λ c. SoundLeaf net t.crossings b c.crossing c.point c.process)
            → unless_same l answer ≡ None → SoundLeaf net t.crossings b l.crossing l.point l.process
        go (Err f) sound e = absurd cc
        go (Ok c) sound e = by_test c (same_leaf c l) refl sound (chosen (same_leaf c l) e)

  leaf_right : (t : Target) (b : Bounds) (l : Counted) → IsRegion b
      → SoundLeaf net t.crossings b l.crossing l.point l.process → judge_of net t b (Some l) ≡ None
  leaf_right t b l r sound =
      ap (unless_same l) (answer_every net t.crossings b is_net r (sound_leaf net t.crossings b) refl l.crossing l.point
      l.process sound) ∙ ap unless (same_as_itself l)

  pub leaf_wrong : (t : Target) (b : Bounds) (l : Counted) (n : ℕ) → IsRegion b → judge_of net t b (Some l) ≡ Some n
      → IsWrong net t.crossings b l n
  leaf_wrong t b l n r e = go (sound_leaf net t.crossings b)
      (answer_sound net t.crossings b is_net r (sound_leaf net t.crossings b) refl)
      (answer_none net t.crossings b is_net r (sound_leaf net t.crossings b) refl) e where
        by_number : (f : Fault) → NoneIsSound net t.crossings b f → f.number ≡ n
            → NoneIsSound net t.crossings b (fault_at n places.None)
        by_number f (cut h) is = rw (← is) (cut h)
        by_number f (unassigned h a) is = rw (← is) (unassigned h a)
        by_number f (differing h a) is = rw (← is) (differing h a)
        by_number f (many h a) is = rw (← is) (many h a)
        by_number f (never h a) is = rw (← is) (never h a)

        by_test : (c : Counted) (same : Bool) → same_leaf c l ≡ same
            → SoundLeaf net t.crossings b c.crossing c.point c.process → unless same ≡ Some n
            → IsWrong net t.crossings b l n
        by_test c true is sound h = absurd cc
        by_test c false is sound h = inr (
          let k : 410 ≡ n = cc in
              sym k,
          record { other = c; sound = sound; differs = is },
        )

        go : (answer : Result Counted Fault) → IfOk answer
            (λ c. SoundLeaf net t.crossings b c.crossing c.point c.process)
            → IfErr answer (NoneIsSound net t.crossings b) → unless_same l answer ≡ Some n
            → IsWrong net t.crossings b l n
        go (Err f) sound none e = inl (by_number f none (let k : f.number ≡ n = cc in k))
        go (Ok c) sound none e = by_test c (same_leaf c l) refl sound e

  never_here : (t : Target) (b : Bounds) → IsRegion b → judge_of net t b None ≡ None → SoundNever net t.crossings b
  never_here t b r e = go (sound_never net t.crossings b)
      (never_sound net t.crossings b is_net r (sound_never net t.crossings b) refl) e where
        go : (answer : Result (Unit {0}) Fault) → OnOk answer (SoundNever net t.crossings b) → unless_never answer
            ≡ None
            → SoundNever net t.crossings b
        go (Ok x) sound e = sound
        go (Err f) sound e = absurd cc

  -- why a leaf is wrong that says that nothing is counted
  pub never_wrong : (t : Target) (b : Bounds) (n : ℕ) → IsRegion b → judge_of net t b None ≡ Some n
      → NeverIsUnsound net t.crossings b (fault_at n places.None)
  never_wrong t b n r e = go (sound_never net t.crossings b)
      (never_none net t.crossings b is_net r (sound_never net t.crossings b) refl) e where
        by_number : (f : Fault) → NeverIsUnsound net t.crossings b f → f.number ≡ n
            → NeverIsUnsound net t.crossings b (fault_at n places.None)
        by_number f (is_cut h) is = rw (← is) (is_cut h)
        by_number f (is_unassigned h a) is = rw (← is) (is_unassigned h a)
        by_number f (is_differing h a) is = rw (← is) (is_differing h a)
        by_number f (is_many h a) is = rw (← is) (is_many h a)
        by_number f (is_once h a) is = rw (← is) (is_once h a)

        go : (answer : Result (Unit {0}) Fault) → IfErr answer (NeverIsUnsound net t.crossings b) → unless_never answer
            ≡ Some n → NeverIsUnsound net t.crossings b (fault_at n places.None)
        go (Err f) why e = by_number f why (let k : f.number ≡ n = cc in k)
        go (Ok x) why e = absurd cc

  -- ---- trees

  tree_sound : (z : Version) (t : Target) (b : Bounds) (d : ℕ) (x : Tree) → IsRegion b
      → IsRight (judge_of net) z t b d x → SoundTree net t.crossings t.exempt b x × IsShallow d x
      × (z ≡ One → AllCounted x)
  tree_sound z t b d (Leaf crossing point process) r right = (
    (right.0, leaf_sound t b (record { crossing = crossing; point = point; process = process }) r right.1),
    tt,
    λ one. tt,
  )
  tree_sound One t b d Uncounted r right = absurd (let e = right.0 in cc)
  tree_sound Two t b d Uncounted r right = ((right.0, never_here t b r right.1), tt, λ one. absurd cc)
  tree_sound z t b d (Split a at x y) r right =
      let i = axis_index a in
      let below = tree_sound z t (below_part b i at) (d + 1) x (below_region b i at r right.1) right.2 in
      let above = tree_sound z t (above_part b i at) (d + 1) y (above_region b i at r right.1) right.3 in
      ((right.1, below.0, above.0), (right.0, below.1, above.1), λ one. (below.2 one, above.2 one))

  tree_right : (z : Version) (t : Target) (b : Bounds) (d : ℕ) (x : Tree) → IsRegion b
      → SoundTree net t.crossings t.exempt b x → (z ≡ One → AllCounted x) → IsShallow d x
      → IsRight (judge_of net) z t b d x
  tree_right z t b d (Leaf crossing point process) r sound counted shallow =
      (sound.0, leaf_right t b (record { crossing = crossing; point = point; process = process }) r sound.1)
  tree_right One t b d Uncounted r sound counted shallow = absurd (counted refl)
  tree_right Two t b d Uncounted r sound counted shallow =
      (sound.0, ap unless_never (never_every net t.crossings b is_net r (sound_never net t.crossings b) refl sound.1))
  tree_right z t b d (Split a at x y) r sound counted shallow =
      let i = axis_index a in (
        shallow.0,
        sound.0,
        tree_right z t (below_part b i at) (d + 1) x (below_region b i at r sound.0) sound.1
            (λ one. (counted one).0) shallow.1,
        tree_right z t (above_part b i at) (d + 1) y
            (above_region b i at r sound.0) sound.2 (λ one. (counted one).1) shallow.2,
      )

  pub all_sound : (z : Version) (ts : List Target) (xs : List Tree) → AreRegions ts → AllRight (judge_of net) z ts xs
      → AllSound net ts xs × AllByRecursion (IsShallow 0) xs × (z ≡ One → AllByRecursion AllCounted xs)
  all_sound z [] [] rs right = (tt, tt, λ one. tt)
  all_sound z [] (x ∷ xs) rs right = absurd right
  all_sound z (t ∷ ts) [] rs right = absurd right
  all_sound z (t ∷ ts) (x ∷ xs) rs right =
      let s = tree_sound z t t.region 0 x rs.0 right.0 in
      let more = all_sound z ts xs rs.1 right.1 in
      ((s.0, more.0), (s.1, more.1), λ one. (s.2 one, more.2 one))

  pub all_right : (z : Version) (ts : List Target) (xs : List Tree) → AreRegions ts → AllSound net ts xs
      → (z ≡ One → AllByRecursion AllCounted xs) → AllByRecursion (IsShallow 0) xs → AllRight (judge_of net) z ts xs
  all_right z [] [] rs sound counted shallow = tt
  all_right z [] (x ∷ xs) rs sound counted shallow = absurd sound
  all_right z (t ∷ ts) [] rs sound counted shallow = absurd sound
  all_right z (t ∷ ts) (x ∷ xs) rs sound counted shallow = (
    tree_right z t t.region 0 x rs.0 sound.0 (λ one. (counted one).0) shallow.0,
    all_right z ts xs rs.1 sound.1
        (λ one. (counted one).1) shallow.1,
  )

-- ---- trees by class and path

-- a tree for each of these paths
abbrev HasTrees : Net → Bool → Bounds → List (List Crossing) → List Tree → Type 0
HasTrees net exempt b paths ys = (m : ℕ) (path : List Crossing) → slice_get paths m ≡ Some path → (x : Tree)
    × (slice_get ys m ≡ Some x) × SoundTree net path exempt b x

along : (net : Net) (c : ℕ) (b : Bounds) (exempt : Bool) (m : ℕ) (paths : List (List Crossing)) (ts : List Target)
    (xs : List Tree) → AllSound net (targets_along c b exempt m paths ++ ts) xs
    → (ys : List Tree) × (zs : List Tree) × HasTrees net exempt b paths ys × AllSound net ts zs
    × (length ys ≡ length paths) × (xs ≡ ys ++ zs)
along net c b exempt m [] ts xs sound = ([], xs, λ k. λ path. λ e. absurd cc, sound, refl, refl)
along net c b exempt m (p ∷ ps) ts [] sound = absurd sound
along net c b exempt m (p ∷ ps) ts (x ∷ xs) sound = let rest = along net c b exempt (m + 1) ps ts xs sound.1 in
    (x ∷ rest.0, rest.1, has rest.0 rest.2, rest.3, ap suc rest.4, ap (λ w. x ∷ w) rest.5) where
      has : (ys : List Tree) → HasTrees net exempt b ps ys → HasTrees net exempt b (p ∷ ps) (x ∷ ys)
      has ys more zero path e = (
        x,
        refl,
        let same : p ≡ path = cc in
            subst (λ q. SoundTree net q exempt b x) same sound.0,
      )
      has ys more (suc k) path e = more k path e

along_back : (net : Net) (c : ℕ) (b : Bounds) (exempt : Bool) (m : ℕ) (paths : List (List Crossing)) (ts : List Target)
    (ys zs : List Tree) → length ys ≡ length paths → HasTrees net exempt b paths ys → AllSound net ts zs
    → AllSound net (targets_along c b exempt m paths ++ ts) (ys ++ zs)
along_back net c b exempt m [] ts [] zs e has sound = sound
along_back net c b exempt m [] ts (y ∷ ys) zs e has sound = absurd (omega (arith, e))
along_back net c b exempt m (p ∷ ps) ts [] zs e has sound = absurd (omega (arith, e))
along_back net c b exempt m (p ∷ ps) ts (y ∷ ys) zs e has sound =
    let first = has 0 p refl in
    let same : y ≡ first.0 = let f = first.1 in cc in (
      rw same first.2,
      along_back net c b exempt (m + 1) ps ts ys zs (omega (arith, e))
          (λ k. λ path. λ f. has (suc k) path f) sound,
    )

-- trees for each of these classes
abbrev HaveTrees : Net → List Class → List (List Tree) → Type 0
HaveTrees net classes trees = (c : ℕ) (class : Class) → slice_get classes c ≡ Some class
    → HasTrees net class.exempt class.region class.paths (entries (slice_get trees c))

by_class : (net : Net) (c : ℕ) (classes : List Class) (xs : List Tree) → AllSound net (targets_from c classes) xs
    → (trees : List (List Tree)) × HaveTrees net classes trees × AreFor classes trees × (xs ≡ in_a_row trees)
by_class net c [] [] sound = ([], λ k. λ class. λ e. absurd cc, tt, refl)
by_class net c [] (x ∷ xs) sound = absurd sound
by_class net c (k ∷ ks) xs sound =
    let first = along net c k.region k.exempt 1 k.paths (targets_from (c + 1) ks) xs sound in
    let rest = by_class net (c + 1) ks first.1 first.3 in
    (first.0 ∷ rest.0, have first.0 rest.0 first.2 rest.1, (first.4, rest.2), first.5 ∙ ap (λ w. first.0 ++ w) rest.3)
  where
    have : (ys : List Tree) (trees : List (List Tree)) → HasTrees net k.exempt k.region k.paths ys
        → HaveTrees net ks trees → HaveTrees net (k ∷ ks) (ys ∷ trees)
    have ys trees h more zero class e = let same : k ≡ class = cc in
        subst (λ q. HasTrees net q.exempt q.region q.paths ys) same h
    have ys trees h more (suc n) class e = more n class e

by_class_back : (net : Net) (c : ℕ) (classes : List Class) (trees : List (List Tree)) → AreFor classes trees
    → HaveTrees net classes trees → AllSound net (targets_from c classes) (in_a_row trees)
by_class_back net c [] [] each have = tt
by_class_back net c [] (ys ∷ trees) each have = absurd each
by_class_back net c (k ∷ ks) [] each have = absurd each
by_class_back net c (k ∷ ks) (ys ∷ trees) each have =
    along_back net c k.region k.exempt 1 k.paths (targets_from (c + 1) ks) ys (in_a_row trees) each.0 (have 0 k refl)
    (by_class_back net (c + 1) ks trees each.1 (λ n. λ class. λ e. have (suc n) class e))

pub sound_of : (net : Net) (classes : List Class) (xs : List Tree) → AllSound net (targets_of classes) xs
    → (trees : List (List Tree)) × Sound net classes trees × AreFor classes trees × (xs ≡ in_a_row trees)
sound_of net classes xs sound = let made = by_class net 1 classes xs sound in
    (made.0, go made.0 made.1, made.2, made.3) where
      go : (trees : List (List Tree)) → HaveTrees net classes trees → Sound net classes trees
      go trees have zero m class path e f = absurd cc
      go trees have (suc c) zero class path e f = absurd cc
      go trees have (suc c) (suc m) class path e f = have c class e m path f

pub sound_back : (net : Net) (classes : List Class) (trees : List (List Tree)) → AreFor classes trees
    → Sound net classes trees → AllSound net (targets_of classes) (in_a_row trees)
sound_back net classes trees each sound =
    by_class_back net 1 classes trees each (λ c. λ class. λ e. λ m. λ path. λ f. sound (suc c) (suc m) class path e f)
