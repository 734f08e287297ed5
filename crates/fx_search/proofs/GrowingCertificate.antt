-- The certificate that grows: each line more keeps that what completes it makes it whole.
use Rattle.std.proofs.Common.{◌≡◌, ℕ, zero, suc, ◌+◌, ◌<◌, ◌≤◌, Bool, true, false, ◌||◌, cond, eqb, eqb-true, List, [], ◌∷◌, ◌++◌, map, refl, sym, ap, subst, ◌∙◌, arith, Some, slice_get}
use Rattle.std.proofs.lemmas.List.{append_assoc}
use Rattle.std.proofs.Math.Nat.{min-le_right}
use Rattle.std.specs.List.{AllByRecursion}
use Rattle.fx_cert.specs.declared.item.Item.{Item}
use Rattle.fx_cert.specs.declared.item.Item.TheVariants as item
use Rattle.fx_cert.specs.declared.item.Version.{Version}
use Rattle.fx_cert.specs.declared.item.Version.TheVariants.{One, Two}
use Rattle.fx_elements.specs.declared.axis.Axis.{Axis}
use Rattle.fx_elements.specs.Axes.{axis_index}
use Rattle.fx_tables.specs.Classes.{Class}
use Rattle.fx_tables.specs.Network.{Net}
use Rattle.fx_base.specs.Entries.{entry_numbered}
use Rattle.fx_tables.specs.declared.traffic.Crossing.{Crossing}
use Rattle.fx_boxes.specs.Boxes.{Bounds, above_part, below_part}
use Rattle.fx_leaf.specs.Certificates.{Tree, Leaf, Uncounted, Split, SoundTree}
use Rattle.fx_leaf.specs.SoundLeaves.{SoundLeaf, SoundNever}
use Rattle.fx_leaf.specs.Splits.{IsSplit}
use Rattle.fx_traffic.specs.Targets.{Target, targets_of}
use Rattle.fx_check.specs.Certificates.{IsCertificate, AllCounted, IsShallow, IsWritable, body_items, in_a_row, item_line, size, sizes, tree_items}
use Rattle.fx_check.specs.FirstRefusal.{depth_limit, line_limit}
use Rattle.fx_check.proofs.SoundLeaves.{AllSound, sound_back, sound_of}
use Rattle.fx_search.specs.Fronts.{RegionAhead, lower, most_lines, root, upper}
use Rattle.fx_base.specs.Lines.{text_lines}
use Rattle.fx_search.proofs.Texts.{certificate_lines}
use Rattle.fx_search.specs.Found.{certificate_text, AllAtBounds, IsFound, some_exempt, version_for}
use Rattle.fx_search.specs.Growing.{Completes, GrowsTree, IsBegun, IsTarget, opening_items}
use Rattle.fx_search.proofs.AheadWithinTarget.{are_targets, split_inside}

-- ---- a leaf or a split more

regrouped : (items opened rest : List Item) (i : Item) → (items ++ (opened ++ i ∷ [])) ++ rest ≡ items
    ++ (opened ++ (i ∷ rest))
regrouped items opened rest i = append_assoc items (opened ++ i ∷ []) rest
    ∙ ap (λ (w : List Item). items ++ w) (append_assoc opened (i ∷ []) rest)

-- a tree of one line
begun_leaf : (net : Net) (targets : List Target) (version : Version) (items : List Item) (a : RegionAhead)
    (as' : List RegionAhead) (n : ℕ) (x : Tree) (i : Item) → tree_items x ≡ i ∷ [] → size x ≡ 1 → GrowsTree net a x
    → IsBegun net targets version items (a ∷ as') n
    → IsBegun net targets version (items ++ (opening_items a ++ i ∷ [])) as' (n + 1)
begun_leaf net targets version items a as' n x i is one grows begun rest m completes =
    let more = begun (opening_items a ++ (i ∷ rest)) (1 + m) (
      x,
      rest,
      m,
      ap (λ (w : List Item). opening_items a ++ (w ++ rest)) (sym is),
      grows,
      ap (λ (k : ℕ). k + m)
          (sym one),
      completes,
    ) in (
      more.0,
      regrouped items (opening_items a) rest i ∙ more.1,
      let e : n + 1 + m ≡ n + (1 + m) = omega arith in
          rw e more.2,
    )

pub leaf_begun : (net : Net) (targets : List Target) (version : Version) (items : List Item) (a : RegionAhead)
    (as' : List RegionAhead) (n crossing point process : ℕ) → a.target.exempt ≡ false
    → SoundLeaf net a.target.crossings a.region crossing point process
    → IsBegun net targets version items (a ∷ as') n
    → IsBegun net targets version (items ++ (opening_items a ++ item.Leaf crossing point process ∷ [])) as' (n + 1)
leaf_begun net targets version items a as' n crossing point process wanted sound begun =
    begun_leaf net targets version items a as' n (Leaf crossing point process) (item.Leaf crossing point process) refl
    refl (record { sound = (wanted, sound); bounds = tt; shallow = tt }) begun

pub never_begun : (net : Net) (targets : List Target) (version : Version) (items : List Item) (a : RegionAhead)
    (as' : List RegionAhead) (n : ℕ) → a.target.exempt ≡ true → SoundNever net a.target.crossings a.region
    → IsBegun net targets version items (a ∷ as') n
    → IsBegun net targets version (items ++ (opening_items a ++ item.Never ∷ [])) as' (n + 1)
never_begun net targets version items a as' n wanted sound begun =
    begun_leaf net targets version items a as' n Uncounted item.Never refl refl
    (record { sound = (wanted, sound); bounds = tt; shallow = tt }) begun

not_opened : (a : RegionAhead) (d : ℕ) → a.depth ≡ d + 1 → opening_items a ≡ []
not_opened a d e = go (eqb a.depth 0) refl where
  go : (b : Bool) → eqb a.depth 0 ≡ b → cond b (item.Class a.target.class a.target.path ∷ []) [] ≡ []
  go true h = absurd (let z = eqb-true a.depth 0 h in omega (arith, z, e))
  go false h = refl

pub split_begun : (net : Net) (targets : List Target) (version : Version) (items : List Item) (a : RegionAhead)
    (as' : List RegionAhead) (n : ℕ) (axis : Axis) (at : ℕ) → a.depth < depth_limit
    → IsSplit net a.target.crossings a.region axis at
    → IsBegun net targets version items (a ∷ as') n
    → IsBegun net targets version (items ++ (opening_items a ++ item.Split axis at ∷ []))
    (lower a axis at ∷ upper a axis at ∷ as') (n + 1)
split_begun net targets version items a as' n axis at less is begun rest m completes =
    let x = completes.0 in let y = completes.6.0 in let last = completes.6.1 in let k = completes.6.2 in
    let grows : GrowsTree net a (Split axis at x y) = record {
      sound = (split_inside net a.target.crossings a.region axis at is, completes.4.sound, completes.6.4.sound);
      bounds = (is, completes.4.bounds, completes.6.4.bounds);
      shallow = (less, completes.4.shallow, completes.6.4.shallow);
    } in
    let low : opening_items (lower a axis at) ≡ [] = not_opened (lower a axis at) a.depth refl in
    let high : opening_items (upper a axis at) ≡ [] = not_opened (upper a axis at) a.depth refl in
    let behind : completes.1 ≡ tree_items y ++ last = completes.6.3
    ∙ ap (λ (w : List Item). w ++ (tree_items y ++ last)) high in
    let all : rest ≡ tree_items x ++ completes.1 = completes.3
    ∙ ap (λ (w : List Item). w ++ (tree_items x ++ completes.1)) low in
    let joined : item.Split axis at ∷ rest ≡ tree_items (Split axis at x y) ++ last =
    ap (λ (w : List Item). item.Split axis at ∷ w)
    (all ∙ ap (λ (w : List Item). tree_items x ++ w) behind ∙ sym (append_assoc (tree_items x) (tree_items y) last))
    in
    let more = begun (opening_items a ++ (item.Split axis at ∷ rest)) (1 + m) (
      Split axis at x y,
      last,
      k,
      ap (λ (w : List Item). opening_items a ++ w) joined,
      grows,
      omega (arith, completes.5, completes.6.5),
      completes.6.6,
    ) in (
      more.0,
      regrouped items (opening_items a) rest (item.Split axis at) ∙ more.1,
      let e : n + 1 + m ≡ n + (1 + m) =
          omega arith in rw e more.2,
    )

-- ---- the beginning and the end

pub begun_first : (net : Net) (targets : List Target) (version : Version)
    → IsBegun net targets version (item.Header version ∷ []) (map root targets) 0
begun_first net targets version rest m completes = (rest, refl, let e : 0 + m ≡ m = omega arith in rw e completes)

record AreGrown (net : Net) (targets : List Target) (body : List Item) (n : ℕ) : Type 0 where
  trees : List Tree
  sound : AllSound net targets trees
  bounds : AllAtBounds net targets trees
  shallow : AllByRecursion (IsShallow 0) trees
  items_are : body ≡ body_items targets trees
  few : n ≡ sizes trees

grown : (net : Net) (targets : List Target) (body : List Item) (n : ℕ) → Completes net (map root targets) body n
    → AreGrown net targets body n
grown net [] body n c = record { trees = []; sound = tt; bounds = tt; shallow = tt; items_are = c.0; few = c.1 }
grown net (t ∷ ts) body n c =
    let more = grown net ts c.1 c.2 c.6 in
    record {
      trees = c.0 ∷ more.trees;
      sound = (c.4.sound, more.sound);
      bounds = (c.4.bounds, more.bounds);
      shallow = (c.4.shallow, more.shallow);
      items_are = c.3 ∙ ap (λ (w : List Item). item.Class t.class t.path ∷ (tree_items c.0 ++ w)) more.items_are;
      few = c.5 ∙ ap (λ (k : ℕ). size c.0 + k) more.few;
    }

pub found : (net : Net) (classes : List Class) (limit : ℕ) (items : List Item) (n : ℕ) → n ≤ most_lines limit
    → IsBegun net (targets_of classes) (version_for classes) items [] n
    → IsFound net classes limit (items ++ item.End ∷ [])
found net classes limit items n few begun =
    let whole = begun (item.End ∷ []) 0 (refl, refl) in
    let g = grown net (targets_of classes) whole.0 (n + 0) whole.2 in
    let made = sound_of net classes g.trees g.sound in
    record {
      trees = made.0;
      each = made.2;
      sound = made.1;
      shallow = subst (AllByRecursion (IsShallow 0)) made.3 g.shallow;
      bounds = subst (AllAtBounds net (targets_of classes)) made.3 g.bounds;
      items_are = whole.1 ∙ ap (λ (w : List Item). item.Header (version_for classes) ∷ w)
          (g.items_are ∙ ap (body_items (targets_of classes)) made.3);
      few = rw (← made.3) (omega (arith, few, g.few));
    }

-- ---- what is found is a certificate

or_false : (a b : Bool) → (a || b) ≡ false → (a ≡ false) × (b ≡ false)
or_false true b h = absurd cc
or_false false b h = (refl, h)

none_exempt : (ks : List Class) (at : ℕ) (k : Class) → some_exempt ks ≡ false → slice_get ks at ≡ Some k → k.exempt
    ≡ false
none_exempt [] at k e h = absurd cc
none_exempt (x ∷ ks) zero k e h = let same : x ≡ k = cc in
    subst (λ (c : Class). c.exempt ≡ false) same (or_false x.exempt (some_exempt ks) e).0
none_exempt (x ∷ ks) (suc at) k e h = none_exempt ks at k (or_false x.exempt (some_exempt ks) e).1 h

none_numbered : (ks : List Class) (n : ℕ) (k : Class) → some_exempt ks ≡ false → entry_numbered ks n ≡ Some k → k.exempt
    ≡ false
none_numbered ks zero k e h = absurd cc
none_numbered ks (suc n) k e h = none_exempt ks n k e h

tree_counted : (net : Net) (path : List Crossing) (exempt : Bool) (b : Bounds) (x : Tree) → exempt ≡ false
    → SoundTree net path exempt b x → AllCounted x
tree_counted net path exempt b (Leaf crossing point process) e sound = tt
tree_counted net path exempt b Uncounted e sound = absurd (let n = sound.0 in cc)
tree_counted net path exempt b (Split axis at below above) e sound = (
  tree_counted net path exempt (below_part b (axis_index axis) at) below e sound.1,
  tree_counted net path exempt
      (above_part b (axis_index axis) at) above e sound.2,
)

trees_counted : (net : Net) (classes : List Class) (ts : List Target) (xs : List Tree) → some_exempt classes ≡ false
    → AllByRecursion (IsTarget classes) ts → AllSound net ts xs → AllByRecursion AllCounted xs
trees_counted net classes [] [] e are sound = tt
trees_counted net classes [] (x ∷ xs) e are sound = absurd sound
trees_counted net classes (t ∷ ts) [] e are sound = absurd sound
trees_counted net classes (t ∷ ts) (x ∷ xs) e are sound = (
  tree_counted net t.crossings t.exempt t.region x
      (sym are.0.exempt_is ∙ none_numbered classes t.class are.0.class e are.0.named) sound.0,
  trees_counted net
      classes ts xs e are.1 sound.1,
)

first_version : (classes : List Class) → version_for classes ≡ One → some_exempt classes ≡ false
first_version classes h = go (some_exempt classes) h where
  go : (b : Bool) → cond b Two One ≡ One → b ≡ false
  go true e = absurd cc
  go false e = refl

least_most : (limit : ℕ) → most_lines limit ≤ line_limit
least_most limit = min-le_right limit line_limit

certified : (net : Net) (classes : List Class) (limit : ℕ) (items : List Item) → IsFound net classes limit items
    → AllByRecursion IsWritable items → IsCertificate net classes (map item_line items)
certified net classes limit items f written =
    record {
      version = version_for classes;
      trees = f.trees;
      each = f.each;
      sound = f.sound;
      counted = λ one. trees_counted net classes (targets_of classes) (in_a_row f.trees) (first_version classes one)
          (are_targets classes) (sound_back net classes f.trees f.each f.sound);
      shallow = f.shallow;
      lines_are = ap (map item_line) f.items_are;
      writable = subst (AllByRecursion IsWritable) f.items_are written;
      few = let l = least_most limit in omega (arith, l, f.few);
    }

pub certifies : (net : Net) (classes : List Class) (limit : ℕ) (items : List Item) → IsFound net classes limit items
    → AllByRecursion IsWritable items → IsCertificate net classes (text_lines (certificate_text items))
certifies net classes limit items f written =
    rw (certificate_lines items written) (certified net classes limit items f written)
