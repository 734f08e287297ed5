-- Lines are accepted exactly where they are those of a certificate.
use Rattle.std.proofs.Common.{◌≡◌, ℕ, zero, suc, ◌+◌, ◌<◌, ◌≤◌, Bool, true, false, ◌&&◌, cond, eqb, ltb, leb, List, [], ◌∷◌, ◌++◌, map, refl, ap, sym, subst, ◌∙◌, arith, Result, Ok, Err, Option, Some, None, append-nil, eqb-true, eq-eqb, leb-true, leb-false, ltb-true, lt-ltb, le-leb, inl, inr, ◌⊎◌}
use Rattle.std.proofs.lemmas.Bool.{lt-leb}
use Rattle.fx_elements.specs.Axes.{axis_index}
use Rattle.fx_elements.specs.declared.axis.Axis.{Axis}
use Rattle.fx_boxes.specs.Boxes.{Bounds, below_part, above_part, IsStrictlyInside}
use Rattle.fx_cert.specs.declared.item.Item.{Item}
use Rattle.fx_cert.specs.declared.item.Item.TheVariants as item
use Rattle.fx_cert.specs.declared.item.Version.{Version}
use Rattle.fx_leaf.specs.declared.leaf.Counted.{Counted}
use Rattle.fx_leaf.specs.Certificates.{Tree, Leaf, Uncounted, Split}
use Rattle.fx_check.specs.Judging.{Judge}
use Rattle.fx_traffic.specs.Targets.{Target}
use Rattle.fx_check.specs.FirstRefusal.{Goal, header, opening, tree, close, ahead, whole, line_limit, depth_limit, may_say_never, leaf_answer, split_answer, parts, after, made_by, LineReading, long, cut, malformed, says, after_reading, made_after, by_number}
use Rattle.fx_check.specs.Certificates.{tree_items, size, sizes, body_items, certificate_items}
use Rattle.fx_check.specs.declared.line_fault.LineFault.{LineFault}
use Rattle.fx_check.specs.declared.line_fault.LineFault.TheVariants as faults

abbrev lines : List Item → List LineReading
lines is = map says is

abbrev leaf_named : ℕ → ℕ → ℕ → Counted
leaf_named crossing point process = record { crossing = crossing; point = point; process = process }

-- each split is strictly inside its region and not too deep, and nothing is wrong with a leaf
abbrev pub IsRight : Judge → Version → Target → Bounds → ℕ → Tree → Type 0
IsRight judge z t b d (Leaf crossing point process) = (t.exempt ≡ false)
    × (judge t b (Some (leaf_named crossing point process)) ≡ None)
IsRight judge z t b d Uncounted = (may_say_never z t ≡ true) × (judge t b None ≡ None)
IsRight judge z t b d (Split a at x y) =
    (d < depth_limit) × IsStrictlyInside b (axis_index a) at
    × IsRight judge z t (below_part b (axis_index a) at) (d + 1) x
    × IsRight judge z t (above_part b (axis_index a) at) (d + 1) y

abbrev pub AllRight : Judge → Version → List Target → List Tree → Type 0
AllRight judge z [] [] = Unit {0}
AllRight judge z (t ∷ ts) (x ∷ xs) = IsRight judge z t t.region 0 x × AllRight judge z ts xs
AllRight judge z [] (x ∷ xs) = ⊥
AllRight judge z (t ∷ ts) [] = ⊥

-- the number of the first fault
abbrev pub at_the_end : List Goal → Option ℕ
at_the_end [] = None
at_the_end (g ∷ gs) = Some 405

abbrev pub on : (List Goal → Option ℕ) → Result (List Goal) ℕ → Option ℕ
on next (Ok left) = next left
on next (Err n) = Some n

abbrev pub verdict : Judge → ℕ → List Goal → List LineReading → Option ℕ
verdict judge made gs [] = at_the_end gs
verdict judge made gs (r ∷ rs) = on (λ left. verdict judge (made_after made r) left rs) (after_reading judge made gs r)

-- the readings say what the goals behind the first line want, in n split and leaf lines
abbrev Fulfils : Judge → List Goal → List LineReading → ℕ → Type 0
Fulfils judge [] rs n = (rs ≡ []) × (n ≡ 0)
Fulfils judge (header ts ∷ gs) rs n = Unit {0}
Fulfils judge (opening t ∷ gs) rs n = (rest : List LineReading) × (rs ≡ says (item.Class t.class t.path) ∷ rest)
    × Fulfils judge gs rest n
Fulfils judge (tree z t b d ∷ gs) rs n = (x : Tree) × (rest : List LineReading) × (m : ℕ)
    × (rs ≡ lines (tree_items x) ++ rest) × IsRight judge z t b d x × (n ≡ size x + m) × Fulfils judge gs rest m
Fulfils judge (close ∷ gs) rs n = (rest : List LineReading) × (rs ≡ says item.End ∷ rest) × Fulfils judge gs rest n

bounded : (a n l : ℕ) → a ≤ l → (0 < n → a + n ≤ l) → a + n ≤ l
bounded a zero l h f = omega arith
bounded a (suc n) l h f = f (omega arith)

chosen : {A : Type 0} (t : Bool) (x y z : A) → cond t x y ≡ z → ((t ≡ true) × (x ≡ z)) ⊎ ((t ≡ false) × (y ≡ z))
chosen true x y z e = inl (refl, e)
chosen false x y z e = inr (refl, e)

both : (a b : Bool) → (a && b) ≡ true → (a ≡ true) × (b ≡ true)
both true b h = (refl, h)
both false b h = absurd cc

abbrev good : List Goal → Result (List Goal) LineFault
good gs = Ok gs

abbrev bad : LineFault → Result (List Goal) LineFault
bad fault = Err fault

leaf_ok : (made : ℕ) (wrong : Option ℕ) (gs left : List Goal) → leaf_answer made wrong gs ≡ Ok left
    → (made < line_limit) × (wrong ≡ None) × (gs ≡ left)
leaf_ok made None gs left e =
    elim (chosen (leb line_limit made) (bad faults.LineCount) (good gs) (good left) e) [
      | inl h ↦ absurd cc
      | inr h ↦ (leb-false line_limit made h.0, refl, cc)
    ]
leaf_ok made (Some n) gs left e =
    elim (chosen (leb line_limit made) (bad faults.LineCount) (bad (faults.Leaf n)) (good left) e) [
      | inl h ↦ absurd cc
      | inr h ↦ absurd cc
    ]

split_ok : (made : ℕ) (b : Bounds) (d k at : ℕ) (gs left : List Goal) → split_answer made b d k at gs ≡ Ok left
    → (made < line_limit) × (d < depth_limit) × IsStrictlyInside b k at × (gs ≡ left)
split_ok made b d k at gs left e =
    elim (chosen (leb line_limit made) (bad faults.LineCount) _ (good left) e) [
      | inl h ↦ absurd cc
      | inr h ↦ elim (chosen (leb depth_limit d) (bad faults.SplitDepth) _ (good left) h.1) [
        | inl i ↦ absurd cc
        | inr i ↦ elim (chosen (ltb _ at && leb at _) (good gs) (bad faults.SplitPlace) (good left) i.1) [
          | inl j ↦ let w = both _ _ j.0 in (
            leb-false line_limit made h.0,
            leb-false depth_limit d i.0,
            (ltb-true _ _ w.0, leb-true _ _ w.1),
            cc,
          )
          | inr j ↦ absurd cc
        ]
      ]
    ]

-- the split and leaf lines among one
abbrev count : Item → ℕ
count i = made_by 0 i

regroup : (xs ys : List Item) (rest : List LineReading) → lines xs ++ (lines ys ++ rest) ≡ lines (xs ++ ys) ++ rest
regroup [] ys rest = refl
regroup (i ∷ xs) ys rest = ap (λ (w : List LineReading). says i ∷ w) (regroup xs ys rest)

joined : (xs ys : List Item) → lines xs ++ lines ys ≡ lines (xs ++ ys)
joined [] ys = refl
joined (i ∷ xs) ys = ap (λ (w : List LineReading). says i ∷ w) (joined xs ys)

split_fulfils : (judge : Judge) (z : Version) (t : Target) (b : Bounds) (d : ℕ) (a : Axis) (at : ℕ) (gs : List Goal)
    (rs : List LineReading) (n : ℕ) → d < depth_limit → IsStrictlyInside b (axis_index a) at
    → Fulfils judge (parts z t b d (axis_index a) at gs) rs n
    → Fulfils judge (tree z t b d ∷ gs) (says (item.Split a at) ∷ rs) (1 + n)
split_fulfils judge z t b d a at gs rs n lt inside f =
    let x = f.0 in let y = f.6.0 in
    let e : rs ≡ lines (tree_items x) ++ (lines (tree_items y) ++ f.6.1) = f.3
    ∙ ap (λ (w : List LineReading). lines (tree_items x) ++ w) f.6.3 in (
      Split a at x y,
      f.6.1,
      f.6.2,
      rw e (ap (λ (w : List LineReading). says (item.Split a at) ∷ w)
          (regroup (tree_items x) (tree_items y) f.6.1)),
      (lt, inside, f.4, f.6.4),
      omega (arith, f.5, f.6.5),
      f.6.6,
    )

fulfils_more : (judge : Judge) (made : ℕ) (gs left : List Goal) (i : Item) (rs : List LineReading) (n : ℕ)
    → after judge made gs i ≡ Ok left → (0 < n → made_by made i + n ≤ line_limit) → Fulfils judge left rs n
    → (m : ℕ) × (0 < m → made + m ≤ line_limit) × Fulfils judge gs (says i ∷ rs) m
fulfils_more judge made [] left i rs n e le f = absurd cc
fulfils_more judge made (header ts ∷ gs) left (item.Header z) rs n e le f = (0, λ h. absurd (omega arith), tt)
fulfils_more judge made (header ts ∷ gs) left (item.Class c m) rs n e le f = absurd cc
fulfils_more judge made (header ts ∷ gs) left (item.Leaf crossing point process) rs n e le f = absurd cc
fulfils_more judge made (header ts ∷ gs) left (item.Split a v) rs n e le f = absurd cc
fulfils_more judge made (header ts ∷ gs) left item.Never rs n e le f = absurd cc
fulfils_more judge made (header ts ∷ gs) left item.End rs n e le f = absurd cc
fulfils_more judge made (opening t ∷ gs) left (item.Header v) rs n e le f = absurd cc
fulfils_more judge made (opening t ∷ gs) left (item.Class c m) rs n e le f =
    elim (chosen (eqb c t.class && eqb m t.path) (good gs) (bad faults.Place) (good left) e) [
      | inl h ↦
          let w = both (eqb c t.class) (eqb m t.path) h.0 in let k : gs ≡ left = cc in
          let same : says (item.Class c m) ∷ rs ≡ says (item.Class t.class t.path) ∷ rs =
          rw (eqb-true c t.class w.0, eqb-true m t.path w.1) refl in
          (n, le, (rs, same, subst (λ (g : List Goal). Fulfils judge g rs n) (sym k) f))
      | inr h ↦ absurd cc
    ]
fulfils_more judge made (opening t ∷ gs) left (item.Leaf crossing point process) rs n e le f = absurd cc
fulfils_more judge made (opening t ∷ gs) left (item.Split a v) rs n e le f = absurd cc
fulfils_more judge made (opening t ∷ gs) left item.Never rs n e le f = absurd cc
fulfils_more judge made (opening t ∷ gs) left item.End rs n e le f = absurd cc
fulfils_more judge made (tree z t b d ∷ gs) left (item.Header v) rs n e le f = absurd cc
fulfils_more judge made (tree z t b d ∷ gs) left (item.Class c m) rs n e le f = absurd cc
fulfils_more judge made (tree z t b d ∷ gs) left (item.Leaf crossing point process) rs n e le f =
    elim (chosen t.exempt (bad faults.Place)
    (leaf_answer made (judge t b (Some (leaf_named crossing point process))) gs) (good left) e) [
      | inl h ↦ absurd cc
      | inr h ↦
          let k = leaf_ok made (judge t b (Some (leaf_named crossing point process))) gs left h.1 in (
            1 + n,
            λ z. omega (arith, bounded (made + 1) n line_limit (omega (arith, k.0)) le),
            (
              Leaf crossing point process,
              rs,
              n,
              refl,
              (h.0, k.1),
              refl,
              subst (λ (g : List Goal). Fulfils judge g rs n) (sym k.2) f,
            ),
          )
    ]
fulfils_more judge made (tree z t b d ∷ gs) left (item.Split a v) rs n e le f =
    let k = split_ok made b d (axis_index a) v (parts z t b d (axis_index a) v gs) left e in (
      1 + n,
      λ h. omega (arith, bounded (made + 1) n line_limit (omega (arith, k.0)) le),
      split_fulfils judge z t b d a v
          gs rs n k.1 k.2 (subst (λ (g : List Goal). Fulfils judge g rs n) (sym k.3) f),
    )
fulfils_more judge made (tree z t b d ∷ gs) left item.Never rs n e le f =
    elim (chosen (may_say_never z t) (leaf_answer made (judge t b None) gs) (bad faults.Place) (good left) e) [
      | inl h ↦
          let k = leaf_ok made (judge t b None) gs left h.1 in (
            1 + n,
            λ z. omega (arith, bounded (made + 1) n line_limit (omega (arith, k.0)) le),
            (Uncounted, rs, n, refl, (h.0, k.1), refl, subst (λ (g : List Goal). Fulfils judge g rs n) (sym k.2) f),
          )
      | inr h ↦ absurd cc
    ]
fulfils_more judge made (tree z t b d ∷ gs) left item.End rs n e le f = absurd cc
fulfils_more judge made (close ∷ gs) left (item.Header v) rs n e le f = absurd cc
fulfils_more judge made (close ∷ gs) left (item.Class c m) rs n e le f = absurd cc
fulfils_more judge made (close ∷ gs) left (item.Leaf crossing point process) rs n e le f = absurd cc
fulfils_more judge made (close ∷ gs) left (item.Split a v) rs n e le f = absurd cc
fulfils_more judge made (close ∷ gs) left item.Never rs n e le f = absurd cc
fulfils_more judge made (close ∷ gs) left item.End rs n e le f = let k : gs ≡ left = cc in
    (n, le, (rs, refl, subst (λ (g : List Goal). Fulfils judge g rs n) (sym k) f))

ended : (gs : List Goal) → at_the_end gs ≡ None → gs ≡ []
ended [] e = refl
ended (g ∷ gs) e = absurd cc

-- readings without a fault say what is wanted
pub fulfils : (judge : Judge) (made : ℕ) (gs : List Goal) (rs : List LineReading) → verdict judge made gs rs ≡ None
    → (n : ℕ) × (0 < n → made + n ≤ line_limit) × Fulfils judge gs rs n
fulfils judge made gs [] e = rw (ended gs e) (0, λ h. absurd (omega arith), (refl, refl))
fulfils judge made gs (long ∷ rs) e = absurd cc
fulfils judge made gs (cut ∷ rs) e = absurd cc
fulfils judge made gs (malformed ∷ rs) e = absurd cc
fulfils judge made gs (says i ∷ rs) e =
    go (λ left h. fulfils judge (made_by made i) left rs h) (after judge made gs i) refl e where
      go : ((left : List Goal) → verdict judge (made_by made i) left rs ≡ None → (n : ℕ)
          × (0 < n → made_by made i + n ≤ line_limit) × Fulfils judge left rs n)
          → (r : Result (List Goal) LineFault) → after judge made gs i ≡ r
          → on (λ left. verdict judge (made_by made i) left rs) (by_number r) ≡ None → (n : ℕ)
          × (0 < n → made + n ≤ line_limit) × Fulfils judge gs (says i ∷ rs) n
      go more (Ok left) is e = let f = more left e in fulfils_more judge made gs left i rs f.0 is f.1 f.2
      go more (Err n) is e = absurd cc

-- what the targets want is a certificate's body
body_only : (judge : Judge) (z : Version) (ts : List Target) (rs : List LineReading) (n : ℕ)
    → Fulfils judge (ahead z ts) rs n → (xs : List Tree) × (rs ≡ lines (body_items ts xs)) × AllRight judge z ts xs
    × (n ≡ sizes xs)
body_only judge z [] rs n f = ([], f.1 ∙ ap (λ (w : List LineReading). says item.End ∷ w) f.2.0, tt, f.2.1)
body_only judge z (t ∷ ts) rs n f =
    let k = f.2 in
    let b = body_only judge z ts k.1 k.2 k.6 in (
      k.0 ∷ b.0,
      f.1 ∙ ap (λ (w : List LineReading). says (item.Class t.class t.path) ∷ w)
          (k.3 ∙ ap (λ (w : List LineReading). lines (tree_items k.0) ++ w) b.1
          ∙ joined (tree_items k.0) (body_items ts b.0)),
      (k.4, b.2),
      k.5 ∙ ap (λ (m : ℕ). size k.0 + m) b.3,
    )

pub right_only : (judge : Judge) (ts : List Target) (rs : List LineReading) → verdict judge 0 (whole ts) rs ≡ None
    → (z : Version) × (xs : List Tree) × (rs ≡ lines (certificate_items z ts xs)) × AllRight judge z ts xs
    × (sizes xs ≤ line_limit)
right_only judge ts [] e = absurd cc
right_only judge ts (long ∷ rs) e = absurd cc
right_only judge ts (cut ∷ rs) e = absurd cc
right_only judge ts (malformed ∷ rs) e = absurd cc
right_only judge ts (says (item.Header z) ∷ rs) e =
    let h : verdict judge 0 (ahead z ts) rs ≡ None =
    subst (λ (g : List Goal). verdict judge 0 g rs ≡ None) (append-nil (ahead z ts)) e in
    let f = fulfils judge 0 (ahead z ts) rs h in
    let b = body_only judge z ts rs f.0 f.2 in (
      z,
      b.0,
      ap (λ (w : List LineReading). says (item.Header z) ∷ w) b.1,
      b.2,
      omega (arith, bounded 0 f.0 line_limit (omega arith) f.1, b.3),
    )
right_only judge ts (says (item.Class c m) ∷ rs) e = absurd cc
right_only judge ts (says (item.Leaf crossing point process) ∷ rs) e = absurd cc
right_only judge ts (says item.Never ∷ rs) e = absurd cc
right_only judge ts (says (item.Split a v) ∷ rs) e = absurd cc
right_only judge ts (says item.End ∷ rs) e = absurd cc

-- ---- back

goes : (judge : Judge) (made : ℕ) (gs left : List Goal) (i : Item) (rs : List LineReading) → after judge made gs i
    ≡ Ok left → verdict judge (made_by made i) left rs ≡ None → verdict judge made gs (says i ∷ rs) ≡ None
goes judge made gs left i rs e h = ap (λ (r : Result (List Goal) LineFault). on
    (λ left. verdict judge (made_by made i) left rs) (by_number r)) e ∙ h

first : {A : Type 0} (b : Bool) (x z : A) → b ≡ true → cond b x z ≡ x
first true x z e = refl
first false x z e = absurd cc

second : {A : Type 0} (b : Bool) (x y : A) → b ≡ false → cond b x y ≡ y
second true x y e = absurd cc
second false x y e = refl

leaf_goes : (made : ℕ) (wrong : Option ℕ) (gs : List Goal) → made < line_limit → wrong ≡ None
    → leaf_answer made wrong gs ≡ Ok gs
leaf_goes made wrong gs lt right = rw (lt-leb line_limit made lt, right) refl

tree_all : (judge : Judge) (z : Version) (t : Target) (x : Tree) (b : Bounds) (d made : ℕ) (gs : List Goal)
    (rest : List LineReading) → IsRight judge z t b d x → made + size x ≤ line_limit
    → verdict judge (made + size x) gs rest ≡ None
    → verdict judge made (tree z t b d ∷ gs) (lines (tree_items x) ++ rest) ≡ None
tree_all judge z t (Leaf crossing point process) b d made gs rest right le then =
    let answer = leaf_answer made (judge t b (Some (leaf_named crossing point process))) gs in
    let e : cond t.exempt (bad faults.Place) answer ≡ Ok gs = second t.exempt (bad faults.Place) answer right.0
    ∙ leaf_goes made (judge t b (Some (leaf_named crossing point process))) gs (omega arith) right.1 in
    goes judge made (tree z t b d ∷ gs) gs (item.Leaf crossing point process) rest e then
tree_all judge z t Uncounted b d made gs rest right le then =
    let answer = leaf_answer made (judge t b None) gs in
    let e : cond (may_say_never z t) answer (bad faults.Place) ≡ Ok gs =
    first (may_say_never z t) answer (bad faults.Place) right.0
    ∙ leaf_goes made (judge t b None) gs (omega arith) right.1 in
    goes judge made (tree z t b d ∷ gs) gs item.Never rest e then
tree_all judge z t (Split a at x y) b d made gs rest right le then =
    let k = axis_index a in
    let second : verdict judge (made + 1 + size x) (tree z t (above_part b k at) (d + 1) ∷ gs)
    (lines (tree_items y) ++ rest) ≡ None =
    tree_all judge z t y (above_part b k at) (d + 1) (made + 1 + size x) gs rest right.3 (omega arith)
    (let e : made + 1 + size x + size y ≡ made + (1 + (size x + size y)) = omega arith in rw e then) in
    let first = tree_all judge z t x (below_part b k at) (d + 1) (made + 1) (tree z t (above_part b k at) (d + 1) ∷ gs)
    (lines (tree_items y) ++ rest) right.2 (omega arith) second in
    let left : List Goal = parts z t b d k at gs in
    let e : split_answer made b d k at left ≡ Ok left =
    rw (
      lt-leb line_limit made (omega arith),
      lt-leb depth_limit d right.0,
      lt-ltb _ _ right.1.0,
      le-leb _ _
          right.1.1,
    ) refl in
    goes judge made (tree z t b d ∷ gs) left (item.Split a at) (lines (tree_items x ++ tree_items y) ++ rest) e
    (rw (← regroup (tree_items x) (tree_items y) rest) first)

body_all : (judge : Judge) (z : Version) (ts : List Target) (xs : List Tree) (made : ℕ) → AllRight judge z ts xs → made
    + sizes xs ≤ line_limit → verdict judge made (ahead z ts) (lines (body_items ts xs)) ≡ None
body_all judge z [] [] made right le = refl
body_all judge z [] (x ∷ xs) made right le = absurd right
body_all judge z (t ∷ ts) [] made right le = absurd right
body_all judge z (t ∷ ts) (x ∷ xs) made right le =
    let left : List Goal = tree z t t.region 0 ∷ ahead z ts in
    let e : cond (eqb t.class t.class && eqb t.path t.path) (good left) (bad faults.Place) ≡ Ok left =
    rw (eq-eqb t.class t.class refl, eq-eqb t.path t.path refl) refl in
    goes judge made (ahead z (t ∷ ts)) left (item.Class t.class t.path) (lines (tree_items x ++ body_items ts xs)) e
    (rw (← joined (tree_items x) (body_items ts xs))
    (tree_all judge z t x t.region 0 made (ahead z ts) (lines (body_items ts xs)) right.0 (omega arith)
    (body_all judge z ts xs (made + size x) right.1 (omega arith))))

pub right_all : (judge : Judge) (z : Version) (ts : List Target) (xs : List Tree) → AllRight judge z ts xs → sizes xs
    ≤ line_limit → verdict judge 0 (whole ts) (lines (certificate_items z ts xs)) ≡ None
right_all judge z ts xs right few = ap (λ (g : List Goal). verdict judge 0 g (lines (body_items ts xs)))
    (append-nil (ahead z ts)) ∙ body_all judge z ts xs 0 right (omega (arith, few))
