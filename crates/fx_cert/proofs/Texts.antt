-- A line's text is read as its item, and no other line is.
use Rattle.std.proofs.Common.{◌≡◌, ℕ, ◌≤◌, Bool, true, List, [], ◌∷◌, ◌++◌, Option, Some, None, refl, ap, sym, subst, ◌∙◌, arith, inl, inr}
use Rattle.std.specs.Prelude.{codes, slice_index}
use Rattle.std.specs.Fmt.{decimal}
use Rattle.std.specs.List.{find}
use Rattle.std.specs.Str.{bytes_eq}
use Rattle.std.proofs.lemmas.Slice.Eq.{bytes_eq-Decides}
use Rattle.fx_elements.specs.Axes.{axes, axis_index, tops}
use Rattle.fx_elements.specs.declared.axis.Axis.{Axis}
use Rattle.fx_elements.specs.declared.axis.Axis.TheVariants as axis
use Rattle.fx_elements.specs.Spelling.{cut_at, largest, number_of}
use Rattle.fx_elements.proofs.EveryAxis.{top_small}
use Rattle.fx_elements.proofs.Cuts.{cut_text, cut_parts, chosen}
use Rattle.fx_elements.proofs.Decimals.{number_64, number_text, number_found}
use Rattle.fx_elements.proofs.Addresses.{decimal_avoids, by_some, some_is}
use Rattle.fx_cert.specs.declared.item.Item.{Item}
use Rattle.fx_cert.specs.declared.item.Item.TheVariants as item
use Rattle.fx_cert.specs.declared.item.Version.TheVariants as version
use Rattle.fx_cert.specs.ItemText.{axis_word, item_text, IsItem, IsItemText}
use Rattle.fx_cert.specs.ItemReading.{axis_of, class_of, split_of, leaf_of, item_of}

same_is : (a b : List ℕ) → bytes_eq a b ≡ true → a ≡ b
same_is a b e = (bytes_eq-Decides a b).0 e

cut_number : (n : ℕ) (rest : List ℕ) → n ≤ largest → cut_at 32 (decimal n ++ 32 ∷ rest) ≡ Some (decimal n, rest)
cut_number n rest le = cut_text 32 (decimal n) rest (decimal_avoids 32 n (omega arith) (omega arith))

leaf_text : (x y z : ℕ) → IsItem (item.Leaf x y z) → leaf_of (decimal x ++ 32 ∷ (decimal y ++ 32 ∷ decimal z))
    ≡ Some (item.Leaf x y z)
unfolding leaf_of
leaf_text x y z fits = rw (
  cut_number x (decimal y ++ 32 ∷ decimal z) fits.0,
  cut_number y (decimal z) fits.1,
  number_64
      x fits.0,
  number_64 y fits.1,
  number_64 z fits.2,
) refl

class_text : (c p : ℕ) → c ≤ largest → p ≤ largest → class_of (decimal c ++ 32 ∷ (codes "path" ++ 32 ∷ decimal p))
    ≡ Some (item.Class c p)
unfolding class_of
class_text c p h k = rw (cut_number c (codes "path" ++ 32 ∷ decimal p) h, number_64 c h, number_64 p k) refl

axis_text : (a : Axis) → axis_of (axis_word a) ≡ Some a
axis_text axis.Source = refl
axis_text axis.Destination = refl
axis_text axis.Protocol = refl
axis_text axis.SourcePort = refl
axis_text axis.DestinationPort = refl
axis_text axis.ClassOfService = refl
axis_text axis.Version = refl
axis_text axis.Source6 = refl
axis_text axis.Destination6 = refl

cut_word : (a : Axis) (rest : List ℕ) → cut_at 32 (axis_word a ++ 32 ∷ rest) ≡ Some (axis_word a, rest)
cut_word axis.Source rest = refl
cut_word axis.Destination rest = refl
cut_word axis.Protocol rest = refl
cut_word axis.SourcePort rest = refl
cut_word axis.DestinationPort rest = refl
cut_word axis.ClassOfService rest = refl
cut_word axis.Version rest = refl
cut_word axis.Source6 rest = refl
cut_word axis.Destination6 rest = refl

split_text : (a : Axis) (at : ℕ) → at ≤ slice_index tops (axis_index a) → split_of (axis_word a ++ 32 ∷ decimal at)
    ≡ Some (item.Split a at)
unfolding split_of
split_text a at h = rw (
  cut_word a (decimal at),
  axis_text a,
  number_text (slice_index tops (axis_index a)) at
      (top_small a) h,
) refl

pub text_read : (i : Item) → IsItem i → item_of (item_text i) ≡ Some i
unfolding item_of
text_read (item.Header version.One) fits = refl
text_read (item.Header version.Two) fits = refl
text_read item.Never fits = refl
text_read (item.Class c p) fits = class_text c p fits.0 fits.1
text_read (item.Split a at) fits = split_text a at fits
text_read (item.Leaf x y z) fits = leaf_text x y z fits
text_read item.End fits = refl

-- ---- back

leaf_parts : (a b c rest more : List ℕ) (x y z : ℕ) (i : Item) → rest ≡ a ++ 32 ∷ more → more ≡ b ++ 32 ∷ c
    → (a ≡ decimal x) × (x ≤ largest) → (b ≡ decimal y) × (y ≤ largest) → (c ≡ decimal z) × (z ≤ largest)
    → item.Leaf x y z ≡ i → IsItemText (codes "L" ++ 32 ∷ rest) i
leaf_parts a b c rest more x y z i p q l m n e =
    subst (λ (j : Item). IsItemText (codes "L" ++ 32 ∷ rest) j) e ((l.1, m.1, n.1), rw (p, q, l.0, m.0, n.0) refl)

leaf_found : (rest : List ℕ) (i : Item) → leaf_of rest ≡ Some i → IsItemText (codes "L" ++ 32 ∷ rest) i
unfolding leaf_of
leaf_found rest i e =
    by_some (cut_at 32 rest) _ i e (λ a pa ea.
    by_some (cut_at 32 a.1) _ i ea (λ b pb eb.
    by_some (number_of largest a.0) _ i eb (λ x px ex.
    by_some (number_of largest b.0) _ i ex (λ y py ey.
    by_some (number_of largest b.1) _ i ey (λ z pz ez.
    leaf_parts a.0 b.0 b.1 rest a.1 x y z i (cut_parts 32 rest a pa) (cut_parts 32 a.1 b pb)
    (number_found largest x a.0 (omega arith) px) (number_found largest y b.0 (omega arith) py)
    (number_found largest z b.1 (omega arith) pz) (some_is ez))))))

class_parts : (a b c rest more : List ℕ) (x y : ℕ) (i : Item) → rest ≡ a ++ 32 ∷ more → more ≡ b ++ 32 ∷ c → b
    ≡ codes "path" → (a ≡ decimal x) × (x ≤ largest) → (c ≡ decimal y) × (y ≤ largest) → item.Class x y ≡ i
    → IsItemText (codes "class" ++ 32 ∷ rest) i
class_parts a b c rest more x y i p q w m n e =
    subst (λ (j : Item). IsItemText (codes "class" ++ 32 ∷ rest) j) e ((m.1, n.1), rw (p, q, w, m.0, n.0) refl)

class_found : (rest : List ℕ) (i : Item) → class_of rest ≡ Some i → IsItemText (codes "class" ++ 32 ∷ rest) i
unfolding class_of
class_found rest i e =
    by_some (cut_at 32 rest) _ i e (λ a pa ea.
    by_some (cut_at 32 a.1) _ i ea (λ b pb eb.
    elim (chosen (bytes_eq b.0 (codes "path")) _ None (Some i) eb) [
      | inl h ↦
          by_some (number_of largest a.0) _ i h.1 (λ x px ex.
          by_some (number_of largest b.1) _ i ex (λ y py ey.
          class_parts a.0 b.0 b.1 rest a.1 x y i (cut_parts 32 rest a pa) (cut_parts 32 a.1 b pb)
          (same_is b.0 (codes "path") h.0) (number_found largest x a.0 (omega arith) px)
          (number_found largest y b.1 (omega arith) py) (some_is ey)))
      | inr h ↦ absurd cc
    ]))

-- what is found passes the test
passes : {A : Type 0} (p : A → Bool) (xs : List A) (x : A) → find p xs ≡ Some x → p x ≡ true
passes p [] x e = absurd cc
passes p (y ∷ ys) x e = elim (chosen (p y) (Some y) (find p ys) (Some x) e) [
  | inl h ↦ subst (λ z. p z ≡ true) (some_is h.1) h.0
  | inr h ↦ passes p ys x h.1
]

axis_found : (name : List ℕ) (a : Axis) → axis_of name ≡ Some a → name ≡ axis_word a
axis_found name a e = same_is name (axis_word a) (passes (λ axis. bytes_eq name (axis_word axis)) axes a e)

split_found : (rest : List ℕ) (i : Item) → split_of rest ≡ Some i → IsItemText (codes "S" ++ 32 ∷ rest) i
unfolding split_of
split_found rest i e =
    by_some (cut_at 32 rest) _ i e (λ a pa ea.
    by_some (axis_of a.0) _ i ea (λ x px ex.
    by_some (number_of (slice_index tops (axis_index x)) a.1) _ i ex (λ n pn en.
    split_parts a.0 a.1 rest x n i (cut_parts 32 rest a pa) (axis_found a.0 x px)
    (number_found (slice_index tops (axis_index x)) n a.1 (top_small x) pn) (some_is en)))) where
      split_parts : (name num rest : List ℕ) (x : Axis) (n : ℕ) (i : Item) → rest ≡ name ++ 32 ∷ num → name
          ≡ axis_word x → (num ≡ decimal n) × (n ≤ slice_index tops (axis_index x)) → item.Split x n ≡ i
          → IsItemText (codes "S" ++ 32 ∷ rest) i
      split_parts name num rest x n i p w m e =
          subst (λ (j : Item). IsItemText (codes "S" ++ 32 ∷ rest) j) e (m.1, rw (p, w, m.0) refl)

after_word : (line kind rest known : List ℕ) (i : Item) → line ≡ kind ++ 32 ∷ rest → kind ≡ known
    → IsItemText (known ++ 32 ∷ rest) i → IsItemText line i
after_word line kind rest known i p w t = (t.0, rw (p, w) t.1)

pub item_found : (line : List ℕ) (i : Item) → item_of line ≡ Some i → IsItemText line i
unfolding item_of
item_found line i e =
    elim (chosen (bytes_eq line (codes "once-certificate 1")) _ _ (Some i) e) [
      | inl h ↦ subst (λ (j : Item). IsItemText line j) (some_is h.1)
          (tt, same_is line (codes "once-certificate 1") h.0)
      | inr h1 ↦ elim (chosen (bytes_eq line (codes "once-certificate 2")) _ _ (Some i) h1.1) [
        | inl h ↦ subst (λ (j : Item). IsItemText line j) (some_is h.1)
            (tt, same_is line (codes "once-certificate 2") h.0)
        | inr h6 ↦ elim (chosen (bytes_eq line (codes "N")) _ _ (Some i) h6.1) [
          | inl h ↦ subst (λ (j : Item). IsItemText line j) (some_is h.1) (tt, same_is line (codes "N") h.0)
          | inr h7 ↦ elim (chosen (bytes_eq line (codes "end")) _ _ (Some i) h7.1) [
            | inl h ↦ subst (λ (j : Item). IsItemText line j) (some_is h.1) (tt, same_is line (codes "end") h.0)
            | inr h2 ↦ by_some (cut_at 32 line) _ i h2.1 (λ p pp ep.
                elim (chosen (bytes_eq p.0 (codes "class")) _ _ (Some i) ep) [
                  | inl h ↦ after_word line p.0 p.1 (codes "class") i (cut_parts 32 line p pp)
                      (same_is p.0 (codes "class") h.0) (class_found p.1 i h.1)
                  | inr h3 ↦ elim (chosen (bytes_eq p.0 (codes "S")) _ _ (Some i) h3.1) [
                    | inl h ↦ after_word line p.0 p.1 (codes "S") i (cut_parts 32 line p pp)
                        (same_is p.0 (codes "S") h.0) (split_found p.1 i h.1)
                    | inr h4 ↦ elim (chosen (bytes_eq p.0 (codes "L")) _ _ (Some i) h4.1) [
                      | inl h ↦ after_word line p.0 p.1 (codes "L") i (cut_parts 32 line p pp)
                          (same_is p.0 (codes "L") h.0) (leaf_found p.1 i h.1)
                      | inr h5 ↦ absurd cc
                    ]
                  ]
                ])
          ]
        ]
      ]
    ]

pub reads : (line : List ℕ) (i : Item) (r : Option Item) → r ≡ item_of line → IsItemText line i → r ≡ Some i
reads line i r e t = e ∙ ap item_of t.1 ∙ text_read i t.0

-- a text has one item
pub one_item : (a b : Item) → IsItem a → IsItem b → item_text a ≡ item_text b → a ≡ b
one_item a b ha hb e = some_is (sym (text_read a ha) ∙ ap item_of e ∙ text_read b hb)
