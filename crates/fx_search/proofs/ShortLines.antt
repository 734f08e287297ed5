-- The lines of a certificate are short.
use Rattle.std.proofs.Common.{ℕ, ◌^◌, ◌<◌, ◌≤◌, ◌∷◌, ◌++◌, length, codes, arith, length-append}
use Rattle.std.specs.Prelude.{decimal}
use Rattle.std.proofs.lemmas.Fmt.{length-decimal-le_wide}
use Rattle.fx_boxes.specs.Boxes.{Bounds, IsRegion, IsStrictlyInside}
use Rattle.fx_cert.specs.declared.item.Item.TheVariants as item
use Rattle.fx_cert.specs.declared.item.Version.{Version}
use Rattle.fx_cert.specs.declared.item.Version.TheVariants.{One, Two}
use Rattle.fx_cert.specs.ItemText.{axis_word}
use Rattle.fx_elements.specs.declared.axis.Axis.{Axis}
use Rattle.fx_elements.specs.declared.axis.Axis.TheVariants as axes
use Rattle.fx_elements.specs.Axes.{axis_index}
use Rattle.fx_elements.proofs.EveryAxis.{index_below, top_small}
use Rattle.fx_check.specs.Certificates.{IsWritable}

short_number : (n : ℕ) → n < 2 ^ 128 → length (decimal n) ≤ 39
short_number n small = length-decimal-le_wide 39 n (omega arith) (omega (arith, small)) (omega (arith, small))

word_length : (axis : Axis) → length (axis_word axis) ≤ 20
word_length axes.Source = omega arith
word_length axes.Destination = omega arith
word_length axes.Protocol = omega arith
word_length axes.SourcePort = omega arith
word_length axes.DestinationPort = omega arith
word_length axes.ClassOfService = omega arith
word_length axes.Version = omega arith
word_length axes.Source6 = omega arith
word_length axes.Destination6 = omega arith

pub class_writable : (c p : ℕ) → c < 2 ^ 64 → p < 2 ^ 64 → IsWritable (item.Class c p)
class_writable c p h k =
    let x = short_number c (omega (arith, h)) in
    let y = short_number p (omega (arith, k)) in
    let e = length-append (decimal c) (32 ∷ (codes "path" ++ 32 ∷ decimal p)) in
    ((omega (arith, h), omega (arith, k)), omega (arith, e, x, y))

pub leaf_writable : (a b c : ℕ) → a < 2 ^ 64 → b < 2 ^ 64 → c < 2 ^ 64 → IsWritable (item.Leaf a b c)
leaf_writable a b c h k l =
    let x = short_number a (omega (arith, h)) in
    let y = short_number b (omega (arith, k)) in
    let z = short_number c (omega (arith, l)) in
    let e = length-append (decimal a) (32 ∷ (decimal b ++ 32 ∷ decimal c)) in
    let f = length-append (decimal b) (32 ∷ decimal c) in
    ((omega (arith, h), omega (arith, k), omega (arith, l)), omega (arith, e, f, x, y, z))

pub split_writable : (b : Bounds) (axis : Axis) (at : ℕ) → IsRegion b → IsStrictlyInside b (axis_index axis) at
    → IsWritable (item.Split axis at)
split_writable b axis at r inside =
    let high = (r (axis_index axis) (index_below axis)).1 in
    let top = top_small axis in
    let x = short_number at (omega (arith, inside.1, high, top)) in
    let w = word_length axis in
    let e = length-append (axis_word axis) (32 ∷ decimal at) in
    (omega (arith, inside.1, high), omega (arith, e, x, w))

pub never_writable : IsWritable item.Never
never_writable = (tt, omega arith)

pub end_writable : IsWritable item.End
end_writable = (tt, omega arith)

pub header_writable : (v : Version) → IsWritable (item.Header v)
header_writable One = (tt, omega arith)
header_writable Two = (tt, omega arith)
