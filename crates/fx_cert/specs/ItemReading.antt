-- How a line of a certificate is read, word by word.
use Rattle.std.specs.Prelude.{ℕ, if◌then◌else◌, List, Option, Some, None, codes, slice_index}
use Rattle.std.specs.List.{find}
use Rattle.std.specs.Str.{bytes_eq}
use Rattle.fx_elements.specs.Axes.{axes, axis_index, tops}
use Rattle.fx_elements.specs.declared.axis.Axis.{Axis}
use Rattle.fx_elements.specs.Spelling.{◌>>=◌, cut_at, largest, number_of}
use Rattle.fx_cert.specs.ItemText.{axis_word}
use Rattle.fx_cert.specs.declared.item.Item.{Item}
use Rattle.fx_cert.specs.declared.item.Item.TheVariants.{Header, Class, Split, Leaf, Never, End}
use Rattle.fx_cert.specs.declared.item.Version.TheVariants.{One, Two}

-- the axis with this word
abbrev pub axis_of : List ℕ → Option Axis
axis_of word = find (λ axis. bytes_eq word (axis_word axis)) axes

-- the item whose text follows the word `class`
unfoldable pub class_of : List ℕ → Option Item
class_of text = do
  a ← cut_at 32 text
  b ← cut_at 32 a.1
  if bytes_eq b.0 (codes "path") then (number_of largest a.0 >>= λ class. number_of largest b.1 >>= λ path.
      Some (Class class path)) else None

-- the item whose text follows the word `S`
unfoldable pub split_of : List ℕ → Option Item
split_of text = do
  a ← cut_at 32 text
  axis ← axis_of a.0
  at ← number_of (slice_index tops (axis_index axis)) a.1
  Some (Split axis at)

-- the item whose text follows the word `L`
unfoldable pub leaf_of : List ℕ → Option Item
leaf_of text = do
  a ← cut_at 32 text
  b ← cut_at 32 a.1
  crossing ← number_of largest a.0
  point ← number_of largest b.0
  process ← number_of largest b.1
  Some (Leaf crossing point process)

unfoldable pub item_of : List ℕ → Option Item
item_of text =
    if bytes_eq text (codes "once-certificate 1") then Some (Header One)
    else if bytes_eq text (codes "once-certificate 2") then Some (Header Two)
    else if bytes_eq text (codes "N") then Some Never
    else if bytes_eq text (codes "end") then Some End
    else cut_at 32 text >>= λ p.
    if bytes_eq p.0 (codes "class") then class_of p.1
    else if bytes_eq p.0 (codes "S") then split_of p.1
    else if bytes_eq p.0 (codes "L") then leaf_of p.1
    else None
