-- The lines of a certificate's text.
use Rattle.std.proofs.Common.{◌≡◌, ◌≢◌, ℕ, ◌^◌, ◌<◌, List, [], ◌∷◌, map, codes, refl, ap, ◌∙◌, arith}
use Rattle.std.specs.Prelude.{decimal}
use Rattle.std.specs.List.{AllByRecursion}
use Rattle.fx_base.specs.Lines.{text_lines}
use Rattle.fx_cert.specs.declared.item.Item.{Item}
use Rattle.fx_cert.specs.declared.item.Item.TheVariants as item
use Rattle.fx_cert.specs.declared.item.Version.TheVariants.{One, Two}
use Rattle.fx_cert.specs.ItemText.{IsItem, axis_word, item_text, item_words}
use Rattle.fx_elements.specs.declared.axis.Axis.{Axis}
use Rattle.fx_elements.specs.declared.axis.Axis.TheVariants.{Source, Destination, Protocol, SourcePort, DestinationPort, ClassOfService, Version, Source6, Destination6}
use Rattle.fx_elements.proofs.Addresses.{decimal_avoids}
use Rattle.fx_run_text.specs.RunLineText.{ended_line}
use Rattle.fx_run_text.proofs.RunTexts.{AreWords, IsLine, IsWord, line_join, text_of_lines, written}
use Rattle.fx_elements.proofs.EveryAxis.{top_small}
use Rattle.fx_check.specs.Certificates.{IsWritable, item_line}
use Rattle.fx_search.specs.Found.{certificate_text}

by_both : (w : List ℕ) → AllByRecursion (λ b. b ≢ 32) w → AllByRecursion (λ b. b ≢ 10) w → IsWord w
by_both [] h k = tt
by_both (b ∷ bs) h k = ((h.0, k.0), by_both bs h.1 k.1)

number : (n : ℕ) → n < 2 ^ 128 → IsWord (decimal n)
number n small = by_both (decimal n) (decimal_avoids 32 n (omega (arith, small)) (omega arith))
    (decimal_avoids 10 n (omega (arith, small)) (omega arith))

axis : (a : Axis) → IsWord (axis_word a)
axis Source = written (codes "source") refl
axis Destination = written (codes "destination") refl
axis Protocol = written (codes "protocol") refl
axis SourcePort = written (codes "sport") refl
axis DestinationPort = written (codes "dport") refl
axis ClassOfService = written (codes "tos") refl
axis Version = written (codes "version") refl
axis Source6 = written (codes "source6") refl
axis Destination6 = written (codes "destination6") refl

plain : (i : Item) → IsItem i → AreWords (item_words i)
plain (item.Header One) h = (written (codes "once-certificate") refl, (written (codes "1") refl, tt))
plain (item.Header Two) h = (written (codes "once-certificate") refl, (written (codes "2") refl, tt))
plain (item.Class c p) h = (
  written (codes "class") refl,
  (number c (omega (arith, h.0)), (written (codes "path") refl, (number p (omega (arith, h.1)), tt))),
)
plain (item.Split a at) h = (
  written (codes "S") refl,
  (axis a, (number at (let t = top_small a in omega (arith, h, t)), tt)),
)
plain (item.Leaf x y z) h = (
  written (codes "L") refl,
  (number x (omega (arith, h.0)), (number y (omega (arith, h.1)), (number z (omega (arith, h.2)), tt))),
)
plain item.Never h = (written (codes "N") refl, tt)
plain item.End h = (written (codes "end") refl, tt)

lines : (is : List Item) → AllByRecursion IsWritable is → AllByRecursion IsLine (map item_text is)
lines [] h = tt
lines (i ∷ is) h = (line_join (item_words i) (plain i h.0.0), lines is h.1)

mapped : (is : List Item) → map ended_line (map item_text is) ≡ map item_line is
mapped [] = refl
mapped (i ∷ is) = ap (λ w. item_line i ∷ w) (mapped is)

pub certificate_lines : (is : List Item) → AllByRecursion IsWritable is → text_lines (certificate_text is)
    ≡ map item_line is
certificate_lines is h = text_of_lines (map item_text is) (lines is h) ∙ mapped is
