-- The text of a line of a certificate, without its line feed.
use Rattle.std.specs.Prelude.{◌≡◌, ℕ, ◌≤◌, List, [], ◌∷◌, codes, decimal, slice_index}
use Rattle.std.specs.List.{join_with_byte}
use Rattle.fx_elements.specs.declared.axis.Axis.{Axis}
use Rattle.fx_elements.specs.declared.axis.Axis.TheVariants.{Source, Destination, Protocol, SourcePort, DestinationPort, ClassOfService, Version, Source6, Destination6}
use Rattle.fx_elements.specs.Axes.{axis_index, tops}
use Rattle.fx_elements.specs.Spelling.{largest}
use Rattle.fx_cert.specs.declared.item.Item.{Item}
use Rattle.fx_cert.specs.declared.item.Item.TheVariants.{Header, Class, Split, Leaf, Never, End}
use Rattle.fx_cert.specs.declared.item.Version.TheVariants.{One, Two}

-- the word of an axis
abbrev pub axis_word : Axis → List ℕ
axis_word Source = codes "source"
axis_word Destination = codes "destination"
axis_word Protocol = codes "protocol"
axis_word SourcePort = codes "sport"
axis_word DestinationPort = codes "dport"
axis_word ClassOfService = codes "tos"
axis_word Version = codes "version"
axis_word Source6 = codes "source6"
axis_word Destination6 = codes "destination6"

-- the words of an item; numbers are decimal, without leading zeros
abbrev pub item_words : Item → List (List ℕ)
item_words (Header One) = codes "once-certificate" ∷ codes "1" ∷ []
item_words (Header Two) = codes "once-certificate" ∷ codes "2" ∷ []
item_words (Class class path) = codes "class" ∷ decimal class ∷ codes "path" ∷ decimal path ∷ []
item_words (Split axis at) = codes "S" ∷ axis_word axis ∷ decimal at ∷ []
item_words (Leaf crossing point process) = codes "L" ∷ decimal crossing ∷ decimal point ∷ decimal process ∷ []
item_words Never = codes "N" ∷ []
item_words End = codes "end" ∷ []

-- the words of an item, separated by single spaces
abbrev pub item_text : Item → List ℕ
item_text item = join_with_byte 32 (item_words item)

-- numbers are below 2 to the 64, and the value of a split is on its axis
abbrev pub IsItem : Item → Type 0
IsItem (Header version) = Unit {0}
IsItem (Class class path) = (class ≤ largest) × (path ≤ largest)
IsItem (Split axis at) = at ≤ slice_index tops (axis_index axis)
IsItem (Leaf crossing point process) = (crossing ≤ largest) × (point ≤ largest) × (process ≤ largest)
IsItem Never = Unit {0}
IsItem End = Unit {0}

-- the text of this item, whose numbers are within their bounds
abbrev pub IsItemText : List ℕ → Item → Type 0
IsItemText text item = IsItem item × (text ≡ item_text item)
