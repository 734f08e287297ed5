-- The text of totals: a line with the number of keys, a line for each key, and the number of unassigned records.
use Rattle.std.specs.Prelude.{ℕ, List, [], ◌∷◌, ◌++◌, length, map, codes}
use Rattle.std.specs.Fmt.{decimal}
use Rattle.std.specs.Ordering.{nat_cmp}
use Rattle.std.specs.Cmp.Lexicographic.{slice_cmp}
use Rattle.std.specs.List.Sorted.{IsSorted}
use Rattle.fx_elements.specs.Values.{leading_text}
use Rattle.fx_layout.specs.Keys.{Layout}
use Rattle.fx_tables.specs.declared.record.Record.{Record}
use Rattle.fx_collect.specs.Totals.{Totals}

abbrev pub space_before : Layout → List ℕ
space_before [] = []
space_before (part ∷ parts) = 32 ∷ []

-- a value for each part, in axis order, with single spaces between them
abbrev pub parts_text : Layout → List ℕ → List ℕ
parts_text [] values = []
parts_text (part ∷ parts) [] = []
parts_text (part ∷ parts) (value ∷ values) = leading_text part.axis part.bits value
    ++ (space_before parts ++ parts_text parts values)

-- the values of a key; a key without parts is `all`
abbrev pub fields_text : Layout → List ℕ → List ℕ
fields_text [] values = codes "all"
fields_text (part ∷ parts) values = parts_text (part ∷ parts) values

abbrev pub record_line : Record → List ℕ
record_line r =
    fields_text r.key.layout r.key.values ++ (codes " packets "
    ++ (decimal r.counts.packets ++ (codes " octets " ++ (decimal r.counts.octets ++ 10 ∷ []))))

abbrev pub record_lines : List Record → List ℕ
record_lines [] = []
record_lines (r ∷ rs) = record_line r ++ record_lines rs

-- a word and a number
abbrev pub number_line : List ℕ → ℕ → List ℕ
number_line word n = word ++ (decimal n ++ 10 ∷ [])

abbrev pub totals_text : Totals → List ℕ
totals_text t = number_line (codes "keys ") (length t.entries)
    ++ (record_lines t.entries ++ number_line (codes "unassigned ") t.unassigned)

-- the keys ascend: by the first value that differs
abbrev pub KeysAscend : List Record → Type 0
KeysAscend rs = IsSorted (slice_cmp nat_cmp) (map (λ r. r.key.values) rs)
