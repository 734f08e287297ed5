-- The words of a line, in order.
use Rattle.std.specs.Prelude.{ℕ, Bool, true, false, ◌==◌, List, [], ◌∷◌, Option, Some, None}
use Rattle.std.specs.Option.{option_map}
use Rattle.std.specs.List.{slice_split}
use Rattle.fx_elements.specs.declared.axis.Axis.{Axis}
use Rattle.fx_elements.specs.Spelling.{largest, number_of}
use Rattle.fx_elements.specs.Values.{written_on}
use denote.Ref.{Bor}

abbrev pub Words : Type 0
Words = List (List ℕ)

-- the words of a line, between its spaces
abbrev pub words : List ℕ → Words
words line = slice_split (λ b. b == 32) line

-- the result of reading the first word, and the words after it
abbrev pub in_first : {A : Type 0} → (List ℕ → Option A) → Words → Option (A × Words)
in_first read [] = None
in_first read (w ∷ ws) = option_map (λ x. (x, ws)) (read w)

abbrev pub first_word : Words → Option (List ℕ × Words)
first_word ws = in_first (λ w. Some w) ws

-- a number below 2 to the 64
abbrev pub number_first : Words → Option (ℕ × Words)
number_first ws = in_first (number_of largest) ws

-- a value on the axis
abbrev pub value_first : Axis → Words → Option (ℕ × Words)
value_first axis ws = in_first (written_on axis) ws

abbrev pub none_left : Words → Bool
none_left [] = true
none_left (w ∷ ws) = false

-- the words of the rest of a line, if there is a rest
abbrev pub words_left : Option (Bor (List ℕ)) → Words
words_left None = []
words_left (Some rest) = words rest.now
