-- Values without parts: their faults, and their meanings.
use Rattle.std.specs.Prelude.{ℕ, List, [], ◌∷◌, ◌||◌, nat_lt, Bool, false, not, Option, Some, None, is_some}
use Rattle.std.specs.Option.{unwrap_or}
use Rattle.serde_json.specs.Data.{Data, boolean, array, Items, no_items, item, Num}
use Rattle.serde_json.specs.Find.{as_null, as_str, as_number, as_u64}
use Rattle.fx_base.specs.Name.{is_name}
use Rattle.fx_base.specs.Refusals.{bad_value, wrong_kind}
use Rattle.fx_walk.specs.Walk.{FoundFault, of_kind, fault_if}

-- ---- texts that must pass a test; the number is for a text that doesn't

abbrev pub text_that : ℕ → (List ℕ → Bool) → List ℕ → Data → List FoundFault
text_that wrong test up d = of_kind (as_str d) (λ text. fault_if (not (test text)) wrong up) up

-- names: texts of 1 to 255 bytes with no white space at either end
abbrev pub name_faults : List ℕ → Data → List FoundFault
name_faults = text_that bad_value is_name

-- the text of a value, or the empty text if it has none
abbrev pub text_of : Data → List ℕ
text_of d = unwrap_or (as_str d) []

-- ---- texts of any form

abbrev pub text_faults : List ℕ → Data → List FoundFault
text_faults up d = of_kind (as_str d) (λ text. []) up

-- ---- texts from a fixed set

abbrev pub word_faults : {X : Type 0} → (List ℕ → Option X) → List ℕ → Data → List FoundFault
word_faults named = text_that bad_value (λ text. is_some (named text))

-- the meaning of a word, and of an optional member; without a valid word the default is meant
abbrev pub meaning_of_word : {X : Type 0} → (List ℕ → Option X) → X → Data → X
meaning_of_word named unsaid d = unwrap_or (named (text_of d)) unsaid

abbrev pub word_given : {X : Type 0} → (List ℕ → Option X) → X → Option Data → X
word_given named unsaid None = unsaid
word_given named unsaid (Some d) = meaning_of_word named unsaid d

-- ---- whole numbers, spelled without fraction and exponent

abbrev pub whole_in : ℕ → ℕ → List ℕ → Option ℕ → List FoundFault
whole_in low high up None = (bad_value, up) ∷ []
whole_in low high up (Some n) = fault_if (nat_lt n low || nat_lt high n) bad_value up

abbrev pub whole_faults : ℕ → ℕ → List ℕ → Data → List FoundFault
whole_faults low high up d = of_kind (as_number d) (λ n. whole_in low high up (as_u64 n)) up

abbrev pub number_in : Option Num → ℕ
number_in None = 0
number_in (Some n) = unwrap_or (as_u64 n) 0

abbrev pub number_of : Data → ℕ
number_of d = number_in (as_number d)

-- ---- empty types (RFC 7951, section 6.9): their presence says that something holds

abbrev pub is_one_null : Items → Bool
is_one_null no_items = false
is_one_null (item d no_items) = is_some (as_null d)
is_one_null (item d (item e ds)) = false

-- `[null]`, or `true`, which many writers use
abbrev pub is_empty_type : Data → Bool
is_empty_type (boolean b) = b
is_empty_type (array ds) = is_one_null ds
is_empty_type _ = false

abbrev pub empty_faults : List ℕ → Data → List FoundFault
empty_faults up d = fault_if (not (is_empty_type d)) wrong_kind up
