-- Selectors (RFC 6728, section 4.2.1).
use Rattle.std.specs.Prelude.{ℕ, List, [], ◌∷◌, codes, Bool, true, false, not, Option, Some, None, option_map, drop}
use Rattle.serde_json.specs.Data.{Data, object, Members, no_members, member}
use Rattle.serde_json.specs.Find.{get}
use Rattle.fx_walk.specs.Walk.{FoundFault, Row, object_faults, required_row, optional, member_of, fault_if}
use Rattle.fx_walk.specs.Choice.{none_of, one_of}
use Rattle.fx_walk.specs.Lists.{name_once}
use Rattle.fx_walk.specs.Scalars.{text_of, is_empty_type}
use Rattle.fx_config.specs.PropertyMatches.{property_match_faults, property_match_of}
use Rattle.fx_config.specs.declared.property_match.PropertyMatch.{PropertyMatch}
use Rattle.fx_config.specs.declared.selector.Selector.{Selector}
use Rattle.fx_config.specs.declared.selector.Method.{Method}
use Rattle.fx_config.specs.declared.selector.Method.TheVariants.{SelectAll, FilterMatch}
use Rattle.fx_base.specs.Refusals.{hash_filter, sampling_selector, wrong_kind}

abbrev pub has_no_member : Members → Bool
has_no_member no_members = true
has_no_member (member k d ms) = false

-- the container selectAll, which has no members, or an empty type
abbrev pub is_all : Data → Bool
is_all (object ms) = has_no_member ms
is_all d = is_empty_type d

abbrev pub all_faults : List ℕ → Data → List FoundFault
all_faults up d = fault_if (not (is_all d)) wrong_kind up

-- methods that make an exact count impossible: sampling, and filtering by a hash
abbrev pub inexact : List (List ℕ × ℕ)
inexact =
    (codes "sampCountBased", sampling_selector)
    ∷ (codes "sampTimeBased", sampling_selector)
    ∷ (codes "sampRandOutOfN", sampling_selector)
    ∷ (codes "sampUniProb", sampling_selector)
    ∷ (codes "filterHash", hash_filter)
    ∷ []

-- exactly one method is given, and it is none of the inexact methods
abbrev pub selector_rows : List (List ℕ) → List Row
selector_rows earlier =
    required_row (codes "name") (name_once earlier)
    ∷ none_of inexact
    ∷ one_of (codes "selectAll" ∷ codes "filterMatch" ∷ [])
    ∷ optional (codes "selectAll") all_faults
    ∷ optional (codes "filterMatch") property_match_faults
    ∷ []

abbrev pub method_rows : List Row
method_rows = drop 1 (selector_rows [])

abbrev pub selector_faults : List (List ℕ) → List ℕ → Data → List FoundFault
selector_faults earlier = object_faults (selector_rows earlier)

abbrev pub method_given : Option PropertyMatch → Method
method_given (Some filter) = FilterMatch filter
method_given None = SelectAll

abbrev pub method_in : Data → Method
method_in d = method_given (option_map property_match_of (get (codes "filterMatch") d))

abbrev pub selector_of : Data → Selector
selector_of d = record {
  name = text_of (member_of (codes "name") d);
  method = method_given (option_map property_match_of (get (codes "filterMatch") d));
}
