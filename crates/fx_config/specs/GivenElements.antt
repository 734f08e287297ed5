-- Information elements as documents give them: by name, or by number.
use Rattle.std.specs.Prelude.{ℕ, ◌==◌, List, [], ◌∷◌, codes, Option, Some, None, option_map, if◌then◌else◌}
use Rattle.std.specs.Option.{unwrap_or}
use Rattle.serde_json.specs.Data.{Data}
use Rattle.serde_json.specs.Find.{get}
use Rattle.fx_walk.specs.Choice.{one_of}
use Rattle.fx_walk.specs.Scalars.{text_of, number_of, text_faults, whole_faults}
use Rattle.fx_walk.specs.Walk.{Row, optional}
use Rattle.fx_config.specs.declared.element.GivenElement.{GivenElement}
use Rattle.fx_elements.specs.declared.element.Element.{Element}
use Rattle.fx_elements.specs.declared.element.Element.TheVariants.{Other}
use Rattle.fx_elements.specs.Elements.{element_named, element_numbered}

abbrev pub enterprise_given : Option ℕ → ℕ
enterprise_given enterprise = unwrap_or enterprise 0

-- the element of a name, or else of a number; an element of an enterprise is always `Other`
abbrev pub element_given : Option Element → Option ℕ → ℕ → Element
element_given (Some element) number enterprise = if enterprise == 0 then element else Other
element_given None (Some number) enterprise = element_numbered number enterprise
element_given None None enterprise = Other

abbrev pub name_in : Data → Option Element
name_in d = option_map (λ name. element_named (text_of name)) (get (codes "ieName") d)

abbrev pub number_in : Data → Option ℕ
number_in d = option_map number_of (get (codes "ieId") d)

abbrev pub enterprise_in : Data → ℕ
enterprise_in d = enterprise_given (option_map number_of (get (codes "ieEnterpriseNumber") d))

-- the element that an object's members give
abbrev pub element_in : Data → Element
element_in d = element_given (name_in d) (number_in d) (enterprise_in d)

-- the members of which an object has exactly one, and the element that they give
abbrev pub element_rows : List Row
element_rows =
    one_of (codes "ieName" ∷ codes "ieId" ∷ [])
    ∷ optional (codes "ieName") text_faults
    ∷ optional (codes "ieId") (whole_faults 1 32767)
    ∷ []

abbrev pub given_element : Data → GivenElement
given_element d = record { named = name_in d; numbered = number_in d }
