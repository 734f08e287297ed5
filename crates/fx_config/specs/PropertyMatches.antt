-- Values that packets (RFC 5475, section 6.1) or records must have.
use Rattle.std.specs.Prelude.{ℕ, List, [], ◌∷◌, codes, not, Option, Some, None, is_some, option_map, option_and_then}
use Rattle.std.specs.Option.{unwrap_or}
use Rattle.serde_json.specs.Data.{Data}
use Rattle.fx_walk.specs.Walk.{FoundFault, Row, object_faults, required_row, optional, then_check, member_of, fault_if}
use Rattle.fx_walk.specs.Choice.{one_of}
use Rattle.fx_walk.specs.Scalars.{text_of, text_faults, whole_faults}
use Rattle.fx_config.specs.GivenElements.{element_in}
use Rattle.fx_elements.specs.declared.axis.Axis.{Axis}
use Rattle.fx_elements.specs.declared.axis.Axis.TheVariants.{Source}
use Rattle.fx_elements.specs.declared.element.Element.{Element}
use Rattle.fx_elements.specs.declared.element.Element.TheVariants.{OnAxis, Prefix}
use Rattle.fx_elements.specs.Values.{values_of}
use Rattle.fx_config.specs.declared.property_match.PropertyMatch.{PropertyMatch}
use Rattle.fx_base.specs.Refusals.{bad_value}

-- the axis of an element's values: its own, or that of the addresses of which it is a prefix
abbrev pub axis_matched : Element → Option Axis
axis_matched (OnAxis axis) = Some axis
axis_matched (Prefix axis) = Some axis
axis_matched _ = None

-- the match that an element and the text of its value denote
abbrev pub property_given : Element → List ℕ → Option PropertyMatch
property_given element text =
    option_and_then (λ axis. option_map (λ range. record { axis = axis; range = range }) (values_of element text))
    (axis_matched element)

-- the fault of an element that can't be matched on, or of a text that spells no value of it
abbrev pub property_check : Element → List ℕ → List ℕ → List FoundFault
property_check element text up = fault_if (not (is_some (property_given element text))) bad_value up

abbrev pub property_meant : Element → List ℕ → PropertyMatch
property_meant element text = unwrap_or (property_given element text)
    (record { axis = Source; range = record { low = 0; high = 0; bits = 0 } })

abbrev pub property_match_rows : List Row
property_match_rows =
    one_of (codes "ieName" ∷ codes "ieId" ∷ [])
    ∷ optional (codes "ieName") text_faults
    ∷ optional (codes "ieId") (whole_faults 1 32767)
    ∷ optional (codes "ieEnterpriseNumber") (whole_faults 0 0xffff_ffff)
    ∷ required_row (codes "value") text_faults
    ∷ then_check (λ up d. property_check (element_in d) (text_of (member_of (codes "value") d)) up)
    ∷ []

abbrev pub property_match_faults : List ℕ → Data → List FoundFault
property_match_faults = object_faults property_match_rows

abbrev pub property_match_of : Data → PropertyMatch
property_match_of d = property_meant (element_in d) (text_of (member_of (codes "value") d))
