-- Template sets and options template sets (RFC 7011, sections 3.4.1, 3.4.2 and 8.1).
use Rattle.std.specs.Prelude.{ℕ, zero, suc, Bool, true, false, ◌&&◌, not, ◌==◌, nat_lt, if◌then◌else◌, List, [], ◌∷◌, length, Result, Ok, Err}
use Rattle.fx_elements.specs.declared.element.Element.{Element}
use Rattle.fx_elements.specs.declared.element.Element.TheVariants.{OctetDeltaCount, PacketDeltaCount}
use Rattle.fx_wire.specs.Fields.{element_of, fields_in}
use Rattle.fx_wire.specs.Templates.{heading_at}
use Rattle.fx_wire.specs.declared.field.FieldSpecifier.{FieldSpecifier}
use Rattle.fx_wire.specs.declared.template.TemplateKind.{TemplateKind}
use Rattle.fx_wire.specs.declared.template.TemplateKind.TheVariants as kinds
use Rattle.fx_wire.specs.declared.template.TemplateHeading.{TemplateHeading}
use Rattle.fx_wire.specs.declared.template.TemplateHeading.TheVariants.{Withdrawal, WithdrawalOfAll, Declaration}
use Rattle.fx_session.specs.Templates.{Templates, after_declaration, after_withdrawal, after_withdrawal_of_all}
use Rattle.fx_session.specs.declared.stream_fault.StreamFault.{StreamFault}
use Rattle.fx_session.specs.declared.stream_fault.StreamFault.TheVariants as faults
use Rattle.fx_wire.specs.declared.malformed.Malformed.{Malformed}

abbrev pub is_counter : Element → Bool
is_counter OctetDeltaCount = true
is_counter PacketDeltaCount = true
is_counter _ = false

-- counters of fewer than 8 octets wrap; only length 8 is accepted
abbrev pub is_narrow : FieldSpecifier → Bool
is_narrow f = is_counter (element_of f) && not (f.field_length == 8)

unfoldable pub has_narrow : List FieldSpecifier → Bool
has_narrow [] = false
has_narrow (f ∷ fs) = if is_narrow f then true else has_narrow fs

-- only counters in plain templates are checked, since only those are read
abbrev pub narrow_in : TemplateKind → List FieldSpecifier → Bool
narrow_in kinds.Plain fields = has_narrow fields
narrow_in kinds.Options fields = false

abbrev pub followed_by : List ℕ → Result Templates StreamFault → Result (Templates × List ℕ) StreamFault
followed_by octets (Ok ts) = Ok (ts, octets)
followed_by octets (Err fault) = Err fault

abbrev pub with_fields : Templates → TemplateKind → ℕ → ℕ → Result (List FieldSpecifier × List ℕ) Malformed
    → Result (Templates × List ℕ) StreamFault
with_fields ts kind id scope (Ok p) = if narrow_in kind p.0 then Err faults.CounterLength else followed_by p.1
    (after_declaration ts kind id (record { scope = scope; fields = p.0 }))
with_fields ts kind id scope (Err why) = Err (faults.Malformed why)

abbrev pub with_heading : Templates → TemplateKind → Result (TemplateHeading × List ℕ) Malformed
    → Result (Templates × List ℕ) StreamFault
with_heading ts kind (Ok p) = elim p.0 [
  | Withdrawal id ↦ Ok (after_withdrawal ts id, p.1)
  | WithdrawalOfAll ↦ Ok (after_withdrawal_of_all ts kind, p.1)
  | Declaration new ↦ with_fields ts kind new.id new.scope (fields_in new.count p.1)
]
with_heading ts kind (Err why) = Err (faults.Malformed why)

-- the templates after the template record at the front, and the octets after it: refusal 614 takes precedence over 618,
-- and 618 over 616
unfoldable pub template_record : Templates → TemplateKind → List ℕ → Result (Templates × List ℕ) StreamFault
template_record ts kind octets = with_heading ts kind (heading_at kind octets)

-- The records in order; fewer than four octets are padding (section 3.3.1). Each record has octets, so their number
-- bounds the turns.
unfoldable pub template_records : ℕ → Templates → TemplateKind → List ℕ → Result Templates StreamFault
template_records zero ts kind octets = Ok ts
template_records (suc turns) ts kind octets =
    if nat_lt (length octets) 4 then Ok ts
    else elim (template_record ts kind octets) [ Ok p ↦ template_records turns p.0 kind p.1 | Err fault ↦ Err fault ]

unfoldable pub template_set : Templates → TemplateKind → List ℕ → Result Templates StreamFault
template_set ts kind octets = template_records (length octets) ts kind octets
