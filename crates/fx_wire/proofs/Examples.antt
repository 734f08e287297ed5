-- A message and fields, read by the definitions alone.
use Rattle.std.proofs.Common.{◌≡◌, ℕ, List, [], ◌∷◌, ◌++◌, refl, true, false, Some, None, Ok, take, drop}
use Rattle.fx_wire.specs.Sets.{sets_of, sets_in}
use Rattle.fx_wire.specs.Messages.{front, complete, refusal, needs_more}
use Rattle.fx_elements.specs.declared.element.Element.TheVariants.{OnAxis}
use Rattle.fx_elements.specs.declared.axis.Axis.TheVariants.{Version, Source6}
use Rattle.fx_wire.specs.Fields.{fields_in, element_of, can_have}
use Rattle.fx_wire.specs.Templates.{heading_at}
use Rattle.fx_wire.specs.Values.{record_at}
use Rattle.fx_wire.specs.declared.template.TemplateKind.TheVariants as kinds
use Rattle.fx_wire.specs.declared.template.TemplateHeading.TheVariants.{Declaration, WithdrawalOfAll}
use Rattle.fx_wire.specs.declared.malformed.Malformed.TheVariants as malformed

-- a template of a source address and the two counters
abbrev template : List ℕ
template = 1 ∷ 0 ∷ 0 ∷ 3 ∷ 0 ∷ 8 ∷ 0 ∷ 4 ∷ 0 ∷ 1 ∷ 0 ∷ 8 ∷ 0 ∷ 2 ∷ 0 ∷ 8 ∷ []

-- 10.0.0.1, 300 octets, 2 packets
abbrev flow : List ℕ
flow = 10 ∷ 0 ∷ 0 ∷ 1 ∷ 0 ∷ 0 ∷ 0 ∷ 0 ∷ 0 ∷ 0 ∷ 1 ∷ 44 ∷ 0 ∷ 0 ∷ 0 ∷ 0 ∷ 0 ∷ 0 ∷ 0 ∷ 2 ∷ []

abbrev stream : List ℕ
stream = 0 ∷ 10 ∷ 0 ∷ 60 ∷ 0 ∷ 0 ∷ 0 ∷ 2 ∷ 0 ∷ 0 ∷ 0 ∷ 0 ∷ 0 ∷ 0 ∷ 0 ∷ 0 ∷ 0 ∷ 2 ∷ 0 ∷ 20
    ∷ (template ++ 1 ∷ 0 ∷ 0 ∷ 24 ∷ flow)

reads_a_message : front stream ≡ complete (record {
  octets = 60;
  header = record { export_time = 2; sequence_number = 0; observation_domain = 0 };
  sets = record { id = 2; content = template } ∷ record { id = 256; content = flow } ∷ [];
})
unfolding sets_of sets_in
reads_a_message = refl

needs_the_last_octet : front (take 59 stream) ≡ needs_more
needs_the_last_octet = refl

refuses_a_version : front (0 ∷ 9 ∷ drop 2 stream) ≡ refusal malformed.Version
refuses_a_version = refl

refuses_a_cut_set : front (0 ∷ 10 ∷ 0 ∷ 20 ∷ drop 4 (take 20 stream)) ≡ refusal malformed.SetLength
unfolding sets_of sets_in
refuses_a_cut_set = refl

reads_a_heading : heading_at kinds.Plain template
    ≡ Ok (Declaration (record { id = 256; scope = 0; count = 3 }), drop 4 template)
reads_a_heading = refl

reads_a_withdrawal : heading_at kinds.Options (0 ∷ 3 ∷ 0 ∷ 0 ∷ []) ≡ Ok (WithdrawalOfAll, [])
reads_a_withdrawal = refl

reads_fields : fields_in 3 (drop 4 template) ≡ Ok (
  record { element = 8; field_length = 4; enterprise = None }
      ∷ record { element = 1; field_length = 8; enterprise = None }
      ∷ record { element = 2; field_length = 8; enterprise = None } ∷ [],
  [],
)
unfolding fields_in element_of
reads_fields = refl

-- a value of variable length tells its length first
reads_a_name : record_at (record { element = 82; field_length = 65535; enterprise = None } ∷ [])
    (3 ∷ 101 ∷ 116 ∷ 104 ∷ 7 ∷ [])
    ≡ Some (
      record {
        field = record { element = 82; field_length = 65535; enterprise = None };
        content = 101 ∷ 116 ∷ 104
            ∷ [];
      } ∷ [],
      7 ∷ [],
    )
unfolding record_at
reads_a_name = refl

takes_16_octets_for_an_address : can_have (OnAxis Source6) 16 ≡ true
takes_16_octets_for_an_address = refl

refuses_4_octets_for_an_address : can_have (OnAxis Source6) 4 ≡ false
refuses_4_octets_for_an_address = refl

refuses_a_version_of_variable_length : can_have (OnAxis Version) 65535 ≡ false
refuses_a_version_of_variable_length = refl
