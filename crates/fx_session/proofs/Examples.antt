-- A stream of two messages, and a prefix, read by the definitions alone.
use Rattle.std.proofs.Common.{◌≡◌, ℕ, List, [], ◌∷◌, ◌++◌, length, refl, Some, None, Ok, Err}
use Rattle.fx_elements.specs.declared.axis.Axis.TheVariants.{Source, Source6}
use Rattle.fx_tables.specs.declared.record.Record.{Record}
use Rattle.fx_wire.specs.Sets.{sets_of, sets_in}
use Rattle.fx_wire.specs.Fields.{element_of, fields_in}
use Rattle.fx_wire.specs.Values.{Value, record_at}
use Rattle.fx_session.specs.Templates.{same_fields}
use Rattle.fx_session.specs.TemplateSets.{has_narrow, template_record, template_records, template_set}
use Rattle.fx_session.specs.Flows.{number_in, flow_in}
use Rattle.fx_session.specs.DataSets.{flow_records, flow_set}
use Rattle.fx_session.specs.Messages.{set_read, sets_read, message_read}
use Rattle.fx_session.specs.Streams.{read_in, read_all, after_piece, start}
use Rattle.fx_session.specs.declared.stream_fault.StreamFault.TheVariants as faults

-- a template of a source address and the two counters, and a record: 10.0.0.1, 300 octets, 2 packets
abbrev first : List ℕ
first = 0 ∷ 10 ∷ 0 ∷ 60 ∷ 0 ∷ 0 ∷ 0 ∷ 2 ∷ 0 ∷ 0 ∷ 0 ∷ 0 ∷ 0 ∷ 0 ∷ 0 ∷ 0 ∷ 0 ∷ 2 ∷ 0 ∷ 20 ∷ 1 ∷ 0 ∷ 0 ∷ 3 ∷ 0 ∷ 8 ∷ 0 ∷ 4
    ∷ 0 ∷ 1 ∷ 0 ∷ 8 ∷ 0 ∷ 2 ∷ 0 ∷ 8
    ∷ 1 ∷ 0 ∷ 0 ∷ 24 ∷ 10 ∷ 0 ∷ 0 ∷ 1 ∷ 0 ∷ 0 ∷ 0 ∷ 0 ∷ 0 ∷ 0 ∷ 1 ∷ 44 ∷ 0 ∷ 0 ∷ 0 ∷ 0 ∷ 0 ∷ 0 ∷ 0 ∷ 2 ∷ []

-- one packet more, under the same template
abbrev second : List ℕ
second = 0 ∷ 10 ∷ 0 ∷ 40 ∷ 0 ∷ 0 ∷ 0 ∷ 3 ∷ 0 ∷ 0 ∷ 0 ∷ 1 ∷ 0 ∷ 0 ∷ 0 ∷ 0 ∷ 1 ∷ 0 ∷ 0 ∷ 24 ∷ 10 ∷ 0 ∷ 0 ∷ 1 ∷ 0 ∷ 0 ∷ 0
    ∷ 0 ∷ 0 ∷ 0 ∷ 1 ∷ 44 ∷ 0 ∷ 0 ∷ 0 ∷ 0 ∷ 0 ∷ 0 ∷ 0 ∷ 1 ∷ []

abbrev flow : ℕ → Record
flow packets = record {
  key = record { layout = record { axis = Source; bits = 32 } ∷ []; values = 167772161 ∷ [] };
  counts = record { packets = packets; octets = 300 };
}

reads_two_messages : (after_piece start (first ++ second)).known.waiting ≡ flow 2 ∷ flow 1 ∷ []
unfolding sets_of sets_in element_of fields_in record_at same_fields has_narrow template_record template_records
    template_set number_in flow_in flow_records flow_set set_read sets_read message_read read_in read_all
reads_two_messages = refl

counts_a_gap : (after_piece start (first ++ first)).known.gaps ≡ 1
unfolding sets_of sets_in element_of fields_in record_at same_fields has_narrow template_record template_records
    template_set number_in flow_in flow_records flow_set set_read sets_read message_read read_in read_all
counts_a_gap = refl

needs_a_template : (after_piece start second).fault ≡ Some 617
unfolding sets_of sets_in set_read sets_read message_read read_in read_all
needs_a_template = refl

abbrev registered : ℕ → List ℕ → Value
registered element octets = record {
  field =
      record { element = element; field_length = length octets; enterprise = None };
  content = octets;
}

-- 2001:db8::1 as a prefix with so many bits, 300 octets, 2 packets
abbrev prefix : ℕ → List Value
prefix bits =
    registered 170 (32 ∷ 1 ∷ 13 ∷ 184 ∷ 0 ∷ 0 ∷ 0 ∷ 0 ∷ 0 ∷ 0 ∷ 0 ∷ 0 ∷ 0 ∷ 0 ∷ 0 ∷ 1 ∷ []) ∷ registered 29 (bits ∷ [])
    ∷ registered 1 (1 ∷ 44 ∷ []) ∷ registered 2 (2 ∷ []) ∷ []

-- of 2001:db8::/32 the first 32 bits are known
reads_a_prefix : flow_in (prefix 32) ≡ Ok (Some (record {
  key = record { layout = record { axis = Source6; bits = 32 } ∷ []; values = 536939960 ∷ [] };
  counts = record { packets = 2; octets = 300 };
}))
unfolding flow_in number_in element_of
reads_a_prefix = refl

refuses_129_bits : flow_in (prefix 129) ≡ Err faults.PrefixLength
unfolding flow_in number_in element_of
refuses_129_bits = refl
