-- The records of sets and the messages of streams, case by case.
use Rattle.std.specs.Prelude.{◌≡◌, ℕ, ◌+◌, ◌%◌, ◌^◌, ◌≤◌, ◌<◌, List, length, drop, Some, None, Result, Ok, Err}
use Rattle.fx_wire.specs.Messages.{Message, front, needs_more, complete, refusal}
use Rattle.fx_wire.specs.Values.{after_record, shortest_record}
use Rattle.fx_wire.specs.declared.field.FieldSpecifier.{FieldSpecifier}
use Rattle.fx_wire.specs.declared.template.TemplateKind.{TemplateKind}
use Rattle.fx_session.specs.DataSets.{Taken, flow_record}
use Rattle.fx_session.specs.Messages.{Known, message_read}
use Rattle.fx_session.specs.Streams.{SessionState, place_after, waits, fails}
use Rattle.fx_session.specs.Templates.{Templates}
use Rattle.fx_session.specs.TemplateSets.{template_record}
use Rattle.fx_session.specs.declared.stream_fault.StreamFault.{StreamFault}
use Rattle.fx_session.specs.declared.stream_fault.StreamFault.TheVariants as faults
use Rattle.fx_wire.specs.declared.malformed.Malformed.{Malformed}

-- A data set (RFC 7011, section 3.4.3): fewer octets than the shortest record are padding; a record is read before
-- those
-- after it, or refused.
pub data AreFlowRecords (fields : List FieldSpecifier) : Taken → List ℕ → Result Taken StreamFault → Type 0 where
  flow_padding : (t : Taken) (octets : List ℕ) → length octets < shortest_record fields
      → AreFlowRecords fields t octets (Ok t)
  flow_first : (t : Taken) (octets : List ℕ) (p : Taken × List ℕ) (result : Result Taken StreamFault)
      → shortest_record fields ≤ length octets → flow_record fields t octets ≡ Ok p
      → AreFlowRecords fields p.0 p.1 result → AreFlowRecords fields t octets result
  flow_refused : (t : Taken) (octets : List ℕ) (fault : StreamFault) → shortest_record fields ≤ length octets
      → flow_record fields t octets ≡ Err fault → AreFlowRecords fields t octets (Err fault)

-- one more data record, of which only the count is kept
abbrev pub one_more : Taken → Taken
one_more t = record { waiting = t.waiting; skipped = t.skipped; count = (t.count + 1) % 2 ^ 32 }

-- A data set under an options template: its records are counted; a record that exceeds the set's end is refused.
pub data AreOptionRecords (fields : List FieldSpecifier) : Taken → List ℕ → Result Taken StreamFault → Type 0 where
  option_padding : (t : Taken) (octets : List ℕ) → length octets < shortest_record fields
      → AreOptionRecords fields t octets (Ok t)
  option_first : (t : Taken) (octets rest : List ℕ) (result : Result Taken StreamFault) → shortest_record fields
      ≤ length octets → after_record fields octets ≡ Some rest → AreOptionRecords fields (one_more t) rest result
      → AreOptionRecords fields t octets result
  option_refused : (t : Taken) (octets : List ℕ) → shortest_record fields ≤ length octets → after_record fields octets
      ≡ None → AreOptionRecords fields t octets (Err faults.CutRecord)

-- A template set or options template set (sections 3.4.1 and 3.4.2): fewer than four octets are padding; a template
-- record is applied before those after it, or refused.
pub data AreTemplateRecords (kind : TemplateKind) : Templates → List ℕ → Result Templates StreamFault → Type 0 where
  template_padding : (ts : Templates) (octets : List ℕ) → length octets < 4 → AreTemplateRecords kind ts octets (Ok ts)
  template_first : (ts : Templates) (octets : List ℕ) (p : Templates × List ℕ) (result : Result Templates StreamFault)
      → 4 ≤ length octets → template_record ts kind octets ≡ Ok p → AreTemplateRecords kind p.0 p.1 result
      → AreTemplateRecords kind ts octets result
  template_refused : (ts : Templates) (octets : List ℕ) (fault : StreamFault) → 4 ≤ length octets
      → template_record ts kind octets ≡ Err fault → AreTemplateRecords kind ts octets (Err fault)

-- The octets of a stream: too few octets for a message wait; a message is read before those after it; a message that is
-- refused, for its form or for its content, ends the reading.
pub data AreMessages : Known → ℕ → List ℕ → SessionState → Type 0 where
  unfinished : (k : Known) (place : ℕ) (octets : List ℕ) → front octets ≡ needs_more
      → AreMessages k place octets (waits k place octets)
  message_first : (k next : Known) (place : ℕ) (octets : List ℕ) (m : Message) (standing : SessionState) → front octets
      ≡ complete m → message_read k m ≡ Ok next
      → AreMessages next (place_after place m.octets) (drop m.octets octets) standing
      → AreMessages k place octets standing
  malformed : (k : Known) (place : ℕ) (why : Malformed) (octets : List ℕ) → front octets ≡ refusal why
      → AreMessages k place octets (fails k place (faults.Malformed why))
  message_refused : (k : Known) (place : ℕ) (fault : StreamFault) (octets : List ℕ) (m : Message) → front octets
      ≡ complete m → message_read k m ≡ Err fault → AreMessages k place octets (fails k place fault)
