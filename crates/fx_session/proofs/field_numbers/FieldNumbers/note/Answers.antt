use Rattle.std.proofs.Common.{◌≡◌, ◌∙◌, ◌++◌, ◌∷◌, [], false, inl, inr, refl}
use Rattle.fx_elements.specs.declared.axis.Axis.{Axis}
use Rattle.fx_elements.specs.declared.element.Element.{Element}
use Rattle.fx_session.specs.Flows.{is_value, is_prefix, is_prefix_length, is_octets, is_packets}
use Rattle.fx_session.specs.Values.{Notes}
use Rattle.fx_elements.specs.declared.element.Element.TheVariants.{OctetTotalCount, PacketTotalCount, Other}
use Rattle.fx_session.proofs.Notes.{note_value, note_prefix, note_length, note_octets, note_packets, note_none}
use Rattle.fx_session.proofs.field_numbers.FieldNumbers.note.Goals as goal

pub returns-in-OnAxis : goal.returns-in-OnAxis
returns-in-OnAxis c = λ vs field e known. note_value c.args.self.now vs
    (record { field = field; content = c.args.content.now }) c.in-OnAxis.axis c.note.new.self (e ∙ c.in-OnAxis.is)
    c.note.ensures known

pub returns-in-OctetDeltaCount : goal.returns-in-OctetDeltaCount
returns-in-OctetDeltaCount c = λ vs field e known. note_octets c.args.self.now vs
    (record { field = field; content = c.args.content.now }) c.note_first.new.noted (e ∙ c.in-OctetDeltaCount.is)
    c.note_first.ensures known

pub returns-in-PacketDeltaCount : goal.returns-in-PacketDeltaCount
returns-in-PacketDeltaCount c = λ vs field e known. note_packets c.args.self.now vs
    (record { field = field; content = c.args.content.now }) c.note_first-in-PacketDeltaCount.new.noted
    (e ∙ c.in-PacketDeltaCount.is) c.note_first-in-PacketDeltaCount.ensures known

pub returns-in-Prefix : goal.returns-in-Prefix
returns-in-Prefix c = λ vs field e known. note_prefix c.args.self.now vs
    (record { field = field; content = c.args.content.now }) c.in-Prefix.axis c.note-in-Prefix.new.self
    (e ∙ c.in-Prefix.is) c.note-in-Prefix.ensures known

pub returns-in-PrefixLength : goal.returns-in-PrefixLength
returns-in-PrefixLength c = λ vs field e known. note_length c.args.self.now vs
    (record { field = field; content = c.args.content.now }) c.in-PrefixLength.axis c.note-in-PrefixLength.new.self
    (e ∙ c.in-PrefixLength.is) c.note-in-PrefixLength.ensures known

pub returns-in-OctetTotalCount : goal.returns-in-OctetTotalCount
returns-in-OctetTotalCount c = λ vs field e known.
    let by : (element : Element) → c.args.element ≡ element → ((axis : Axis) → is_value axis element ≡ false)
    → ((axis : Axis) → is_prefix axis element ≡ false) → ((axis : Axis) → is_prefix_length axis element ≡ false)
    → is_octets element ≡ false → is_packets element ≡ false
    → Notes c.args.self.now (vs ++ record { field = field; content = c.args.content.now } ∷ [])
    = λ element is value prefix length octets packets. note_none c.args.self.now vs
    (record { field = field; content = c.args.content.now }) element (e ∙ is) value prefix length octets packets
    known in
    elim c.in-OctetTotalCount.is [
      | inl is ↦ by OctetTotalCount is (λ axis. refl) (λ axis. refl) (λ axis. refl) refl refl
      | inr other ↦ elim other [
        | inl is ↦ by PacketTotalCount is (λ axis. refl) (λ axis. refl) (λ axis. refl) refl refl
        | inr is ↦ by Other is (λ axis. refl) (λ axis. refl) (λ axis. refl) refl refl
      ]
    ]
