-- What is put on a link: messages of records (RFC 7011, section 3).
use Rattle.std.specs.Prelude.{◌≡◌, ℕ, suc, ◌+◌, ◌%◌, ◌^◌, ◌<◌, ◌≤◌, ◌&&◌, Bool, true, nat_lt, if◌then◌else◌, List, [], ◌∷◌, ◌++◌, length, Some, None}
use Rattle.std.specs.List.{list_any, position_or_len, AllByRecursion}
use Rattle.fx_layout.specs.Keys.{Layout, HasBits, IsLayout, same_layout}
use Rattle.fx_tables.specs.declared.record.Record.{Record}
use Rattle.fx_wire.specs.Sets.{SetParts}
use Rattle.fx_wire.specs.Writing.{message_octets}
use Rattle.fx_wire.specs.declared.header.Header.{Header}
use Rattle.fx_session.specs.Streams.{SessionState, after_piece}
use Rattle.fx_session.specs.Templates.{Template}
use Rattle.fx_session.specs.declared.domain.Domain.{Domain}
use Rattle.fx_link.specs.Records.{fields_of, template_octets, records_octets}

-- The state of the sender on a link.
pub record Sender : Type 0 where
  -- the layouts of the records that it has sent, in the order of first use; their templates have ids from 256
  pub layouts : List Layout
  -- the number of records that it has put on the link, modulo 2 to the 32
  pub sent : ℕ

-- the sender of a link that nothing was put on
abbrev pub new_sender : Sender
new_sender = record { layouts = []; sent = 0 }

-- ---- a message

-- the layout of a message's records: that of the first record
abbrev pub layout_of : List Record → Layout
layout_of [] = []
layout_of (r ∷ rs) = r.key.layout

abbrev pub knows : List Layout → Layout → Bool
knows layouts layout = list_any (same_layout layout) layouts

abbrev pub template_id : List Layout → Layout → ℕ
template_id layouts layout = 256 + position_or_len (same_layout layout) layouts

-- a template set comes first if the link hasn't used the layout yet (section 8.4)
abbrev pub template_sets : List Layout → Layout → List SetParts
template_sets layouts layout =
    if knows layouts layout then [] else record { id = 2; content = template_octets (256 + length layouts) layout } ∷ []

-- the template set, if any, then the records
abbrev pub message_sets : List Layout → List Record → List SetParts
message_sets layouts rs =
    template_sets layouts (layout_of rs) ++ record {
      id = template_id layouts (layout_of rs);
      content =
          records_octets rs;
    } ∷ []

-- the sequence number is the number of records put on the link before, and the observation domain is 0
abbrev pub header_at : ℕ → Sender → Header
header_at time s = record { export_time = time; sequence_number = s.sent; observation_domain = 0 }

-- one message with these records, which share one layout
unfoldable pub batch_octets : ℕ → Sender → List Record → List ℕ
batch_octets time s rs = message_octets (header_at time s) (message_sets s.layouts rs)

abbrev pub layouts_with : List Layout → Layout → List Layout
layouts_with layouts layout = if knows layouts layout then layouts else layouts ++ layout ∷ []

abbrev pub after_batch : Sender → List Record → Sender
after_batch s rs = record { layouts = layouts_with s.layouts (layout_of rs); sent = (s.sent + length rs) % 2 ^ 32 }

-- ---- which records share a message

-- the maximum number of records in a message
abbrev pub most : ℕ
most = 64

-- a record joins those that wait for their message if it has their layout and there is room
abbrev pub joins : List Record → Record → Bool
joins [] r = true
joins (first ∷ rest) r = same_layout r.key.layout first.key.layout && nat_lt (length (first ∷ rest)) most

-- a single batch, if there are records
abbrev pub one_batch : List Record → List (List Record)
one_batch [] = []
one_batch (r ∷ rs) = (r ∷ rs) ∷ []

-- consecutive records of one layout share a message, after those that already wait
abbrev pub batches_from : List Record → List Record → List (List Record)
batches_from batch [] = one_batch batch
batches_from batch (r ∷ rs) =
    if joins batch r then batches_from (batch ++ r ∷ []) rs else one_batch batch ++ batches_from (r ∷ []) rs

abbrev pub batches_of : List Record → List (List Record)
batches_of rs = batches_from [] rs

abbrev pub after_batches : Sender → List (List Record) → Sender
after_batches s [] = s
after_batches s (b ∷ bs) = after_batches (after_batch s b) bs

abbrev pub stream_octets : ℕ → Sender → List (List Record) → List ℕ
stream_octets time s [] = []
stream_octets time s (b ∷ bs) = batch_octets time s b ++ stream_octets time (after_batch s b) bs

-- ---- what can be sent

-- a record of a layout that has the bits of its values and counts under 2 to the 64
pub record IsSendable (layout : Layout) (r : Record) : Type 0 where
  pub layout_is : r.key.layout ≡ layout
  pub bits : HasBits layout r.key.values
  pub packets : r.counts.packets < 2 ^ 64
  pub octets : r.counts.octets < 2 ^ 64

-- records that can share a message
pub record IsBatch (batch : List Record) : Type 0 where
  pub layout : IsLayout (layout_of batch)
  pub records : AllByRecursion (IsSendable (layout_of batch)) batch
  pub some : 1 ≤ length batch
  pub few : length batch ≤ most

-- records that wait for their message: none, or a batch
abbrev pub Begun : List Record → Type 0
Begun [] = Unit {0}
Begun (r ∷ rs) = IsBatch (r ∷ rs)

-- valid layouts, few enough for the template ids from 256
pub record IsSender (s : Sender) : Type 0 where
  pub layouts : AllByRecursion IsLayout s.layouts
  pub few : 256 + length s.layouts < 2 ^ 16
  pub sent : s.sent < 2 ^ 32

-- template ids are left for this number of further layouts
abbrev pub has_room : ℕ → Sender → Bool
has_room more s = nat_lt (256 + more + length s.layouts) (2 ^ 16)

-- a template id is left for the layout of the waiting records, if there are any
abbrev pub has_room_for : List Record → Sender → Bool
has_room_for [] s = true
has_room_for (r ∷ rs) s = has_room 1 s

-- ---- what the receiver knows

abbrev pub template_of : Layout → Template
template_of layout = record { scope = 0; fields = fields_of layout }

abbrev pub templates_from : ℕ → List Layout → List (ℕ × Template)
templates_from id [] = []
templates_from id (layout ∷ layouts) = (id, template_of layout) ∷ templates_from (suc id) layouts

-- the sender's observation domain: its templates, and the next sequence number
abbrev pub domain_of : Sender → Domain
domain_of s = record { templates = record { plain = templates_from 256 s.layouts; options = [] }; next = Some s.sent }

abbrev pub domains_of : Sender → List (ℕ × Domain)
domains_of s = elim s.layouts [ [] ↦ [] | layout ∷ layouts ↦ (0, domain_of s) ∷ [] ]

-- A session has read all that a sender has put on its link, and nothing else.
pub record KeepsUp (s : Sender) (st : SessionState) : Type 0 where
  pub domains : st.known.domains ≡ domains_of s
  pub rest : st.rest ≡ []
  pub fault : st.fault ≡ None

-- these records are added to the waiting ones, and the counts of gaps and of skipped records are unchanged
pub record ReadsMore (old new : SessionState) (rs : List Record) : Type 0 where
  pub waiting : new.known.waiting ≡ old.known.waiting ++ rs
  pub gaps : new.known.gaps ≡ old.known.gaps
  pub skipped : new.known.skipped ≡ old.known.skipped

-- each record has a layout of its own, and can be sent
abbrev pub IsSent : Record → Type 0
IsSent r = IsLayout r.key.layout × IsSendable r.key.layout r

-- the octets of the batches of these records, and the sender's state after them
abbrev pub sent_octets : ℕ → Sender → List Record → List ℕ
sent_octets time s rs = stream_octets time s (batches_of rs)

abbrev pub after_sent : Sender → List Record → Sender
after_sent s rs = after_batches s (batches_of rs)

-- ---- the laws

-- Reading what is written for a batch returns exactly its records.
abbrev pub BatchesAreRead : Type 0
BatchesAreRead =
    (time : ℕ) (s : Sender) (st : SessionState) (batch : List Record)
    → time < 2 ^ 32 → IsSender s → IsBatch batch → KeepsUp s st
    → KeepsUp (after_batch s batch) (after_piece st (batch_octets time s batch))
    × ReadsMore st (after_piece st (batch_octets time s batch)) batch

-- Records that are sent together, in messages of one layout and at most 64 records, are read exactly and in order.
abbrev pub RecordsAreRead : Type 0
RecordsAreRead =
    (time : ℕ) (s : Sender) (st : SessionState) (rs : List Record)
    → time < 2 ^ 32 → IsSender s → AllByRecursion IsSent rs → 256 + length (after_sent s rs).layouts < 2 ^ 16
    → KeepsUp s st
    → KeepsUp (after_sent s rs) (after_piece st (sent_octets time s rs))
    × ReadsMore st (after_piece st (sent_octets time s rs)) rs
