-- What collecting a stream yields: the totals of its records, and the numbers of gaps and skipped records.
use Rattle.std.specs.Prelude.{◌≡◌, ◌≢◌, ◌⊎◌, ℕ, Err, None, List, [], ◌++◌, codes, IsPermutation}
use Rattle.fx_base.specs.declared.fault.Fault.{Fault}
use Rattle.fx_base.specs.declared.fault.Place.TheVariants as places
use Rattle.fx_base.specs.Fault.{fault_at}
use Rattle.fx_base.specs.Refusals.{message_length}
use Rattle.fx_collect.specs.Totals.{Totals, nothing, with_records}
use Rattle.fx_collect.specs.Report.{KeysAscend, number_line, totals_text}
use Rattle.fx_layout.specs.Keys.{Layout}
use Rattle.fx_session.specs.Messages.{Known}
use Rattle.fx_session.specs.Streams.{SessionState, answer_of, after_piece, start, without_waiting}

-- the state of a session after a whole stream
abbrev pub stream_read : List ℕ → SessionState
stream_read octets = after_piece start octets

-- no message is refused, and the stream ends at the end of a message
abbrev pub EndsWithMessage : SessionState → Type 0
EndsWithMessage st = (st.fault ≡ None) × (st.rest ≡ [])

-- why a stream is refused: its first refused message has this fault, or, if no message is refused, the stream ends
-- inside one
abbrev pub IsRefusedStream : SessionState → Fault → Type 0
IsRefusedStream st e =
    (answer_of st.place st.fault ≡ Err e)
    ⊎ ((st.fault ≡ None) × (st.rest ≢ []) × (e ≡ fault_at message_length (places.Octet st.place)))

-- the text of totals, with their keys in ascending order, and of the two numbers
pub record IsTotalsText (tallied : Totals) (gaps skipped : ℕ) (text : List ℕ) : Type 0 where
  pub totals : Totals
  pub entries : IsPermutation tallied.entries totals.entries
  pub ascending : KeysAscend totals.entries
  pub layout_is : totals.layout ≡ tallied.layout
  pub unassigned : totals.unassigned ≡ tallied.unassigned
  pub text_is : text ≡ totals_text totals
      ++ (number_line (codes "gaps ") gaps ++ number_line (codes "skipped ") skipped)

-- the text of what a session knows of a stream: its records are tallied under a layout's keys
abbrev pub IsStreamText : Layout → Known → List ℕ → Type 0
IsStreamText layout k text = IsTotalsText (with_records (nothing layout) k.waiting) k.gaps k.skipped text

-- ---- the state while a stream is read

-- a session that has read these octets, and whose records were tallied
pub record IsTallied (octets : List ℕ) (before : Totals) (session : SessionState) (totals : Totals) : Type 0 where
  pub session_is : session ≡ without_waiting (stream_read octets)
  pub faultless : (stream_read octets).fault ≡ None
  pub totals_are : totals ≡ with_records before (stream_read octets).known.waiting
