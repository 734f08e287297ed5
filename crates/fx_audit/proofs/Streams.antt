-- A stream's records, taken out as they come.
use Rattle.std.proofs.Common.{◌≡◌, ◌⊎◌, inl, inr, ℕ, ◌+◌, ◌≤◌, List, [], ◌∷◌, ◌++◌, length, refl, sym, ap, subst, ◌∙◌, arith, append_assoc, Option, Some, None, Err, codes}
use Rattle.std.proofs.lemmas.List.{append-nil, length-append}
use Rattle.std.specs.Io.KnownBytes.{prepend_known}
use Rattle.fx_base.proofs.GoingOn.{something_left}
use Rattle.fx_base.proofs.Reading.{read_more}
use Rattle.fx_base.proofs.Writing.{writes_both}
use Rattle.fx_base.specs.Device.{MayBeLeft, MayHaveLeft, Writes}
use Rattle.fx_base.specs.declared.fault.Fault.{Fault}
use Rattle.fx_base.specs.declared.fault.Place.TheVariants as places
use Rattle.fx_base.specs.Fault.{fault_at}
use Rattle.fx_base.specs.Refusals.{message_length}
use Rattle.fx_tables.specs.declared.record.Record.{Record}
use Rattle.fx_collect.specs.Report.{number_line}
use Rattle.fx_collect.specs.Totals.{Totals, with_record, with_records}
use Rattle.fx_session.proofs.InFront.{after_piece-behind}
use Rattle.fx_session.proofs.StreamSteps.{all_none, after_piece-off, pieces}
use Rattle.fx_session.specs.Streams.{SessionState, answer_of, behind, after_piece, start, without_waiting}
use Rattle.fx_checker.specs.Outputs.{Prints}
use Rattle.fx_audit.specs.Streams.{EndsWithMessage, IsRefusedStream, IsTallied, IsTotalsText, stream_read}

-- ---- piece after piece

pub with_more : (t : Totals) (rs more : List Record) → with_records t (rs ++ more)
    ≡ with_records (with_records t rs) more
with_more t [] more = refl
with_more t (r ∷ rs) more = with_more (with_record t r) rs more

-- reading on, with the records taken out, is reading on and taking them out
read_on : (st : SessionState) (piece : List ℕ) → after_piece st piece
    ≡ behind st.known.waiting (after_piece (without_waiting st) piece)
read_on st piece = ap (λ (s : SessionState). after_piece s piece) (same st)
    ∙ after_piece-behind st.known.waiting (without_waiting st) piece where
      same : (st : SessionState) → st ≡ behind st.known.waiting (without_waiting st)
      same st = ap (λ (rs : List Record). let other : SessionState =
          record {
            known = record {
              domains = st.known.domains;
              waiting = rs;
              gaps = st.known.gaps;
              skipped =
                  st.known.skipped;
            };
            place = st.place;
            rest = st.rest;
            fault = st.fault;
          } in other)
          (sym (append-nil st.known.waiting))

-- what is read of a stream after a piece more
stream_on : (seen piece : List ℕ) (session : SessionState) → session ≡ without_waiting (stream_read seen)
    → stream_read (seen ++ piece) ≡ behind (stream_read seen).known.waiting (after_piece session piece)
stream_on seen piece session is =
    sym (pieces start seen piece) ∙ read_on (stream_read seen) piece
    ∙ ap (λ (s : SessionState). behind (stream_read seen).known.waiting (after_piece s piece)) (sym is)

piece_tallied : (seen piece : List ℕ) (before totals totals' : Totals) (session session' : SessionState)
    → IsTallied seen before session totals → session' ≡ without_waiting (after_piece session piece) → session'.fault
    ≡ None
    → totals' ≡ with_records totals (after_piece session piece).known.waiting
    → IsTallied (seen ++ piece) before session' totals'
piece_tallied seen piece before totals totals' session session' t is none are =
    let on = stream_on seen piece session t.session_is in
    let more = (after_piece session piece).known.waiting in
    record {
      session_is = is ∙ sym (ap without_waiting on);
      faultless = ap (λ (s : SessionState). s.fault) on ∙ sym (ap (λ (s : SessionState). s.fault) is) ∙ none;
      totals_are = are ∙ ap (λ (x : Totals). with_records x more) t.totals_are
          ∙ sym (with_more before (stream_read seen).known.waiting more)
          ∙ sym (ap (λ (s : SessionState). with_records before s.known.waiting) on);
    }

-- so many calls have read these octets of a stream, and its records were tallied
pub record IsReadOn (all left : Option (List ℕ)) (before : Totals) (session : SessionState) (totals : Totals)
    (calls : ℕ) : Type 0 where
  pub seen : List ℕ
  pub parts : prepend_known seen left ≡ all
  pub tallied : IsTallied seen before session totals
  pub count : calls ≤ length seen

pub begun : (all : Option (List ℕ)) (before : Totals) (session : SessionState) (calls : ℕ) → calls ≡ 0 → session ≡ start
    → IsReadOn all all before session before calls
begun all before session calls none_made is =
    let none = all_none start.known 0 in
    record {
      seen = [];
      parts = nothing_held all;
      tallied = record {
        session_is = is ∙ sym (ap without_waiting none);
        faultless = ap (λ (s : SessionState). s.fault) none;
        totals_are = sym (ap (λ (s : SessionState). with_records before s.known.waiting) none);
      };
      count = omega (arith, none_made);
    } where
      nothing_held : (o : Option (List ℕ)) → prepend_known [] o ≡ o
      nothing_held None = refl
      nothing_held (Some octets) = refl

pub read_further : (all left left' : Option (List ℕ)) (before totals totals' : Totals) (session session' : SessionState)
    (calls calls' : ℕ) (piece : List ℕ) → IsReadOn all left before session totals calls → calls' ≡ calls + 1
    → prepend_known piece left' ≡ left
    → 1 ≤ length piece → session' ≡ without_waiting (after_piece session piece) → session'.fault ≡ None → totals'
    ≡ with_records totals (after_piece session piece).known.waiting
    → IsReadOn all left' before session' totals' calls'
read_further all left left' before totals totals' session session' calls calls' piece h one reads some is none are =
    record {
      seen = h.seen ++ piece;
      parts = read_more h.seen piece left left' reads ∙ h.parts;
      tallied = piece_tallied h.seen piece before totals totals' session session' h.tallied is none are;
      count = omega (arith, h.count, one, some, length-append h.seen piece);
    }

-- a fault is answered for all that comes later
faulty : (place : ℕ) (o : Option ℕ) (e : Fault) → answer_of place o ≡ Err e → (n : ℕ) × (o ≡ Some n)
faulty place (Some n) e h = (n, refl)
faulty place None e h = absurd cc

still_refused : (seen piece later : List ℕ) (before totals : Totals) (session : SessionState) (e : Fault)
    → IsTallied seen before session totals → answer_of (after_piece session piece).place
    (after_piece session piece).fault ≡ Err e
    → answer_of (stream_read (seen ++ (piece ++ later))).place (stream_read (seen ++ (piece ++ later))).fault ≡ Err e
still_refused seen piece later before totals session e t h =
    let on = stream_on seen piece session t.session_is in
    let f = faulty (after_piece session piece).place (after_piece session piece).fault e h in
    let now = stream_read (seen ++ piece) in
    let stays = ap stream_read (sym (append_assoc seen piece later)) ∙ sym (pieces start (seen ++ piece) later)
    ∙ after_piece-off now later f.0 (ap (λ (s : SessionState). s.fault) on ∙ f.1) in
    ap (λ (s : SessionState). answer_of s.place s.fault) (stays ∙ on) ∙ h

-- what may be left behind a piece, and the piece and what was read before it
left_behind : (seen piece rest : List ℕ) (left left' : Option (List ℕ)) → prepend_known piece left' ≡ left
    → MayBeLeft left' rest → MayBeLeft (prepend_known seen left) (seen ++ (piece ++ rest))
left_behind seen piece rest left None is behind = rw (← is) tt
left_behind seen piece rest left (Some l) is behind = rw (← is) (ap (λ (xs : List ℕ). seen ++ (piece ++ xs)) behind)

pub read_refused : (all left left' : Option (List ℕ)) (before totals : Totals) (session : SessionState) (calls : ℕ)
    (piece : List ℕ) (e : Fault) → IsReadOn all left before session totals calls → prepend_known piece left' ≡ left
    → answer_of (after_piece session piece).place (after_piece session piece).fault ≡ Err e
    → MayHaveLeft all (λ octets. answer_of (stream_read octets).place (stream_read octets).fault ≡ Err e)
read_refused all left left' before totals session calls piece e h reads refused =
    let later = something_left left' in
    let octets : List ℕ = h.seen ++ (piece ++ later.0) in (
      octets,
      subst (λ (o : Option (List ℕ)). MayBeLeft o octets) h.parts
          (left_behind h.seen piece later.0 left left' reads later.1),
      still_refused h.seen piece later.0 before totals
          session e h.tallied refused,
    )

pub piece_refused : (all left left' : Option (List ℕ)) (before totals : Totals) (session : SessionState) (calls : ℕ)
    (piece : List ℕ) (e : Fault) (M F : Type 0) → IsReadOn all left before session totals calls
    → prepend_known piece left' ≡ left
    → M ⊎ (answer_of (after_piece session piece).place (after_piece session piece).fault ≡ Err e) → M
    ⊎ (F ⊎ MayHaveLeft all (λ octets. answer_of (stream_read octets).place (stream_read octets).fault ≡ Err e))
piece_refused all left left' before totals session calls piece e M F h reads refused =
    elim refused [
      | inl m ↦ inl m
      | inr r ↦ inr
          (inr (read_refused all left left' before totals session calls piece e h reads r))
    ]

-- ---- where the stream ends

none_in : (xs : List ℕ) → length xs ≤ 0 → xs ≡ []
none_in [] le = refl
none_in (x ∷ xs) le = absurd (omega arith)

pub collected : (left a b : Option (List ℕ)) (before totals : Totals) (session : SessionState)
    → MayHaveLeft left (λ octets. IsTallied octets before session totals) → length session.rest ≤ 0
    → Prints (IsTotalsText totals session.known.gaps session.known.skipped) a b
    → MayHaveLeft left (λ octets. EndsWithMessage (stream_read octets)
    × Prints (IsTotalsText (with_records before (stream_read octets).known.waiting) (stream_read octets).known.gaps
    (stream_read octets).known.skipped) a b)
collected left a b before totals session (octets, may, t) le (text, is, written) =
    let read = stream_read octets in
    let rest = sym (ap (λ (s : SessionState). s.rest) t.session_is) ∙ none_in session.rest le in
    let text_is = subst (λ (s : SessionState). IsTotalsText (with_records before read.known.waiting) s.known.gaps
    s.known.skipped text) t.session_is (subst
    (λ (x : Totals). IsTotalsText x session.known.gaps session.known.skipped text) t.totals_are is) in
    (octets, may, ((t.faultless, rest), (text, text_is, written)))

pub cut_short : (left : Option (List ℕ)) (before totals : Totals) (session : SessionState) (e : Fault)
    → MayHaveLeft left (λ octets. IsTallied octets before session totals) → 1 ≤ length session.rest → e
    ≡ fault_at message_length (places.Octet session.place)
    → MayHaveLeft left (λ octets. IsRefusedStream (stream_read octets) e)
cut_short left before totals session e (octets, may, t) some is =
    let rest = ap (λ (s : SessionState). length s.rest) t.session_is in (
      octets,
      may,
      inr (
        t.faultless,
        λ none. absurd (omega (arith, some, rest, ap length none)),
        is
            ∙ ap (λ (s : SessionState). fault_at message_length (places.Octet s.place)) t.session_is,
      ),
    )

-- ---- what is written

pub all_written : (a b c d : Option (List ℕ)) (text : List ℕ) (gaps gaps' skipped skipped' : ℕ) → gaps' ≡ gaps
    → skipped' ≡ skipped → Writes a b text → Writes b c (number_line (codes "gaps ") gaps')
    → Writes c d (number_line (codes "skipped ") skipped')
    → Writes a d (text ++ (number_line (codes "gaps ") gaps ++ number_line (codes "skipped ") skipped))
all_written a b c d text gaps gaps' skipped skipped' eg es h1 h2 h3 =
    writes_both a b d text _ _ h1
    (writes_both b c d _ _ _ (subst (λ (n : ℕ). Writes b c (number_line (codes "gaps ") n)) eg h2)
    (subst (λ (n : ℕ). Writes c d (number_line (codes "skipped ") n)) es h3) refl) refl
