-- Records that are sent together are read, however many messages they take.
use Rattle.std.proofs.Common.{◌≡◌, ℕ, ◌+◌, ◌^◌, ◌≤◌, ◌<◌, Bool, true, false, cond, ltb-true, List, [], ◌∷◌, ◌++◌, length, refl, ap, sym, ◌∙◌, subst, arith, append_assoc, length-append}
use Rattle.std.specs.Prelude.{nat_lt}
use Rattle.std.specs.List.{AllByRecursion}
use Rattle.std.proofs.lemmas.List.{append-nil}
use Rattle.fx_layout.specs.Keys.{Layout, IsLayout, same_layout}
use Rattle.fx_layout.proofs.Projections.{same_layout_is, and_true}
use Rattle.fx_tables.specs.declared.record.Record.{Record}
use Rattle.fx_session.specs.Messages.{Known}
use Rattle.fx_session.specs.Streams.{SessionState, waits, read_all, after_piece}
use Rattle.fx_session.proofs.StreamSteps.{pieces, after_piece-on, all_none}
use Rattle.fx_link.specs.Sending.{Sender, layout_of, knows, batch_octets, after_batch, most, joins, one_batch, batches_from, batches_of, after_batches, stream_octets, IsSendable, IsBatch, IsSender, IsSent, Begun, KeepsUp, ReadsMore, sent_octets, after_sent}
use Rattle.fx_link.proofs.BatchTrip.{batch_back}

-- ---- senders after batches

layouts_grow : (s : Sender) (batch : List Record) → length s.layouts ≤ length (after_batch s batch).layouts
layouts_grow s batch = by (knows s.layouts (layout_of batch)) where
  by : (k : Bool) → length s.layouts ≤ length (cond k s.layouts (s.layouts ++ layout_of batch ∷ []))
  by true = omega arith
  by false = omega (arith, length-append s.layouts (layout_of batch ∷ []))

layouts_grow_on : (s : Sender) (batches : List (List Record)) → length s.layouts
    ≤ length (after_batches s batches).layouts
layouts_grow_on s [] = omega arith
layouts_grow_on s (b ∷ bs) =
    let rest : length (after_batch s b).layouts ≤ length (after_batches (after_batch s b) bs).layouts =
    layouts_grow_on (after_batch s b) bs in
    omega (arith, layouts_grow s b)

all_push : (ls : List Layout) (l : Layout) → AllByRecursion IsLayout ls → IsLayout l
    → AllByRecursion IsLayout (ls ++ l ∷ [])
all_push [] l h i = (i, tt)
all_push (x ∷ xs) l h i = (h.0, all_push xs l h.1 i)

after_is : (s : Sender) (batch : List Record) → IsSender s → IsBatch batch → 256 + length (after_batch s batch).layouts
    < 2 ^ 16 → IsSender (after_batch s batch)
after_is s batch is b few = record { layouts = by (knows s.layouts (layout_of batch)); few = few; sent = omega arith }
  where
    by : (k : Bool) → AllByRecursion IsLayout (cond k s.layouts (s.layouts ++ layout_of batch ∷ []))
    by true = is.layouts
    by false = all_push s.layouts (layout_of batch) is.layouts b.layout

-- ---- batch after batch

abbrev joined : List (List Record) → List Record
joined [] = []
joined (b ∷ bs) = b ++ joined bs

-- nothing is read where nothing comes
nothing_read : (s : Sender) (st : SessionState) → KeepsUp s st → KeepsUp s (after_piece st [])
    × ReadsMore st (after_piece st []) []
nothing_read s st up =
    let same : after_piece st [] ≡ waits st.known st.place [] = after_piece-on st [] up.fault
    ∙ ap (λ (r : List ℕ). read_all st.known st.place (r ++ [])) up.rest ∙ all_none st.known st.place in
    let known : (after_piece st []).known ≡ st.known = ap (λ (x : SessionState). x.known) same in (
      record {
        domains = ap (λ (k : Known). k.domains) known ∙ up.domains;
        rest =
            ap (λ (x : SessionState). x.rest) same;
        fault = ap (λ (x : SessionState). x.fault) same;
      },
      record {
        waiting = ap (λ (k : Known). k.waiting) known ∙ sym (append-nil st.known.waiting);
        gaps =
            ap (λ (k : Known). k.gaps) known;
        skipped = ap (λ (k : Known). k.skipped) known;
      },
    )

pub then_on : (a b c : SessionState) (xs ys : List Record) → ReadsMore a b xs → ReadsMore b c ys
    → ReadsMore a c (xs ++ ys)
then_on a b c xs ys p q = record {
  waiting = q.waiting ∙ ap (λ (l : List Record). l ++ ys) p.waiting ∙ append_assoc a.known.waiting xs ys;
  gaps = q.gaps ∙ p.gaps;
  skipped = q.skipped ∙ p.skipped;
}

batches_back : (time : ℕ) (s : Sender) (st : SessionState) (batches : List (List Record)) → time < 2 ^ 32 → IsSender s
    → AllByRecursion IsBatch batches → 256 + length (after_batches s batches).layouts < 2 ^ 16 → KeepsUp s st
    → KeepsUp (after_batches s batches) (after_piece st (stream_octets time s batches))
    × ReadsMore st (after_piece st (stream_octets time s batches)) (joined batches)
batches_back time s st [] h is bs few up = nothing_read s st up
batches_back time s st (b ∷ bs) h is all few up =
    let first = batch_back time s st b h is all.0 up in
    let mid : SessionState = after_piece st (batch_octets time s b) in
    let grown : length (after_batch s b).layouts ≤ length (after_batches (after_batch s b) bs).layouts =
    layouts_grow_on (after_batch s b) bs in
    let rest = batches_back time (after_batch s b) mid bs h (after_is s b is all.0 (omega arith)) all.1 few first.0 in
    let last : SessionState = after_piece mid (stream_octets time (after_batch s b) bs) in
    let both : KeepsUp (after_batches s (b ∷ bs)) last × ReadsMore st last (b ++ joined bs) =
    (rest.0, then_on st mid last b (joined bs) first.1 rest.1) in
    subst (λ (x : SessionState). KeepsUp (after_batches s (b ∷ bs)) x × ReadsMore st x (b ++ joined bs))
    (pieces st (batch_octets time s b) (stream_octets time (after_batch s b) bs)) both

-- ---- the batches of some records

closed-joined : (batch : List Record) (rest : List (List Record)) → joined (one_batch batch ++ rest) ≡ batch
    ++ joined rest
closed-joined [] rest = refl
closed-joined (r ∷ rs) rest = refl

-- none is lost, and the order stays
batches-joined : (batch rs : List Record) → joined (batches_from batch rs) ≡ batch ++ rs
batches-joined [] [] = refl
batches-joined (b ∷ bs) [] = refl
batches-joined batch (r ∷ rs) = by (batches-joined (batch ++ r ∷ []) rs) (batches-joined (r ∷ []) rs) (joins batch r)
  where
    by : joined (batches_from (batch ++ r ∷ []) rs) ≡ (batch ++ r ∷ []) ++ rs → joined (batches_from (r ∷ []) rs) ≡ r
        ∷ rs
        → (t : Bool)
        → joined (cond t (batches_from (batch ++ r ∷ []) rs) (one_batch batch ++ batches_from (r ∷ []) rs)) ≡ batch ++ r
        ∷ rs
    by on new true = on ∙ append_assoc batch (r ∷ []) rs
    by on new false = closed-joined batch (batches_from (r ∷ []) rs) ∙ ap (λ (l : List Record). batch ++ l) new

pub alone : (r : Record) → IsSent r → IsBatch (r ∷ [])
alone r h = record { layout = h.0; records = (h.1, tt); some = omega arith; few = omega arith }

sendable_push : (layout : Layout) (rs : List Record) (r : Record) → AllByRecursion (IsSendable layout) rs
    → IsSendable layout r → AllByRecursion (IsSendable layout) (rs ++ r ∷ [])
sendable_push layout [] r h s = (s, tt)
sendable_push layout (x ∷ xs) r h s = (h.0, sendable_push layout xs r h.1 s)

pub joins_on : (batch : List Record) (r : Record) → Begun batch → IsSent r → joins batch r ≡ true
    → Begun (batch ++ r ∷ [])
joins_on [] r b h e = alone r h
joins_on (x ∷ xs) r b h e =
    let two = and_true (same_layout r.key.layout x.key.layout) (nat_lt (length (x ∷ xs)) most) e in
    let same : r.key.layout ≡ x.key.layout = same_layout_is r.key.layout x.key.layout two.0 in
    let room : length (x ∷ xs) < 64 = ltb-true (length (x ∷ xs)) 64 two.1 in
    record {
      layout = b.layout;
      records = sendable_push x.key.layout (x ∷ xs) r b.records (subst (λ (l : Layout). IsSendable l r) same h.1);
      some = omega arith;
      few = omega (arith, length-append (x ∷ xs) (r ∷ []));
    }

closed_are : (batch : List Record) (rest : List (List Record)) → Begun batch → AllByRecursion IsBatch rest
    → AllByRecursion IsBatch (one_batch batch ++ rest)
closed_are [] rest b h = h
closed_are (r ∷ rs) rest b h = (b, h)

batches_are : (batch rs : List Record) → Begun batch → AllByRecursion IsSent rs
    → AllByRecursion IsBatch (batches_from batch rs)
batches_are [] [] b h = tt
batches_are (x ∷ xs) [] b h = (b, tt)
batches_are batch (r ∷ rs) b h =
    by (λ e. batches_are (batch ++ r ∷ []) rs (joins_on batch r b h.0 e) h.1)
    (batches_are (r ∷ []) rs (alone r h.0) h.1) (joins batch r) refl where
      by : (joins batch r ≡ true → AllByRecursion IsBatch (batches_from (batch ++ r ∷ []) rs))
          → AllByRecursion IsBatch (batches_from (r ∷ []) rs) → (t : Bool) → joins batch r ≡ t
          → AllByRecursion IsBatch (cond t (batches_from (batch ++ r ∷ []) rs)
          (one_batch batch ++ batches_from (r ∷ []) rs))
      by on new true e = on e
      by on new false e = closed_are batch (batches_from (r ∷ []) rs) b new

pub records_back : (time : ℕ) (s : Sender) (st : SessionState) (rs : List Record) → time < 2 ^ 32 → IsSender s
    → AllByRecursion IsSent rs → 256 + length (after_sent s rs).layouts < 2 ^ 16 → KeepsUp s st
    → KeepsUp (after_sent s rs) (after_piece st (sent_octets time s rs))
    × ReadsMore st (after_piece st (sent_octets time s rs)) rs
records_back time s st rs h is all few up =
    let back = batches_back time s st (batches_of rs) h is (batches_are [] rs tt all) few up in (
      back.0,
      subst (λ (l : List Record). ReadsMore st (after_piece st (sent_octets time s rs)) l) (batches-joined [] rs)
          back.1,
    )

-- ---- a sender stays one

after_all : (s : Sender) (batches : List (List Record)) → IsSender s → AllByRecursion IsBatch batches → 256
    + length (after_batches s batches).layouts < 2 ^ 16 → IsSender (after_batches s batches)
after_all s [] is all few = is
after_all s (b ∷ bs) is all few =
    let grown : length (after_batch s b).layouts ≤ length (after_batches (after_batch s b) bs).layouts =
    layouts_grow_on (after_batch s b) bs in
    after_all (after_batch s b) bs (after_is s b is all.0 (omega arith)) all.1 few

pub senders_stay : (s : Sender) (rs : List Record) → IsSender s → AllByRecursion IsSent rs → 256
    + length (after_sent s rs).layouts < 2 ^ 16 → IsSender (after_sent s rs)
senders_stay s rs is all few = after_all s (batches_of rs) is (batches_are [] rs tt all) few
