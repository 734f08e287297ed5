-- What one link carries, once records are put on it, what waits is put out, or octets are carried.
use Rattle.std.proofs.Common.{◌≡◌, ℕ, ◌+◌, ◌^◌, ◌<◌, ◌≤◌, Bool, true, false, cond, ltb-true, List, [], ◌∷◌, ◌++◌, length, take, drop, refl, sym, ap, ◌∙◌, subst, arith, append_assoc, append-nil, length-append, Some}
use Rattle.std.specs.List.{AllByRecursion}
use Rattle.std.proofs.lemmas.List.{take-append-drop}
use Rattle.fx_tables.specs.declared.record.Record.{Record}
use Rattle.fx_session.specs.Streams.{SessionState, start, after_piece, behind, without_waiting}
use Rattle.fx_session.proofs.StreamSteps.{pieces, after_piece-on, all_none}
use Rattle.fx_session.proofs.InFront.{after_piece-behind}
use Rattle.fx_link.specs.Sending.{Sender, IsSent, KeepsUp, layout_of, knows, joins, after_batch, after_sent, sent_octets, has_room_for}
use Rattle.fx_link.specs.Outgoing.{Outgoing, after_flush, with_one, with_all}
use Rattle.fx_link.specs.Ongoing.{Ongoing, at_rest, to_put, after_finish, after_carry}
use Rattle.fx_link.specs.Wires.{Wire, new_wire, on_link, sent_on, InStep}
use Rattle.fx_link.proofs.FlushedMessages.{flushes_are_sent}
use Rattle.fx_link.proofs.StreamTrip.{records_back}
use Rattle.fx_link.proofs.WireTrip.{sending_adds, putting_sends, new_in_step}
use Rattle.fx_net.specs.Arriving.{waiting_on, with_left}
use Rattle.fx_conform.specs.OnLinks.{AreRead, IsLinkAtRest, IsStill, IsCarried}
use Rattle.fx_conform.proofs.LinkPlaces.{all_both, all_later, putting, with_more}

-- ---- at the beginning

start_settled : after_piece start [] ≡ start
start_settled = after_piece-on start [] refl ∙ all_none start.known start.place

nothing_read : AreRead [] []
nothing_read = record {
  waiting = ap (λ (x : SessionState). x.known.waiting) start_settled;
  gaps = ap (λ (x : SessionState). x.known.gaps) start_settled;
  skipped = ap (λ (x : SessionState). x.known.skipped) start_settled;
  rest = ap (λ (x : SessionState). x.rest) start_settled;
  fault = ap (λ (x : SessionState). x.fault) start_settled;
}

pub new_is_still : IsStill [] [] (at_rest new_wire) []
new_is_still = record {
  wire = new_wire;
  kept = record {
    in_step = new_in_step;
    settled = start_settled;
    keeps_up = new_in_step.keeps_up;
    read =
        nothing_read;
  };
  ongoing_is = refl;
  records_are = sym (ap (λ (x : SessionState). x.known.waiting) start_settled);
  sent = tt;
}

-- ---- records that are put on the link

module _ (time : ℕ) (history : List ℕ) (all : List Record) (o : Ongoing) (rs : List Record) where
  pub still_is_carried : IsStill history all o rs → IsCarried time [] history all o rs
  still_is_carried s = record {
    wire = s.wire;
    before = all;
    put = [];
    kept = s.kept;
    ongoing_is = s.ongoing_is;
    records_are = s.records_are ∙ sym (append-nil (on_link s.wire));
    all_are = sym (append-nil all);
    sent = s.sent;
  }

  pub puts_are_carried : (pending more : List Record) → IsCarried time pending history all o rs
      → AllByRecursion IsSent more → IsCarried time pending history (all ++ more) (putting time more o) (rs ++ more)
  puts_are_carried pending more c s = record {
    wire = c.wire;
    before = c.before;
    put = c.put ++ more;
    kept = c.kept;
    ongoing_is = ap (putting time more) c.ongoing_is
        ∙ ap (λ (x : Outgoing). let w : Ongoing = record (at_rest c.wire) { outgoing = x } in w)
        (sym (with_more time c.put more (at_rest c.wire).outgoing));
    records_are = ap (λ (l : List Record). l ++ more) c.records_are
        ∙ append_assoc pending (on_link c.wire ++ c.put) more
        ∙ ap (λ (l : List Record). pending ++ l) (append_assoc (on_link c.wire) c.put more);
    all_are = ap (λ (l : List Record). l ++ more) c.all_are ∙ append_assoc c.before c.put more;
    sent = all_both IsSent rs more c.sent s;
  }

-- ---- what waits is put out

-- at least one record
abbrev HasSome : List Record → Type 0
HasSome [] = ⊥
HasSome (r ∷ rs) = Unit {0}

pushed_some : (rs : List Record) (r : Record) → HasSome (rs ++ r ∷ [])
pushed_some [] r = tt
pushed_some (x ∷ xs) r = tt

one_waits : (time : ℕ) (o : Outgoing) (r : Record) → HasSome (with_one time o r).batch
one_waits time o r = by (joins o.batch r) where
  by : (t : Bool) → HasSome (cond t (record o { batch = o.batch ++ r ∷ [] })
      (record (after_flush time o) { batch = r ∷ [] })).batch
  by true = pushed_some o.batch r
  by false = tt

still_waits : (time : ℕ) (rs : List Record) (o : Outgoing) → HasSome o.batch → HasSome (with_all time o rs).batch
still_waits time [] o h = h
still_waits time (r ∷ rs) o h = still_waits time rs (with_one time o r) (one_waits time o r)

one_layout : (s : Sender) (batch : List Record) → length (after_batch s batch).layouts ≤ length s.layouts + 1
one_layout s batch = by (knows s.layouts (layout_of batch)) where
  by : (k : Bool) → length (cond k s.layouts (s.layouts ++ layout_of batch ∷ [])) ≤ length s.layouts + 1
  by true = omega arith
  by false = omega (arith, length-append s.layouts (layout_of batch ∷ []))

-- where an id is left for what waits, ids are enough once it is put out
few_flushed : (time : ℕ) (o : Outgoing) → HasSome o.batch → has_room_for o.batch o.sender ≡ true → 256
    + length (after_flush time o).sender.layouts < 2 ^ 16
few_flushed time o some room = by o.batch some room where
  by : (batch : List Record) → HasSome batch → has_room_for batch o.sender ≡ true → 256
      + length (after_flush time (record { sender = o.sender; batch = batch; octets = o.octets })).sender.layouts
      < 2 ^ 16
  by [] s r = absurd s
  by (x ∷ xs) s r = omega (arith, one_layout o.sender (x ∷ xs), ltb-true (256 + 1 + length o.sender.layouts) (2 ^ 16) r)

few_sent : (time : ℕ) (wire : Wire) (put : List Record) → InStep wire
    → has_room_for (with_all time (at_rest wire).outgoing put).batch (with_all time (at_rest wire).outgoing put).sender
    ≡ true → 256 + length (after_sent wire.sender put).layouts < 2 ^ 16
few_sent time wire [] step room = step.sender.few
few_sent time wire (r ∷ rs) step room =
    let o : Outgoing = (at_rest wire).outgoing in
    subst (λ (x : Outgoing). 256 + length x.sender.layouts < 2 ^ 16) (flushes_are_sent time wire.sender [] (r ∷ rs))
    (few_flushed time (with_all time o (r ∷ rs)) (still_waits time rs (with_one time o r) (one_waits time o r)) room)

-- records that are sent are read behind those that were read
kept_sent : (time : ℕ) (wire : Wire) (history : List ℕ) (before put : List Record) → time < 2 ^ 32
    → IsLinkAtRest wire history before → AllByRecursion IsSent put → 256 + length (after_sent wire.sender put).layouts
    < 2 ^ 16
    → IsLinkAtRest (sent_on time put wire) (history ++ sent_octets time wire.sender put) (before ++ put)
kept_sent time wire history before put h k s few =
    let octets : List ℕ = sent_octets time wire.sender put in
    let back = records_back time wire.sender (after_piece start history) put h k.in_step.sender s few k.keeps_up in
    let whole : after_piece (after_piece start history) octets ≡ after_piece start (history ++ octets) =
    pieces start history octets in
    record {
      in_step = (sending_adds time put wire h k.in_step s few).0;
      settled = k.settled;
      keeps_up = subst (λ (x : SessionState). KeepsUp (after_sent wire.sender put) x) whole back.0;
      read = record {
        waiting = sym (ap (λ (x : SessionState). x.known.waiting) whole) ∙ back.1.waiting
            ∙ ap (λ (l : List Record). l ++ put) k.read.waiting;
        gaps = sym (ap (λ (x : SessionState). x.known.gaps) whole) ∙ back.1.gaps ∙ k.read.gaps;
        skipped = sym (ap (λ (x : SessionState). x.known.skipped) whole) ∙ back.1.skipped ∙ k.read.skipped;
        rest = sym (ap (λ (x : SessionState). x.rest) whole) ∙ back.0.rest;
        fault = sym (ap (λ (x : SessionState). x.fault) whole) ∙ back.0.fault;
      };
    }

pub finishing_stills : (time : ℕ) (history : List ℕ) (all : List Record) (o : Ongoing) (rs : List Record) → time
    < 2 ^ 32 → IsCarried time [] history all o rs → has_room_for o.outgoing.batch o.outgoing.sender ≡ true
    → IsStill (history ++ to_put time o) all (after_finish time o) rs
finishing_stills time history all o rs h c room =
    let room_then = subst (λ (x : Ongoing). has_room_for x.outgoing.batch x.outgoing.sender ≡ true) c.ongoing_is room in
    let few : 256 + length (after_sent c.wire.sender c.put).layouts < 2 ^ 16 =
    few_sent time c.wire c.put c.kept.in_step room_then in
    let sent : AllByRecursion IsSent c.put =
    all_later IsSent (on_link c.wire) c.put (subst (AllByRecursion IsSent) c.records_are c.sent) in
    let octets : sent_octets time c.wire.sender c.put ≡ to_put time o =
    sym (ap (to_put time) c.ongoing_is ∙ ap (λ (x : Outgoing). x.octets)
    (flushes_are_sent time c.wire.sender [] c.put)) in
    let kept = kept_sent time c.wire history c.before c.put h c.kept sent few in
    record {
      wire = sent_on time c.put c.wire;
      kept = subst (λ (l : List Record). IsLinkAtRest (sent_on time c.put c.wire) (history ++ to_put time o) l)
          (sym c.all_are)
          (subst (λ (l : List ℕ). IsLinkAtRest (sent_on time c.put c.wire) (history ++ l) (c.before ++ c.put)) octets
          kept);
      ongoing_is = ap (after_finish time) c.ongoing_is ∙ putting_sends time c.put c.wire;
      records_are = c.records_are ∙ sym (sending_adds time c.put c.wire h c.kept.in_step sent few).1;
      sent = c.sent;
    }

-- ---- octets are carried

-- so many octets reach the receiver, and all records that were read are handled
abbrev carrying : ℕ → Wire → Wire
carrying n wire = record {
  sender = wire.sender;
  queue = drop n wire.queue;
  receiver =
      without_waiting (after_piece wire.receiver (take n wire.queue));
}

-- a session stands behind the records that it has read
behind_emptied : (st : SessionState) → behind st.known.waiting (without_waiting st) ≡ st
behind_emptied st = ap (λ (w : List Record). let x : SessionState =
    record st { known = record st.known { waiting = w } } in x) (append-nil st.known.waiting)

carrying_takes : (n : ℕ) (wire : Wire) → InStep wire
    → InStep (carrying n wire) × (on_link wire ≡ (after_piece wire.receiver (take n wire.queue)).known.waiting
    ++ on_link (carrying n wire))
carrying_takes n wire step =
    let front : List ℕ = take n wire.queue in
    let rest : List ℕ = drop n wire.queue in
    let st : SessionState = after_piece wire.receiver front in
    let all : after_piece st rest ≡ after_piece wire.receiver wire.queue = pieces wire.receiver front rest
    ∙ ap (after_piece wire.receiver) (take-append-drop n wire.queue) in
    let split : after_piece st rest ≡ behind st.known.waiting (after_piece (without_waiting st) rest) =
    ap (λ (x : SessionState). after_piece x rest) (sym (behind_emptied st))
    ∙ after_piece-behind st.known.waiting (without_waiting st) rest in
    let same : after_piece wire.receiver wire.queue ≡ behind st.known.waiting (after_piece (without_waiting st) rest) =
    sym all ∙ split in (
      record {
        sender = step.sender;
        keeps_up = record {
          domains = sym (ap (λ (x : SessionState). x.known.domains) same) ∙ step.keeps_up.domains;
          rest = sym (ap (λ (x : SessionState). x.rest) same) ∙ step.keeps_up.rest;
          fault = sym (ap (λ (x : SessionState). x.fault) same) ∙ step.keeps_up.fault;
        };
        handled = refl;
      },
      ap (λ (x : SessionState). x.known.waiting) same,
    )

none_behind : (xs ys : List Record) → xs ++ ys ≡ xs → ys ≡ []
none_behind [] ys e = e
none_behind (x ∷ xs) ys e = none_behind xs ys (let h : xs ++ ys ≡ xs = cc in h)

-- what completes nothing more without new octets doesn't once its records are handled
settled_emptied : (st : SessionState) → after_piece st [] ≡ st → after_piece (without_waiting st) []
    ≡ without_waiting st
settled_emptied st e =
    let x : SessionState = after_piece (without_waiting st) [] in
    let same : behind st.known.waiting x ≡ st = sym (after_piece-behind st.known.waiting (without_waiting st) [])
    ∙ ap (λ (y : SessionState). after_piece y []) (behind_emptied st) ∙ e in
    let none : x.known.waiting ≡ [] = none_behind st.known.waiting x.known.waiting
    (ap (λ (y : SessionState). y.known.waiting) same) in
    ap (λ (w : List Record). let y : SessionState = record x { known = record x.known { waiting = w } } in y) none
    ∙ ap without_waiting same

settled_after : (n : ℕ) (wire : Wire) → after_piece (after_piece wire.receiver (take n wire.queue)) []
    ≡ after_piece wire.receiver (take n wire.queue)
settled_after n wire = pieces wire.receiver (take n wire.queue) []
    ∙ ap (after_piece wire.receiver) (append-nil (take n wire.queue))

pub octets_arrive : (time n : ℕ) (history : List ℕ) (all : List Record) (o : Ongoing) (rs : List Record)
    → IsStill history all o rs → IsCarried time (waiting_on (Some (after_carry n o))) history all
    (with_left [] (after_carry n o)) rs
octets_arrive time n history all o rs s =
    let w : Wire = carrying n s.wire in
    let takes = carrying_takes n s.wire s.kept.in_step in
    let come : (after_piece s.wire.receiver (take n s.wire.queue)).known.waiting
    ≡ (after_carry n o).receiver.known.waiting =
    ap (λ (x : Ongoing). (after_carry n x).receiver.known.waiting) (sym s.ongoing_is) in
    record {
      wire = w;
      before = all;
      put = [];
      kept = record {
        in_step = takes.0;
        settled = settled_emptied (after_piece s.wire.receiver (take n s.wire.queue)) (settled_after n s.wire);
        keeps_up = s.kept.keeps_up;
        read = s.kept.read;
      };
      ongoing_is = ap (λ (x : Ongoing). with_left [] (after_carry n x)) s.ongoing_is;
      records_are = s.records_are ∙ takes.1 ∙ ap (λ (l : List Record). l ++ on_link w) come
          ∙ ap (λ (l : List Record). (after_carry n o).receiver.known.waiting ++ l) (sym (append-nil (on_link w)));
      all_are = sym (append-nil all);
      sent = s.sent;
    }

-- ---- records leave

module _ (time : ℕ) (history : List ℕ) (all : List Record) (o : Ongoing) (rs : List Record) where
  pub arrived_leaves : (r : Record) (pending : List Record) → IsCarried time (r ∷ pending) history all o rs
      → (rest : List Record) × (rs ≡ r ∷ rest) × IsSent r × IsCarried time pending history all o rest
  arrived_leaves r pending c =
      let sent : AllByRecursion IsSent (r ∷ pending ++ (on_link c.wire ++ c.put)) =
      subst (AllByRecursion IsSent) c.records_are c.sent in (
        pending ++ (on_link c.wire ++ c.put),
        c.records_are,
        sent.0,
        record {
          wire = c.wire;
          before = c.before;
          put = c.put;
          kept = c.kept;
          ongoing_is = c.ongoing_is;
          records_are =
              refl;
          all_are = c.all_are;
          sent = sent.1;
        },
      )

  pub nothing_carried : IsStill history all o rs → o.queue ≡ [] → rs ≡ []
  nothing_carried s e =
      let none : s.wire.queue ≡ [] = ap (λ (x : Ongoing). x.queue) (sym s.ongoing_is) ∙ e in
      s.records_are ∙ ap (λ (l : List ℕ). (after_piece s.wire.receiver l).known.waiting) none
      ∙ ap (λ (x : SessionState). x.known.waiting) s.kept.settled ∙ s.kept.in_step.handled
