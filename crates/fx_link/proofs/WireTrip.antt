-- Records that are sent come behind those on a link, and those that are carried stand before the others.
use Rattle.std.proofs.Common.{arith, ◌≡◌, ℕ, suc, ◌+◌, ◌^◌, ◌<◌, List, [], ◌++◌, length, take, drop, refl, ap, sym, ◌∙◌, subst}
use Rattle.std.specs.List.{AllByRecursion}
use Rattle.std.proofs.lemmas.List.{take-append-drop, append-nil}
use Rattle.fx_tables.specs.declared.record.Record.{Record}
use Rattle.fx_session.specs.Streams.{SessionState, start, after_piece, behind, without_waiting}
use Rattle.fx_session.proofs.StreamSteps.{pieces, after_piece-on, all_none}
use Rattle.fx_session.proofs.InFront.{after_piece-behind}
use Rattle.fx_link.specs.Sending.{IsSent, KeepsUp, after_sent, sent_octets}
use Rattle.fx_link.specs.Wires.{Wire, new_wire, on_link, after_octets, sent_on, InStep}
use Rattle.fx_link.specs.Outgoing.{Outgoing, with_all}
use Rattle.fx_link.specs.Ongoing.{Ongoing, at_rest, after_finish}
use Rattle.fx_link.proofs.FlushedMessages.{flushes_are_sent}
use Rattle.fx_link.proofs.StreamTrip.{records_back, senders_stay}

pub sending_adds : (time : ℕ) (rs : List Record) (wire : Wire) → time < 2 ^ 32 → InStep wire → AllByRecursion IsSent rs
    → 256 + length (after_sent wire.sender rs).layouts < 2 ^ 16
    → InStep (sent_on time rs wire) × (on_link (sent_on time rs wire) ≡ on_link wire ++ rs)
sending_adds time rs wire h step all few =
    let st : SessionState = after_piece wire.receiver wire.queue in
    let back = records_back time wire.sender st rs h step.sender all few step.keeps_up in
    let whole : after_piece st (sent_octets time wire.sender rs)
    ≡ after_piece wire.receiver (wire.queue ++ sent_octets time wire.sender rs) =
    pieces wire.receiver wire.queue (sent_octets time wire.sender rs) in (
      record {
        sender = senders_stay wire.sender rs step.sender all few;
        keeps_up =
            subst (λ (x : SessionState). KeepsUp (after_sent wire.sender rs) x) whole back.0;
        handled = step.handled;
      },
      ap (λ (x : SessionState). x.known.waiting) (sym whole) ∙ back.1.waiting,
    )

-- a session stands behind the records that it has read
behind_emptied : (st : SessionState) → behind st.known.waiting (without_waiting st) ≡ st
behind_emptied st = ap (λ (w : List Record). let x : SessionState =
    record st { known = record st.known { waiting = w } } in x) (append-nil st.known.waiting)

pub carrying_takes : (n : ℕ) (wire : Wire) → InStep wire
    → InStep (after_octets (suc n) wire) × (on_link wire
    ≡ (after_piece wire.receiver (take (suc n) wire.queue)).known.waiting ++ on_link (after_octets (suc n) wire))
carrying_takes n wire step =
    let front : List ℕ = take (suc n) wire.queue in
    let rest : List ℕ = drop (suc n) wire.queue in
    let st : SessionState = after_piece wire.receiver front in
    let all : after_piece st rest ≡ after_piece wire.receiver wire.queue = pieces wire.receiver front rest
    ∙ ap (after_piece wire.receiver) (take-append-drop (suc n) wire.queue) in
    let split : after_piece st rest ≡ behind st.known.waiting (after_piece (without_waiting st) rest) =
    ap (λ (x : SessionState). after_piece x rest) (sym (behind_emptied st))
    ∙ after_piece-behind st.known.waiting (without_waiting st) rest in
    let same : after_piece wire.receiver wire.queue ≡ behind st.known.waiting (after_piece (without_waiting st) rest) =
    sym all ∙ split in (
      record {
        sender = step.sender;
        keeps_up = record {
          domains = sym (ap (λ (x : SessionState). x.known.domains) same) ∙ step.keeps_up.domains;
          rest = sym (ap (λ (x : SessionState). x.rest) same) ∙ step.keeps_up.rest;
          fault = sym (ap (λ (x : SessionState). x.fault) same) ∙ step.keeps_up.fault;
        };
        handled = refl;
      },
      ap (λ (x : SessionState). x.known.waiting) same,
    )

pub putting_sends : (time : ℕ) (rs : List Record) (wire : Wire)
    → after_finish time (record (at_rest wire) { outgoing = with_all time (at_rest wire).outgoing rs })
    ≡ at_rest (sent_on time rs wire)
putting_sends time rs wire =
    ap (λ (o : Outgoing). let w : Ongoing =
    record { outgoing = record o { octets = [] }; queue = wire.queue ++ o.octets; receiver = wire.receiver } in w)
    (flushes_are_sent time wire.sender [] rs)

pub new_in_step : InStep new_wire
new_in_step =
    let same : after_piece start [] ≡ start = after_piece-on start [] refl ∙ all_none start.known start.place in
    record {
      sender = record { layouts = tt; few = omega arith; sent = omega arith };
      keeps_up = record {
        domains = ap (λ (x : SessionState). x.known.domains) same;
        rest =
            ap (λ (x : SessionState). x.rest) same;
        fault = ap (λ (x : SessionState). x.fault) same;
      };
      handled = refl;
    }
