-- Each number with which a stream is refused is listed.
use Rattle.std.proofs.Common.{◌≡◌, ℕ, zero, suc, Bool, true, false, cond, refl, ap, subst, List, Ok, Err, inl, inr, drop, length}
use Rattle.std.specs.Prelude.{⊤, Result, ◌==◌}
use Rattle.fx_base.specs.Fault.{fault_at}
use Rattle.fx_base.specs.Refusals.{is_refusal_number, want_of_memory}
use Rattle.fx_base.specs.declared.fault.Fault.{Fault}
use Rattle.fx_base.specs.declared.fault.Place.TheVariants as places
use Rattle.fx_wire.specs.Messages.{Front, complete, front, needs_more, refusal}
use Rattle.fx_wire.specs.Refusals as wire
use Rattle.fx_wire.specs.declared.malformed.Malformed.{Malformed}
use Rattle.fx_wire.specs.declared.malformed.Malformed.TheVariants as malformed
use Rattle.fx_session.specs.Messages.{Known, message_read}
use Rattle.fx_session.specs.StreamFaults.{number_of}
use Rattle.fx_session.specs.Streams.{SessionState, answer_of, fails, place_after, read_all, read_in, start, waits}
use Rattle.fx_session.specs.declared.stream_fault.StreamFault.{StreamFault}
use Rattle.fx_session.specs.declared.stream_fault.StreamFault.TheVariants as faults
use Rattle.fx_audit.specs.Commands.{IsRefusedCollect}
use Rattle.fx_audit.specs.Streams.{IsRefusedStream, stream_read}
use Rattle.fx_audit.proofs.ListedDocuments.{network_refusal_listed}

-- ---- the number of a session's fault

wire_number_listed : (why : Malformed) → is_refusal_number (wire.number_of why) ≡ true
wire_number_listed malformed.Version = refl
wire_number_listed malformed.MessageLength = refl
wire_number_listed malformed.SetLength = refl
wire_number_listed malformed.Template = refl
wire_number_listed malformed.SetId = refl

stream_number_listed : (fault : StreamFault) → is_refusal_number (number_of fault) ≡ true
stream_number_listed (faults.Malformed why) = wire_number_listed why
stream_number_listed faults.TemplateIdInUse = refl
stream_number_listed faults.NoTemplate = refl
stream_number_listed faults.CounterLength = refl
stream_number_listed faults.CutRecord = refl
stream_number_listed faults.PrefixLength = refl
stream_number_listed faults.OutOfMemory = refl

-- a session without a fault, or with one whose number is listed
pub data SessionListed : SessionState → Type 0 where
  waiting : (k : Known) (place : ℕ) (octets : List ℕ) → SessionListed (waits k place octets)
  failed : (k : Known) (place : ℕ) (fault : StreamFault) → SessionListed (fails k place fault)

-- what a message that was read leaves, and one turn, by what stands at the front
abbrev taken : ℕ → Known → ℕ → List ℕ → ℕ → Result Known StreamFault → SessionState
taken turns k place octets n (Ok next) = read_in turns next (place_after place n) (drop n octets)
taken turns k place octets n (Err fault) = fails k place fault

abbrev turn : ℕ → Known → ℕ → List ℕ → Front → SessionState
turn turns k place octets needs_more = waits k place octets
turn turns k place octets (refusal why) = fails k place (faults.Malformed why)
turn turns k place octets (complete m) = taken turns k place octets m.octets (message_read k m)

taken_listed : (turns : ℕ) (k : Known) (place : ℕ) (octets : List ℕ) (n : ℕ) (r : Result Known StreamFault)
    → ((next : Known) (at : ℕ) (rest : List ℕ) → SessionListed (read_in turns next at rest))
    → SessionListed (taken turns k place octets n r)
taken_listed turns k place octets n (Ok next) all = all next (place_after place n) (drop n octets)
taken_listed turns k place octets n (Err fault) all = failed k place fault

turn_listed : (turns : ℕ) (k : Known) (place : ℕ) (octets : List ℕ) (f : Front)
    → ((next : Known) (at : ℕ) (rest : List ℕ) → SessionListed (read_in turns next at rest))
    → SessionListed (turn turns k place octets f)
turn_listed turns k place octets needs_more all = waiting k place octets
turn_listed turns k place octets (refusal why) all = failed k place (faults.Malformed why)
turn_listed turns k place octets (complete m) all = taken_listed turns k place octets m.octets (message_read k m) all

read_listed : (turns : ℕ) (k : Known) (place : ℕ) (octets : List ℕ) → SessionListed (read_in turns k place octets)
unfolding read_in
read_listed zero k place octets = waiting k place octets
read_listed (suc turns) k place octets = turn_listed turns k place octets (front octets) (read_listed turns)

all_read_listed : (k : Known) (place : ℕ) (octets : List ℕ) → SessionListed (read_all k place octets)
unfolding read_all
all_read_listed k place octets = read_listed (length octets) k place octets

pub stream_read_listed : (octets : List ℕ) → SessionListed (stream_read octets)
stream_read_listed octets = all_read_listed start.known start.place octets

-- ---- the fault that it answers

memory_or_listed : (test : Bool) (place number : ℕ) → is_refusal_number number ≡ true
    → is_refusal_number (cond test (fault_at want_of_memory places.None) (fault_at number (places.Octet place))).number
    ≡ true
memory_or_listed true place number is = refl
memory_or_listed false place number is = is

-- an answer whose fault, if it has one, has a number that is listed
abbrev AnswerListed : Result (Unit {0}) Fault → Type 0
AnswerListed (Ok a) = ⊤
AnswerListed (Err e) = is_refusal_number e.number ≡ true

answer_listed : (st : SessionState) → SessionListed st → AnswerListed (answer_of st.place st.fault)
answer_listed st (waiting k place octets) = tt
answer_listed st (failed k place fault) =
    memory_or_listed (number_of fault == want_of_memory) place (number_of fault) (stream_number_listed fault)

pub session_refusal_listed : (st : SessionState) (e : Fault) → SessionListed st → IsRefusedStream st e
    → is_refusal_number e.number ≡ true
session_refusal_listed st e all (inl answers) = subst AnswerListed answers (answer_listed st all)
session_refusal_listed st e all (inr (none, rest, is)) = ap (λ (f : Fault). is_refusal_number f.number) is

pub stream_refusal_listed : (octets : List ℕ) (e : Fault) → IsRefusedStream (stream_read octets) e
    → is_refusal_number e.number ≡ true
stream_refusal_listed octets e is = session_refusal_listed (stream_read octets) e (stream_read_listed octets) is

pub collect_refusal_listed : (network_octets stream_octets : List ℕ) (e : Fault)
    → IsRefusedCollect network_octets stream_octets e → is_refusal_number e.number ≡ true
collect_refusal_listed network_octets stream_octets e (inl document) = network_refusal_listed network_octets e document
collect_refusal_listed network_octets stream_octets e (inr (network, network_is, stream)) =
    stream_refusal_listed stream_octets e stream
