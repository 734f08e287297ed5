-- Each number with which a run is refused is listed.
use Rattle.std.proofs.Common.{◌≡◌, ◌&&◌, ℕ, Bool, true, false, cond, refl, ap, subst, List, [], ◌∷◌, Option, Some, None, Ok, Err, inl, inr, codes, length}
use Rattle.std.specs.Prelude.{Result, nat_lt, ◌==◌, remove, slice_get, slice_set}
use Rattle.std.specs.Str.{bytes_eq}
use Rattle.fx_base.specs.Entries.{entry_numbered}
use Rattle.fx_base.specs.Lines.{Lines, next_number, text_lines}
use Rattle.fx_base.specs.Refusals.{is_refusal_number, long_line, run_form, run_packet}
use Rattle.fx_base.specs.declared.counts.Counts.{Counts}
use Rattle.fx_base.specs.declared.fault.Fault.{Fault}
use Rattle.fx_elements.specs.Words.{words}
use Rattle.fx_tables.specs.Classes.{Class, is_of, path}
use Rattle.fx_tables.specs.Network.{Net, holder_place}
use Rattle.fx_tables.specs.declared.packet.Packet.{Packet}
use Rattle.fx_tables.specs.declared.record.Record.{Record}
use Rattle.fx_run_text.specs.RunReading.{MayReadRun, TextLine, at_line, behind, end_of_lines, from_line, line_of, no_run, run_in, said, unless, well_formed, with_packet, with_step}
use Rattle.fx_run_text.specs.RunText.{Run}
use Rattle.fx_run_text.specs.declared.run_line.RunLine.{RunLine}
use Rattle.fx_run_text.specs.declared.run_line.RunLine.TheVariants as line
use Rattle.fx_run_text.specs.declared.step.Step.{Step}
use Rattle.fx_run_text.specs.declared.step.Step.TheVariants.{Arrive, Cross, Expire}
use Rattle.fx_run_text.specs.declared.text_version.TextVersion.{TextVersion}
use Rattle.fx_run_text.specs.declared.text_version.TextVersion.TheVariants.{One, Two}
use Rattle.fx_machine.specs.Acts.{Act, Choices, Made, Outcome, act, act_all, all_used}
use Rattle.fx_machine.specs.States.{State, opening, without}
use Rattle.fx_machine.specs.Steps.{acts_of_arrival, acts_of_leaving, after, after_arrive, after_cross, after_expire, arrive_at, arrive_from, cross_now, crossing_acts, expire_at, expire_from, link_place, one_packet, place, run, then_run}
use Rattle.fx_topology.specs.declared.network.NetworkDocument.{NetworkDocument}
use Rattle.fx_plan.specs.Tables.{net_of}
use Rattle.fx_audit.specs.Commands.{IsRefusedReplay, IsRefusedRun}
use Rattle.fx_checker.specs.Documents.{IsRefusedIn}
use Rattle.fx_audit.specs.Replay.{IsRefused}
use Rattle.fx_audit.proofs.ListedDocuments.{documents_refusal_listed}

-- ---- results whose fault, if they have one, has a number that is listed

pub data NumberListed {A : Type 0} : Result A ℕ → Type 0 where
  right : (a : A) → NumberListed (Ok a)
  wrong : (number : ℕ) → is_refusal_number number ≡ true → NumberListed (Err number)

pub data FaultListed {A : Type 0} : Result A Fault → Type 0 where
  faultless : (a : A) → FaultListed (Ok a)
  faulty : (e : Fault) → is_refusal_number e.number ≡ true → FaultListed (Err e)

pub of_number : {A : Type 0} (number : ℕ) → NumberListed {A = A} (Err number) → is_refusal_number number ≡ true
of_number number (wrong n is) = is

pub of_fault : {A : Type 0} (e : Fault) → FaultListed {A = A} (Err e) → is_refusal_number e.number ≡ true
of_fault e (faulty f is) = is

pub either_number : {A : Type 0} (test : Bool) (x y : Result A ℕ) → NumberListed x → NumberListed y
    → NumberListed (cond test x y)
either_number true x y one other = one
either_number false x y one other = other

pub either_fault : {A : Type 0} (test : Bool) (x y : Result A Fault) → FaultListed x → FaultListed y
    → FaultListed (cond test x y)
either_fault true x y one other = one
either_fault false x y one other = other

pub either_listed : (test : Bool) (x y : ℕ) → is_refusal_number x ≡ true → is_refusal_number y ≡ true
    → is_refusal_number (cond test x y) ≡ true
either_listed true x y one other = one
either_listed false x y one other = other

-- ---- the text of a run

formed_listed : (o : Option RunLine) → NumberListed (well_formed o)
formed_listed None = wrong run_form refl
formed_listed (Some x) = right x

said_listed : (version : TextVersion) (l : TextLine) → NumberListed (said version l)
said_listed version l =
    either_number (nat_lt 4096 (length l.0)) _ _ (wrong long_line refl)
    (either_number l.1 _ _ (formed_listed (line_of version (words l.0))) (wrong run_form refl))

packet_listed : (a b : Bool) (n : ℕ) (result : Result Run Fault) → FaultListed result
    → FaultListed (unless (cond a (cond b None (Some run_packet)) (Some run_form)) n result)
packet_listed false b n result rest = faulty _ refl
packet_listed true false n result rest = faulty _ refl
packet_listed true true n result rest = rest

end_listed : (n : ℕ) (r : Run) (ls : List TextLine) → FaultListed (end_of_lines n r ls)
end_listed n r [] = faultless r
end_listed n r (l ∷ ls) = faulty _ (either_listed (nat_lt 4096 (length l.0)) long_line run_form refl refl)

line_listed : (classes : List Class) (n : ℕ) (r : Run) (l : Result RunLine ℕ) (ls : List TextLine)
    (next : Run → Result Run Fault) → NumberListed l → ((r : Run) → FaultListed (next r))
    → FaultListed (from_line classes n r l ls next)
line_listed classes n r (Err number) ls next (wrong m is) all = faulty (at_line number n) is
line_listed classes n r (Ok (line.Packet p)) ls next l all =
    packet_listed (length r.steps == 0) (is_of p (entry_numbered classes p.class)) n (next (with_packet r p))
    (all (with_packet r p))
line_listed classes n r (Ok (line.Step s)) ls next l all = all (with_step r s)
line_listed classes n r (Ok line.End) ls next l all = end_listed n r ls

behind_listed : (version : TextVersion) (classes : List Class) (n : ℕ) (r : Run) (ls : List TextLine)
    → FaultListed (behind version classes n r ls)
behind_listed version classes n r [] = faulty _ refl
behind_listed version classes n r (l ∷ ls) =
    line_listed classes (next_number n) r (said version l) ls (λ x. behind version classes (next_number n) x ls)
    (said_listed version l) (λ x. behind_listed version classes (next_number n) x ls)

text_listed : (classes : List Class) (n : ℕ) (ls : List TextLine) → FaultListed (run_in classes n ls)
text_listed classes n [] = faulty _ refl
text_listed classes n (l ∷ ls) =
    either_fault (nat_lt 4096 (length l.0)) _ _ (faulty _ refl) (
    either_fault (l.1 && bytes_eq l.0 (codes "once-run 1")) _ _ (behind_listed One classes (next_number n) no_run ls) (
    either_fault (l.1 && bytes_eq l.0 (codes "once-run 2")) _ _ (behind_listed Two classes (next_number n) no_run ls) (
    faulty _ refl)))

pub run_text_listed : (classes : List Class) (lines : Lines) (e : Fault) → MayReadRun classes lines (Err e)
    → is_refusal_number e.number ≡ true
run_text_listed classes lines e (octets, left, same) =
    of_fault e (subst FaultListed same (text_listed classes lines.number (text_lines octets)))

-- ---- its steps

used_listed : (choices : Choices) (s : State) → NumberListed (all_used choices s)
used_listed [] s = right s
used_listed (c ∷ choices) s = wrong _ refl

acts_listed : (net : Net) (counts : Counts) (acts : List Act) (made : Option Made)
    → NumberListed (act_all net counts acts made)
acts_listed net counts [] None = wrong _ refl
acts_listed net counts (a ∷ acts) None = wrong _ refl
acts_listed net counts [] (Some made) = used_listed made.choices made.state
acts_listed net counts (a ∷ acts) (Some made) = acts_listed net counts acts (act net counts a made.state made.choices)

crossed_listed : (net : Net) (classes : List Class) (o : Option Packet) (crossing : ℕ) (s : State) (choices : Choices)
    → NumberListed (cross_now net classes o crossing s choices)
crossed_listed net classes None crossing s choices = wrong _ refl
crossed_listed net classes (Some packet) crossing s choices =
    acts_listed net (one_packet packet) (crossing_acts net packet.fields
    (entry_numbered (path classes packet) crossing)) (Some (record { state = s; choices = choices }))

cross_listed : (net : Net) (classes : List Class) (packet : Option Packet) (o : Option ℕ) (crossing : ℕ) (s : State)
    (choices : Choices) → NumberListed (after_cross net classes packet o crossing s choices)
cross_listed net classes packet None crossing s choices = wrong _ refl
cross_listed net classes packet (Some n) crossing s choices =
    crossed_listed net classes packet crossing (record s { coming = remove s.coming n }) choices

expired_listed : (net : Net) (holder : ℕ) (rs : List Record) (number : ℕ) (o : Option Record) (s : State)
    (choices : Choices) → NumberListed (after_expire net holder rs number o s choices)
expired_listed net holder rs number None s choices = wrong _ refl
expired_listed net holder rs number (Some r) s choices =
    acts_listed net r.counts (acts_of_leaving net holder r.key)
    (Some (record { state = record s { held = slice_set s.held holder (without rs number) }; choices = choices }))

expire_from_listed : (net : Net) (holder : ℕ) (o : Option (List Record)) (number : ℕ) (s : State) (choices : Choices)
    → NumberListed (expire_from net holder o number s choices)
expire_from_listed net holder None number s choices = wrong _ refl
expire_from_listed net holder (Some rs) number s choices =
    expired_listed net holder rs number (entry_numbered rs number) s choices

expire_listed : (net : Net) (o : Option ℕ) (number : ℕ) (s : State) (choices : Choices)
    → NumberListed (expire_at net o number s choices)
expire_listed net None number s choices = wrong _ refl
expire_listed net (Some holder) number s choices =
    expire_from_listed net holder (slice_get s.held holder) number s choices

arrived_listed : (net : Net) (link : ℕ) (rs : List Record) (number : ℕ) (o : Option Record) (s : State)
    (choices : Choices) → NumberListed (after_arrive net link rs number o s choices)
arrived_listed net link rs number None s choices = wrong _ refl
arrived_listed net link rs number (Some r) s choices =
    acts_listed net r.counts (acts_of_arrival net r.key (slice_get net.links link))
    (Some (record {
      state = record s { carried = slice_set s.carried link (without rs number) };
      choices =
          choices;
    }))

arrive_from_listed : (net : Net) (link : ℕ) (o : Option (List Record)) (number : ℕ) (s : State) (choices : Choices)
    → NumberListed (arrive_from net link o number s choices)
arrive_from_listed net link None number s choices = wrong _ refl
arrive_from_listed net link (Some rs) number s choices =
    arrived_listed net link rs number (entry_numbered rs number) s choices

arrive_listed : (net : Net) (o : Option ℕ) (number : ℕ) (s : State) (choices : Choices)
    → NumberListed (arrive_at net o number s choices)
arrive_listed net None number s choices = wrong _ refl
arrive_listed net (Some link) number s choices = arrive_from_listed net link (slice_get s.carried link) number s choices

step_listed : (net : Net) (classes : List Class) (packets : List Packet) (step : Step) (s : State)
    → NumberListed (after net classes packets step s)
step_listed net classes packets (Cross packet crossing choices) s =
    cross_listed net classes (entry_numbered packets packet) (place s.coming packet crossing) crossing s choices
step_listed net classes packets (Expire holder number choices) s =
    expire_listed net (holder_place net holder) number s choices
step_listed net classes packets (Arrive link number choices) s = arrive_listed net (link_place link) number s choices

then_listed : (o : Outcome) (next : State → Outcome) → NumberListed o → ((s : State) → NumberListed (next s))
    → NumberListed (then_run o next)
then_listed (Err number) next one all = one
then_listed (Ok s) next one all = all s

steps_listed : (net : Net) (classes : List Class) (packets : List Packet) (steps : List Step) (s : State)
    → NumberListed (run net classes packets steps s)
steps_listed net classes packets [] s = right s
steps_listed net classes packets (step ∷ steps) s =
    then_listed (after net classes packets step s) (run net classes packets steps)
    (step_listed net classes packets step s) (steps_listed net classes packets steps)

pub run_steps_listed : (net : Net) (classes : List Class) (r : Run) (e : Fault) → IsRefused net classes r e
    → is_refusal_number e.number ≡ true
run_steps_listed net classes r e (inl (is, one)) = ap (λ (f : Fault). is_refusal_number f.number) is
run_steps_listed net classes r e (inr (nowhere, stops)) =
    of_number e.number (subst NumberListed stops
    (steps_listed net classes r.packets r.steps (opening net classes r.packets)))

-- ---- a run that is refused

pub run_refusal_listed : (network : NetworkDocument) (classes : List Class) (lines : Lines) (e : Fault)
    → IsRefusedRun network classes lines e → is_refusal_number e.number ≡ true
run_refusal_listed network classes lines e (inl text) = run_text_listed classes lines e text
run_refusal_listed network classes lines e (inr (r, text, is)) = run_steps_listed (net_of network) classes r e is

-- ---- the same behind a command's two documents

pub refused_in_listed : (Refused : NetworkDocument → List Class → Type 0) (network_octets traffic_octets : List ℕ)
    (e : Fault)
    → ((network : NetworkDocument) (classes : List Class) → Refused network classes → is_refusal_number e.number ≡ true)
    → IsRefusedIn Refused network_octets traffic_octets e → is_refusal_number e.number ≡ true
refused_in_listed Refused network_octets traffic_octets e all (inl documents) =
    documents_refusal_listed network_octets traffic_octets e documents
refused_in_listed Refused network_octets traffic_octets e all
    (inr (network, classes, network_is, traffic_is, refused)) = all network classes refused

pub replay_refusal_listed : (network_octets traffic_octets : List ℕ) (lines : Lines) (e : Fault)
    → IsRefusedReplay network_octets traffic_octets lines e → is_refusal_number e.number ≡ true
replay_refusal_listed network_octets traffic_octets lines e is =
    refused_in_listed (λ network classes. IsRefusedRun network classes lines e) network_octets traffic_octets e
    (λ network classes refused. run_refusal_listed network classes lines e refused) is
