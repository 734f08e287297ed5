-- Each number with which a refutation is refused is listed.
use Rattle.std.proofs.Common.{◌≡◌, ◌&&◌, ℕ, true, refl, subst, List, [], ◌∷◌, Option, Some, None, Ok, Err, inl, inr, codes, length}
use Rattle.std.specs.Prelude.{Result, nat_lt}
use Rattle.std.specs.Str.{bytes_eq}
use Rattle.fx_base.specs.Lines.{Lines, next_number, text_lines}
use Rattle.fx_base.specs.Refusals.{is_refusal_number, long_line, refutation_form}
use Rattle.fx_base.specs.declared.fault.Fault.{Fault}
use Rattle.fx_elements.specs.Words.{words}
use Rattle.fx_tables.specs.Classes.{Class}
use Rattle.fx_tables.specs.Network.{Net}
use Rattle.fx_run_text.specs.RunReading.{TextLine, at_line, line_of}
use Rattle.fx_run_text.specs.declared.run_line.RunLine.{RunLine}
use Rattle.fx_run_text.specs.declared.run_line.RunLine.TheVariants as line
use Rattle.fx_run_text.specs.declared.text_version.TextVersion.{TextVersion}
use Rattle.fx_run_text.specs.declared.text_version.TextVersion.TheVariants.{One, Two}
use Rattle.fx_machine.specs.Limits.{step_limit}
use Rattle.fx_refute.specs.RefutationReading.{MayReadRefutation, Read, end_of_lines, from_packet, from_step, line_or_fault, line_said, only, packet_behind, refutation_in, steps_behind, with_step}
use Rattle.fx_refute.specs.Refutations.{IsNoRefutation, Refutation, agrees, incomplete, no_member, not_enabled}
use Rattle.fx_topology.specs.declared.network.NetworkDocument.{NetworkDocument}
use Rattle.fx_plan.specs.Tables.{net_of}
use Rattle.fx_audit.specs.Commands.{IsRefusedConfirm}
use Rattle.fx_audit.specs.Confirms.{IsRefusedOtherwise, IsRefusedRefutation}
use Rattle.fx_audit.proofs.ListedRuns.{FaultListed, NumberListed, either_fault, either_listed, either_number, faultless, faulty, of_fault, refused_in_listed, right, wrong}

-- ---- the text of a refutation

formed_listed : (o : Option RunLine) → NumberListed (line_or_fault o)
formed_listed None = wrong refutation_form refl
formed_listed (Some x) = right x

said_listed : (version : TextVersion) (l : TextLine) → NumberListed (line_said version l)
said_listed version l =
    either_number (nat_lt 4096 (length l.0)) _ _ (wrong long_line refl)
    (either_number l.1 _ _ (formed_listed (line_of version (words l.0))) (wrong refutation_form refl))

end_listed : (n : ℕ) (r : Refutation) (ls : List TextLine) → FaultListed (end_of_lines n r ls)
end_listed n r [] = faultless r
end_listed n r (l ∷ ls) = faulty _ (either_listed (nat_lt 4096 (length l.0)) long_line refutation_form refl refl)

step_listed : (n : ℕ) (r : Refutation) (l : Result RunLine ℕ) (ls : List TextLine) (next : Refutation → Read)
    → NumberListed l → ((r : Refutation) → FaultListed (next r)) → FaultListed (from_step n r l ls next)
step_listed n r (Err number) ls next (wrong m is) all = faulty (at_line number n) is
step_listed n r (Ok (line.Packet p)) ls next l all = faulty _ refl
step_listed n r (Ok (line.Step s)) ls next l all =
    either_fault (nat_lt (length r.steps) step_limit) _ _ (all (with_step r s)) (faulty _ refl)
step_listed n r (Ok line.End) ls next l all = end_listed n r ls

steps_listed : (version : TextVersion) (n : ℕ) (r : Refutation) (ls : List TextLine)
    → FaultListed (steps_behind version n r ls)
steps_listed version n r [] = faulty _ refl
steps_listed version n r (l ∷ ls) =
    step_listed (next_number n) r (line_said version l) ls (λ x. steps_behind version (next_number n) x ls)
    (said_listed version l) (λ x. steps_listed version (next_number n) x ls)

packet_listed : (version : TextVersion) (n : ℕ) (l : Result RunLine ℕ) (ls : List TextLine) → NumberListed l
    → FaultListed (from_packet version n l ls)
packet_listed version n (Err number) ls (wrong m is) = faulty (at_line number n) is
packet_listed version n (Ok (line.Packet p)) ls l = steps_listed version n (only p) ls
packet_listed version n (Ok (line.Step s)) ls l = faulty _ refl
packet_listed version n (Ok line.End) ls l = faulty _ refl

behind_listed : (version : TextVersion) (n : ℕ) (ls : List TextLine) → FaultListed (packet_behind version n ls)
behind_listed version n [] = faulty _ refl
behind_listed version n (l ∷ ls) = packet_listed version (next_number n) (line_said version l) ls
    (said_listed version l)

text_listed : (n : ℕ) (ls : List TextLine) → FaultListed (refutation_in n ls)
text_listed n [] = faulty _ refl
text_listed n (l ∷ ls) =
    either_fault (nat_lt 4096 (length l.0)) _ _ (faulty _ refl) (
    either_fault (l.1 && bytes_eq l.0 (codes "once-refutation 1")) _ _ (behind_listed One (next_number n) ls) (
    either_fault (l.1 && bytes_eq l.0 (codes "once-refutation 2")) _ _ (behind_listed Two (next_number n) ls) (
    faulty _ refl)))

pub refutation_text_listed : (lines : Lines) (e : Fault) → MayReadRefutation lines (Err e) → is_refusal_number e.number
    ≡ true
refutation_text_listed lines e (octets, left, same) =
    of_fault e (subst FaultListed same (text_listed lines.number (text_lines octets)))

-- ---- what it refutes

pub no_refutation_listed : (net : Net) (classes : List Class) (r : Refutation) (e : Fault)
    → IsNoRefutation net classes r e → is_refusal_number e.number ≡ true
no_refutation_listed net classes r e (no_member other) = refl
no_refutation_listed net classes r e (not_enabled steps step behind s number parts reaches stops) = refl
no_refutation_listed net classes r e (incomplete last reaches more) = refl
no_refutation_listed net classes r e (agrees last reaches complete counts) = refl

-- ---- a refutation that is refused, whatever its answer

pub refutation_refusal_listed : (network : NetworkDocument) (classes : List Class) (lines : Lines) (e : Fault)
    → IsRefusedRefutation network classes lines e → is_refusal_number e.number ≡ true
refutation_refusal_listed network classes lines e (inl text) = refutation_text_listed lines e text
refutation_refusal_listed network classes lines e (inr (r, text, is)) =
    no_refutation_listed (net_of network) classes r e is

pub otherwise_listed : (network : NetworkDocument) (classes : List Class) (lines : Lines) (e : Fault)
    → IsRefusedOtherwise network classes lines e → is_refusal_number e.number ≡ true
otherwise_listed network classes lines e (is, other) = refutation_refusal_listed network classes lines e is

pub confirm_refusal_listed : (network_octets traffic_octets : List ℕ) (lines : Lines) (e : Fault)
    → IsRefusedConfirm network_octets traffic_octets lines e → is_refusal_number e.number ≡ true
confirm_refusal_listed network_octets traffic_octets lines e is =
    refused_in_listed (λ network classes. IsRefusedOtherwise network classes lines e) network_octets traffic_octets e
    (λ network classes refused. otherwise_listed network classes lines e refused) is
