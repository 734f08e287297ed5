-- Each number with which a certificate or a bundle is refused is listed.
use Rattle.std.proofs.Common.{◌≡◌, ℕ, true, refl, sym, ap, subst, List, [], ◌∷◌, Option, Some, None, Ok, Err, inl, inr}
use Rattle.std.specs.Prelude.{Result}
use Rattle.fx_base.specs.Lines.{Lines, lines_in, next_number, text_lines}
use Rattle.fx_base.specs.Refusals.{is_refusal_number}
use Rattle.fx_base.specs.declared.fault.Fault.{Fault}
use Rattle.fx_tables.specs.Classes.{Class}
use Rattle.fx_tables.specs.Network.{Net}
use Rattle.fx_traffic.specs.Targets.{targets_of}
use Rattle.fx_check.specs.FirstRefusal.{Goal, Line, Refusal, after_reading, at_end, at_line, first_refusal, goes_on, made_after, reading_of, refusal_at, whole}
use Rattle.fx_check.specs.Judging.{judge_of}
use Rattle.fx_check.specs.Outcomes.{IsCheckFault, device, memory, too_long, wrong}
use Rattle.fx_check.proofs.Numbers.{line_fault}
use Rattle.fx_topology.specs.declared.network.NetworkDocument.{NetworkDocument}
use Rattle.fx_plan.specs.Tables.{net_of}
use Rattle.fx_checker.specs.Checks.{IsFaultOf, IsRefusedCertificate, IsRefusedText, IsRefusedCheck}
use Rattle.fx_audit.specs.Commands.{IsRefusedBundle, IsRefusedBy, IsRefusedThere}
use Rattle.fx_audit.specs.declared.bundle.Command.{Command}
use Rattle.fx_audit.specs.declared.bundle.Command.TheVariants.{Audit, Check, Confirm, Replay}
use Rattle.fx_audit.proofs.ListedAnswers.{no_listed}
use Rattle.fx_audit.proofs.ListedDocuments.{documents_refusal_listed}
use Rattle.fx_audit.proofs.ListedRefutations.{confirm_refusal_listed}
use Rattle.fx_audit.proofs.ListedRuns.{refused_in_listed, replay_refusal_listed}

-- ---- certificates

check_fault_listed : (e : Fault) → IsCheckFault e → is_refusal_number e.number ≡ true
check_fault_listed e memory = refl
check_fault_listed e device = refl
check_fault_listed e (too_long line) = refl
check_fault_listed e (wrong number line is) = no_listed number is

-- a refusal, if there is one, has a number that is listed
pub data RefusalListed : Option Refusal → Type 0 where
  nothing : RefusalListed None
  refuses : (r : Refusal) → is_refusal_number r.fault.number ≡ true → RefusalListed (Some r)

end_listed : (n : ℕ) (gs : List Goal) → RefusalListed (at_end n gs)
end_listed n [] = nothing
end_listed n (g ∷ gs) = refuses _ refl

goes_on_listed : (n : ℕ) (ls : List Line) (next : List Goal → Option Refusal) (r : Result (List Goal) ℕ)
    → ((k : ℕ) → r ≡ Err k → IsCheckFault (at_line k n)) → ((left : List Goal) → RefusalListed (next left))
    → RefusalListed (goes_on n ls next r)
goes_on_listed n ls next (Err number) one all =
    refuses (refusal_at number n ls) (check_fault_listed (at_line number n) (one number refl))
goes_on_listed n ls next (Ok left) one all = all left

lines_listed : (net : Net) (n made : ℕ) (gs : List Goal) (ls : List Line)
    → RefusalListed (first_refusal (judge_of net) n made gs ls)
lines_listed net n made gs [] = end_listed n gs
lines_listed net n made gs (l ∷ ls) =
    goes_on_listed (next_number n) ls (λ left. first_refusal (judge_of net) (next_number n)
    (made_after made (reading_of l)) left ls) (after_reading (judge_of net) made gs (reading_of l))
    (λ k is. line_fault net made gs (reading_of l) k (next_number n) is)
    (λ left. lines_listed net (next_number n) (made_after made (reading_of l)) left ls)

fault_listed : (e : Fault) (o : Option Refusal) → RefusalListed o → IsFaultOf e o → is_refusal_number e.number ≡ true
fault_listed e None all is = absurd is
fault_listed e (Some r) (refuses s listed) is = subst (λ (f : Fault). is_refusal_number f.number ≡ true) (sym is) listed

pub certificate_text_listed : (network : NetworkDocument) (classes : List Class) (lines : Lines) (e : Fault)
    → IsRefusedText network classes lines e → is_refusal_number e.number ≡ true
certificate_text_listed network classes lines e (octets, left, is) =
    fault_listed e (first_refusal (judge_of (net_of network)) lines.number 0 (whole (targets_of classes))
    (text_lines octets)) (lines_listed (net_of network) lines.number 0 (whole (targets_of classes))
    (text_lines octets)) is

pub check_refusal_listed : (network_octets traffic_octets : List ℕ) (lines : Lines) (e : Fault)
    → IsRefusedCheck network_octets traffic_octets lines e → is_refusal_number e.number ≡ true
check_refusal_listed network_octets traffic_octets lines e is =
    refused_in_listed (λ network classes. IsRefusedCertificate network classes lines e) network_octets traffic_octets e
    (λ network classes refused. certificate_text_listed network classes lines e refused.0) is

-- ---- bundles

pub command_refusal_listed : (command : Command) (network traffic : List ℕ) (lines : Lines) (e : Fault)
    → IsRefusedBy command network traffic lines e → is_refusal_number e.number ≡ true
command_refusal_listed Replay network traffic lines e is = replay_refusal_listed network traffic lines e is
command_refusal_listed Check network traffic lines e is = check_refusal_listed network traffic lines e is
command_refusal_listed Confirm network traffic lines e is = confirm_refusal_listed network traffic lines e is
command_refusal_listed Audit network traffic lines e is = documents_refusal_listed network traffic e is

pub there_listed : (command : Command) (network traffic third : List ℕ) (e : Fault)
    → IsRefusedThere command network traffic third e → is_refusal_number e.number ≡ true
there_listed command network traffic third e (inl is) =
    command_refusal_listed command network traffic (lines_in third) e is
there_listed command network traffic third e (inr (is, endless)) = ap (λ (f : Fault). is_refusal_number f.number) is

pub bundle_refusal_listed : (octets : List ℕ) (e : Fault) → IsRefusedBundle octets e → is_refusal_number e.number ≡ true
bundle_refusal_listed octets e (inl (is, none)) = ap (λ (f : Fault). is_refusal_number f.number) is
bundle_refusal_listed octets e (inr (command, network, traffic, third, bundle, there)) =
    there_listed command network traffic third e there
