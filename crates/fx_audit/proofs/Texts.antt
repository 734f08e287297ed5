-- The text of an answer is of the answer's kind.
use Rattle.std.proofs.Common.{ℕ, List, inl, inr, refl, sym, subst}
use Rattle.fx_base.specs.Lines.{Lines}
use Rattle.fx_check.specs.FirstRefusal.{line_limit}
use Rattle.fx_tables.specs.Classes.{Class}
use Rattle.fx_machine.specs.States.{wrapped_state}
use Rattle.fx_topology.specs.declared.network.NetworkDocument.{NetworkDocument}
use Rattle.fx_plan.specs.Tables.{net_of}
use Rattle.fx_checker.specs.declared.answer.Answer.{Answer}
use Rattle.fx_checker.specs.declared.answer.Answer.TheVariants.{Yes, No, Unknown}
use Rattle.fx_audit.specs.declared.bundle.Command.{Command}
use Rattle.fx_audit.specs.declared.bundle.Command.TheVariants.{Audit, Replay, Check, Confirm}
use Rattle.fx_audit.specs.Audits.{IsAuditedIn}
use Rattle.fx_audit.specs.Commands.{IsDone, IsReplayedIn}
use Rattle.fx_audit.specs.Confirms.{IsConfirmedIn, RefutesNothing, printed_refusal}
use Rattle.fx_audit.specs.Texts.{IsAuditText, IsBundleText, IsConfirmText, IsReplayText}
use Rattle.fx_audit.proofs.Confirms.{same_number}
use Rattle.fx_checker.proofs.Texts.{check_text}

pub confirm_text : (network : NetworkDocument) (classes : List Class) (lines : Lines) (answer : Answer) (text : List ℕ)
    → IsConfirmedIn network classes lines answer text → IsConfirmText answer text
confirm_text network classes lines Yes text h = (h.ran, h.plain, h.text_is)
confirm_text network classes lines No text h =
    (printed_refusal h.fault, subst (λ (n : ℕ). RefutesNothing n) (sym (same_number h.fault)) h.means_no, h.text_is)
confirm_text network classes lines Unknown text h = absurd h

pub audit_text : (network : NetworkDocument) (classes : List Class) (limit : ℕ) (answer : Answer) (text : List ℕ)
    → IsAuditedIn network classes limit answer text → IsAuditText answer text
audit_text network classes limit Yes text h = (h.items, h.text_is)
audit_text network classes limit No text h = (h.refutation, h.text_is)
audit_text network classes limit Unknown text h = h.text_is

pub replay_text : (network : NetworkDocument) (classes : List Class) (lines : Lines) (text : List ℕ)
    → IsReplayedIn network classes lines text → IsReplayText Yes text
replay_text network classes lines text h = (refl, ((net_of network).report_layout, wrapped_state h.last, h.text_is))

pub bundle_text : (command : Command) (n t : List ℕ) (lines : Lines) (answer : Answer) (text : List ℕ)
    → IsDone command n t lines answer text → IsBundleText answer text
bundle_text Replay n t lines answer text h =
    inl (subst (λ (a : Answer). IsReplayText a text) (sym h.0)
    (replay_text h.1.network h.1.classes lines text h.1.holds))
bundle_text Check n t lines answer text h = inr (inl (check_text h.network h.classes lines answer text h.holds))
bundle_text Confirm n t lines answer text h =
    inr (inr (inl (confirm_text h.network h.classes lines answer text h.holds)))
bundle_text Audit n t lines answer text h =
    inr (inr (inr (audit_text h.network h.classes line_limit answer text h.holds)))

-- ---- as the commands answer
