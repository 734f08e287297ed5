-- What a call over tables and classes says of the plan and the traffic that lend them.
use Rattle.std.proofs.Common.{◌≡◌, ℕ, ◌⊎◌, List, Option, Result, Ok, Err, IfErr, OnOk, subst, inl, inr}
use Rattle.fx_base.specs.declared.fault.Fault.{Fault}
use Rattle.fx_base.specs.Lines.{Lines, text_lines, Fails}
use Rattle.fx_tables.specs.Classes.{Class}
use Rattle.fx_machine.specs.Claim.{ExactlyOnce, OnceModulo}
use Rattle.fx_tables.specs.Network.{Net}
use Rattle.fx_tables.specs.Ranks.{IsNetwork}
use Rattle.fx_check.specs.Judging.{judge_of}
use Rattle.fx_check.specs.Outcomes.{IsRefusal, Accepts, MayBeAccepted, MayBeCertificate, MayBeRefused}
use Rattle.fx_traffic.specs.Targets.{targets_of, AreRegions}
use Rattle.fx_check.specs.FirstRefusal.{Refusal, whole, first_refusal}
use Rattle.fx_check.proofs.AcceptedCertificates.{certificate_only, certificate_all, certified_once, certified_modulo}

certified : (net : Net) (classes : List Class) (lines : Lines) → IsNetwork net → AreRegions (targets_of classes)
    → MayBeAccepted net (targets_of classes) lines → MayBeCertificate net classes lines
certified net classes lines is_net rs (text, left, none) =
    (text, left, certificate_only net classes lines.number (text_lines text) is_net rs none)

-- a certificate is refused by nothing but its reader
pub accepts : {X : Type 0} (net : Net) (classes : List Class) (old new : Lines) (r : Result X Fault) → IsNetwork net
    → AreRegions (targets_of classes) → IfErr r (λ e. Fails old new e ⊎ MayBeRefused net (targets_of classes) old new e)
    → IfErr r (Accepts net classes old new)
accepts net classes old new (Ok x) is_net rs h = tt
accepts net classes old new (Err e) is_net rs (inl f) = λ text left is. inr f
accepts net classes old new (Err e) is_net rs (inr there) = λ text reported is.
    let judged : List ℕ → Option Refusal = λ t. first_refusal (judge_of net) old.number 0 (whole (targets_of classes))
    (text_lines t) in
    let same_text : there.0 ≡ text = rw reported at there.1 in
    let here : IsRefusal e new (judged text) = subst (λ (t : List ℕ). IsRefusal e new (judged t)) same_text there.2 in
    let none : ⊥ = subst (IsRefusal e new) (certificate_all net classes old.number (text_lines text) is_net rs is) here
    in
    absurd none

-- what a certificate shows
module _ {X : Type 0} (net : Net) (classes : List Class) (lines : Lines) (is_net : IsNetwork net)
    (rs : AreRegions (targets_of classes)) where
  pub certificate : (r : Result X Fault) → OnOk r (MayBeAccepted net (targets_of classes) lines)
      → OnOk r (MayBeCertificate net classes lines)
  certificate (Ok x) h = certified net classes lines is_net rs h
  certificate (Err e) h = tt

  pub once : (r : Result X Fault) → OnOk r (MayBeAccepted net (targets_of classes) lines)
      → OnOk r (ExactlyOnce net classes)
  once (Ok x) h = let shown = certified net classes lines is_net rs h in
      certified_once net classes (text_lines shown.0) is_net shown.2
  once (Err e) h = tt

  pub modulo : (r : Result X Fault) → OnOk r (MayBeAccepted net (targets_of classes) lines)
      → OnOk r (OnceModulo net classes)
  modulo (Ok x) h = let shown = certified net classes lines is_net rs h in
      certified_modulo net classes (text_lines shown.0) is_net shown.2
  modulo (Err e) h = tt
