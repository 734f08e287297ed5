-- Each number with which a sum of totals is refused is listed.
use Rattle.std.proofs.Common.{◌≡◌, ℕ, true, sym, refl, subst, List, inl, inr}
use Rattle.fx_base.specs.Lines.{Lines, text_lines}
use Rattle.fx_base.specs.Refusals.{is_refusal_number, long_line, totals_form}
use Rattle.fx_base.specs.declared.fault.Fault.{Fault}
use Rattle.fx_plan.specs.Tables.{net_of}
use Rattle.fx_sums.specs.Sums.{no_sum}
use Rattle.fx_sums.proofs.RefusedTexts.{texts_refused}
use Rattle.fx_audit.specs.Sums.{IsRefusedSum}
use Rattle.fx_audit.proofs.ListedDocuments.{network_refusal_listed}

number_listed : (number known : ℕ) → number ≡ known → is_refusal_number known ≡ true → is_refusal_number number ≡ true
number_listed number known same is = subst (λ (n : ℕ). is_refusal_number n ≡ true) (sym same) is

pub sum_refusal_listed : (network : List ℕ) (lines : Lines) (e : Fault) → IsRefusedSum network lines e
    → is_refusal_number e.number ≡ true
sum_refusal_listed network lines e (inl refused) = network_refusal_listed network e refused
sum_refusal_listed network lines e (inr (document, is, (octets, left, same))) =
    elim (texts_refused (no_sum (net_of document).report_layout) (lines.number, text_lines octets) e same) [
      | inl form ↦ number_listed e.number totals_form form refl
      | inr long ↦ number_listed e.number long_line long refl
    ]
