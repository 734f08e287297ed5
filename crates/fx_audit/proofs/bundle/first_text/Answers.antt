use Rattle.std.proofs.Common.{ℕ, List, sym, subst, take}
use Rattle.fx_audit.specs.Bundle.{FirstText}
use Rattle.fx_audit.proofs.Marks.{first_text_is}
use Rattle.fx_audit.proofs.bundle.first_text.Goals as goal

pub returns-clause-some : goal.returns-clause-some
returns-clause-some c =
    let bytes : List ℕ = c.args.bytes.now in
    let is = first_text_is bytes c.in_ok-at.at c.in_ok-at.ensures.some.1 c.in_ok-at.ensures.some.2 in
    subst (λ (text : List ℕ). FirstText bytes text c.split_at-2.result.1.now) (sym c.split_at.ensures.front)
    (subst (λ (rest : List ℕ). FirstText bytes (take c.in_ok-at.at bytes) rest) (sym c.split_at-2.ensures.back) is)
