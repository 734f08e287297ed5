use Rattle.std.proofs.Common.{◌≡◌, ℕ, ◌+◌, List, [], ◌∷◌, ◌++◌, ap, sym, ◌∙◌, append_assoc, arith}
use Rattle.std.proofs.lemmas.List.FromFn.{map-range_with_len_more}
use Rattle.fx_plan.specs.declared.cycle.ProcessNumber.{ProcessNumber}
use Rattle.fx_plan.specs.Cycles.{numbers_on}
use Rattle.fx_plan.proofs.cycle.push_numbers.Goals as goal

pub loop-n-preserved : goal.loop-n-preserved
loop-n-preserved c =
    let number : ℕ → ProcessNumber = λ (n : ℕ). record { device = c.args.device; process = n + 1 } in
    let n = c.loop-n.n in
    let old = c.args.numbers.now.items in
    let more : numbers_on c.args.device (n + 1) ≡ numbers_on c.args.device n ++ number n ∷ [] =
    map-range_with_len_more number 0 n n (omega arith) in
    c.in_ok-push.ensures.items
    ∙ (ap (λ (l : List ProcessNumber). l ++ number n ∷ []) c.loop-n.invariant
    ∙ (append_assoc old (numbers_on c.args.device n) (number n ∷ [])
    ∙ ap (λ (l : List ProcessNumber). old ++ l) (sym more)))
