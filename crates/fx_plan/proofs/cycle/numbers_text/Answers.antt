use Rattle.std.proofs.Common.{◌≡◌, ℕ, ◌+◌, ◌<◌, List, [], ◌∷◌, ◌++◌, length, get_or, take, drop, ◌-◌, ap, ◌∙◌, append_assoc, string_bytes, flat_map}
use Rattle.std.proofs.lemmas.List.{get_or_default}
use Rattle.fx_plan.specs.declared.cycle.ProcessNumber.{ProcessNumber}
use Rattle.fx_plan.specs.Cycles.{number_text}
use Rattle.fx_plan.proofs.Loops.{more_made}
use Rattle.fx_plan.proofs.cycle.numbers_text.Goals as goal

one_number : (start : List ℕ) (rest : List ProcessNumber) (n : ℕ) (d : ProcessNumber) (before spaced now : List ℕ) → n
    < length rest → spaced ≡ before ++ 32 ∷ [] → now ≡ spaced ++ number_text (get_or rest n d) → before ≡ start
    ++ flat_map (λ m. 32 ∷ number_text m) (take n rest) → now ≡ start
    ++ flat_map (λ m. 32 ∷ number_text m) (take (n + 1) rest)
one_number start rest n d before spaced now lt space text done =
    let x = get_or rest n d in
    more_made (λ (m : ProcessNumber). 32 ∷ number_text m) start rest n x before now lt (get_or_default rest n d x lt)
    done (text ∙ (ap (λ (l : List ℕ). l ++ number_text x) space ∙ append_assoc before (32 ∷ []) (number_text x)))

pub loop-number-preserved : goal.loop-number-preserved
loop-number-preserved c =
    let numbers = c.args.numbers.now in
    one_number (string_bytes c.push_number.new.text) (take (length numbers - 1) (drop 1 numbers))
    c.loop-number.number-index _ (string_bytes c.loop-number.text) (string_bytes c.push_str.new.self)
    (string_bytes c.push_number-in-loop-number.new.text) c.loop-number-test.true c.in_ok-push_str.ensures.bytes
    c.in_ok-push_number-2.ensures c.loop-number.invariant
