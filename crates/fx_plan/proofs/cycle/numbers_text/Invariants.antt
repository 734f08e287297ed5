use Rattle.std.proofs.Common.{◌≡◌, ◌++◌, ◌∷◌, take, flat_map, string_bytes}
use Rattle.fx_plan.specs.Cycles.{number_text}
use Rattle.fx_plan.proofs.cycle.numbers_text.Given as goal

abbrev pub invariant-loop-number : goal.invariant-loop-number
invariant-loop-number l = string_bytes l.text ≡ string_bytes l.initial.text
    ++ flat_map (λ m. 32 ∷ number_text m) (take l.number-index l.rest)
