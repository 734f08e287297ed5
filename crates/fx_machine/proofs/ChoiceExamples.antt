-- The choice of a destination, worked out by the definitions.
use Rattle.std.proofs.Common.{◌≡◌, List, [], ◌∷◌, Some, Ok, Err, refl}
use Rattle.fx_run_text.specs.declared.step.Step.{Step}
use Rattle.fx_run_text.specs.declared.step.Step.TheVariants.{Expire}
use Rattle.fx_tables.specs.declared.holder_name.HolderName.TheVariants.{Cache}
use Rattle.fx_tables.specs.Network.{Exporter}
use Rattle.fx_machine.specs.States.{opening}
use Rattle.fx_machine.specs.Acts.{Outcome}
use Rattle.fx_machine.specs.Steps.{run}
use Rattle.fx_machine.proofs.ClaimExamples.{net, customers, two, cross_both, having, first, second, by_choice, in_parallel}

-- two packets are metered, and then these steps made
after_both : Exporter → List Step → Outcome
after_both exporter steps = run (net exporter) customers two (cross_both steps) (opening (net exporter) customers two)

-- the first destination is the link
chosen_first : after_both by_choice (Expire (Cache 1 1) 2 (Some 1 ∷ []) ∷ [])
    ≡ Ok (having (first ∷ []) (second ∷ []) [])
unfolding after_both
chosen_first = refl

-- at the second the record is gone
chosen_second : after_both by_choice (Expire (Cache 1 1) 2 (Some 2 ∷ []) ∷ []) ≡ Ok (having (first ∷ []) [] [])
unfolding after_both
chosen_second = refl

-- there is no third, and one has to be chosen
chosen_third : after_both by_choice (Expire (Cache 1 1) 2 (Some 3 ∷ []) ∷ []) ≡ Err 852
unfolding after_both
chosen_third = refl

not_chosen : after_both by_choice (Expire (Cache 1 1) 2 [] ∷ []) ≡ Err 852
unfolding after_both
not_chosen = refl

-- in parallel there is nothing to choose
no_choice : after_both in_parallel (Expire (Cache 1 1) 2 [] ∷ []) ≡ Ok (having (first ∷ []) (second ∷ []) [])
unfolding after_both
no_choice = refl
