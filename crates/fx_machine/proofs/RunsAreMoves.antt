-- Runs with choices written are just what a network may do from move to move.
use Rattle.std.proofs.Common.{◌≡◌, List, [], ◌∷◌, Ok, Err, refl, sym, ap, ◌∙◌, subst}
use Rattle.fx_tables.specs.declared.packet.Packet.{Packet}
use Rattle.fx_run_text.specs.declared.step.Step.{Step}
use Rattle.fx_tables.specs.Network.{Net}
use Rattle.fx_tables.specs.Classes.{Class}
use Rattle.fx_machine.specs.States.{State}
use Rattle.fx_machine.specs.Acts.{Outcome}
use Rattle.fx_machine.specs.Steps.{after, run, then_run}
use Rattle.fx_machine.specs.Moves.{Runs, ended, moved}
use Rattle.fx_machine.proofs.StepsAreMoves.{step_is_move, move_is_step}

module _ (net : Net) (classes : List Class) (packets : List Packet) where
  pub steps_of : (s final : State) → Runs net classes packets s final → (steps : List Step)
      × (run net classes packets steps s ≡ Ok final)
  steps_of _ _ (ended s final same) = ([], ap (λ (x : State). Ok x) same)
  steps_of _ _ (moved s next final move rest) =
      let step = move_is_step net classes packets s next move in
      let others = steps_of next final rest in
      (step.0 ∷ others.0, ap (λ (o : Outcome). then_run o (run net classes packets others.0)) step.1 ∙ others.1)

  pub runs_of : (steps : List Step) (s final : State) → run net classes packets steps s ≡ Ok final
      → Runs net classes packets s final
  runs_of [] s final h = ended s final (cc)
  runs_of (step ∷ steps) s final h = go (after net classes packets step s) refl h
      (λ next rest. runs_of steps next final rest)
    where
      go : (o : Outcome) → after net classes packets step s ≡ o → then_run o (run net classes packets steps) ≡ Ok final
          → ((next : State) → run net classes packets steps next ≡ Ok final → Runs net classes packets next final)
          → Runs net classes packets s final
      go (Err n) is h behind = absurd (cc)
      go (Ok next) is h behind = moved s next final (step_is_move net classes packets step s next is) (behind next h)

  -- a run goes on from where another ended
  pub runs_on : (s mid final : State) → Runs net classes packets s mid → Runs net classes packets mid final
      → Runs net classes packets s final
  runs_on _ _ final (ended s mid same) more = subst (λ (x : State). Runs net classes packets x final) (sym same) more
  runs_on _ _ final (moved s next mid move rest) more = moved s next final move (runs_on next mid final rest more)
