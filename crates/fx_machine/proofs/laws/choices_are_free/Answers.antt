use Rattle.fx_machine.proofs.StepsAreMoves.{step_is_move, move_is_step}
use Rattle.fx_machine.proofs.RunsAreMoves.{runs_of, steps_of}
use Rattle.fx_machine.proofs.laws.choices_are_free.Goals as goal

pub returns-clause-step_is_move : goal.returns-clause-step_is_move
returns-clause-step_is_move c = step_is_move

pub returns-clause-move_is_step : goal.returns-clause-move_is_step
returns-clause-move_is_step c = move_is_step

pub returns-clause-steps_are_moves : goal.returns-clause-steps_are_moves
returns-clause-steps_are_moves c = runs_of

pub returns-clause-moves_are_steps : goal.returns-clause-moves_are_steps
returns-clause-moves_are_steps c = steps_of
