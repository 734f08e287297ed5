use Rattle.std.proofs.Common.{Option, Bool, ap, sym, subst, ◌⊎◌}
use Rattle.std.specs.Prelude.{IfErr, is_some}
use Rattle.fx_base.specs.Device.{IsWriteFault}
use Rattle.fx_cli.specs.Running.{IsRunOutput, IsRunRefusal}
use Rattle.fx_cli.proofs.CallOutputs.{answers_as}
use Rattle.fx_cli.proofs.CallRefusals.{refused_as}
use Rattle.fx_cli.proofs.commands.run_capture.Goals as goal
use Rattle.fx_cli.proofs.commands.run_capture.Goals.{in-Some, in-None}
use Rattle.fx_checker.specs.Running.{IsRefusal}

pub returns-clause-answers : goal.returns-clause-answers
returns-clause-answers g c = elim c.match-links.branch [
  | in-Some w ↦ answers_as g.S.Sink.taken g.S.Sink.failed IsRunOutput c.args.sink.now c.match-links.sink
      w.run_onto_files-answer.new.sink c.match-links.answer w.run_onto_files-answer.result w.sink-is w.answer-is
      w.run_onto_files-answer.ensures.answers
  | in-None w ↦ answers_as g.S.Sink.taken g.S.Sink.failed IsRunOutput c.args.sink.now c.match-links.sink
      w.run_onto_nowhere-answer.new.sink c.match-links.answer w.run_onto_nowhere-answer.result w.sink-is w.answer-is
      w.run_onto_nowhere-answer.ensures.answers
]

pub returns-clause-refused : goal.returns-clause-refused
returns-clause-refused g c = elim c.match-links.branch [
  | in-Some w ↦ refused_as g.S.Sink.failed (IsRefusal (IsRunRefusal (is_some c.args.links))) c.match-links.sink
      w.run_onto_files-answer.new.sink c.match-links.answer w.run_onto_files-answer.result w.sink-is w.answer-is
      (subst (λ (given : Bool). IfErr w.run_onto_files-answer.result
      (λ e. IsWriteFault (g.S.Sink.failed w.run_onto_files-answer.new.sink) e ⊎ IsRefusal (IsRunRefusal given) e))
      (sym (ap (λ (o : Option _). is_some o) w.in-Some.is)) w.run_onto_files-answer.ensures.refused)
  | in-None w ↦ refused_as g.S.Sink.failed (IsRefusal (IsRunRefusal (is_some c.args.links))) c.match-links.sink
      w.run_onto_nowhere-answer.new.sink c.match-links.answer w.run_onto_nowhere-answer.result w.sink-is w.answer-is
      (subst (λ (given : Bool). IfErr w.run_onto_nowhere-answer.result
      (λ e. IsWriteFault (g.S.Sink.failed w.run_onto_nowhere-answer.new.sink) e ⊎ IsRefusal (IsRunRefusal given) e))
      (sym (ap (λ (o : Option _). is_some o) w.in-None.is)) w.run_onto_nowhere-answer.ensures.refused)
]
