use Rattle.std.proofs.Common.{◌≡◌, take, false}
use Rattle.std.specs.Prelude.{map}
use Rattle.fx_base.specs.Device.{Writes}
use Rattle.fx_run_text.specs.RunLineText.{spaced_words}
use Rattle.fx_run_text.specs.RunText.{choice_word}
use Rattle.fx_run_text.proofs.run_put.put_choices.Given as goal

abbrev pub invariant-loop-choice : goal.invariant-loop-choice
invariant-loop-choice g l = record {
  taken : Writes (g.S.Sink.taken l.initial.sink) (g.S.Sink.taken l.sink)
      (spaced_words (map choice_word (take l.choice-index l.choices)));
  going : g.S.Sink.failed l.initial.sink ≡ false → g.S.Sink.failed l.sink ≡ false;
}
