use Rattle.std.proofs.Common.{◌≡◌, [], length}
use Rattle.fx_run_text.specs.RunReading.{choices_behind}
use Rattle.fx_run_text.proofs.run_line.read_choices.Given as goal

abbrev pub invariant-words : goal.invariant-words
invariant-words l = choices_behind l.choices l.words ≡ choices_behind [] l.fn.words

abbrev pub decreases-words : goal.decreases-words
decreases-words l = length l.words
