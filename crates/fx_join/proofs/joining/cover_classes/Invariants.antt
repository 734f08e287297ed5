use Rattle.fx_join.specs.Joins.{JoinsMore}
use Rattle.fx_join.proofs.joining.cover_classes.Given as goal

abbrev pub invariant-loop-number : goal.invariant-loop-number
invariant-loop-number l = JoinsMore l.initial.join l.join
