use Rattle.fx_leaf.proofs.Answers.{none_is_cut, some_is_fate, once_is_sound, no_other_is_sound, never_is_sound, sound_is_never}
use Rattle.fx_leaf.proofs.RowsAreVerdicts.{table_is_verdicts}
use Rattle.fx_leaf.proofs.laws.verdicts_judge_regions.Goals as goal

pub returns-clause-none : goal.returns-clause-none
returns-clause-none c = none_is_cut

pub returns-clause-some : goal.returns-clause-some
returns-clause-some c = some_is_fate

pub returns-clause-once : goal.returns-clause-once
returns-clause-once c = once_is_sound

pub returns-clause-no_other : goal.returns-clause-no_other
returns-clause-no_other c = no_other_is_sound

pub returns-clause-table : goal.returns-clause-table
returns-clause-table c = table_is_verdicts

pub returns-clause-never : goal.returns-clause-never
returns-clause-never c = never_is_sound

pub returns-clause-never_alone : goal.returns-clause-never_alone
returns-clause-never_alone c = sound_is_never
