use Rattle.fx_runs.proofs.RunsGoOn.{runs_extend, runs_extend_from, runs_join}
use Rattle.fx_runs.proofs.PutOn.{put_extends, put_joins}
use Rattle.fx_runs.proofs.laws.runs_go_on.Goals as goal

pub returns-clause-packet : goal.returns-clause-packet
returns-clause-packet c = runs_extend

pub returns-clause-behind : goal.returns-clause-behind
returns-clause-behind c = runs_extend_from

pub returns-clause-join : goal.returns-clause-join
returns-clause-join c = runs_join

pub returns-clause-put : goal.returns-clause-put
returns-clause-put c = put_extends

pub returns-clause-put_join : goal.returns-clause-put_join
returns-clause-put_join c = put_joins
