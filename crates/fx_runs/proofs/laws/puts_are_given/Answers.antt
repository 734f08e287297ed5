use Rattle.fx_runs.proofs.RecordsGiven.{gives_all, expire_puts, arrive_puts, cross_puts}
use Rattle.fx_runs.proofs.laws.puts_are_given.Goals as goal

pub returns-clause-gives : goal.returns-clause-gives
returns-clause-gives c = gives_all

pub returns-clause-expire : goal.returns-clause-expire
returns-clause-expire c = expire_puts

pub returns-clause-arrive : goal.returns-clause-arrive
returns-clause-arrive c = arrive_puts

pub returns-clause-cross : goal.returns-clause-cross
returns-clause-cross c = cross_puts
