use Rattle.std.proofs.Common.{drop, refl}
use Rattle.fx_config.specs.CollectingProcesses.{collecting_process_rows}
use Rattle.fx_walk.proofs.RowFaults.{from_rows, no_rows, none_more, skip}
use Rattle.fx_walk.proofs.Faults.{exit, refuses_more}
use Rattle.fx_config.proofs.collecting_process.CollectingProcessReaderEntry.from_entry.Goals as goal

pub returns-in_err-name-clause-reads : goal.returns-in_err-name-clause-reads
returns-in_err-name-clause-reads c =
    exit _ _ _ _ c.from_residual.ensures (c.in_err-name.ensures.reads
    (drop 1 (collecting_process_rows c.args.earlier.now)) refl)

pub returns-in_err-none_of-clause-reads : goal.returns-in_err-none_of-clause-reads
returns-in_err-none_of-clause-reads c =
    exit _ _ _ _ c.from_residual-in_err-none_of.ensures
    (from_rows _ _ _ (c.in_ok-name.ensures.reads.0 (drop 1 (collecting_process_rows c.args.earlier.now)) refl)
    (refuses_more _ _ _ c.in_err-none_of.ensures))

pub returns-in_err-processes-clause-reads : goal.returns-in_err-processes-clause-reads
returns-in_err-processes-clause-reads c =
    exit _ _ _ _ c.from_residual-in_err-processes.ensures
    (from_rows _ _ _ (c.in_ok-name.ensures.reads.0 (drop 1 (collecting_process_rows c.args.earlier.now)) refl)
    (skip _ _ _ c.in_ok-none_of.ensures.0 (refuses_more _ _ _ c.in_err-processes.ensures)))

pub returns-in_err-aggregations-clause-reads : goal.returns-in_err-aggregations-clause-reads
returns-in_err-aggregations-clause-reads c =
    exit _ _ _ _ c.from_residual-in_err-aggregations.ensures
    (from_rows _ _ _ (c.in_ok-name.ensures.reads.0 (drop 1 (collecting_process_rows c.args.earlier.now)) refl)
    (skip _ _ _ c.in_ok-none_of.ensures.0 (skip _ _ _ c.in_ok-processes.ensures.0
    (refuses_more _ _ _ c.in_err-aggregations.ensures))))

pub returns-clause-reads : goal.returns-clause-reads
returns-clause-reads c = (
  no_rows _ _ (c.in_ok-name.ensures.reads.0 (drop 1 (collecting_process_rows c.args.earlier.now)) refl)
      (none_more _ _ c.in_ok-none_of.ensures.0
      (none_more _ _ c.in_ok-processes.ensures.0 (none_more _ _ c.in_ok-aggregations.ensures.0 refl))),
  rw (c.in_ok-name.ensures.reads.1, c.in_ok-processes.ensures.1, c.in_ok-aggregations.ensures.1) refl,
)
