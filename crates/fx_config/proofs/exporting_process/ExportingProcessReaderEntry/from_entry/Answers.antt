use Rattle.std.proofs.Common.{drop, refl}
use Rattle.fx_config.specs.ExportingProcesses.{exporting_process_rows}
use Rattle.fx_walk.proofs.RowFaults.{from_rows, no_rows, none_more, skip}
use Rattle.fx_walk.proofs.Faults.{exit, refuses_more}
use Rattle.fx_config.proofs.exporting_process.ExportingProcessReaderEntry.from_entry.Goals as goal

pub returns-in_err-name-clause-reads : goal.returns-in_err-name-clause-reads
returns-in_err-name-clause-reads c =
    exit _ _ _ _ c.from_residual.ensures (c.in_err-name.ensures.reads
    (drop 1 (exporting_process_rows c.args.earlier.now)) refl)

pub returns-in_err-mode-clause-reads : goal.returns-in_err-mode-clause-reads
returns-in_err-mode-clause-reads c =
    exit _ _ _ _ c.from_residual-in_err-mode.ensures
    (from_rows _ _ _ (c.in_ok-name.ensures.reads.0 (drop 1 (exporting_process_rows c.args.earlier.now)) refl)
    (refuses_more _ _ _ c.in_err-mode.ensures))

pub returns-in_err-destinations-clause-reads : goal.returns-in_err-destinations-clause-reads
returns-in_err-destinations-clause-reads c =
    exit _ _ _ _ c.from_residual-in_err-destinations.ensures
    (from_rows _ _ _ (c.in_ok-name.ensures.reads.0 (drop 1 (exporting_process_rows c.args.earlier.now)) refl)
    (skip _ _ _ c.in_ok-mode.ensures.0 (refuses_more _ _ _ c.in_err-destinations.ensures)))

pub returns-clause-reads : goal.returns-clause-reads
returns-clause-reads c = (
  no_rows _ _ (c.in_ok-name.ensures.reads.0 (drop 1 (exporting_process_rows c.args.earlier.now)) refl)
      (none_more _ _ c.in_ok-mode.ensures.0 (none_more _ _ c.in_ok-destinations.ensures.0 refl)),
  rw (c.in_ok-name.ensures.reads.1, c.in_ok-mode.ensures.1, c.in_ok-destinations.ensures.1) refl,
)
