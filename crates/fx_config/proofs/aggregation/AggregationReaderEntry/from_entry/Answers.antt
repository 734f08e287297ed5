use Rattle.std.proofs.Common.{drop, refl}
use Rattle.fx_config.specs.Aggregations.{aggregation_rows}
use Rattle.fx_walk.proofs.RowFaults.{from_rows, no_rows, none_more, skip}
use Rattle.fx_walk.proofs.Faults.{exit, refuses_more}
use Rattle.fx_config.proofs.aggregation.AggregationReaderEntry.from_entry.Goals as goal

pub returns-in_err-name-clause-reads : goal.returns-in_err-name-clause-reads
returns-in_err-name-clause-reads c =
    exit _ _ _ _ c.from_residual.ensures (c.in_err-name.ensures.reads (drop 1 (aggregation_rows c.args.earlier.now))
    refl)

pub returns-in_err-key-clause-reads : goal.returns-in_err-key-clause-reads
returns-in_err-key-clause-reads c =
    exit _ _ _ _ c.from_residual-in_err-key.ensures
    (from_rows _ _ _ (c.in_ok-name.ensures.reads.0 (drop 1 (aggregation_rows c.args.earlier.now)) refl)
    (refuses_more _ _ _ c.in_err-key.ensures))

pub returns-in_err-matches-clause-reads : goal.returns-in_err-matches-clause-reads
returns-in_err-matches-clause-reads c =
    exit _ _ _ _ c.from_residual-in_err-matches.ensures
    (from_rows _ _ _ (c.in_ok-name.ensures.reads.0 (drop 1 (aggregation_rows c.args.earlier.now)) refl)
    (skip _ _ _ c.in_ok-key.ensures.0 (refuses_more _ _ _ c.in_err-matches.ensures)))

pub returns-in_err-processes-clause-reads : goal.returns-in_err-processes-clause-reads
returns-in_err-processes-clause-reads c =
    exit _ _ _ _ c.from_residual-in_err-processes.ensures
    (from_rows _ _ _ (c.in_ok-name.ensures.reads.0 (drop 1 (aggregation_rows c.args.earlier.now)) refl)
    (skip _ _ _ c.in_ok-key.ensures.0 (skip _ _ _ c.in_ok-matches.ensures.0
    (refuses_more _ _ _ c.in_err-processes.ensures))))

pub returns-clause-reads : goal.returns-clause-reads
returns-clause-reads c = (
  no_rows _ _ (c.in_ok-name.ensures.reads.0 (drop 1 (aggregation_rows c.args.earlier.now)) refl)
      (none_more _ _ c.in_ok-key.ensures.0 (none_more _ _ c.in_ok-matches.ensures.0
      (none_more _ _ c.in_ok-processes.ensures.0 refl))),
  rw (c.in_ok-name.ensures.reads.1, c.in_ok-key.ensures.1, c.in_ok-matches.ensures.1, c.in_ok-processes.ensures.1)
      refl,
)
