use Rattle.std.proofs.Common.{refl}
use Rattle.fx_walk.proofs.Faults.{exit}
use Rattle.fx_config.specs.CacheFields.{use_rows}
use Rattle.fx_walk.proofs.RowFaults.{from_rows, no_rows}
use Rattle.fx_config.proofs.cache_field.read_field.Goals as goal

pub returns-in_err-name-clause-reads : goal.returns-in_err-name-clause-reads
returns-in_err-name-clause-reads c =
    exit _ _ _ _ c.from_residual.ensures (c.in_err-name.ensures.reads (use_rows c.args.immediate) refl)

pub returns-in_err-given-clause-reads : goal.returns-in_err-given-clause-reads
returns-in_err-given-clause-reads c =
    exit _ _ _ _ c.from_residual-in_err-given.ensures
    (from_rows _ _ _ (c.in_ok-name.ensures.reads.0 (use_rows c.args.immediate) refl) c.in_err-given.ensures)

pub returns-clause-reads : goal.returns-clause-reads
returns-clause-reads c = (
  no_rows _ _ (c.in_ok-name.ensures.reads.0 (use_rows c.args.immediate) refl) c.in_ok-given.ensures.0,
  rw (c.in_ok-name.ensures.reads.1, c.in_ok-given.ensures.1) refl,
)
