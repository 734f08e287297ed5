use Rattle.std.proofs.Common.{refl}
use Rattle.fx_walk.proofs.Faults.{exit}
use Rattle.fx_config.specs.Destinations.{transport_rows}
use Rattle.fx_walk.proofs.RowFaults.{from_rows, no_rows}
use Rattle.fx_config.proofs.destination.DestinationReaderEntry.from_entry.Goals as goal

pub returns-in_err-name-clause-reads : goal.returns-in_err-name-clause-reads
returns-in_err-name-clause-reads c = exit _ _ _ _ c.from_residual.ensures
    (c.in_err-name.ensures.reads transport_rows refl)

pub returns-in_err-transport-clause-reads : goal.returns-in_err-transport-clause-reads
returns-in_err-transport-clause-reads c =
    exit _ _ _ _ c.from_residual-in_err-transport.ensures
    (from_rows _ _ _ (c.in_ok-name.ensures.reads.0 transport_rows refl) c.in_err-transport.ensures)

pub returns-clause-reads : goal.returns-clause-reads
returns-clause-reads c = (
  no_rows _ _ (c.in_ok-name.ensures.reads.0 transport_rows refl) c.in_ok-transport.ensures.0,
  rw (c.in_ok-name.ensures.reads.1, c.in_ok-transport.ensures.1) refl,
)
