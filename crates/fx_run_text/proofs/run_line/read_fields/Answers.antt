use Rattle.std.proofs.Common.{refl}
use Rattle.fx_run_text.specs.RunReading.{fields_first}
use Rattle.fx_run_text.proofs.AllOnAxes.{all_on_axes}
use Rattle.fx_run_text.proofs.run_line.read_fields.Goals as goal

pub of-fields-requires : goal.of-fields-requires
of-fields-requires c =
    let last = c.in_ok-last.ensures.bound in
    all_on_axes _ _ _ _ _ _ _ _ _ c.in_ok-source.ensures.bound c.in_ok-destination.ensures.bound
    c.in_ok-protocol.ensures.bound c.in_ok-source_port.ensures.bound c.in_ok-destination_port.ensures.bound
    c.in_ok-service.ensures.bound last.0 last.1 last.2

pub returns-in_err-source : goal.returns-in_err-source
unfolding fields_first
returns-in_err-source c = rw (c.from_residual.ensures, ← c.in_err-source.ensures.value) refl

pub returns-in_err-destination : goal.returns-in_err-destination
unfolding fields_first
returns-in_err-destination c = rw (
  c.from_residual-in_err-destination.ensures,
  ← c.in_ok-source.ensures.value,
  ← c.in_err-destination.ensures.value,
) refl

pub returns-in_err-protocol : goal.returns-in_err-protocol
unfolding fields_first
returns-in_err-protocol c = rw (
  c.from_residual-in_err-protocol.ensures,
  ← c.in_ok-source.ensures.value,
  ← c.in_ok-destination.ensures.value,
  ← c.in_err-protocol.ensures.value,
) refl

pub returns-in_err-source_port : goal.returns-in_err-source_port
unfolding fields_first
returns-in_err-source_port c = rw (
  c.from_residual-in_err-source_port.ensures,
  ← c.in_ok-source.ensures.value,
  ← c.in_ok-destination.ensures.value,
  ← c.in_ok-protocol.ensures.value,
  ← c.in_err-source_port.ensures.value,
) refl

pub returns-in_err-destination_port : goal.returns-in_err-destination_port
unfolding fields_first
returns-in_err-destination_port c = rw (
  c.from_residual-in_err-destination_port.ensures,
  ← c.in_ok-source.ensures.value,
  ← c.in_ok-destination.ensures.value,
  ← c.in_ok-protocol.ensures.value,
  ← c.in_ok-source_port.ensures.value,
  ← c.in_err-destination_port.ensures.value,
) refl

pub returns-in_err-service : goal.returns-in_err-service
unfolding fields_first
returns-in_err-service c = rw (
  c.from_residual-in_err-service.ensures,
  ← c.in_ok-source.ensures.value,
  ← c.in_ok-destination.ensures.value,
  ← c.in_ok-protocol.ensures.value,
  ← c.in_ok-source_port.ensures.value,
  ← c.in_ok-destination_port.ensures.value,
  ← c.in_err-service.ensures.value,
) refl

pub returns-in_err-last : goal.returns-in_err-last
unfolding fields_first
returns-in_err-last c = rw (
  c.from_residual-in_err-last.ensures,
  ← c.in_ok-source.ensures.value,
  ← c.in_ok-destination.ensures.value,
  ← c.in_ok-protocol.ensures.value,
  ← c.in_ok-source_port.ensures.value,
  ← c.in_ok-destination_port.ensures.value,
  ← c.in_ok-service.ensures.value,
  ← c.in_err-last.ensures.value,
) refl

pub returns : goal.returns
unfolding fields_first
returns c = rw (
  ← c.in_ok-source.ensures.value,
  ← c.in_ok-destination.ensures.value,
  ← c.in_ok-protocol.ensures.value,
  ← c.in_ok-source_port.ensures.value,
  ← c.in_ok-destination_port.ensures.value,
  ← c.in_ok-service.ensures.value,
  ← c.in_ok-last.ensures.value,
  c.of-fields.ensures,
) refl
