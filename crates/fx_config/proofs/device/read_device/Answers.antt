use Rattle.serde_json.specs.View.{view}
use Rattle.fx_walk.proofs.Faults.{pointer-Root}
use Rattle.fx_config.proofs.NamesResolve.{answer_resolves}
use Rattle.fx_config.proofs.device.read_device.Goals as goal

pub returns-clause-resolved : goal.returns-clause-resolved
returns-clause-resolved c = answer_resolves c.from_value.result (view c.args.value.now)
    (rw pointer-Root at c.from_value.ensures)
