use Rattle.std.proofs.lemmas.Result.{on_ok_weaker}
use Rattle.fx_steps.proofs.PlansMeetFates.{then_takings}
use Rattle.fx_steps.proofs.pending.StepPlan.add_handling.Goals as goal

pub returns : goal.returns
returns c =
    let w = c.args.costs.now in
    on_ok_weaker c.add_takings.result (then_takings w.table w.tables.net w.tables.numbering w.packet.fields
    c.args.number c.args.layout.now c.args.process.now c.args.fate c.args.self.now c.add_sends.new.self
    c.add_takings.new.self c.key_of-key.result c.handling_shares-one.result c.exporters.result.now
    c.aggregations.result.now c.key_of-key.ensures c.exporters.ensures c.aggregations.ensures
    c.handling_shares-one.ensures c.in_ok-add_sends.ensures) c.add_takings.ensures
