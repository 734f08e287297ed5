use Rattle.std.proofs.Common.{◌≡◌, ◌∙◌, ℕ, Some, ap₂, sym, arith}
use Rattle.fx_tables.specs.declared.holder_name.HolderName.{HolderName}
use Rattle.fx_run_text.specs.declared.step.Step.{Step}
use Rattle.fx_run_text.specs.declared.step.Step.TheVariants.{Expire}
use Rattle.fx_steps.specs.declared.pending.Pending.TheVariants.{AtHolder}
use Rattle.fx_steps.specs.Planning.{step_choices}
use Rattle.fx_steps.specs.UnderWay.{TopLeaves}
use Rattle.fx_steps.specs.Waiting.{zeros_for, holder_counts}
use Rattle.fx_steps.proofs.RecordsBehind.{ok_with, sizes, holder_on_top, holder_within}
use Rattle.fx_steps.proofs.HolderNames.{inside}
use Rattle.fx_steps.proofs.Places.{there}
use Rattle.fx_steps.proofs.building.Building.leave_holder.Goals as goal

pub leave_holder-position-requires-clause-there : goal.leave_holder-position-requires-clause-there
leave_holder-position-requires-clause-there c =
    let net = c.args.costs.now.tables.net in
    omega (arith, c.requires.there.there, (sizes net _ c.args.self.now.waiting c.requires.waiting).0)

pub leave_holder-position-requires-clause-some : goal.leave_holder-position-requires-clause-some
leave_holder-position-requires-clause-some c =
    let net = c.args.costs.now.tables.net in
    let xs = c.args.self.now.plan.pending.items in
    record {
      before = holder_counts (zeros_for net.holders) xs;
      inside =
          holder_within net xs c.args.holder c.requires.there.there;
      is =
          (holder_on_top net xs c.args.holder c.args.fate c.args.self.now.waiting c.requires.waiting).0;
    }

pub name_at-requires : goal.name_at-requires
name_at-requires c =
    let is = c.requires.names c.args.holder c.requires.there in
    inside c.args.names.now c.args.holder is.name is.here

pub returns-clause-leaves : goal.returns-clause-leaves
returns-clause-leaves c =
    let net = c.args.costs.now.tables.net in
    let xs = c.args.self.now.plan.pending.items in
    let before = holder_counts (zeros_for net.holders) xs in
    let within = holder_within net xs c.args.holder c.requires.there.there in
    let count = there before c.args.holder within in
    let top = holder_on_top net xs c.args.holder c.args.fate c.args.self.now.waiting c.requires.waiting in
    let is = c.requires.names c.args.holder c.requires.there in
    let same : c.name_at.result ≡ is.name = let h : Some c.name_at.result ≡ Some is.name = sym c.name_at.ensures
    ∙ is.here in cc in
    let position = c.leave_holder-position.ensures.leaves.last before count.0 count.1 top.0 in
    let step_at : HolderName → ℕ → Step = λ name m. Expire name m
    (step_choices c.args.costs.now.table net c.args.costs.now.tables.numbering c.args.costs.now.packet.fields
    (AtHolder c.args.holder c.args.fate)) in
    ok_with (λ (step : Step). step ≡ step_at c.name_at.result c.leave_holder-position.result)
    (TopLeaves c.args.costs.now c.args.self.now
    (record c.args.self.now { plan = c.leave.new.self; waiting = c.leave_holder-position.new.self })
    (AtHolder c.args.holder c.args.fate)) _ c.leave.result (λ step e added. record {
      is = (is.name, count.0, is.named, count.1, e ∙ ap₂ step_at same position);
      pending = added;
      waiting = record {
        held = c.leave_holder-position.ensures.leaves.left before within top.0;
        carried =
            c.leave_holder-position.ensures.carried ∙ top.1;
      };
    }) c.leave.ensures.step c.leave.ensures.pending
