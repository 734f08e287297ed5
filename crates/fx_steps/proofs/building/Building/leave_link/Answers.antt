use Rattle.std.proofs.Common.{◌≡◌, ◌∙◌, ℕ, suc, ap, arith}
use Rattle.fx_run_text.specs.declared.step.Step.{Step}
use Rattle.fx_run_text.specs.declared.step.Step.TheVariants.{Arrive}
use Rattle.fx_steps.specs.declared.pending.Pending.TheVariants.{OnLink}
use Rattle.fx_steps.specs.Planning.{step_choices}
use Rattle.fx_steps.specs.UnderWay.{TopLeaves}
use Rattle.fx_steps.specs.Waiting.{zeros_for, link_counts}
use Rattle.fx_steps.proofs.RecordsBehind.{ok_with, sizes, link_on_top, link_within}
use Rattle.fx_steps.proofs.Places.{there}
use Rattle.fx_steps.proofs.building.Building.leave_link.Goals as goal

pub leave_link-position-requires-clause-there : goal.leave_link-position-requires-clause-there
leave_link-position-requires-clause-there c =
    omega (arith, c.requires.there, (sizes c.args.costs.now.tables.net _ c.args.self.now.waiting c.requires.waiting).1)

pub leave_link-position-requires-clause-some : goal.leave_link-position-requires-clause-some
leave_link-position-requires-clause-some c =
    let net = c.args.costs.now.tables.net in
    let xs = c.args.self.now.plan.pending.items in
    record {
      before = link_counts (zeros_for net.links) xs;
      inside =
          link_within net xs c.args.link c.requires.there;
      is =
          (link_on_top net xs c.args.link c.args.layout c.args.fate c.args.self.now.waiting c.requires.waiting).1;
    }

pub returns-clause-leaves : goal.returns-clause-leaves
returns-clause-leaves c =
    let net = c.args.costs.now.tables.net in
    let xs = c.args.self.now.plan.pending.items in
    let before = link_counts (zeros_for net.links) xs in
    let within = link_within net xs c.args.link c.requires.there in
    let count = there before c.args.link within in
    let top = link_on_top net xs c.args.link c.args.layout c.args.fate c.args.self.now.waiting c.requires.waiting in
    let position = c.leave_link-position.ensures.leaves.last before count.0 count.1 top.1 in
    let step_at : ℕ → Step = λ m. Arrive (suc c.args.link) m
    (step_choices c.args.costs.now.table net c.args.costs.now.tables.numbering c.args.costs.now.packet.fields
    (OnLink c.args.link c.args.layout c.args.fate)) in
    ok_with (λ (step : Step). step ≡ step_at c.leave_link-position.result)
    (TopLeaves c.args.costs.now c.args.self.now
    (record c.args.self.now { plan = c.arrive.new.self; waiting = c.leave_link-position.new.self })
    (OnLink c.args.link c.args.layout c.args.fate)) _ c.arrive.result (λ step e added. record {
      is = (count.0, count.1, e ∙ ap step_at position);
      pending = added;
      waiting = record {
        held = c.leave_link-position.ensures.held ∙ top.0;
        carried =
            c.leave_link-position.ensures.leaves.left before within top.1;
      };
    }) c.arrive.ensures.step c.arrive.ensures.pending
