use Rattle.std.proofs.Common.{◌≡◌, ◌++◌, length, ap, ◌∙◌}
use Rattle.fx_plan.specs.Labels.{Group, device_labels}
use Rattle.fx_plan.proofs.LabelGroups.{one_group_more, own_device}
use Rattle.fx_plan.proofs.labels.push_group.Goals as goal

pub returns-clause-groups : goal.returns-clause-groups
returns-clause-groups g c = λ grouped.
    (let old = c.args.labels.now.items in
    let new = device_labels g.T.Named.name c.args.device.now c.args.things.now in
    let group : Group = record { device = c.args.device.now; start = c.len-start.result; end = c.len-end.result } in
    let start : group.start ≡ length old = c.len-start.ensures ∙ c.args.labels.now.ok.0 in
    let end : group.end ≡ length (old ++ new) = c.len-end.ensures
    ∙ (c.push_labels.new.labels.ok.0 ∙ ap length c.in_ok-push_labels.ensures) in
    rw (c.in_ok-push_labels.ensures, c.in_ok-push.ensures.items)
    (one_group_more 0 old new c.args.groups.now.items group grouped start end
    (λ k d low. own_device g.T.Named.name c.args.device.now c.args.things.now k d low)))
