use Rattle.std.proofs.Common.{◌≡◌, Bool, true, false, List, sym, ap, ◌∙◌, subst, inl, inr}
use Rattle.std.specs.List.{list_all}
use Rattle.fx_topology.specs.declared.network_device.NetworkDevice.{NetworkDevice}
use Rattle.fx_plan.specs.Cycles.{IsTextPlace, stuck_text}
use Rattle.fx_plan.proofs.StuckProcesses.{no_ranks, one_stuck, stuck_if, stuck_places, whole_if}
use Rattle.fx_plan.proofs.ranks.ranks_of.Goals as goal

pub returns-then-not-all_have_come-clause-err : goal.returns-then-not-all_have_come-clause-err
returns-then-not-all_have_come-clause-err c =
    let net = c.args.net.now in
    let come = c.in_ok-coming.coming.come.items in
    let order = c.in_ok-coming.coming.order.items in
    let some : list_all (λ c. c) come ≡ false = ap (list_all (λ (b : Bool). b)) (sym c.as_slice.ensures.value)
    ∙ (sym c.all_have_come.ensures ∙ c.if-not-all_have_come.true) in
    let here = one_stuck net order come c.in_ok-coming.ensures.order c.in_ok-coming.ensures.come some in
    elim c.cycle.ensures [
      | inl m ↦ inl m
      | inr f ↦ inr (record {
        stuck = stuck_places come;
        are_stuck = rw (← c.requires.net_is) (stuck_if net order come c.in_ok-coming.ensures.order
            c.in_ok-coming.ensures.come);
        unranked = rw (← c.requires.net_is) (no_ranks net here.0 here.2);
        one = rw (← c.requires.net_is) here;
        number = f.0;
        text =
            (let reported : IsTextPlace c.cycle.result.place
            (stuck_text c.as_slice-then-not-all_have_come.result.now
            (stuck_places c.as_slice-then-not-all_have_come-2.result.now)) = f.1 in
            subst (λ (flags : List Bool). IsTextPlace c.cycle.result.place
            (stuck_text c.args.network.now.devices (stuck_places flags)))
            c.as_slice-then-not-all_have_come-2.ensures.value
            (subst (λ (devices : List NetworkDevice). IsTextPlace c.cycle.result.place
            (stuck_text devices (stuck_places c.as_slice-then-not-all_have_come-2.result.now)))
            c.as_slice-then-not-all_have_come.ensures reported));
      })
    ]

pub returns-clause-whole : goal.returns-clause-whole
returns-clause-whole c =
    let come = c.in_ok-coming.coming.come.items in
    let all : list_all (λ c. c) come ≡ true = ap (list_all (λ (b : Bool). b)) (sym c.as_slice.ensures.value)
    ∙ (sym c.all_have_come.ensures ∙ c.if-not-all_have_come.false) in
    whole_if c.args.net.now c.in_ok-coming.coming.order.items come c.in_ok-coming.ensures.order
    c.in_ok-coming.ensures.come c.in_ok-coming.ensures.short c.requires.resolved all
