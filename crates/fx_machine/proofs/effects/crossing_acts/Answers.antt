use Rattle.std.proofs.Common.{◌≡◌, ◌∙◌, ap, sym, true, is_some}
use Rattle.fx_machine.specs.States.{State}
use Rattle.fx_machine.specs.Steps.{place}
use Rattle.fx_machine.proofs.StepEffects.{crossing_handled}
use Rattle.fx_machine.proofs.effects.crossing_acts.Goals as goal

pub returns-clause-ok : goal.returns-clause-ok
returns-clause-ok c s e choices =
    let coming = c.args.store.now.coming in
    let there : is_some (place coming c.args.packet c.args.crossing) ≡ true = sym c.is_to_come.ensures
    ∙ c.if-not-is_to_come.false in
    crossing_handled c.args.net.now c.args.classes.now c.args.packets.now c.args.packet c.args.crossing choices s coming
    c.in-Some.found.now c.in_ok-holdings.holdings.items (ap (λ (t : State). t.coming) e) there c.in-Some.ensures
    c.in_ok-holdings.ensures
