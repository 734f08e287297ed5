use Rattle.std.proofs.Common.{◌∙◌, ap, Bool, List, is_some}
use Rattle.fx_machine.specs.Comings.{has_mark_at}
use Rattle.fx_machine.specs.States.{State}
use Rattle.fx_machine.specs.Steps.{place}
use Rattle.fx_machine.proofs.StepEffects.{mark_is_place}
use Rattle.fx_machine.proofs.store.Store.is_to_come.Goals as goal

pub returns : goal.returns
returns c =
    let i = c.args.packet in
    let j = c.args.crossing in
    c.is_to_come.ensures ∙ ap (λ (fs : List (List Bool)). has_mark_at fs i j) c.as_slice.ensures.value
    ∙ mark_is_place c.self.inside.to_come.items i j
    ∙ ap (λ (s : State). is_some (place s.coming i j)) c.self.view_is
