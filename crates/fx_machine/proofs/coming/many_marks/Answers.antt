use Rattle.std.proofs.Common.{true, ◌∷◌, [], ◌++◌, Bool, List, ap, ◌∙◌}
use Rattle.std.proofs.lemmas.List.{replicate-append-replicate}
use Rattle.fx_machine.proofs.coming.many_marks.Goals as goal

pub loop-crossing-preserved : goal.loop-crossing-preserved
loop-crossing-preserved c =
    c.in_ok-push.ensures.items ∙ ap (λ (marks : List Bool). marks ++ true ∷ []) c.loop-crossing.invariant
    ∙ replicate-append-replicate c.loop-crossing._crossing 1 true
