use Rattle.std.proofs.Common.{◌∷◌, [], ◌++◌, List, ap, ◌∙◌}
use Rattle.std.proofs.lemmas.List.{replicate-append-replicate}
use Rattle.fx_tables.specs.declared.record.Record.{Record}
use Rattle.fx_machine.proofs.store.empty_lists.Goals as goal

pub loop-place-preserved : goal.loop-place-preserved
loop-place-preserved c =
    c.in_ok-push.ensures.items ∙ ap (λ (records : List Record). c.loop-place.lists.items ++ records ∷ []) c.new.ensures
    ∙ ap (λ (lists : List (List Record)). lists ++ [] ∷ []) c.loop-place.invariant
    ∙ replicate-append-replicate {A = List Record} c.loop-place._place 1 []
