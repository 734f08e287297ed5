use Rattle.std.proofs.Common.{◌≡◌, ◌∙◌, ap, refl, ℕ, List, [], length, replicate}
use Rattle.fx_tables.specs.declared.record.Record.{Record}
use Rattle.fx_tables.specs.Network.{Holder}
use Rattle.fx_machine.specs.States.{coming_from, nothing_at}
use Rattle.fx_machine.specs.Comings.{coming_of}
use Rattle.fx_machine.proofs.Crossings.{empties}
use Rattle.fx_machine.proofs.StepOutcomes.{same_parts}
use Rattle.fx_machine.proofs.store.Store.open.Goals as goal

pub returns : goal.returns
returns c =
    let net = c.args.net.now in
    let held : c.in_ok-empty_lists.field-0.items ≡ nothing_at net.holders = c.in_ok-empty_lists.ensures
    ∙ ap (λ (xs : List Holder). replicate {A = List Record} (length xs) []) c.holders.ensures ∙ empties net.holders
    in
    let carried : c.in_ok-empty_lists-2.field-0.items ≡ nothing_at net.links = c.in_ok-empty_lists-2.ensures
    ∙ ap (λ (xs : List ℕ). replicate {A = List Record} (length xs) []) c.links.ensures ∙ empties net.links in
    same_parts (coming_of 1 c.in_ok-all_to_come.field-0.items) (coming_from c.args.classes.now 1 c.args.packets.now)
    c.in_ok-empty_lists.field-0.items (nothing_at net.holders) c.in_ok-empty_lists-2.field-0.items
    (nothing_at net.links) c.new.result.items [] 0 0 c.in_ok-all_to_come.ensures held carried c.new.ensures.items
    refl
