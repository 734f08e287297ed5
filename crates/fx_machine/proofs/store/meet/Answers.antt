use Rattle.std.proofs.Common.{◌≡◌, ◌∙◌, ◌++◌, [], ap, List, map, Some, rules}
use Rattle.std.proofs.lemmas.Result.{on_ok_weaker}
use Rattle.fx_tables.specs.declared.observation.Occurrence.{Occurrence}
use Rattle.fx_tables.specs.declared.traffic.Crossing.{Crossing}
use Rattle.fx_base.specs.Entries.{entry_numbered}
use Rattle.fx_tables.specs.Occurrences.{occurrences}
use Rattle.fx_machine.specs.Holds.{hold_act}
use Rattle.fx_tables.specs.Holdings.{met_holdings}
use Rattle.fx_machine.specs.Steps.{crossing_acts}
use Rattle.fx_tables.specs.Classes.{path}
use Rattle.fx_machine.proofs.MeteringActs.{met_acts}
use Rattle.fx_machine.proofs.store.meet.Goals as goal

pub returns-in-Some : goal.returns-in-Some
returns-in-Some c =
    let net = c.args.net.now in
    let f = c.args.packet.now.fields in
    let x = c.in-Some.found.now in
    let there : Some x ≡ entry_numbered (path c.args.classes.now c.args.packet.now) c.args.crossing = c.in-Some.ensures
    ∙ ap (λ (xs : List Crossing). entry_numbered xs c.args.crossing) c.path_of.ensures in
    let empty : c.clear.new.self.items ≡ [] = search (rules, c.clear.ensures) in
    on_ok_weaker c.push_occurrences.result (λ h.
    ap (λ (os : List Occurrence). map hold_act (met_holdings net.holders f os))
    (h ∙ ap (λ (os : List Occurrence). os ++ occurrences net x f) empty) ∙ met_acts net f (occurrences net x f)
    ∙ ap (crossing_acts net f) there) c.push_occurrences.ensures
