use Rattle.std.proofs.Common.{◌≡◌, ◌∙◌, ap, List, map, Some}
use Rattle.fx_base.specs.Entries.{entry_numbered}
use Rattle.fx_tables.specs.declared.observation.Occurrence.{Occurrence}
use Rattle.fx_tables.specs.declared.traffic.Crossing.{Crossing}
use Rattle.fx_tables.specs.Holdings.{met_holdings}
use Rattle.fx_tables.specs.Occurrences.{occurrences}
use Rattle.fx_tables.specs.Classes.{path}
use Rattle.fx_machine.specs.Holds.{hold_act}
use Rattle.fx_machine.specs.Steps.{crossing_acts}
use Rattle.fx_machine.proofs.MeteringActs.{met_acts}
use Rattle.fx_machine.proofs.effects.met_holdings.Goals as goal

pub returns-in_ok-holdings-in-Some : goal.returns-in_ok-holdings-in-Some
returns-in_ok-holdings-in-Some c =
    let net = c.args.net.now in
    let f = c.args.packet.now.fields in
    let x = c.in-Some.found.now in
    let there : Some x ≡ entry_numbered (path c.args.classes.now c.args.packet.now) c.args.crossing = c.in-Some.ensures
    ∙ ap (λ (xs : List Crossing). entry_numbered xs c.args.crossing) c.path_of.ensures in
    ap (map hold_act) (c.in_ok-holdings-in-Some.ensures
    ∙ ap (λ (os : List Occurrence). met_holdings net.holders f os)
    (c.as_slice.ensures.value ∙ c.in_ok-met-in-Some.ensures)) ∙ met_acts net f (occurrences net x f)
    ∙ ap (crossing_acts net f) there
