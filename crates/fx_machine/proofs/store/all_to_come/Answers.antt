use Rattle.std.proofs.Common.{◌≤◌, ◌∙◌, ◌++◌, ◌∷◌, [], List, Bool, map, sym, take, ap, length}
use Rattle.std.proofs.lemmas.List.{map_push, take_all, take_more}
use Rattle.fx_tables.specs.Classes.{path}
use Rattle.fx_tables.specs.declared.packet.Packet.{Packet}
use Rattle.fx_tables.specs.declared.traffic.Crossing.{Crossing}
use Rattle.fx_machine.specs.Comings.{coming_of, marks, marks_of}
use Rattle.fx_machine.proofs.Crossings.{all_coming}
use Rattle.fx_machine.proofs.store.all_to_come.Goals as goal

pub returns : goal.returns
returns c =
    let ps = c.args.packets.now in
    let past : length ps ≤ c.loop-packet.packet-index = c.loop-packet-test.false in
    ap (coming_of 1) (c.loop-packet.invariant
    ∙ ap (marks_of c.args.classes.now) (take_all c.loop-packet.packet-index ps past))
    ∙ all_coming c.args.classes.now 1 ps

pub loop-packet-preserved : goal.loop-packet-preserved
loop-packet-preserved c =
    let ps = c.args.packets.now in
    let n = c.loop-packet.packet-index in
    let p = c.packet-item.result in
    let crossings = λ (q : Packet). marks (length (path c.args.classes.now q)) in
    let made = c.in_ok-new.ensures ∙ ap (λ (cs : List Crossing). marks (length cs)) c.path_of.ensures in
    c.in_ok-push.ensures.items
    ∙ ap (λ (m : List Bool). c.loop-packet.to_come.items ++ m ∷ []) made
    ∙ ap (λ (ms : List (List Bool)). ms ++ crossings p ∷ []) c.loop-packet.invariant
    ∙ sym (map_push crossings (take n ps) p)
    ∙ ap (λ (qs : List Packet). map crossings qs)
    (ap (λ (q : Packet). take n ps ++ q ∷ []) c.packet-item.is ∙ sym (take_more ps n p c.loop-packet-test.true))
