use Rattle.std.proofs.Common.{◌∙◌, Some, None}
use Rattle.fx_machine.proofs.KeysHeld.{joins_behind, adds_behind, past_behind}
use Rattle.fx_machine.proofs.effects.can_take.Goals as goal

pub returns-then-holding-held : goal.returns-then-holding-held
returns-then-holding-held c counts now made =
    past_behind counts c.args.before.now c.args.held.now c.args.chosen.now now c.args.holding.now c.args.choice made
    c.if-holding-held.true

pub returns-in_default : goal.returns-in_default
returns-in_default c counts now made =
    rw c.in_default.is (adds_behind counts c.args.before.now c.args.held.now c.args.chosen.now now c.args.holding.now
    made c.if-holding-held.false)

pub returns-in-None : goal.returns-in-None
returns-in-None c counts now made =
    rw c.in-Some.is (joins_behind counts c.args.before.now c.args.held.now c.args.chosen.now now c.args.holding.now
    c.in-Some.position None made c.if-holding-held.false c.in-None.ensures)

pub returns-in-Some-key_behind : goal.returns-in-Some-key_behind
returns-in-Some-key_behind c counts now made =
    rw c.in-Some.is (c.same.ensures ∙ joins_behind counts c.args.before.now c.args.held.now c.args.chosen.now now
    c.args.holding.now c.in-Some.position (Some c.in-Some-key_behind.key.now) made c.if-holding-held.false
    c.in-Some-key_behind.ensures)
