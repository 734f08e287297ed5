use Rattle.std.proofs.Common.{arith}
use Rattle.fx_session.proofs.Notes.{noted_before, noted_here}
use Rattle.fx_session.proofs.field_numbers.Numbers.note.Goals as goal

pub returns-then-not-self-place : goal.returns-then-not-self-place
returns-then-not-self-place c = noted_here c.args.self.now c.args.axis c.index-place.result _ _
    c.index-place.ensures.place c.number_in.ensures (omega arith) (omega arith) c.if-not-self-place.true

pub returns-else-not-self-place : goal.returns-else-not-self-place
returns-else-not-self-place c = noted_before c.args.self.now c.args.axis c.index-place.result _
    c.index-place.ensures.place c.if-not-self-place.false
