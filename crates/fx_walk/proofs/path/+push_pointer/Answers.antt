use Rattle.std.proofs.Common.{append_assoc}
use Rattle.fx_walk.proofs.Faults.{pointer-Item, pointer-Member}
use Rattle.fx_walk.proofs.path.+push_pointer.Goals as goal

pub returns-in_ok-push_pointer-in-Member : goal.returns-in_ok-push_pointer-in-Member
returns-in_ok-push_pointer-in-Member t c =
    rw (c.in-Member.is, pointer-Member, ← append_assoc, ← c.in_ok-push_pointer-in-Member.ensures) c.push_member.ensures

pub returns-in_ok-push_pointer-in-Item : goal.returns-in_ok-push_pointer-in-Item
returns-in_ok-push_pointer-in-Item t c =
    rw (c.in-Item.is, pointer-Item, ← append_assoc, ← c.in_ok-push_pointer-in-Item.ensures) c.write.ensures.bytes
