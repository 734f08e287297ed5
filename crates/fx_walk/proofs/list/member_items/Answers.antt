use Rattle.std.proofs.Common.{arith, rules}
use Rattle.std.proofs.Common.{sym}
use Rattle.serde_json.specs.View.{view}
use Rattle.fx_walk.specs.Pointer.{pointer}
use Rattle.fx_walk.proofs.Faults.{pointer-Member}
use Rattle.fx_walk.proofs.MemberLists.{list_there}
use Rattle.fx_walk.proofs.list.member_items.Goals as goal

pub returns-in-Some : goal.returns-in-Some
returns-in-Some c =
    list_there c.args.least c.args.most (pointer c.args.path.now) c.args.name.now (view c.args.object.now)
    (view c.in-Some.value.now) c.items_in.result (sym c.in-Some.ensures) (rw pointer-Member at c.items_in.ensures)

pub returns-in-None-2 : goal.returns-in-None-2
returns-in-None-2 c = first_of (grind arith, search rules)
