use Rattle.std.proofs.Common.{map, refl}
use Rattle.serde_json.specs.View.{view}
use Rattle.fx_walk.specs.Pointer.{pointer, below}
use Rattle.fx_walk.specs.Choice.{numbered_faults, numbered_row}
use Rattle.fx_walk.proofs.Faults.{pointer-Member, refuses_first}
use Rattle.fx_walk.proofs.Choices.{first_numbered, none_numbered}
use Rattle.fx_walk.proofs.choice.none_of.Goals as goal

pub returns-in-Some : goal.returns-in-Some
returns-in-Some c =
    let up = pointer c.args.path.now in
    let d = view c.args.object.now in
    refuses_first c.refusal.result (c.in-Some.row.number, below up c.in-Some.row.name.now)
    (numbered_faults (map numbered_row c.args.rows.now) up d)
    (first_numbered c.args.rows.now c.in-Some.row up d c.in-Some.ensures) (rw pointer-Member at c.refusal.ensures)

pub returns-in-None : goal.returns-in-None
returns-in-None c = (
  none_numbered c.args.rows.now (pointer c.args.path.now) (view c.args.object.now) c.in-None.ensures,
  refl,
)
