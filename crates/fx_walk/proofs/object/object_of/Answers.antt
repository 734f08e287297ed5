use Rattle.std.proofs.Common.{refl, map}
use Rattle.serde_json.proofs.Views.{view-Object}
use Rattle.fx_walk.specs.Pointer.{pointer}
use Rattle.fx_walk.specs.Walk.{is_listed}
use Rattle.fx_walk.proofs.Faults.{pointer-Member, other_refused, none_other}
use Rattle.fx_walk.proofs.object.object_of.Goals as goal

pub returns-in-Some : goal.returns-in-Some
returns-in-Some c rows is =
    rw (c.in-Object.is, view-Object, is) (other_refused c.refusal-in-Some.result
    (is_listed (map (λ t. t.now) c.args.listed.now)) (pointer c.args.path.now) c.in-Object.members.entries
    c.in-Some.name.now _ c.in-Some.ensures (rw (pointer-Member, c.as_str.ensures.value) at
    c.refusal-in-Some.ensures))

pub returns-in-None : goal.returns-in-None
returns-in-None c rows is =
    rw (
      c.in-Object.is,
      view-Object,
      is,
      none_other (is_listed (map (λ t. t.now) c.args.listed.now))
          (pointer c.args.path.now) c.in-Object.members.entries c.in-None.ensures,
    ) refl
