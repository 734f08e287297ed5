use Rattle.std.proofs.Common.{Bool, ap}
use Rattle.serde_json.specs.View.{members_view}
use Rattle.serde_json.proofs.Views.{view-Object}
use Rattle.fx_json_answers.specs.Members.{unless}
use Rattle.fx_json_answers.proofs.members.Members.into_value.Goals as goal

pub returns : goal.returns
returns c = (
  members_view c.args.self.map.entries,
  ap (λ (b : Bool). unless b (members_view c.args.self.map.entries))
      c.if-self.false,
  view-Object c.args.self.map,
)
