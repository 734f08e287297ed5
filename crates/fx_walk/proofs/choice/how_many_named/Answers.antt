use Rattle.std.proofs.Common.{◌∙◌, sym}
use Rattle.serde_json.specs.View.{view}
use Rattle.fx_walk.proofs.Choices.{count_now}
use Rattle.fx_walk.proofs.choice.how_many_named.Goals as goal

pub returns : goal.returns
returns c = c.how_many.ensures ∙ sym (count_now c.args.names.now (view c.args.value.now))
