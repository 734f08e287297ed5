use Rattle.std.proofs.Common.{sym, ◌∙◌}
use Rattle.fx_layout.proofs.Projections.{same_layout_is}
use Rattle.fx_layout.proofs.layout.Layout.become_copy_of.Goals as goal

pub returns-else-not-same : goal.returns-else-not-same
returns-else-not-same c = same_layout_is c.args.self.now c.args.other.now (cc (c.same.ensures, c.if-not-same.false))
