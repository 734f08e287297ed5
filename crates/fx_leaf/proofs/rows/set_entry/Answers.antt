use Rattle.fx_leaf.proofs.RowsGrow.{set_others}
use Rattle.fx_leaf.proofs.rows.set_entry.Goals as goal

pub returns-clause-others : goal.returns-clause-others
returns-clause-others c =
    set_others c.args.rows.now c.args.process c.args.number c.index-rows-process.result c.set.new.self c.requires.there
    c.set.ensures.others
