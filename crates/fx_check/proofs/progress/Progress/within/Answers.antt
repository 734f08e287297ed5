use Rattle.fx_check.specs.Judging.{judge_of}
use Rattle.fx_check.proofs.ConsistentProgress.{refuses_tree, no_tree, region_of}
use Rattle.fx_check.proofs.progress.Progress.within.Goals as goal

pub returns-in_default-clause-after : goal.returns-in_default-clause-after
returns-in_default-clause-after c =
    let here = region_of c.args.self.now.stage c.requires.stage in
    refuses_tree c.args.self.now.version (judge_of c.args.tables.now.net) c.args.self.now.made c.args.targets.now
    c.args.self.now.current c.args.self.now.waiting c.args.self.now.stage here.0 c.args.item.now
    c.requires.consistent here.1 (no_tree c.args.item.now c.in_default.not-Leaf c.in_default.not-Split
    c.in_default.not-Never)
