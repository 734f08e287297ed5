use Rattle.std.proofs.Common.{arith, rules}
use Rattle.fx_check.proofs.ConsistentProgress.{form_fault_between, form_fault_tree}
use Rattle.fx_check.proofs.progress.Progress.form_fault.Goals as goal

pub returns-in-Between : goal.returns-in-Between
returns-in-Between c = form_fault_between c.args.self.now.version c.args.targets.now c.args.self.now.current
    c.args.self.now.waiting c.args.self.now.stage c.in-Between.is

pub returns-in-Tree : goal.returns-in-Tree
returns-in-Tree c = form_fault_tree c.args.self.now.version c.args.targets.now c.args.self.now.current
    c.args.self.now.waiting c.args.self.now.stage _ c.requires c.in-Tree.is

pub returns-in-Ended : goal.returns-in-Ended
returns-in-Ended c = first_of (grind arith, search rules)
