use Rattle.std.proofs.Common.{arith, rules}
use Rattle.serde_json.specs.View.{view}
use Rattle.fx_walk.specs.Pointer.{pointer}
use Rattle.fx_walk.proofs.Faults.{exit, refuses_more}
use Rattle.fx_walk.proofs.NamesRead.{read_once, read_twice}
use Rattle.fx_walk.proofs.entries.unique_name_by.Goals as goal

pub returns-in_err-name-clause-reads : goal.returns-in_err-name-clause-reads
returns-in_err-name-clause-reads c = exit _ _ _ _ c.from_residual.ensures (refuses_more _ _ _ c.in_err-name.ensures)

pub returns-then-not-branch-clause-reads : goal.returns-then-not-branch-clause-reads
returns-then-not-branch-clause-reads c =
    read_twice c.args.wrong c.args.twice c.args.earlier.now (pointer c.args.path.now) (view c.args.value.now)
    c.in_ok-name.name c.in_ok-add.field-0 c.in_ok-name.ensures.0 c.in_ok-name.ensures.1 c.in_ok-add.ensures.answer
    c.refusal.result c.if-not-branch.true c.refusal.ensures

pub returns-clause-reads : goal.returns-clause-reads
returns-clause-reads c =
    read_once c.args.wrong c.args.twice c.args.earlier.now (pointer c.args.path.now) (view c.args.value.now)
    c.in_ok-name.name c.in_ok-add.field-0 c.in_ok-name.ensures.0 c.in_ok-name.ensures.1 c.in_ok-add.ensures.answer
    c.if-not-branch.false

pub returns-then-not-branch-clause-same : goal.returns-then-not-branch-clause-same
returns-then-not-branch-clause-same c = first_of (grind arith, search rules)
