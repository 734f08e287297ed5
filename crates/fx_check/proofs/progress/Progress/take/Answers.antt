use Rattle.std.proofs.Common.{arith, rules}
use Rattle.std.proofs.Common.{◌≡◌, ap, sym, subst, ◌∙◌, Err, OnOk}
use Rattle.fx_check.specs.Judging.{judge_of}
use Rattle.fx_check.specs.LineFaults.{number_of}
use Rattle.fx_check.specs.Remaining.{goals}
use Rattle.fx_check.specs.FirstRefusal.{LineReading, after_reading, made_after, by_number}
use Rattle.fx_check.proofs.ItemsRead.{line_says, line_malformed}
use Rattle.fx_check.proofs.progress.Progress.take.Goals as goal

pub returns-in_default-clause-after : goal.returns-in_default-clause-after
returns-in_default-clause-after c =
    let is = line_malformed c.args.line.now.bytes.now c.args.line.now.ended c.if-not-line.false c.requires.short
    c.in_default.ensures.err.1 in
    ap (after_reading (judge_of c.args.tables.now.net) c.args.self.now.made (goals c.args.targets.now c.args.self.now))
    is ∙ ap (λ fault. Err (number_of fault)) (sym c.form_fault.ensures)

pub returns-clause-after : goal.returns-clause-after
returns-clause-after c =
    let is = line_says c.args.line.now.bytes.now c.args.line.now.ended c.in-Ok.item c.if-not-line.false c.requires.short
    c.in-Ok.ensures.ok in
    ap (after_reading (judge_of c.args.tables.now.net) c.args.self.now.made (goals c.args.targets.now c.args.self.now))
    is ∙ ap by_number c.step.ensures.after

pub returns-clause-made : goal.returns-clause-made
returns-clause-made c =
    let is = line_says c.args.line.now.bytes.now c.args.line.now.ended c.in-Ok.item c.if-not-line.false c.requires.short
    c.in-Ok.ensures.ok in
    subst (λ (r : LineReading). OnOk c.step.result (c.step.new.self.made ≡ made_after c.args.self.now.made r)) (sym is)
    c.step.ensures.made

pub returns-then-not-line-clause-after : goal.returns-then-not-line-clause-after
returns-then-not-line-clause-after c = first_of (grind arith, search rules)
