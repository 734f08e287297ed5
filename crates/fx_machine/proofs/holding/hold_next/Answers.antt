use Rattle.std.proofs.Common.{◌≡◌, ◌∙◌, ap, ◌++◌, List, [], ◌∷◌}
use Rattle.fx_machine.specs.declared.holding.Taking.{Taking}
use Rattle.fx_machine.specs.Holds.{undone}
use Rattle.fx_machine.proofs.RecordsTakenIn.{undone_more}
use Rattle.fx_machine.proofs.holding.hold_next.Goals as goal

pub returns-clause-ok : goal.returns-clause-ok
returns-clause-ok c =
    let k = c.in_ok-taking.ensures.ok in
    let log = c.args.log.now.items in
    let pushed : c.push.new.self.items ≡ log ++ c.in_ok-taking.taking ∷ [] =
    search (c.push.ensures.items, c.is_err.ensures.negation, c.if-is_err.false) in (
      k.0,
      ap (λ (ts : List Taking). undone ts c.hold.new.held.items) pushed
          ∙ undone_more log c.in_ok-taking.taking c.hold.new.held.items ∙ ap (undone log) k.1,
    )
