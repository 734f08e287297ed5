use Rattle.std.proofs.Common.{◌≡◌, ◌≢◌, ◌≤◌, length, arith, true, false, sym, ◌∙◌}
use Rattle.fx_layout.specs.Keys.{same_key}
use Rattle.fx_machine.specs.Intakes.{key_in}
use Rattle.fx_machine.proofs.RecordsTakenIn.{join_refused, join_made}
use Rattle.fx_machine.proofs.holding.join.Goals as goal

pub returns-then-not-has-clause-none : goal.returns-then-not-has-clause-none
returns-then-not-has-clause-none c =
    let old = c.index_mut-held.result.now in
    let le : c.args.number ≤ length c.args.records.now.items = omega arith in
    let ne : c.args.number ≢ 0 = c.if-number-eq0.false in
    let no : same_key old.key (key_in c.args.intake.now) ≡ false = sym c.has.ensures ∙ c.if-not-has.true in
    join_refused c.args.records.now.items c.args.number
    (record { key = key_in c.args.intake.now; counts = c.args.counts.now }) old ne le c.index_mut-held.ensures.value
    no

pub returns-clause-some : goal.returns-clause-some
returns-clause-some c =
    let old = c.index_mut-held.result.now in
    let le : c.args.number ≤ length c.args.records.now.items = omega arith in
    let ne : c.args.number ≢ 0 = c.if-number-eq0.false in
    let yes : same_key old.key (key_in c.args.intake.now) ≡ true = sym c.if-not-has.ensures in
    join_made c.args.records.now.items c.args.number
    (record { key = key_in c.args.intake.now; counts = c.args.counts.now }) old c.add-held.result ne le
    c.index_mut-held.ensures.value yes c.add-held.ensures
