use Rattle.std.proofs.Common.{◌≡◌, ◌+◌, ◌-◌, ◌<◌, ℕ, ◌∙◌, sym, ap, List, None, length, take, get_or, subst, arith}
use Rattle.std.proofs.lemmas.List.{get_or_default}
use Rattle.fx_tables.specs.declared.record.Record.{Record}
use Rattle.fx_machine.specs.declared.holding.Taking.{Taking}
use Rattle.fx_machine.specs.Holds.{undone, back_at}
use Rattle.fx_machine.proofs.RecordsTakenIn.{undone_less}
use Rattle.fx_machine.proofs.holding.give_all_back.Goals as goal

-- one step back
less : (log : List Taking) (back : ℕ) (held new : List (List Record)) (d : Taking) → back < length log → new
    ≡ back_at held (get_or log (length log - 1 - back) d).holder (get_or log (length log - 1 - back) d).joined
    → undone (take (length log - (back + 1)) log) new ≡ undone (take (length log - back) log) held
less log back held new d lt e =
    let at = length log - (back + 1) in
    let within : at < length log = omega arith in
    let step : at + 1 ≡ length log - back = omega arith in
    let place : length log - 1 - back ≡ at = omega arith in
    let is : new ≡ back_at held (get_or log at d).holder (get_or log at d).joined =
    subst (λ n. new ≡ back_at held (get_or log n d).holder (get_or log n d).joined) place e in
    let there : get_or log at (get_or log at d) ≡ get_or log at d = get_or_default log at (get_or log at d) d within in
    ap (undone (take at log)) is ∙ undone_less log at (get_or log at d) held within (sym there)
    ∙ ap (λ n. undone (take n log) held) step

pub loop-back-preserved : goal.loop-back-preserved
loop-back-preserved c =
    less c.args.log.now c.loop-back.back c.loop-back.held.items c.give_back.new.held.items
    (record { holder = 0; joined = None }) c.loop-back-test.true c.give_back.ensures ∙ c.loop-back.invariant
