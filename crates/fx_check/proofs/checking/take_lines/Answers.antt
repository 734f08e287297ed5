use Rattle.std.proofs.Common.{◌≡◌, ℕ, Some, [], sym, ap, ◌∙◌, inr, subst}
use Rattle.std.proofs.lemmas.Result.{err_from_is_err_and}
use Rattle.fx_check.specs.Judging.{judge_of}
use Rattle.fx_check.specs.LineFaults.{number_of}
use Rattle.fx_check.specs.Remaining.{goals}
use Rattle.fx_check.specs.FirstRefusal.{after_reading, at_end, at_line, made_after, reading_of, whole}
use Rattle.fx_base.proofs.GoingOn.{goes_then, to_line}
use Rattle.fx_check.proofs.FirstRefusals.{reads_on, reader_refuses, refuses_line, ends_early, ends_well, ended_line, err_gives, ok_gives, at_end_of, at_line_of, lent_line}
use Rattle.fx_check.specs.declared.progress.Progress.{Progress}
use Rattle.fx_check.specs.Stops.{IsStop, early, line, reader, state_of}
use Rattle.fx_check.proofs.Numbers.{line_fault, end_fault, reader_fault}
use Rattle.fx_check.proofs.checking.take_lines.Goals as goal

pub returns-in_err-advance-clause-err : goal.returns-in_err-advance-clause-err
returns-in_err-advance-clause-err g c =
    let p = err_from_is_err_and c.from_residual.result c.from_residual.ensures.1 in
    rw (p.1, p.2) (reader_refuses (judge_of c.args.tables.now.net) c.args.lines.now c.lines.lines c.advance.new.self
    (whole c.args.targets.now) (goals c.args.targets.now c.lines.progress) c.lines.progress.made _
    c.lines.invariant.reads c.lines.invariant.on c.lines.invariant.stopped c.in_err-advance.ensures)

pub returns-in_err-advance-clause-numbers : goal.returns-in_err-advance-clause-numbers
returns-in_err-advance-clause-numbers g c =
    let p = err_from_is_err_and c.from_residual.result c.from_residual.ensures.1 in
    rw (p.1, p.2) (reader_fault c.args.lines.now c.lines.lines c.advance.new.self _ c.lines.invariant.stopped
    c.in_err-advance.ensures)

pub returns-then-not-branch-clause-numbers : goal.returns-then-not-branch-clause-numbers
returns-then-not-branch-clause-numbers g c =
    err_gives c.end.result c.end.ensures.err
    (λ e h. inr (end_fault _ (goals c.args.targets.now c.lines.progress) e _ h))

pub returns-in-Err-clause-numbers : goal.returns-in-Err-clause-numbers
returns-in-Err-clause-numbers g c =
    inr (rw (c.at_line.ensures, c.number-in-Err.ensures)
    (line_fault c.args.tables.now.net c.lines.progress.made (goals c.args.targets.now c.lines.progress)
    (reading_of (c.line.result.bytes.now, c.line.result.ended)) (number_of c.in-Err.fault) _
    c.in-Err.ensures.after))

pub lines-preserved : goal.lines-preserved
lines-preserved g c =
    let at = at_line_of c.lines.lines c.advance.new.self c.in_ok-advance.field-0 c.in_ok-advance.ensures
    c.if-not-branch.false in
    let judge = judge_of c.args.tables.now.net in
    let gs = goals c.args.targets.now c.lines.progress in
    let after = lent_line (λ l. after_reading judge c.lines.progress.made gs (reading_of l)) c.advance.new.self
    c.line.result.bytes.now c.line.result.ended c.line.ensures.bytes c.line.ensures.ended
    ∙ c.in_default.ensures.after in
    let made = c.in_default.ensures.made ∙ sym (lent_line (λ l. made_after c.lines.progress.made (reading_of l))
    c.advance.new.self c.line.result.bytes.now c.line.result.ended c.line.ensures.bytes c.line.ensures.ended) in
    record {
      ready = c.in_default.ensures.ready;
      consistent = c.in_default.ensures.consistent;
      stopped = λ e. λ h. absurd (let n = at.going.1 in cc);
      on = goes_then c.args.lines.now c.lines.lines c.advance.new.self c.lines.invariant.on
          (to_line c.lines.lines c.advance.new.self at
          (ended_line judge c.lines.progress.made gs _ (c.advance.new.self.line, c.advance.new.self.ended) after));
      reads = reads_on judge c.args.lines.now c.lines.lines c.advance.new.self (whole c.args.targets.now) gs
          (goals c.args.targets.now c.take.new.self) c.lines.progress.made c.take.new.self.made c.lines.invariant.reads
          at after made;
    }

pub returns-then-not-branch-clause-ok : goal.returns-then-not-branch-clause-ok
returns-then-not-branch-clause-ok g c =
    let at = at_end_of c.lines.lines c.advance.new.self c.in_ok-advance.field-0 c.in_ok-advance.ensures
    c.if-not-branch.true in
    ok_gives c.end.result c.end.ensures.ok (λ none. ends_well (judge_of c.args.tables.now.net) c.args.lines.now
    c.lines.lines c.advance.new.self (whole c.args.targets.now) (goals c.args.targets.now c.lines.progress)
    c.lines.progress.made c.lines.invariant.reads at (none c.lines.lines.number))

pub returns-then-not-branch-clause-err : goal.returns-then-not-branch-clause-err
returns-then-not-branch-clause-err g c =
    let at = at_end_of c.lines.lines c.advance.new.self c.in_ok-advance.field-0 c.in_ok-advance.ensures
    c.if-not-branch.true in
    err_gives c.end.result c.end.ensures.err
    (λ e early. inr (ends_early (judge_of c.args.tables.now.net) c.args.lines.now c.lines.lines c.advance.new.self
    (whole c.args.targets.now) (goals c.args.targets.now c.lines.progress) c.lines.progress.made e
    c.lines.invariant.reads at (subst (λ (n : ℕ). at_end n (goals c.args.targets.now c.lines.progress)
    ≡ Some (record { fault = e; last = n; behind = [] })) c.number.ensures early)))

pub returns-in-Err-clause-err : goal.returns-in-Err-clause-err
returns-in-Err-clause-err g c =
    let new = c.advance.new.self in
    let at = at_line_of c.lines.lines new c.in_ok-advance.field-0 c.in_ok-advance.ensures c.if-not-branch.false in
    let judge = judge_of c.args.tables.now.net in
    let gs = goals c.args.targets.now c.lines.progress in
    let wrong = lent_line (λ l. after_reading judge c.lines.progress.made gs (reading_of l)) new c.line.result.bytes.now
    c.line.result.ended c.line.ensures.bytes c.line.ensures.ended ∙ c.in-Err.ensures.after in
    inr (refuses_line judge c.args.lines.now c.lines.lines new (whole c.args.targets.now) gs c.lines.progress.made
    (number_of c.in-Err.fault) c.at_line.result c.lines.invariant.reads at wrong
    (c.at_line.ensures ∙ ap (λ (number : ℕ). at_line number c.number-in-Err-2.result) c.number-in-Err.ensures
    ∙ ap (at_line (number_of c.in-Err.fault)) c.number-in-Err-2.ensures))

pub returns-in_err-advance-clause-stops : goal.returns-in_err-advance-clause-stops
returns-in_err-advance-clause-stops g c =
    let p = err_from_is_err_and c.from_residual.result c.from_residual.ensures.1 in
    rw (p.1, p.2) (record {
      now = c.lines.lines;
      before = c.lines.invariant.reads;
      stops =
          reader c.in_err-advance.ensures;
    })

pub returns-then-not-branch-clause-stops : goal.returns-then-not-branch-clause-stops
returns-then-not-branch-clause-stops g c =
    let at = at_end_of c.lines.lines c.advance.new.self c.in_ok-advance.field-0 c.in_ok-advance.ensures
    c.if-not-branch.true in
    err_gives c.end.result c.end.ensures.err (λ e h. record {
      now = c.lines.lines;
      before = c.lines.invariant.reads;
      stops = early at (subst (λ (n : ℕ). at_end n (goals c.args.targets.now c.lines.progress)
          ≡ Some (record { fault = e; last = n; behind = [] })) c.number.ensures h);
    })

pub returns-in-Err-clause-stops : goal.returns-in-Err-clause-stops
returns-in-Err-clause-stops g c =
    let new = c.advance.new.self in
    let net = c.args.tables.now.net in
    let targets = c.args.targets.now in
    let at = at_line_of c.lines.lines new c.in_ok-advance.field-0 c.in_ok-advance.ensures c.if-not-branch.false in
    let wrong = lent_line (λ l. after_reading (judge_of net) c.lines.progress.made (goals targets c.lines.progress)
    (reading_of l)) new c.line.result.bytes.now c.line.result.ended c.line.ensures.bytes c.line.ensures.ended
    ∙ c.in-Err.ensures.after in
    let place = c.at_line.ensures ∙ ap (λ (number : ℕ). at_line number c.number-in-Err-2.result) c.number-in-Err.ensures
    ∙ ap (at_line (number_of c.in-Err.fault)) c.number-in-Err-2.ensures in
    subst (λ (x : Progress). IsStop c.args.lines.now new (state_of net targets x) c.at_line.result)
    (sym c.in-Err.ensures.same) (record {
      now = c.lines.lines;
      before = c.lines.invariant.reads;
      stops = line (number_of c.in-Err.fault) at wrong place;
    })
