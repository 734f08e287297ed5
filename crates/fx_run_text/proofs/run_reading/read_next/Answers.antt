use Rattle.std.proofs.Common.{◌≡◌, ◌∙◌, Some, None, ap, sym, inl, inr}
use Rattle.std.proofs.lemmas.Result.{err_from_is_err_and}
use Rattle.fx_base.proofs.GoingOn.{to_line}
use Rattle.fx_elements.specs.Words.{words}
use Rattle.fx_run_text.specs.RunReading.{line_of, line_with}
use Rattle.fx_run_text.proofs.RunLines.{at_end_of, at_line_of, next_line, next_missing, next_refused, next_wrong, said_ended, said_unended}
use Rattle.fx_run_text.proofs.run_reading.read_next.Goals as goal

pub returns-in_err-advance : goal.returns-in_err-advance
returns-in_err-advance g c =
    let p = err_from_is_err_and c.from_residual.result c.from_residual.ensures.1 in
    rw (p.1, p.2) (record {
      going = tt;
      on = tt;
      ok = tt;
      smaller = tt;
      err = inr (next_refused c.args.version c.args.lines.now c.advance.new.self _ c.in_err-advance.ensures);
    })

pub returns-then-not-branch : goal.returns-then-not-branch
returns-then-not-branch g c =
    let new = c.advance.new.self in
    let end = at_end_of c.args.lines.now new c.in_ok-advance.field-0 c.in_ok-advance.ensures c.if-not-branch.true in
    record {
      going = tt;
      on = tt;
      ok = tt;
      smaller = tt;
      err = inr (inr (λ classes run. rw (c.at_line.ensures, c.saturating_add.ensures, c.number.ensures)
          (next_missing c.args.version c.args.lines.now new classes run end)));
    }

pub returns-then-not-line : goal.returns-then-not-line
returns-then-not-line g c =
    let new = c.advance.new.self in
    let at = at_line_of c.args.lines.now new c.in_ok-advance.field-0 c.in_ok-advance.ensures c.if-not-branch.false in
    let wrong = said_unended c.args.version c.args.lines.now new at (sym c.line-line.ensures.ended ∙ c.if-not-line.true)
    in
    record {
      going = tt;
      on = tt;
      ok = tt;
      smaller = tt;
      err = inr (inr (λ classes run. rw (c.at_line-then-not-line.ensures, c.line-line.ensures.number)
          (next_wrong c.args.version c.args.lines.now new 855 classes run at wrong)));
    }

pub returns-in_err-x : goal.returns-in_err-x
returns-in_err-x g c =
    let p = err_from_is_err_and c.from_residual-in_err-x.result c.from_residual-in_err-x.ensures.1 in
    rw p.1 (record { going = tt; on = tt; ok = tt; smaller = tt; err = inl p.2 })

pub returns-in-Some : goal.returns-in-Some
returns-in-Some g c =
    let old = c.args.lines.now in
    let new = c.advance.new.self in
    let at = at_line_of old new c.in_ok-advance.field-0 c.in_ok-advance.ensures c.if-not-branch.false in
    let ended = sym c.line-line.ensures.ended ∙ c.if-not-line.false in
    let x = line_with c.read_line.new.packet c.in-Some.x in
    let read : line_of c.args.version (words new.line) ≡ Some x =
    ap (λ bytes. line_of c.args.version (words bytes)) (sym c.line-line.ensures.bytes)
    ∙ sym (rw c.in-Some.is at c.in_ok-x.ensures) in
    record {
      going = at.going.1;
      on = to_line old new at ended;
      ok = next_line c.args.version old new x at ended (said_ended c.args.version old new (Some x) at ended read);
      smaller = at.smaller;
      err = tt;
    }

pub returns-in-None : goal.returns-in-None
returns-in-None g c =
    let new = c.advance.new.self in
    let at = at_line_of c.args.lines.now new c.in_ok-advance.field-0 c.in_ok-advance.ensures c.if-not-branch.false in
    let ended = sym c.line-line.ensures.ended ∙ c.if-not-line.false in
    let read : line_of c.args.version (words new.line) ≡ None =
    ap (λ bytes. line_of c.args.version (words bytes)) (sym c.line-line.ensures.bytes)
    ∙ sym (rw c.in-None.is at c.in_ok-x.ensures) in
    let wrong = said_ended c.args.version c.args.lines.now new None at ended read in
    record {
      going = tt;
      on = tt;
      ok = tt;
      smaller = tt;
      err = inr (inr (λ classes run. rw (c.at_line-in-None.ensures, c.line-line.ensures.number)
          (next_wrong c.args.version c.args.lines.now new 855 classes run at wrong)));
    }
