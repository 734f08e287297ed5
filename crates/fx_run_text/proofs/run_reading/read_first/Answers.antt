use Rattle.std.proofs.Common.{rules, ◌≡◌, ◌∙◌, ◌&&◌, false, codes, ap, sym, inr}
use Rattle.std.specs.Str.{bytes_eq}
use Rattle.std.proofs.lemmas.Bool.{false≢true}
use Rattle.std.proofs.lemmas.Result.{err_from_is_err_and}
use Rattle.fx_base.proofs.GoingOn.{to_line}
use Rattle.fx_run_text.proofs.RunLines.{at_end_of, at_line_of, first_missing, first_one, first_refused, first_two, first_wrong}
use Rattle.fx_run_text.proofs.run_reading.read_first.Goals as goal
use Rattle.fx_run_text.proofs.run_reading.read_first.Goals.{else-line-via-then-line+else-is_word, else-line-via-else-line, else-line-2-via-then-line-2+else-is_word-2, else-line-2-via-else-line-2}

pub returns-in_err-advance-clause-err : goal.returns-in_err-advance-clause-err
returns-in_err-advance-clause-err g c =
    let p = err_from_is_err_and c.from_residual.result c.from_residual.ensures.1 in
    rw (p.1, p.2) (first_refused c.args.lines.now c.advance.new.self _ c.in_err-advance.ensures)

pub returns-else-line-2-clause-err : goal.returns-else-line-2-clause-err
returns-else-line-2-clause-err g c =
    let new = c.advance.new.self in
    let at = at_line_of c.args.lines.now new c.in_ok-advance.field-0 c.in_ok-advance.ensures c.if-not-branch.false in
    let not_one : (new.ended && bytes_eq new.line (codes "once-run 1")) ≡ false = elim c.else-line.branch [
      | else-line-via-then-line+else-is_word w ↦ search rules
      | else-line-via-else-line w ↦ search rules
    ] in
    let not_two : (new.ended && bytes_eq new.line (codes "once-run 2")) ≡ false = elim c.else-line-2.branch [
      | else-line-2-via-then-line-2+else-is_word-2 w ↦ search rules
      | else-line-2-via-else-line-2 w ↦ search rules
    ] in
    inr (λ classes. rw (c.at_line-else-line-2.ensures, c.line-line.ensures.number)
    (first_wrong c.args.lines.now new classes at not_one not_two))

pub returns-then-not-branch : goal.returns-then-not-branch
returns-then-not-branch g c =
    let new = c.advance.new.self in
    let end = at_end_of c.args.lines.now new c.in_ok-advance.field-0 c.in_ok-advance.ensures c.if-not-branch.true in
    record {
      going = tt;
      on = tt;
      ok = tt;
      err = inr (λ classes. rw (c.at_line.ensures, c.saturating_add.ensures, c.number.ensures)
          (first_missing c.args.lines.now new classes end));
    }

pub returns-then-is_word : goal.returns-then-is_word
returns-then-is_word g c =
    let new = c.advance.new.self in
    let at = at_line_of c.args.lines.now new c.in_ok-advance.field-0 c.in_ok-advance.ensures c.if-not-branch.false in
    let ended = sym c.line-line.ensures.ended ∙ c.if-line.true in
    record {
      going = at.going.1;
      on = to_line c.args.lines.now new at ended;
      ok = first_one c.args.lines.now new at ended
          (ap (λ bytes. bytes_eq bytes (codes "once-run 1")) (sym c.line-line.ensures.bytes) ∙ sym c.is_word.ensures
          ∙ c.if-is_word.true);
      err = tt;
    }

pub returns-then-is_word-2 : goal.returns-then-is_word-2
returns-then-is_word-2 g c =
    let new = c.advance.new.self in
    let at = at_line_of c.args.lines.now new c.in_ok-advance.field-0 c.in_ok-advance.ensures c.if-not-branch.false in
    let ended = sym c.line-line.ensures.ended ∙ c.if-line-2.true in
    let line = c.line-line.ensures.bytes in
    let not_one : bytes_eq new.line (codes "once-run 1") ≡ false = elim c.else-line.branch [
      | else-line-via-then-line+else-is_word w ↦ ap (λ bytes. bytes_eq bytes (codes "once-run 1")) (sym line)
          ∙ sym w.is_word.ensures ∙ w.if-is_word.false
      | else-line-via-else-line w ↦ absurd (false≢true (sym w.if-line.false ∙ c.if-line-2.true))
    ] in
    record {
      going = at.going.1;
      on = to_line c.args.lines.now new at ended;
      ok = first_two c.args.lines.now new at ended not_one
          (ap (λ bytes. bytes_eq bytes (codes "once-run 2")) (sym line) ∙ sym c.is_word-then-line-2.ensures
          ∙ c.if-is_word-2.true);
      err = tt;
    }
