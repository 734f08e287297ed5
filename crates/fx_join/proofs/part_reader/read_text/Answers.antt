use Rattle.std.proofs.Common.{◌≡◌, ◌++◌, ◌∷◌, [], ◌∙◌, List, ℕ, Bool, ap, sym, arith, append_assoc, codes, inl, inr, length, length, refl, true, false, bytes_eq}
use Rattle.std.proofs.lemmas.List.{append-nil, length-append}
use Rattle.std.proofs.lemmas.Result.{err_from_is_err_and}
use Rattle.std.proofs.lemmas.Slice.Eq.{bytes_eq-Decides}
use Rattle.std.specs.Io.KnownBytes.{prepend_known}
use Rattle.fx_join.specs.PartTexts.{line_octets}
use Rattle.fx_join.proofs.Taken.{nothing_behind, taken_with}
use Rattle.fx_join.proofs.Texts.{at_mark, before_line, before_more, before_nothing, front_of, last_line}
use Rattle.fx_join.proofs.part_reader.read_text.Goals as goal

pub returns-in_err-push_line-clause-err : goal.returns-in_err-push_line-clause-err
returns-in_err-push_line-clause-err g c =
    let p = err_from_is_err_and c.from_residual.result c.from_residual.ensures.1 in
    rw (p.1, p.2) (elim c.in_err-push_line.ensures.err [
      | inl m ↦ inl m
      | inr s ↦ inr (λ left asked from. s left asked (c.lines.invariant.on left asked from))
    ])

pub returns-then-is_mark-clause-some : goal.returns-then-is_mark-clause-some
returns-then-is_mark-clause-some g c =
    let text = c.lines.text.items in
    let got = c.in_ok-push_line.ensures.line in
    let line = line_octets (got.0, c.in_ok-push_line.field-0) in
    let items = c.push_line.new.text.items in
    let own = last_line text line c.deref.result.now c.lines.start (c.deref.ensures.value ∙ got.2)
    c.lines.invariant.start in
    let mark = codes "%%" ++ 10 ∷ [] in
    let is : line ≡ mark = sym own ∙ (bytes_eq-Decides _ mark).0 (sym c.is_mark.ensures ∙ c.if-is_mark.true) in
    let front = c.truncate.ensures.items ∙ front_of text line items c.lines.start got.2 c.lines.invariant.start in
    rw front (record {
      taken = text ++ line;
      before = taken_with text line _ _ _ got.3 c.lines.invariant.before;
      is_first = at_mark text line c.lines.invariant.lines is;
    })

pub returns-then-is_mark-clause-on : goal.returns-then-is_mark-clause-on
returns-then-is_mark-clause-on g c =
    λ left asked from. c.in_ok-push_line.ensures.on c.if-branch.true left asked (c.lines.invariant.on left asked from)

pub lines-preserved : goal.lines-preserved
lines-preserved g c =
    let text = c.lines.text.items in
    let ended = c.in_ok-push_line.field-0 in
    let got = c.in_ok-push_line.ensures.line in
    let line = line_octets (got.0, ended) in
    let items = c.push_line.new.text.items in
    let own = last_line text line c.deref.result.now c.lines.start (c.deref.ensures.value ∙ got.2)
    c.lines.invariant.start in
    let mark = codes "%%" ++ 10 ∷ [] in
    let fed : line ≡ got.0 ++ 10 ∷ [] = rw c.if-branch.true refl in
    let other : bytes_eq (got.0 ++ 10 ∷ []) mark ≡ false =
    ap (λ (o : List ℕ). bytes_eq o mark) (sym fed ∙ sym own) ∙ sym c.is_mark.ensures ∙ c.if-is_mark.false in
    let all : items ≡ text ++ (got.0 ++ 10 ∷ []) = got.2 ∙ ap (λ (o : List ℕ). text ++ o) fed in
    record {
      start = grind arith;
      before = rw got.2 (taken_with text line _ _ _ got.3 c.lines.invariant.before);
      lines = rw all (before_more text (got.0 ++ 10 ∷ []) c.lines.invariant.lines (before_line got.0 got.1 other));
      small = omega (arith, c.in_ok-push_line.ensures.smaller c.if-branch.true, c.lines.invariant.small);
      on = λ left asked from. c.in_ok-push_line.ensures.on c.if-branch.true left asked
          (c.lines.invariant.on left asked from);
    }

pub returns-clause-none : goal.returns-clause-none
returns-clause-none g c =
    let text = c.lines.text.items in
    let got = c.in_ok-push_line.ensures.line in
    let line = line_octets (got.0, c.in_ok-push_line.field-0) in
    let alone : line ≡ got.0 = rw c.if-branch.false refl in
    record {
      octets = text ++ got.0;
      left = nothing_behind (text ++ got.0) _ _
          (rw (← alone) (taken_with text line _ _ _ got.3 c.lines.invariant.before))
          (c.in_ok-push_line.ensures.end c.if-branch.false);
      none = before_nothing text got.0 c.lines.invariant.lines got.1;
    }
