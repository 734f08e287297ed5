use Rattle.std.proofs.Common.{◌≡◌, ◌++◌, ◌∷◌, [], ◌∙◌, List, ℕ, Bool, ap, sym, refl, codes, inl, inr, length, true, false, true≢false, bytes_eq, ◌==◌}
use Rattle.std.proofs.lemmas.Result.{err_from_is_err_and}
use Rattle.std.specs.Io.KnownBytes.{prepend_known}
use Rattle.fx_base.specs.Lines.{line_len}
use Rattle.fx_join.specs.PartTexts.{is_command, line_octets}
use Rattle.fx_join.proofs.PartsRead.{HasRead}
use Rattle.fx_join.proofs.TextsOfParts.{EndsLine, line_cut, no_command, part_taken, texts_missing}
use Rattle.fx_join.proofs.part_reader.read_part.Goals as goal

pub returns-then-not-ended-clause-next : goal.returns-then-not-ended-clause-next
returns-then-not-ended-clause-next g c =
    let got = c.in_ok-ended.ensures.line in
    let alone : line_octets (got.0, c.in_ok-ended.ended) ≡ got.0 = rw c.if-not-ended.true refl in
    let items : c.push_line.new.text.items ≡ got.0 = got.2
    ∙ ap (λ (o : List ℕ). o ++ line_octets (got.0, c.in_ok-ended.ended)) c.new-octets.ensures.items ∙ alone in
    line_cut _ _ got.0 got.1 (λ none. true≢false
    (ap (λ (o : List ℕ). length o == 0) (sym (c.as_slice-line.ensures.value ∙ items ∙ none)) ∙ sym c.is_empty.ensures
    ∙ c.if-is_empty.false)) (rw (← alone) got.3) (c.in_ok-ended.ensures.end c.if-not-ended.true)

pub returns-then-not-is_command-clause-next : goal.returns-then-not-is_command-clause-next
returns-then-not-is_command-clause-next g c =
    let got = c.in_ok-ended.ensures.line in
    let line = line_octets (got.0, c.in_ok-ended.ended) in
    let fed : line ≡ got.0 ++ 10 ∷ [] = rw c.if-not-ended.false refl in
    let items : c.as_slice-line.result.now ≡ got.0 ++ 10 ∷ [] = c.as_slice-line.ensures.value ∙ got.2
    ∙ ap (λ (o : List ℕ). o ++ line) c.new-octets.ensures.items ∙ fed in
    let other : is_command (got.0, true) ≡ false =
    ap (λ (o : List ℕ). bytes_eq o (codes "check" ++ 10 ∷ [])) (sym items) ∙ sym c.is_command.ensures
    ∙ c.if-not-is_command.true in
    no_command _ _ got.0 line (fed, got.1) other got.3

pub returns-in_err-part-clause-err : goal.returns-in_err-part-clause-err
returns-in_err-part-clause-err g c =
    let p = err_from_is_err_and c.from_residual-in_err-part.result c.from_residual-in_err-part.ensures.1 in
    rw (p.1, p.2) (elim c.in_err-part.ensures.err [
      | inl m ↦ inl m
      | inr s ↦ inr (λ left asked from. s left asked (c.in_ok-ended.ensures.on c.if-not-ended.false left asked from))
    ])

pub returns-in-Some-clause-next : goal.returns-in-Some-clause-next
returns-in-Some-clause-next g c =
    let got = c.in_ok-ended.ensures.line in
    let line = line_octets (got.0, c.in_ok-ended.ended) in
    let fed : line ≡ got.0 ++ 10 ∷ [] = rw c.if-not-ended.false refl in
    let items : c.as_slice-line.result.now ≡ got.0 ++ 10 ∷ [] = c.as_slice-line.ensures.value ∙ got.2
    ∙ ap (λ (o : List ℕ). o ++ line) c.new-octets.ensures.items ∙ fed in
    let command : is_command (got.0, true) ≡ true =
    ap (λ (o : List ℕ). bytes_eq o (codes "check" ++ 10 ∷ [])) (sym items) ∙ sym c.is_command.ensures
    ∙ c.if-not-is_command.false in
    part_taken _ _ _ got.0 line c.in-Some.part (fed, got.1) command got.3
    (rw c.in-Some.is at c.in_ok-part.ensures.some)

pub returns-in-Some-clause-on : goal.returns-in-Some-clause-on
returns-in-Some-clause-on g c =
    let texts = rw c.in-Some.is at c.in_ok-part.ensures.on in
    λ part same left asked from. texts left asked (c.in_ok-ended.ensures.on c.if-not-ended.false left asked from)

pub returns-clause-next : goal.returns-clause-next
returns-clause-next g c =
    let got = c.in_ok-ended.ensures.line in
    let line = line_octets (got.0, c.in_ok-ended.ended) in
    let fed : line ≡ got.0 ++ 10 ∷ [] = rw c.if-not-ended.false refl in
    let items : c.as_slice-line.result.now ≡ got.0 ++ 10 ∷ [] = c.as_slice-line.ensures.value ∙ got.2
    ∙ ap (λ (o : List ℕ). o ++ line) c.new-octets.ensures.items ∙ fed in
    let command : is_command (got.0, true) ≡ true =
    ap (λ (o : List ℕ). bytes_eq o (codes "check" ++ 10 ∷ [])) (sym items) ∙ sym c.is_command.ensures
    ∙ c.if-not-is_command.false in
    texts_missing _ _ got.0 line (fed, got.1) command got.3 (rw c.in-None.is at c.in_ok-part.ensures.none)
