use Rattle.std.proofs.Common.{◌≡◌, ◌∙◌, ap, append_assoc, arith, length, take, drop, true, false, List, ℕ, ◌++◌, subst, inl, inr}
use Rattle.std.proofs.lemmas.List.{length-drop}
use Rattle.std.proofs.lemmas.Bool.{ltb-true}
use Rattle.std.proofs.lemmas.Result.{err_from_is_err_and}
use Rattle.std.specs.Io.KnownBytes.{prepend_known}
use Rattle.fx_join.specs.Streams.{IsLinePart, octet_budget}
use Rattle.fx_join.proofs.LineParts.{line_ends_there, line_goes_on, taken_behind}
use Rattle.fx_join.proofs.stream.Stream.push_line.Goals as goal

pub returns-in_err-fill-clause-err : goal.returns-in_err-fill-clause-err
returns-in_err-fill-clause-err g c =
    let p = err_from_is_err_and c.from_residual.result c.from_residual.ensures.1 in
    rw (p.1, p.2) (inr (λ left asked from. c.in_err-fill.ensures.err left asked
    (c.pieces.invariant.on left asked from)))

pub returns-then-part-clause-line : goal.returns-then-part-clause-line
returns-then-part-clause-line g c =
    let held = c.fill.new.self.held in
    let count = c.in_ok-part.part.count in
    let line = c.pieces.invariant.line in
    let part : IsLinePart held count true =
    subst (IsLinePart held count) c.if-part.true (rw (← c.held.ensures) c.in_ok-part.ensures.part) in
    let whole = line_ends_there line.0 held count line.1 part in
    let text = c.in_ok-part.ensures.text ∙ ap (λ (t : List ℕ). t ++ take count c.held.result.now) line.2
    ∙ append_assoc c.args.text.now.items line.0 (take count c.held.result.now)
    ∙ ap (λ (o : List ℕ). c.args.text.now.items ++ (line.0 ++ take count o)) c.held.ensures
    ∙ ap (λ (o : List ℕ). c.args.text.now.items ++ o) whole.2 in
    let behind = taken_behind line.0 held count (g.R.Source.left c.fill.new.source) _
    (ap (prepend_known line.0) c.fill.ensures.octets ∙ line.3) in
    (whole.0, whole.1, text, rw (← whole.2) (rw c.pass.ensures behind))

pub returns-then-part-clause-on : goal.returns-then-part-clause-on
returns-then-part-clause-on g c =
    λ _ left asked from. rw c.pass.ensures (c.in_ok-fill.ensures.on c.if-branch.true left asked
    (c.pieces.invariant.on left asked from))

pub pieces-preserved : goal.pieces-preserved
pieces-preserved g c =
    let held = c.fill.new.self.held in
    let count = c.in_ok-part.part.count in
    let line = c.pieces.invariant.line in
    let part : IsLinePart held count false =
    subst (IsLinePart held count) c.if-part.false (rw (← c.held.ensures) c.in_ok-part.ensures.part) in
    let text = c.in_ok-part.ensures.text ∙ ap (λ (t : List ℕ). t ++ take count c.held.result.now) line.2
    ∙ append_assoc c.args.text.now.items line.0 (take count c.held.result.now)
    ∙ ap (λ (o : List ℕ). c.args.text.now.items ++ (line.0 ++ take count o)) c.held.ensures in
    let behind = taken_behind line.0 held count (g.R.Source.left c.fill.new.source) _
    (ap (prepend_known line.0) c.fill.ensures.octets ∙ line.3) in
    record {
      line = (line.0 ++ take count held, line_goes_on line.0 held count line.1 part, text, rw c.pass.ensures behind);
      small = rw c.pass.ensures (omega (
        arith,
        length-drop count held,
        c.in_ok-fill.ensures.smaller,
        c.pieces.invariant.small,
      ));
      on = λ left asked from. rw c.pass.ensures
          (c.in_ok-fill.ensures.on c.if-branch.true left asked (c.pieces.invariant.on left asked from));
    }
