use Rattle.std.proofs.Common.{◌∙◌, ap, sym, arith, length, length-append, Ok, ℕ, List, [], ◌∷◌}
use Rattle.std.proofs.lemmas.Result.{err_from_is_err_and}
use Rattle.std.proofs.lemmas.List.{append-nil}
use Rattle.fx_wire.specs.Fields.{fields_in, before_fields}
use Rattle.fx_wire.specs.declared.field.FieldSpecifier.{FieldSpecifier}
use Rattle.fx_wire.proofs.FieldSteps.{field_at-shorter, fields_in-none, fields_in-first, fields_in-refused, before_fields-again, shortest_record-push}
use Rattle.fx_wire.specs.Values.{shortest_record}
use Rattle.fx_session.proofs.template_set.read_fields.Goals as goal

pub loop-next-preserved : goal.loop-next-preserved
loop-next-preserved c =
    let step = rw c.in_ok-next.was at c.in-Some.ensures.steps in
    let items = c.in_ok-push.ensures.items in
    let v = field_at-shorter c.loop-next.left.octets (c.in_ok-next.field-0, c.next.new.self.octets) step.1 in
    record {
      all = c.loop-next.invariant.all ∙ ap (before_fields c.loop-next.found.items)
          (fields_in-first _ _ _ _ step.0 step.1) ∙ before_fields-again _ _ _
          ∙ ap (λ (l : List FieldSpecifier). before_fields l (fields_in c.next.new.self.count c.next.new.self.octets))
          (sym items);
      count = omega (
        arith,
        c.loop-next.invariant.count,
        step.0,
        ap length items,
        length-append c.loop-next.found.items
            (c.in_ok-next.field-0 ∷ []),
      );
      some = omega (
        arith,
        c.loop-next.invariant.some,
        v.1,
        ap length items,
        length-append c.loop-next.found.items
            (c.in_ok-next.field-0 ∷ []),
        ap shortest_record items,
        shortest_record-push c.loop-next.found.items
            c.in_ok-next.field-0,
      );
      shorter = omega (arith, c.loop-next.invariant.shorter, v.0);
    }

pub returns-in_err-next-clause-err : goal.returns-in_err-next-clause-err
returns-in_err-next-clause-err c =
    let p = err_from_is_err_and c.from_residual.result c.from_residual.ensures.1 in
    let step = rw c.in_err-next.was at c.in-Some.ensures.steps in
    rw (p.1, p.2) (c.loop-next.invariant.all
    ∙ ap (before_fields c.loop-next.found.items) (fields_in-refused _ _ _ _ step.0 step.1))

pub returns-clause-ok : goal.returns-clause-ok
returns-clause-ok c =
    let none = c.in_default.ensures.steps.0 in
    let rest = c.rest.ensures ∙ ap (λ s. s.octets) c.in_default.ensures.steps.1 in
    record {
      all = c.loop-next.invariant.all ∙ ap (before_fields c.loop-next.found.items)
          (ap (λ (n : ℕ). fields_in n c.loop-next.left.octets) none ∙ fields_in-none c.loop-next.left.octets)
          ∙ ap (λ (l : List FieldSpecifier). Ok (l, c.loop-next.left.octets)) (append-nil c.loop-next.found.items)
          ∙ ap (λ (bs : List ℕ). Ok (c.loop-next.found.items, bs)) (sym rest);
      count_is = omega (arith, c.loop-next.invariant.count, none);
      some = omega (arith, c.loop-next.invariant.count, c.loop-next.invariant.some, none);
      shorter = omega (arith, c.loop-next.invariant.shorter, ap length rest);
    }
