use Rattle.std.proofs.Common.{◌∙◌, ap, sym, ◌++◌, ◌∷◌, [], List, Some}
use Rattle.std.proofs.lemmas.List.{append-nil}
use Rattle.fx_wire.specs.Values.{Value, before_values, record_at}
use Rattle.fx_wire.specs.declared.field.FieldSpecifier.{FieldSpecifier}
use Rattle.fx_session.proofs.Notes.{record_at-cut_at, record_at-some_at, record_at-all, before_values-again, element_at}
use Rattle.fx_session.proofs.field_numbers.read_record.Goals as goal

pub returns-in-None-clause-none : goal.returns-in-None-clause-none
returns-in-None-clause-none c =
    let inv = c.loop-index.invariant in
    ap (λ (fs : List FieldSpecifier). record_at fs c.args.octets.now) (sym c.fields-fields.ensures) ∙ inv.2
    ∙ ap (before_values inv.0) (record_at-cut_at c.fields-fields.result.now c.loop-index.index _
    c.loop-index.rest.now c.loop-index-test.true c.in-None.ensures)

pub loop-index-preserved : goal.loop-index-preserved
loop-index-preserved c =
    let inv = c.loop-index.invariant in (
      inv.0 ++ _ ∷ [],
      c.note.ensures inv.0 _ (element_at c.fields-fields.result.now _ c.elements-elements.result.now c.loop-index.index
          _ _ c.fields-fields.ensures c.elements-elements.ensures c.loop-index-test.true) inv.1,
      inv.2 ∙ ap (before_values inv.0) (record_at-some_at c.fields-fields.result.now c.loop-index.index _
          c.loop-index.rest.now _ c.loop-index-test.true c.in-Some.ensures)
          ∙ before_values-again inv.0 _ _,
    )

pub returns-clause-some : goal.returns-clause-some
returns-clause-some c =
    let inv = c.loop-index.invariant in (
      inv.0,
      ap (λ (fs : List FieldSpecifier). record_at fs c.args.octets.now) (sym c.fields-fields.ensures) ∙ inv.2
          ∙ ap (before_values inv.0) (record_at-all c.fields-fields.result.now c.loop-index.index c.loop-index.rest.now
          c.loop-index-test.false)
          ∙ ap (λ (l : List Value). Some (l, c.loop-index.rest.now)) (append-nil inv.0),
      inv.1,
    )
