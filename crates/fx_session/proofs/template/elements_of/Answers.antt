use Rattle.std.proofs.Common.{◌∙◌, ◌++◌, ◌∷◌, [], ap, sym, map, take, List}
use Rattle.std.proofs.lemmas.List.{map_more, take_all}
use Rattle.fx_elements.specs.declared.element.Element.{Element}
use Rattle.fx_wire.specs.Fields.{element_of}
use Rattle.fx_session.proofs.template.elements_of.Goals as goal

pub loop-field-preserved : goal.loop-field-preserved
loop-field-preserved c =
    let fields = c.args.fields.now in
    let n = c.loop-field.field-index in
    c.in_ok-push.ensures.items ∙ ap (λ (es : List Element). es ++ c.element.result ∷ []) c.loop-field.invariant
    ∙ ap (λ (e : Element). map element_of (take n fields) ++ e ∷ []) c.element.ensures
    ∙ sym (map_more element_of fields n _ c.loop-field-test.true)

pub returns : goal.returns
returns c =
    c.shrink_to_fit.ensures.items ∙ c.loop-field.invariant
    ∙ ap (map element_of) (take_all c.loop-field.field-index c.args.fields.now c.loop-field-test.false)
