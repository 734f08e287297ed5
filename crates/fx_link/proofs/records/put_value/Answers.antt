use Rattle.std.proofs.Common.{◌≡◌, ◌<◌, ◌^◌, ℕ, Bool, false, cond, List, [], ◌∷◌, ◌++◌, ap, sym, ◌∙◌, subst, append_assoc}
use Rattle.fx_elements.specs.Axes.{axis_width}
use Rattle.fx_link.specs.Records.{is_whole, whole_octets, prefix_of}
use Rattle.fx_link.proofs.OctetsPut.{prefix_shifts, apart_test}
use Rattle.fx_link.proofs.records.put_value.Goals as goal

pub put_whole-requires-2 : goal.put_whole-requires-2
put_whole-requires-2 c =
    let h = prefix_shifts c.args.part c.args.value c.width-width.result c.requires.stands c.requires.bits
    c.width-width.ensures.bits in
    subst (λ (n : ℕ). n < 2 ^ axis_width c.args.part.axis) (sym h.0) h.1

pub returns : goal.returns
returns c =
    let h = prefix_shifts c.args.part c.args.value c.width-width.result c.requires.stands c.requires.bits
    c.width-width.ensures.bits in
    let prefix : List ℕ = whole_octets c.args.part.axis (prefix_of c.args.part c.args.value) in
    let fewer : is_whole c.args.part ≡ false =
    apart_test c.args.part.bits c.width-width.result (axis_width c.args.part.axis) c.width-width.ensures.bits
    c.if-part-width.false in
    c.in_ok-push.ensures.items
    ∙ ap (λ (l : List ℕ). l ++ c.args.part.bits ∷ [])
    (c.in_ok-put_whole.ensures ∙ ap (λ (n : ℕ). c.args.octets.now.items ++ whole_octets c.args.part.axis n) h.0)
    ∙ append_assoc c.args.octets.now.items prefix (c.args.part.bits ∷ [])
    ∙ ap (λ (l : List ℕ). c.args.octets.now.items ++ l)
    (sym (ap (λ (t : Bool). cond t (whole_octets c.args.part.axis c.args.value) (prefix ++ c.args.part.bits ∷ []))
    fewer))
