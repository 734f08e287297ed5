use Rattle.std.proofs.Common.{arith, rules}
use Rattle.std.proofs.Common.{◌≡◌, ◌∙◌, ap}
use Rattle.fx_layout.specs.Keys as keys
use Rattle.fx_session.specs.Parts as parts
use Rattle.fx_session.proofs.Layouts.{same_bits}
use Rattle.fx_session.proofs.key.LastLayout.key_of.Goals.{then-ne, else-ne}
use Rattle.fx_session.proofs.key.LastLayout.key_of.Goals as goal

-- whether it was made anew or not
is_layout : (c : goal.After-key_of) → c.if-ne.self-inside.layout ≡ parts.layout_by c.args.bits.now
is_layout c = elim c.if-ne.branch [
  | then-ne w ↦ ap (λ s. s.layout) w.self-inside-is ∙ w.layout_of-self-inside.ensures
  | else-ne w ↦ ap (λ s. s.layout) w.self-inside-is
      ∙ same_bits c.self.inside.layout c.self.inside.bits c.args.bits.now c.self.invariant w.if-ne.ensures
]

pub returns : goal.returns
returns c = c.key_of.ensures ∙ ap (λ l. keys.key_of l c.args.fields.now) (is_layout c)

pub invariant_of-self : goal.invariant_of-self
invariant_of-self c = first_of (grind arith, search rules)
