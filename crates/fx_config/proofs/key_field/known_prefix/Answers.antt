use Rattle.std.proofs.Common.{◌≡◌, ◌<◌, ℕ, List, [], ◌∷◌, codes, Option, Some, refl, sym, ap, ◌∙◌, subst, arith, lt-ltb}
use Rattle.fx_base.specs.declared.fault.Fault.{Fault}
use Rattle.fx_elements.specs.declared.element.Element.{Element}
use Rattle.fx_config.specs.KeyFields.{longest_prefix, prefix_check}
use Rattle.fx_walk.specs.Pointer.{below, pointer}
use Rattle.fx_walk.specs.Walk.{Refuses}
use Rattle.fx_walk.proofs.Faults.{pointer-Member}
use Rattle.fx_config.proofs.key_field.known_prefix.Goals as goal

too_long : (e : Fault) (element : Element) (given : Option ℕ) (bits : ℕ) (up : List ℕ) → given ≡ Some bits
    → longest_prefix element < bits → Refuses e ((105, below up (codes "prefixLength")) ∷ [])
    → Refuses e (prefix_check element given up)
too_long e element given bits up is more refused =
    let faults : prefix_check element (Some bits) up ≡ (105, below up (codes "prefixLength")) ∷ [] =
    rw (lt-ltb (longest_prefix element) bits more) refl in
    subst (λ fs. Refuses e fs) (sym (ap (λ o. prefix_check element o up) is ∙ faults)) refused

pub returns-then-bits-longest_prefix : goal.returns-then-bits-longest_prefix
returns-then-bits-longest_prefix c =
    let more : longest_prefix c.args.element < c.in-Some.bits =
    omega (arith, c.longest_prefix.ensures, c.if-bits-longest_prefix.true) in
    too_long c.refusal-then-bits-longest_prefix.result c.args.element c.args.prefix_length c.in-Some.bits
    (pointer c.args.path.now) c.in-Some.is more (rw pointer-Member at c.refusal-then-bits-longest_prefix.ensures)
