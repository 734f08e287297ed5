use Rattle.std.proofs.Common.{◌∙◌, ap, sym, length, arith}
use Rattle.std.specs.Prelude.{is_ok}
use Rattle.fx_wire.proofs.SetLists.{sets_of-first, sets_of-refused, sets_of-none, is_ok-before, sets_or_none-before, some_octets, no_octets}
use Rattle.fx_wire.specs.Sets.{sets_of, sets_or_none}
use Rattle.fx_wire.proofs.set.SetsIterator.next.Goals as goal

pub returns-then-is_empty-clause-steps : goal.returns-then-is_empty-clause-steps
returns-then-is_empty-clause-steps c =
    let none = sym c.self.view_is ∙ ap (λ bs. sets_or_none (sets_of bs))
    (no_octets _ _ c.is_empty.ensures c.if-is_empty.true) ∙ ap sets_or_none sets_of-none in
    (none, none)

pub invariant_of-self : goal.invariant_of-self
invariant_of-self c =
    let f = sets_of-first c.self.inside.rest.now _ c.in-Ok.ensures in
    sym (is_ok-before _ _) ∙ sym (ap is_ok f.0) ∙ c.self.invariant

pub unreachable-requires : goal.unreachable-requires
unreachable-requires c =
    let r = sets_of-refused c.self.inside.rest.now _ (some_octets _ _ c.is_empty.ensures c.if-is_empty.false)
    c.in-Err.ensures in
    let k = sym (ap is_ok r) ∙ c.self.invariant in
    cc k

pub returns-clause-steps : goal.returns-clause-steps
returns-clause-steps c =
    let f = sets_of-first c.self.inside.rest.now _ c.in-Ok.ensures in
    let ok = sym (is_ok-before _ _) ∙ sym (ap is_ok f.0) ∙ c.self.invariant in
    sym c.self.view_is ∙ ap sets_or_none f.0 ∙ sets_or_none-before _ _ ok

pub returns-clause-goes : goal.returns-clause-goes
returns-clause-goes c =
    let f = sets_of-first c.self.inside.rest.now _ c.in-Ok.ensures in
    let ok = sym (is_ok-before _ _) ∙ sym (ap is_ok f.0) ∙ c.self.invariant in
    let all = sym c.self.view_is ∙ ap sets_or_none f.0 ∙ sets_or_none-before _ _ ok in
    let count = ap length all in
    record { on = λ _. (tt, tt, omega (arith, count)); keeps = tt; rests = λ _. tt }
