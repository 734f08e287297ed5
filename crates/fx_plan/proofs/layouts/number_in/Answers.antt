use Rattle.std.proofs.Common.{◌≡◌, ◌+◌, [], ◌∷◌, ◌++◌, length, sym, ap, ◌∙◌, arith, inr, vec_len}
use Rattle.fx_layout.specs.Keys.{Layout}
use Rattle.std.proofs.lemmas.List.{length-append}
use Rattle.fx_plan.specs.Layouts.{with_layout}
use Rattle.fx_plan.proofs.Numberings.{known_at, unknown, next_at}
use Rattle.fx_plan.proofs.layouts.number_in.Goals as goal

pub returns-in-Some-clause-known : goal.returns-in-Some-clause-known
returns-in-Some-clause-known c = known_at c.args.known.now.items c.args.layout.now c.in-Some.number
    (rw c.as_slice.ensures.value at c.in-Some.ensures)

pub returns-then-number-eq-LAYOUTS-clause-err : goal.returns-then-number-eq-LAYOUTS-clause-err
returns-then-number-eq-LAYOUTS-clause-err c =
    let more = unknown c.args.known.now.items c.args.layout.now (rw c.as_slice.ensures.value at c.in_default.ensures) in
    let long : length (with_layout c.args.known.now.items c.args.layout.now) ≡ length c.args.known.now.items + 1 =
    ap length more ∙ length-append c.args.known.now.items (c.args.layout.now ∷ []) in
    let all : length c.args.known.now.items ≡ vec_len c.args.known.now = ap length (sym c.as_slice.ensures.value)
    ∙ c.as_slice.ensures.len in
    inr (c.bare.ensures, omega (arith, long, all))

pub returns-clause-known : goal.returns-clause-known
returns-clause-known c =
    let more = unknown c.args.known.now.items c.args.layout.now (rw c.as_slice.ensures.value at c.in_default.ensures) in
    let items = c.in_ok-push.ensures.items ∙ ap (λ (l : Layout). c.args.known.now.items ++ l ∷ []) c.copy.ensures in
    let all : length c.args.known.now.items ≡ c.len-number.result = ap length (sym c.as_slice.ensures.value)
    ∙ (c.as_slice.ensures.len ∙ sym c.len-number.ensures) in
    (items ∙ sym more, rw (items, ← all) (next_at c.args.known.now.items c.args.layout.now []))
