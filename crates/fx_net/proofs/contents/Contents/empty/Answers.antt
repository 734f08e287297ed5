use Rattle.std.proofs.Common.{rules}
use Rattle.std.proofs.Common.{◌≡◌, ℕ, suc, ◌+◌, ◌-◌, ◌∙◌, ap, arith}
use Rattle.fx_net.specs.Leaving.{after_leasts}
use Rattle.fx_net.proofs.contents.Contents.empty.Goals as goal

pub loop-done-preserved : goal.loop-done-preserved
loop-done-preserved c =
    let net = c.args.net.now in
    let index = c.args.index in
    let n = c.count_at-count.result in
    let i = c.loop-done._done in
    let left : suc (n - (i + 1)) ≡ n - i = omega (arith, c.loop-done-test.true) in
    ap (after_leasts net index (n - (i + 1))) c.in_ok-expire_least.ensures.ok
    ∙ ap (λ (m : ℕ). after_leasts net index m c.loop-done.self) left ∙ c.loop-done.invariant

pub loop-done-init : goal.loop-done-init
loop-done-init c = first_of (grind arith, search rules)
