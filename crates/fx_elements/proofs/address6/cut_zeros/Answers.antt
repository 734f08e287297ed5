use Rattle.std.proofs.Common.{sym, arith, ◌≡◌, ◌+◌, ◌-◌, take, drop}
use Rattle.fx_elements.proofs.ZeroCuts.{zeros_at, zeros_nowhere}
use Rattle.fx_elements.proofs.address6.cut_zeros.Goals as goal

pub returns-then-text-i-eq58-2 : goal.returns-then-text-i-eq58-2
returns-then-text-i-eq58-2 c =
    let first = zeros_at c.args.text.now c.loop-i.i c.loop-i.auto.i c.loop-i-test.true c.loop-i.invariant
    c.if-text-i-eq58.true c.if-text-i-eq58-2.true in
    let front : c.split_at.result.0.now ≡ take (c.loop-i.i - 1) c.args.text.now = c.split_at.ensures.front in
    let back : c.split_at-then-text-i-eq58-2.result.1.now ≡ drop (c.loop-i.i + 1) c.args.text.now =
    c.split_at-then-text-i-eq58-2.ensures.back in
    cc

pub returns : goal.returns
returns c = sym (zeros_nowhere c.args.text.now (λ k h. c.loop-i.invariant k (omega arith)))
