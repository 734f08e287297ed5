use Rattle.std.proofs.Common.{◌≡◌, ◌+◌, ◌-◌, ◌<◌, ◌∙◌, sym, ap, length, take, get_or, arith}
use Rattle.fx_machine.specs.States.{put_last}
use Rattle.fx_machine.specs.Sends.{put_all}
use Rattle.fx_machine.proofs.Lists.{put_all_more}
use Rattle.fx_machine.proofs.sending.take_all_back.Goals as goal

pub loop-back-preserved : goal.loop-back-preserved
loop-back-preserved c rss e =
    let links = c.args.links.now in
    let r = c.args.entry.now in
    let at = length links - (c.loop-back.back + 1) in
    let within : at < length links = omega arith in
    let step : at + 1 ≡ length links - c.loop-back.back = omega arith in
    let place : at ≡ length links - 1 - c.loop-back.back = omega arith in
    let before = c.loop-back.invariant rss e in
    c.take_back.ensures (put_all (take at links) r rss) r
    (before ∙ ap (λ n. put_all (take n links) r rss) (sym step) ∙ sym (put_all_more links at r rss 0 within)
    ∙ ap (λ n. put_last (put_all (take at links) r rss) (get_or links n 0) r) place)
