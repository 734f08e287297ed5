use Rattle.std.proofs.Common.{◌≡◌, ◌∙◌, ◌+◌, ◌<◌, ◌≤◌, ap, subst, arith, set, get_or, length, List, Some}
use Rattle.fx_link.specs.Ongoing.{Ongoing, after_finish, to_put}
use Rattle.fx_link.specs.Links.{Puts}
use Rattle.fx_net.specs.Finishing.{HasRoom}
use Rattle.fx_net.proofs.ChangedLists.{mapped, mapped_all, mapped_at, mapped_more}
use Rattle.fx_net.proofs.LinksPutOut.{puts_more}
use Rattle.fx_net.proofs.finishing.finish_all.Goals as goal

pub loop-index-preserved : goal.loop-index-preserved
loop-index-preserved g c =
    let f = after_finish c.args.time in
    let old = c.args.lines.now.items in
    let n = c.loop-index.index in
    let line = c.index_mut-line.result.now in
    let done = mapped f n old in
    let lines_is : c.loop-index.lines.items ≡ done = c.loop-index.invariant.lines in
    let line_is : line ≡ get_or old n line = c.index_mut-line.ensures.value
    ∙ ap (λ (xs : List Ongoing). get_or xs n line) {y = done} lines_is ∙ mapped_at f n old line in
    let there : n < length old = omega (arith, c.loop-index-test.true, c.len-index-end.ensures) in
    let before = g.L.Links.put_on c.args.links.now in
    let mid = g.L.Links.put_on c.loop-index.links in
    let after = g.L.Links.put_on c.finish.new.links in
    record {
      lines = ap (λ (xs : List Ongoing). set xs n c.finish.new.self) {y = done} lines_is
          ∙ mapped_more f n old line c.finish.new.self there (c.in_ok-finish.ensures.ok ∙ ap f line_is);
      put = puts_more before mid after c.args.time n old line there c.loop-index.invariant.put
          (subst (λ (o : Ongoing). Puts mid after (n + 1) (to_put c.args.time o)) line_is c.in_ok-finish.ensures.put)
          (subst (λ (o : Ongoing). HasRoom (Some o)) line_is c.finish.ensures.room);
      going = λ h. c.in_ok-finish.ensures.going (c.loop-index.invariant.going h);
    }

pub returns-clause-ok : goal.returns-clause-ok
returns-clause-ok g c =
    let old = c.args.lines.now.items in
    let all : length old ≤ c.loop-index.index = omega (arith, c.loop-index-test.false, c.len-index-end.ensures) in
    c.loop-index.invariant.lines ∙ mapped_all (after_finish c.args.time) c.loop-index.index old all
