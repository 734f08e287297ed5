use Rattle.std.proofs.Common.{◌≡◌, ◌∙◌, ap, sym, arith, length, List}
use Rattle.fx_link.specs.Ongoing.{Ongoing}
use Rattle.fx_net.specs.Contents.{Contents}
use Rattle.fx_net.specs.Arriving.{after_arrive, after_handling}
use Rattle.fx_net.proofs.RecordsHandled.{waits, handled_next, handled_fewer, handled_all}
use Rattle.fx_net.proofs.contents.Contents.handle.Goals as goal

pub loop-flow-smaller : goal.loop-flow-smaller
loop-flow-smaller c =
    let net = c.args.net.now in
    let link = c.args.link in
    let inside : Contents = record {
      stores = c.self.inside.stores.items;
      links = c.self.inside.links.items;
      chosen = c.self.inside.chosen.items;
      totals = c.self.inside.totals;
      second = c.self.inside.second;
    } in
    let links = c.next_record.new.links.items in
    let after : length (waits link c.arrive.new.self)
    ≡ length (waits link (after_arrive net link c.in-Some.flow (record inside { links = links }))) =
    ap (λ (x : Contents). length (waits link x)) c.in_ok-arrive.ensures.ok in
    let fewer = handled_fewer net link c.in-Some.flow inside links c.in-Some.ensures in
    let before : length (waits link inside) ≡ length (waits link c.loop-flow.self) =
    ap (λ (x : Contents). length (waits link x)) c.self.view_is in
    omega (arith, after, fewer, before)

pub loop-flow-preserved : goal.loop-flow-preserved
loop-flow-preserved c =
    let net = c.args.net.now in
    let link = c.args.link in
    let inside : Contents = record {
      stores = c.self.inside.stores.items;
      links = c.self.inside.links.items;
      chosen = c.self.inside.chosen.items;
      totals = c.self.inside.totals;
      second = c.self.inside.second;
    } in
    ap (after_handling net link) c.in_ok-arrive.ensures.ok
    ∙ handled_next net link c.in-Some.flow inside c.next_record.new.links.items c.in-Some.ensures
    ∙ ap (after_handling net link) c.self.view_is ∙ c.loop-flow.invariant

pub returns-clause-ok : goal.returns-clause-ok
returns-clause-ok c =
    let net = c.args.net.now in
    let link = c.args.link in
    let inside : Contents = record {
      stores = c.self.inside.stores.items;
      links = c.self.inside.links.items;
      chosen = c.self.inside.chosen.items;
      totals = c.self.inside.totals;
      second = c.self.inside.second;
    } in
    ap (λ (xs : List Ongoing). record inside { links = xs }) c.in_default.ensures.0
    ∙ sym (handled_all net link inside c.in_default.ensures.1) ∙ ap (after_handling net link) c.self.view_is
    ∙ c.loop-flow.invariant
