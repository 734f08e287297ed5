use Rattle.std.proofs.Common.{◌≡◌, ◌++◌, ◌∷◌, ◌∙◌, sym, ap, List}
use Rattle.fx_tables.specs.declared.holding.Holding.{Holding}
use Rattle.fx_net.specs.Taking.{with_holdings, all_leave_at_once}
use Rattle.fx_net.proofs.StoresTakeIn.{passing_next, still_next}
use Rattle.fx_net.proofs.taking.take_all.Goals as goal

pub loop-holding-preserved : goal.loop-holding-preserved
loop-holding-preserved c =
    let counts = c.args.counts in
    let h = c.in-Some.holding in
    let before = c.args.stores.now.items in
    let stores = c.loop-holding.stores.items in
    let left = c.loop-holding.leavers.left.items in
    let passing = c.loop-holding.leavers.passing.items in
    let rest = c.next.new.self.rest.items in
    let here : c.loop-holding.holding-iterator.rest.items ≡ h ∷ rest = c.in-Some.ensures.steps.0 in
    record {
      adding = ap (with_holdings counts rest) c.in_ok-take.ensures.ok
          ∙ ap (λ (hs : List Holding). with_holdings counts hs (record { stores = stores; left = left })) (sym here)
          ∙ c.loop-holding.invariant.adding;
      passing = passing_next counts h rest before stores passing c.take.new.leavers.passing.items _
          c.in_ok-take.ensures.passing (c.loop-holding.invariant.still h.holder)
          (ap (λ (hs : List Holding). passing ++ all_leave_at_once before counts hs) (sym here)
          ∙ c.loop-holding.invariant.passing);
      still = still_next counts h before stores c.take.new.stores.items left c.take.new.leavers.left.items
          c.in_ok-take.ensures.ok c.loop-holding.invariant.still;
    }
