-- What the rest of the holders makes of the stores and of what leaves so far is what all make of those at the
-- beginning.
use Rattle.std.proofs.Common.{◌≡◌, ◌++◌, ℕ}
use Rattle.fx_net.specs.Contents.{is_immediate, stored_at}
use Rattle.fx_net.specs.Taking.{with_holdings, all_leave_at_once}
use Rattle.fx_net.proofs.taking.take_all.Given as goal

abbrev pub invariant-loop-holding : goal.invariant-loop-holding
invariant-loop-holding l = record {
  adding : with_holdings l.counts l.holding-iterator.rest.items
      (record { stores = l.stores.items; left = l.leavers.left.items })
      ≡ with_holdings l.counts l.fn.holdings.items
      (record { stores = l.initial.stores.items; left = l.initial.leavers.left.items });
  passing : l.leavers.passing.items ++ all_leave_at_once l.initial.stores.items l.counts l.holding-iterator.rest.items
      ≡ l.initial.leavers.passing.items ++ all_leave_at_once l.initial.stores.items l.counts l.fn.holdings.items;
  still : (p : ℕ) → is_immediate (stored_at l.stores.items p) ≡ is_immediate (stored_at l.initial.stores.items p);
}
