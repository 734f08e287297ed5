-- What the rest of the holders makes of the stores and of what leaves so far is what all make of those at the
-- beginning.
use Rattle.std.proofs.Common.{◌≡◌, ◌++◌, ℕ, drop}
use Rattle.fx_tables.specs.Holdings.{met_holdings}
use Rattle.fx_net.specs.Contents.{is_immediate, stored_at}
use Rattle.fx_net.specs.Taking.{with_holdings, all_leave_at_once}
use Rattle.fx_net.proofs.taking.meet_all.Given as goal

abbrev pub invariant-loop-occurrence : goal.invariant-loop-occurrence
invariant-loop-occurrence l = record {
  adding : with_holdings l.counts (met_holdings l.net.holders l.fields (drop l.occurrence-index l.met))
      (record { stores = l.stores.items; left = l.leavers.left.items })
      ≡ with_holdings l.counts (met_holdings l.net.holders l.fields l.met)
      (record { stores = l.initial.stores.items; left = l.initial.leavers.left.items });
  passing : l.leavers.passing.items ++ all_leave_at_once l.initial.stores.items l.counts
      (met_holdings l.net.holders l.fields (drop l.occurrence-index l.met))
      ≡ l.initial.leavers.passing.items ++ all_leave_at_once l.initial.stores.items l.counts
      (met_holdings l.net.holders l.fields l.met);
  still : (p : ℕ) → is_immediate (stored_at l.stores.items p) ≡ is_immediate (stored_at l.initial.stores.items p);
}
