use Rattle.std.proofs.Common.{◌≡◌, take}
use Rattle.fx_tables.specs.Holdings.{met_holdings}
use Rattle.fx_tables.proofs.net.Net.holdings.Given as goal

abbrev pub invariant-loop-occurrence : goal.invariant-loop-occurrence
invariant-loop-occurrence l =
    l.holdings.items ≡ met_holdings l.self.holders l.fields (take l.occurrence-index l.occurrences)
