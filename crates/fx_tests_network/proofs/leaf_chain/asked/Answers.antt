use Rattle.std.proofs.Common.{[], ◌∷◌}
use Rattle.fx_tests_network.proofs.leaf_chain.asked.Goals as goal

pub narrow-active-requires : goal.narrow-active-requires
narrow-active-requires g c = record { narrowed = c.begin-all.ensures.all c.sources-region.result }

pub fate-requires-2-clause-begun : goal.fate-requires-2-clause-begun
fate-requires-2-clause-begun g c = c.narrow-active.ensures.begun c.new-tables.result (c.into.result ∷ [])
    c.begin-all.ensures.begun
