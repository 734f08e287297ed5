use Rattle.std.proofs.Common.{◌≡◌, ◌+◌, ℕ, List, [], ◌++◌, length, map, not, count_by}
use Rattle.fx_ranks.specs.Feeding.{places_of}
use Rattle.fx_ranks.specs.Ranks.{ComesNext, is_in}
use Rattle.fx_ranks.proofs.order.rank_order.Given as goal

abbrev pub invariant-loop-index : goal.invariant-loop-index
invariant-loop-index l =
    record {
      flags : l.come.items ≡ map (is_in l.order.items) (places_of l.net);
      so_far : (rest : List ℕ) → ComesNext l.net l.order.items rest → ComesNext l.net [] (l.order.items ++ rest);
      counted : length l.order.items + count_by (λ c. not c) l.come.items ≡ length l.net.processes;
    }

abbrev pub decreases-loop-index : goal.decreases-loop-index
decreases-loop-index l = count_by (λ c. not c) l.come.items
