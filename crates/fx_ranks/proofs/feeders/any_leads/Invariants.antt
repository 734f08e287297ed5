use Rattle.std.proofs.Common.{◌≡◌, false, slice_get, take}
use Rattle.std.specs.List.{list_any}
use Rattle.fx_ranks.specs.Feeding.{leads_at}
use Rattle.fx_ranks.proofs.feeders.any_leads.Given as goal

-- none at the places so far leads to the process
abbrev pub invariant-loop-index : goal.invariant-loop-index
invariant-loop-index l = list_any (λ index. leads_at l.linked l.process (slice_get l.linked.exporters index))
    (take l.index-index l.places) ≡ false
