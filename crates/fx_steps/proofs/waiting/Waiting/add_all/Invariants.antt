use Rattle.std.proofs.Common.{◌≡◌, ◌+◌, ◌≤◌, drop, length}
use Rattle.fx_steps.specs.Waiting.{total, holder_counts, link_counts}
use Rattle.fx_steps.proofs.waiting.Waiting.add_all.Given as goal

abbrev pub invariant-loop-one : goal.invariant-loop-one
invariant-loop-one l =
    (holder_counts l.self.held.items (drop l.one-index l.pending) ≡ holder_counts l.initial.self.held.items l.pending)
    × (link_counts l.self.carried.items (drop l.one-index l.pending)
    ≡ link_counts l.initial.self.carried.items l.pending)
    × (length l.self.held.items ≡ length l.initial.self.held.items)
    × (length l.self.carried.items ≡ length l.initial.self.carried.items)
    × (total l.self.held.items ≤ total l.initial.self.held.items + l.one-index)
    × (total l.self.carried.items ≤ total l.initial.self.carried.items + l.one-index)
