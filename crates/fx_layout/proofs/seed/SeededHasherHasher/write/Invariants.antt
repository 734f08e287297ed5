use Rattle.std.proofs.Common.{◌≡◌, ◌≤◌, length, ◌-◌, ◌/◌, ◌%◌, drop}
use Rattle.fx_layout.specs.Seeds.{after_words, after_octets}
use Rattle.fx_layout.proofs.seed.SeededHasherHasher.write.Given as goal

abbrev pub invariant-loop-at : goal.invariant-loop-at
invariant-loop-at l = (l.at % 8 ≡ 0) × (l.at ≤ length l.bytes)
    × (l.state ≡ after_words l.bytes l.self.second l.initial.state (l.at / 8))

abbrev pub decreases-loop-at : goal.decreases-loop-at
decreases-loop-at l = length l.bytes - l.at

abbrev pub invariant-loop-octet : goal.invariant-loop-octet
invariant-loop-octet l = after_octets l.self.second l.state (drop l.octet-index l.octet-items)
    ≡ after_octets l.self.second l.initial.state l.octet-items
