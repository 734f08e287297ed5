use Rattle.std.proofs.Common.{◌≡◌, ◌&&◌, ◌==◌, true, take}
use Rattle.std.specs.List.{list_all}
use Rattle.fx_layout.specs.Keys.{bits_on, reads}
use Rattle.fx_tables.proofs.takers.matches.Given as goal

-- the key has the bits of the entries so far
abbrev pub invariant-loop-entry : goal.invariant-loop-entry
invariant-loop-entry l = list_all (λ e. reads l.key.layout e.axis e.bits && bits_on l.key e.axis e.bits == e.value)
    (take l.entry-index l.entries) ≡ true
