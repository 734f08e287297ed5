-- How often a packet, or a record with some key, is counted.
use Rattle.std.specs.Prelude.{◌≡◌, Bool, ℕ, zero, suc, List, [], ◌∷◌, ◌++◌, map, length, Option, Some, None, slice_get, if◌then◌else◌}
use Rattle.fx_elements.specs.Axes.{Fields}
use Rattle.fx_layout.specs.Keys.{Key, refines}
use Rattle.fx_leaf.specs.declared.verdict.Fate.{Fate}
use Rattle.fx_leaf.specs.declared.verdict.Fate.TheVariants.{Never, Once, Many, Differing, Unassigned}
use Rattle.fx_tables.specs.declared.traffic.Crossing.{Crossing}
use Rattle.fx_tables.specs.Network.{Exporter, Holder, Net, exporters_of}
use Rattle.fx_machine.specs.Acts.{Act, Tally, Send, Hold}
use Rattle.fx_machine.specs.Steps.{crossing_acts, coming_to}

-- ---- combining fates

-- both happen: unassigned takes precedence over differing, differing over many; twice once is many; never leaves the
-- other fate
abbrev pub both : Fate → Fate → Fate
both Unassigned g = Unassigned
both f Unassigned = Unassigned
both Differing g = Differing
both f Differing = Differing
both Many g = Many
both f Many = Many
both Once Once = Many
both Never g = g
both f Never = f

abbrev pub all_happen : List Fate → Fate
all_happen [] = Never
all_happen (f ∷ fs) = both f (all_happen fs)

-- one of the two happens: unassigned if either is; otherwise differing if either is or if they differ
abbrev pub either : Fate → Fate → Fate
either Unassigned g = Unassigned
either f Unassigned = Unassigned
either Never Never = Never
either Once Once = Once
either Many Many = Many
either f g = Differing

abbrev pub one_happens : List Fate → Fate
one_happens [] = Never
one_happens (f ∷ []) = f
one_happens (f ∷ g ∷ fs) = either f (one_happens (g ∷ fs))

-- ---- the fate of a key's acts, given the key's fates at collecting processes

-- the fate of a key at each collecting process
abbrev pub FateAt : Type 0
FateAt = ℕ → Key → Fate

abbrev pub process_fate : FateAt → Key → Option ℕ → Fate
process_fate at key None = Never
process_fate at key (Some process) = at process key

-- a record sent to a destination without a link is never counted
abbrev pub destination_fate : FateAt → Net → Key → Option ℕ → Fate
destination_fate at net key None = Never
destination_fate at net key (Some link) = process_fate at key (slice_get net.links link)

-- a parallel exporting process sends to all its destinations, any other exporting process to one of them
abbrev pub send_fate : FateAt → Net → Key → Exporter → Fate
send_fate at net key exporter =
    if exporter.parallel
    then all_happen (map (destination_fate at net key) exporter.destinations)
    else one_happens (map (destination_fate at net key) exporter.destinations)

-- a held record is sent by each exporting process that its holder names
abbrev pub held_fate : FateAt → Net → Key → Option Holder → Fate
held_fate at net key holder = all_happen (map (send_fate at net key) (exporters_of net holder))

-- a key tallied at the report is counted once if its layout refines the report's, otherwise it is unassigned
abbrev pub act_fate : FateAt → Net → Act → Fate
act_fate at net (Tally key) = if refines key.layout net.report_layout then Once else Unassigned
act_fate at net (Send exporter key) = send_fate at net key exporter
act_fate at net (Hold holder key) = held_fate at net key (slice_get net.holders holder)

-- all acts on a key that arrives at a collecting process happen
abbrev pub coming_fate : FateAt → Net → ℕ → Key → Fate
coming_fate at net process key = all_happen (map (act_fate at net) (coming_to net key process))

-- ---- the fate of a key at a collecting process

-- fates at collecting processes that are consistent along the links
abbrev pub AreFates : Net → FateAt → Type 0
AreFates net at = (process : ℕ) (key : Key) → at process key ≡ coming_fate at net process key

-- the fate computed for at most this number of consecutive processes
abbrev pub fate_within : Net → ℕ → FateAt
fate_within net zero process key = Never
fate_within net (suc n) process key = coming_fate (fate_within net n) net process key

-- no record passes more processes than the network has: if each link leads to a process of higher rank, these are
-- consistent fates in the sense above, and the only ones
abbrev pub fate : Net → FateAt
fate net = fate_within net (length net.processes)

-- ---- the fate of a packet

-- the acts on a packet at each of these crossings
abbrev pub acts_along : Net → Fields → List Crossing → List Act
acts_along net fields [] = []
acts_along net fields (c ∷ cs) = crossing_acts net fields (Some c) ++ acts_along net fields cs

-- the fate required of a packet: an exempt packet must never be counted
abbrev pub wanted_fate : Bool → Fate
wanted_fate exempt = if exempt then Never else Once

-- all acts over the packet's whole path happen
abbrev pub packet_fate : Net → Fields → List Crossing → Fate
packet_fate net fields crossings = all_happen (map (act_fate (fate net) net) (acts_along net fields crossings))
