-- The invariant of every step: the totals, with each record in transit and each pending crossing weighted by its fate.
use Rattle.std.specs.Prelude.{ℕ, zero, suc, List, [], ◌∷◌, Option, Some, None, slice_get, if◌then◌else◌}
use Rattle.fx_base.specs.declared.counts.Counts.{Counts}
use Rattle.fx_base.specs.Counts.{add_counts}
use Rattle.fx_layout.specs.Keys.{Key, project, same_key}
use Rattle.fx_tables.specs.declared.record.Record.{Record}
use Rattle.fx_tables.specs.declared.packet.Packet.{Packet}
use Rattle.fx_machine.specs.Claim.{counts_modulo}
use Rattle.fx_base.specs.Entries.{entry_numbered}
use Rattle.fx_tables.specs.Network.{Net}
use Rattle.fx_tables.specs.Classes.{Class, path}
use Rattle.fx_machine.specs.States.{State, Coming}
use Rattle.fx_machine.specs.Acts.{Act, Tally, Send, Hold}
use Rattle.fx_machine.specs.Steps.{crossing_acts, one_packet}
use Rattle.fx_machine.specs.Sums.{total_at}
use Rattle.fx_leaf.specs.declared.verdict.Fate.{Fate}
use Rattle.fx_leaf.specs.declared.verdict.Fate.TheVariants.{Never, Once, Many, Differing, Unassigned}
use Rattle.fx_leaf.specs.Fates.{FateAt, act_fate, held_fate, process_fate, fate}

-- what a record adds to the total of one report key
pub data Weight : Type 0 where
  Wrong : Weight  -- no one number: it is counted more than once, or unassigned, or as chosen
  Nothing : Weight  -- not even an entry
  Counted : (counts : Counts) → Weight

-- the sum of two weights: counts are added modulo 2 to the 64
abbrev pub plus : Weight → Weight → Weight
plus Wrong y = Wrong
plus Nothing y = y
plus (Counted a) Wrong = Wrong
plus (Counted a) Nothing = Counted a
plus (Counted a) (Counted b) = Counted (add_counts a b)

abbrev pub weigh_all : {A : Type 0} → (A → Weight) → List A → Weight
weigh_all f [] = Nothing
weigh_all f (x ∷ xs) = plus (f x) (weigh_all f xs)

-- the sum of the weights of all items, each computed with the item's index
abbrev pub weigh_each : {A : Type 0} → (ℕ → A → Weight) → List A → Weight
weigh_each f [] = Nothing
weigh_each f (x ∷ xs) = plus (f 0 x) (weigh_each (λ n. f (suc n)) xs)

-- the counts, if the report's layout projects the key to this report key
abbrev pub part_of : Net → Key → Key → Counts → Weight
part_of net total key counts = if same_key (project key net.report_layout) total then Counted counts else Nothing

-- nothing if the record is never counted, its weight if it is counted once
abbrev pub by_fate : Fate → Weight → Weight
by_fate Never w = Nothing
by_fate Once w = w
by_fate Many w = Wrong
by_fate Differing w = Wrong
by_fate Unassigned w = Wrong

abbrev pub key_of_act : Act → Key
key_of_act (Tally key) = key
key_of_act (Send exporter key) = key
key_of_act (Hold holder key) = key

abbrev pub act_weight : FateAt → Net → Key → Counts → Act → Weight
act_weight at net total counts a = by_fate (act_fate at net a) (part_of net total (key_of_act a) counts)

abbrev pub held_weight : FateAt → Net → Key → ℕ → List Record → Weight
held_weight at net total holder records =
    weigh_all (λ r. by_fate (held_fate at net r.key (slice_get net.holders holder)) (part_of net total r.key r.counts))
    records

abbrev pub carried_weight : FateAt → Net → Key → ℕ → List Record → Weight
carried_weight at net total link records =
    weigh_all (λ r. by_fate (process_fate at r.key (slice_get net.links link)) (part_of net total r.key r.counts))
    records

abbrev pub packet_weight : FateAt → Net → List Class → Key → Option Packet → ℕ → Weight
packet_weight at net classes total None crossing = Nothing
packet_weight at net classes total (Some p) crossing =
    weigh_all (act_weight at net total (one_packet p))
    (crossing_acts net p.fields (entry_numbered (path classes p) crossing))

abbrev pub coming_weight : FateAt → Net → List Class → List Packet → Key → Coming → Weight
coming_weight at net classes packets total c =
    packet_weight at net classes total (entry_numbered packets c.packet) c.crossing

abbrev pub total_weight : Option Counts → Weight
total_weight None = Nothing
total_weight (Some counts) = Counted counts

-- the weight modulo 2 to the 64
abbrev pub wrapped_weight : Weight → Weight
wrapped_weight Wrong = Wrong
wrapped_weight Nothing = Nothing
wrapped_weight (Counted counts) = Counted (counts_modulo counts)

abbrev pub unassigned_weight : ℕ → Weight
unassigned_weight zero = Nothing
unassigned_weight (suc n) = Wrong

-- the sum of the totals at a report key, each held record, each record on a link and each pending crossing; a record
-- that
-- is unassigned makes the sum wrong
abbrev pub quantity_by : FateAt → Net → List Class → List Packet → Key → State → Weight
quantity_by at net classes packets total s =
    plus (unassigned_weight s.unassigned) (plus (total_weight (total_at s.totals total))
    (plus (weigh_each (held_weight at net total) s.held)
    (plus (weigh_each (carried_weight at net total) s.carried)
    (weigh_all (coming_weight at net classes packets total) s.coming))))

abbrev pub quantity : Net → List Class → List Packet → Key → State → Weight
quantity net = quantity_by (fate net) net
