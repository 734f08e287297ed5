-- Steps can be made with the destinations in use, and what they make.
use Rattle.std.specs.Prelude.{◌≡◌, ℕ, suc, List, ◌∷◌, ◌++◌, ◌==◌, remove, slice_get, slice_set, Some, Ok, if◌then◌else◌}
use Rattle.fx_elements.specs.Axes.{Fields}
use Rattle.fx_tables.specs.declared.holding.Holding.{Holding}
use Rattle.fx_tables.specs.declared.packet.Packet.{Packet}
use Rattle.fx_tables.specs.declared.record.Record.{Record}
use Rattle.fx_tables.specs.declared.holder_name.HolderName.{HolderName}
use Rattle.fx_run_text.specs.declared.step.Step.TheVariants.{Cross, Expire, Arrive}
use Rattle.fx_tables.specs.declared.traffic.Crossing.{Crossing}
use Rattle.fx_tables.specs.Network.{Net, Process, named_by, holder_place}
use Rattle.fx_base.specs.Entries.{entry_numbered}
use Rattle.fx_tables.specs.Classes.{Class, path}
use Rattle.fx_tables.specs.Occurrences.{occurrences}
use Rattle.fx_machine.specs.States.{State, without, after_tally}
use Rattle.fx_machine.specs.Acts.{Choices}
use Rattle.fx_machine.specs.Sends.{put_all}
use Rattle.fx_machine.specs.Holds.{hold_all}
use Rattle.fx_tables.specs.Holdings.{met_holdings}
use Rattle.fx_tables.specs.Takers.{intakes}
use Rattle.fx_machine.specs.Steps.{one_packet, place, after}
use Rattle.fx_runs.specs.Destinations.{AllUsable, links_used, sent_by}

-- the holders that meter a packet at a crossing, with its keys
abbrev pub intakes_at : Net → Fields → Crossing → List Holding
intakes_at net fields crossing = met_holdings net.holders fields (occurrences net crossing fields)

-- at the report's process, the record is tallied
abbrev pub tallied_at : Net → ℕ → Record → State → State
tallied_at net process r s = if process == net.report then after_tally net r.key r.counts s else s

-- ---- the laws

-- A held record can leave, and is put on the links of the destinations in use.
abbrev pub ExpiresAreMade : Type 0
ExpiresAreMade =
    (net : Net) (classes : List Class) (packets : List Packet) (chosen : List ℕ) (s : State)
    (name : HolderName) (holder : ℕ) (number : ℕ) (rs : List Record) (r : Record)
    → AllUsable net chosen
    → holder_place net name ≡ Some holder → slice_get s.held holder ≡ Some rs
    → entry_numbered rs number ≡ Some r
    → after net classes packets
    (Expire name number (sent_by net chosen (named_by (slice_get net.holders holder)))) s
    ≡ Ok (record s {
      held = slice_set s.held holder (without rs number);
      carried = put_all (links_used net chosen (named_by (slice_get net.holders holder))) r s.carried;
    })

-- The first record on a link can arrive, if the aggregations that accept it can add it by these choices.
abbrev pub ArrivesAreMade : Type 0
ArrivesAreMade =
    (net : Net) (classes : List Class) (packets : List Packet) (chosen : List ℕ) (s : State)
    (link : ℕ) (to : ℕ) (process : Process) (r : Record) (rs : List Record)
    (joined : Choices) (now : List (List Record))
    → AllUsable net chosen
    → slice_get s.carried link ≡ Some (r ∷ rs)
    → slice_get net.links link ≡ Some to → slice_get net.processes to ≡ Some process
    → hold_all r.counts (intakes net.holders r.key process.aggregations) s.held joined ≡ Some now
    → after net classes packets
    (Arrive (suc link) 1 (sent_by net chosen process.exporters ++ joined)) s
    ≡ Ok (record (tallied_at net to r (record s { carried = slice_set s.carried link rs })) {
      held = now;
      carried = put_all (links_used net chosen process.exporters) r (slice_set s.carried link rs);
    })

-- A crossing that is to come can be made, if the caches that meter it can add the packet by these choices.
abbrev pub CrossesAreMade : Type 0
CrossesAreMade =
    (net : Net) (classes : List Class) (packets : List Packet) (s : State)
    (i : ℕ) (j : ℕ) (n : ℕ) (p : Packet) (crossing : Crossing)
    (choices : Choices) (now : List (List Record))
    → entry_numbered packets i ≡ Some p → place s.coming i j ≡ Some n
    → entry_numbered (path classes p) j ≡ Some crossing
    → hold_all (one_packet p) (intakes_at net p.fields crossing) s.held choices ≡ Some now
    → after net classes packets (Cross i j choices) s
    ≡ Ok (record s { coming = remove s.coming n; held = now })
