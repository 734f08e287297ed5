-- A complete run: one crossing after another, each emptied before the next.
use Rattle.std.proofs.Common.{◌≡◌, ℕ, zero, suc, ◌+◌, ◌<◌, ◌≤◌, true, false, cond, ◌&&◌, List, [], ◌∷◌, length, All, Option, Some, None, IfSome, refl, ap, ap₂, arith, eq-eqb, slice_get}
use Rattle.std.proofs.lemmas.List.Elements.{All-nil, All-cons, All-head, All-tail, All-append}
use Rattle.fx_elements.specs.Axes.{Fields}
use Rattle.fx_layout.specs.Keys.{key_of}
use Rattle.fx_tables.specs.declared.observation.Occurrence.{Occurrence}
use Rattle.fx_tables.specs.declared.observation.Selection.{Selection}
use Rattle.fx_tables.specs.declared.packet.Packet.{Packet}
use Rattle.fx_tables.specs.declared.record.Record.{Record}
use Rattle.fx_tables.specs.declared.traffic.Crossing.{Crossing}
use Rattle.fx_tables.specs.Network.{Net, Point, DeviceEntry, points_of, layout_of}
use Rattle.fx_base.specs.Entries.{entry_numbered}
use Rattle.fx_tables.specs.Classes.{Class, path}
use Rattle.fx_tables.specs.Occurrences.{selects, occurrence, met_by, watches, met_at, occurrences}
use Rattle.fx_machine.specs.States.{State, Coming, crossings_from, coming_from, nothing_at}
use Rattle.fx_machine.specs.Steps.{one_packet, crossing_acts, place, later}
use Rattle.fx_machine.specs.Moves.{Runs, ended, moved, crosses}
use Rattle.fx_tables.specs.Ranks.{IsRanked}
use Rattle.fx_tables.specs.Runnable.{IsHolder, HasCaches, IsRunnable}
use Rattle.fx_machine.specs.CompleteRun.{HasCompleteRun}
use Rattle.fx_machine.proofs.Lists.{nothing_empty, length_nothing}
use Rattle.fx_machine.proofs.RunsAreMoves.{runs_on}
use Rattle.fx_machine.proofs.LastLeaves.{there}
use Rattle.fx_machine.proofs.ActsCanLeave.{known_at, Empties, holds_empty, can_hold}

known_numbered : {A : Type 0} (P : A → Type 0) (xs : List A) → All P xs → (n : ℕ) → IfSome (entry_numbered xs n) P
known_numbered P xs h zero = tt
known_numbered P xs h (suc n) = known_at P xs h n

-- ---- the holders that take a packet in

module _ (net : Net) where
  abbrev MetBy : Occurrence → Type 0
  MetBy o = IsHolder net o.holder

  abbrev PointHas : Point → Type 0
  PointHas p = All (λ (s : Selection). IfSome s.holder (IsHolder net)) p.selections

  occurrence_met : (point process : ℕ) (o : Option ℕ) → IfSome o (IsHolder net) → All MetBy (occurrence point process o)
  occurrence_met point process None h = All-nil MetBy
  occurrence_met point process (Some holder) h =
      All-cons MetBy (record { point = point; process = process; holder = holder }) [] h (All-nil MetBy)

  selections_met : (point process : ℕ) (ss : List Selection) (fields : Fields)
      → All (λ s. IfSome s.holder (IsHolder net)) ss → All MetBy (met_by point process ss fields)
  selections_met point process [] fields h = All-nil MetBy
  selections_met point process (s ∷ ss) fields h =
      let P : Selection → Type 0 = λ s. IfSome s.holder (IsHolder net) in
      let here = elim (selects s.region fields) as (λ b. All MetBy (cond b (occurrence point process s.holder) []))
      [ true ↦ occurrence_met point process s.holder (All-head P s ss h) | false ↦ All-nil MetBy ] in
      All-append MetBy _ _ here (selections_met point (process + 1) ss fields (All-tail P s ss h))

  points_met : (n : ℕ) (points : List Point) (crossing : Crossing) (fields : Fields) → All PointHas points
      → All MetBy (met_at n points crossing fields)
  points_met n [] crossing fields h = All-nil MetBy
  points_met n (point ∷ points) crossing fields h =
      let here = elim (watches point crossing) as (λ b. All MetBy (cond b (met_by n 1 point.selections fields) [])) [
        | true ↦ selections_met n 1 point.selections fields (All-head PointHas point points h)
        | false ↦
            All-nil MetBy
      ] in
      All-append MetBy _ _ here (points_met (n + 1) points crossing fields (All-tail PointHas point points h))

  device_met : (o : Option DeviceEntry) (crossing : Crossing) (fields : Fields) → IfSome o (HasCaches net)
      → All MetBy (met_at 1 (points_of o) crossing fields)
  device_met None crossing fields h = All-nil MetBy
  device_met (Some device) crossing fields h = points_met 1 device.points crossing fields h

-- ---- one crossing after another

module _ (net : Net) (classes : List Class) (packets : List Packet) (ranked : IsRanked net) (runnable : IsRunnable net)
  where
    crossing_empties : (p : Packet) (o : Option Crossing)
        → Empties net classes packets (one_packet p) (crossing_acts net p.fields o)
    crossing_empties p None = holds_empty net classes packets (one_packet p) (λ (n : ℕ). n) (λ n. key_of [] p.fields) []
        (All-nil _)
    crossing_empties p (Some crossing) =
        let met = device_met net (entry_numbered net.devices crossing.device) crossing p.fields
        (known_numbered (HasCaches net) net.devices runnable.caches crossing.device) in
        holds_empty net classes packets (one_packet p) (λ (o : Occurrence). o.holder)
        (λ o. key_of (layout_of (slice_get net.holders o.holder)) p.fields) (occurrences net crossing p.fields)
        (λ i o lt. can_hold net classes packets (one_packet p) ranked runnable _ (met i o lt))

    -- the packet of a crossing to come is there
    abbrev Known : Coming → Type 0
    Known c = (p : Packet) × (entry_numbered packets c.packet ≡ Some p)

    packet_known : (n crossing : ℕ) → n < length packets → Known (record { packet = suc n; crossing = crossing })
    packet_known n crossing lt = there packets n lt

    crossings_known : (n crossing : ℕ) (cs : List Crossing) → n < length packets
        → All Known (crossings_from (suc n) crossing cs)
    crossings_known n crossing [] lt = All-nil Known
    crossings_known n crossing (c ∷ cs) lt =
        All-cons Known (record { packet = suc n; crossing = crossing }) (crossings_from (suc n) (suc crossing) cs)
        (packet_known n crossing lt) (crossings_known n (suc crossing) cs lt)

    all_known : (n : ℕ) (ps : List Packet) → n + length ps ≤ length packets → All Known (coming_from classes (suc n) ps)
    all_known n [] le = All-nil Known
    all_known n (p ∷ ps) le =
        All-append Known (crossings_from (suc n) 1 (path classes p)) (coming_from classes (suc (suc n)) ps)
        (crossings_known n 1 (path classes p) (omega arith)) (all_known (suc n) ps (omega arith))

    -- nothing is held or carried
    abbrev between : List Coming → List Record → ℕ → State
    between cs totals unassigned = record {
      coming = cs;
      held = nothing_at net.holders;
      carried =
          nothing_at net.links;
      totals = totals;
      unassigned = unassigned;
    }

    placed_first : (c : Coming) (cs : List Coming) → place (c ∷ cs) c.packet c.crossing ≡ Some 0
    placed_first c cs =
        ap (λ b. cond b (Some 0) (later (place cs c.packet c.crossing)))
        (ap₂ (λ a b. a && b) (eq-eqb c.packet c.packet refl) (eq-eqb c.crossing c.crossing refl))

    crossed : (cs : List Coming) (totals : List Record) (unassigned : ℕ) → All Known cs → (ts : List Record) × (n : ℕ)
        × Runs net classes packets (between cs totals unassigned) (between [] ts n)
    crossed [] totals unassigned known = (
      totals,
      unassigned,
      ended (between [] totals unassigned)
          (between [] totals unassigned) refl,
    )
    crossed (c ∷ cs) totals unassigned known =
        let p = All-head Known c cs known in
        let one = crossing_empties p.0 (entry_numbered (path classes p.0) c.crossing) (between cs totals unassigned)
        (length_nothing net.holders) (length_nothing net.links) in
        let rest = crossed cs one.totals one.unassigned (All-tail Known c cs known) in
        let start = between (c ∷ cs) totals unassigned in
        let next = between cs one.totals one.unassigned in
        let end = between [] rest.0 rest.1 in (
          rest.0,
          rest.1,
          moved start one.mid end (crosses c.packet c.crossing 0 p.0 p.1 (placed_first c cs) one.done)
              (runs_on net classes packets one.mid next end one.emptied rest.2),
        )

pub complete_runs_exist : (net : Net) (classes : List Class) (packets : List Packet) → IsRanked net → IsRunnable net
    → HasCompleteRun net classes packets
complete_runs_exist net classes packets ranked runnable =
    let run = crossed net classes packets ranked runnable (coming_from classes 1 packets) [] 0
    (all_known net classes packets ranked runnable 0 packets (omega arith)) in
    record {
      final = between net classes packets ranked runnable [] run.0 run.1;
      runs = run.2;
      complete = record {
        crossed = refl;
        nothing_held = nothing_empty net.holders;
        nothing_carried =
            nothing_empty net.links;
      };
    }
