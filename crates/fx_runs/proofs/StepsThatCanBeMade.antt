-- Steps that can be made.
use Rattle.std.proofs.Common.{◌≡◌, ◌≢◌, ℕ, suc, ◌+◌, ◌%◌, ◌^◌, ◌==◌, Bool, true, false, cond, List, [], ◌∷◌, ◌++◌, drop, option_and_then, remove, slice_get, slice_set, refl, ap, sym, ◌∙◌, append_assoc, append-nil, Option, Some, None, Ok}
use Rattle.fx_layout.specs.Keys.{refines, project}
use Rattle.fx_tables.specs.declared.holding.Holding.{Holding}
use Rattle.fx_tables.specs.declared.packet.Packet.{Packet}
use Rattle.fx_tables.specs.declared.traffic.Crossing.{Crossing}
use Rattle.fx_tables.specs.declared.record.Record.{Record}
use Rattle.fx_tables.specs.declared.holder_name.HolderName.{HolderName}
use Rattle.fx_run_text.specs.declared.step.Step.TheVariants.{Cross, Expire, Arrive}
use Rattle.fx_tables.specs.Network.{Net, Exporter, Process, entries, at_places, before, named_by, holder_place}
use Rattle.fx_base.specs.Entries.{entry_numbered}
use Rattle.fx_tables.specs.Classes.{Class, path}
use Rattle.fx_tables.specs.Occurrences.{occurrences}
use Rattle.fx_machine.specs.States.{State, without, add_at, after_tally}
use Rattle.fx_machine.specs.Acts.{Choices, Act, Outcome, all_acts}
use Rattle.fx_machine.specs.Sends.{put_all, link_list, links_of, Chosen, next_destination, chosen_from}
use Rattle.fx_machine.specs.Holds.{hold_all}
use Rattle.fx_tables.specs.Takers.{intakes}
use Rattle.fx_machine.specs.Tallies.{totals_when, unassigned_when}
use Rattle.fx_machine.specs.Steps.{one_packet, crossing_acts, place, after_cross, after}
use Rattle.fx_machine.proofs.StepOutcomes.{held_out, holds_are, expire_is, arrive_is}
use Rattle.fx_machine.proofs.MeteringActs.{met_acts, handling_is}
use Rattle.fx_runs.specs.Destinations.{number_in_use, AllUsable, link_of, used_by, links_used, in_use, sent_by}
use Rattle.fx_runs.specs.Making.{intakes_at, tallied_at}

-- ---- the destinations in use are chosen

abbrev pub choosing : List ℕ → Choices → Option Chosen
choosing links rest = Some (record { links = links; rest = rest })

module _ (es : List Exporter) (cs more : Choices) (used : List ℕ) (e : Exporter) (n : ℕ) where
  -- the others choose their links, whichever were chosen before
  abbrev Others : Type 0
  Others = (links : List ℕ) → chosen_from links es (cs ++ more) ≡ choosing (links ++ used) more

  one_chosen : Others → (links : List ℕ) (o : Option (Option ℕ)) → o ≢ None
      → option_and_then (λ d. chosen_from (links ++ link_list d) es (cs ++ more)) o
      ≡ choosing (links ++ (link_of o ++ used)) more
  one_chosen others links None there = absurd (there refl)
  one_chosen others links (Some d) there = others (links ++ link_list d)
      ∙ ap (λ (ls : List ℕ). choosing ls more) (append_assoc links (link_list d) used)

  abbrev chosen_with : Bool → Choices
  chosen_with parallel = (cond parallel [] (Some n ∷ []) ++ cs) ++ more

  exporter_chosen : Others → (links : List ℕ) → (e.parallel ≡ false → entry_numbered e.destinations n ≢ None)
      → chosen_from links (e ∷ es) ((in_use (Some e) n ++ cs) ++ more)
      ≡ choosing (links ++ (used_by (Some e) n ++ used)) more
  exporter_chosen others links there = by e.parallel there where
    by : (b : Bool) → (b ≡ false → entry_numbered e.destinations n ≢ None)
        → cond b (chosen_from (links ++ links_of e.destinations) es (chosen_with b))
        (option_and_then (λ d. chosen_from (links ++ link_list d) es (drop 1 (chosen_with b)))
        (next_destination e.destinations (chosen_with b)))
        ≡ choosing (links ++ (cond b (links_of e.destinations) (link_of (entry_numbered e.destinations n)) ++ used))
        more
    by true there =
        others (links ++ links_of e.destinations)
        ∙ ap (λ (ls : List ℕ). choosing ls more) (append_assoc links (links_of e.destinations) used)
    by false there = one_chosen others links (entry_numbered e.destinations n) (there refl)

module _ (net : Net) (chosen : List ℕ) (usable : AllUsable net chosen) where
  place_chosen : (places : List ℕ) (links : List ℕ) (more : Choices) (place : ℕ) (o : Option Exporter)
      → slice_get net.exporters place ≡ o
      → ((before : List ℕ) → chosen_from before (at_places net.exporters places) (sent_by net chosen places ++ more)
      ≡ choosing (before ++ links_used net chosen places) more)
      → chosen_from links (before o (at_places net.exporters places))
      ((in_use o (number_in_use chosen place) ++ sent_by net chosen places) ++ more)
      ≡ choosing (links ++ (used_by o (number_in_use chosen place) ++ links_used net chosen places)) more
  place_chosen places links more place None is others = others links
  place_chosen places links more place (Some e) is others =
      exporter_chosen (at_places net.exporters places) (sent_by net chosen places) more (links_used net chosen places) e
      (number_in_use chosen place) others links (usable place e is)

  -- by the choices of some exporting processes just the links are chosen that they use
  pub in_use_chosen : (places : List ℕ) (links : List ℕ) (more : Choices)
      → chosen_from links (at_places net.exporters places) (sent_by net chosen places ++ more)
      ≡ choosing (links ++ links_used net chosen places) more
  in_use_chosen [] links more = ap (λ (ls : List ℕ). choosing ls more) (sym (append-nil links))
  in_use_chosen (place ∷ places) links more =
      place_chosen places links more place (slice_get net.exporters place) refl
      (λ before. in_use_chosen places before more)

-- ---- a record leaves a holder

pub expires_are_made : (net : Net) (classes : List Class) (packets : List Packet) (chosen : List ℕ) (s : State)
    (name : HolderName) (holder number : ℕ) (rs : List Record) (r : Record) → AllUsable net chosen
    → holder_place net name ≡ Some holder → slice_get s.held holder ≡ Some rs → entry_numbered rs number ≡ Some r
    → after net classes packets (Expire name number (sent_by net chosen (named_by (slice_get net.holders holder)))) s
    ≡ Ok (record s {
      held = slice_set s.held holder (without rs number);
      carried =
          put_all (links_used net chosen (named_by (slice_get net.holders holder))) r s.carried;
    })
expires_are_made net classes packets chosen s name holder number rs r usable h g n =
    let places : List ℕ = named_by (slice_get net.holders holder) in
    let cs : Choices = sent_by net chosen places in
    let links : List ℕ = links_used net chosen places in
    let made : chosen_from [] (at_places net.exporters places) cs ≡ choosing links [] =
    ap (chosen_from [] (at_places net.exporters places)) (sym (append-nil cs))
    ∙ in_use_chosen net chosen usable places [] [] in
    expire_is net name number cs s.coming s.held s.carried s.totals (s.unassigned % 2 ^ 64) s refl holder rs r
    (choosing links []) (sym h) (sym g) (sym n) made
    ∙ ap (λ (o : Option (List Record)). let t : Outcome =
    Ok (record s {
      held = slice_set s.held holder (without (entries o) number);
      carried =
          put_all links r s.carried;
    }) in t) g

-- ---- a record arrives

-- tallied or not, it is sent and taken in
arrived_is : (net : Net) (s : State) (r : Record) (now carried : List (List Record)) (b : Bool)
    → record s {
      held = now;
      carried = carried;
      totals =
          totals_when b net.report_layout r.key r.counts s.totals;
      unassigned =
          unassigned_when b net.report_layout r.key s.unassigned;
    }
    ≡ record (cond b (after_tally net r.key r.counts s) s) { held = now; carried = carried }
arrived_is net s r now carried true =
    elim (refines r.key.layout net.report_layout)
    as (λ b. record s {
      held = now;
      carried = carried;
      totals =
          cond b (add_at s.totals (project r.key net.report_layout) r.counts) s.totals;
      unassigned =
          cond b s.unassigned (s.unassigned + 1);
    }
    ≡ record (cond b (record s { totals = add_at s.totals (project r.key net.report_layout) r.counts })
    (record s { unassigned = s.unassigned + 1 })) { held = now; carried = carried }) [
      | true ↦ refl
      | false ↦ refl
    ]
arrived_is net s r now carried false = refl

pub arrives_are_made : (net : Net) (classes : List Class) (packets : List Packet) (chosen : List ℕ) (s : State)
    (link to : ℕ) (process : Process) (r : Record) (rs : List Record) (joined : Choices) (now : List (List Record))
    → AllUsable net chosen
    → slice_get s.carried link ≡ Some (r ∷ rs) → slice_get net.links link ≡ Some to → slice_get net.processes to
    ≡ Some process
    → hold_all r.counts (intakes net.holders r.key process.aggregations) s.held joined ≡ Some now
    → after net classes packets (Arrive (suc link) 1 (sent_by net chosen process.exporters ++ joined)) s
    ≡ Ok (record (tallied_at net to r (record s { carried = slice_set s.carried link rs }))
    { held = now; carried = put_all (links_used net chosen process.exporters) r (slice_set s.carried link rs) })
arrives_are_made net classes packets chosen s link to process r rs joined now usable g l p taken =
    let places : List ℕ = process.exporters in
    let hs : List Holding = intakes net.holders r.key process.aggregations in
    let cs : Choices = sent_by net chosen places ++ joined in
    let links : List ℕ = links_used net chosen places in
    let tallies : Bool = to == net.report in
    let then : List (List Record) → State =
    λ carried. record s {
      carried = carried;
      totals =
          totals_when tallies net.report_layout r.key r.counts s.totals;
      unassigned =
          unassigned_when tallies net.report_layout r.key s.unassigned;
    } in
    arrive_is net (suc link) 1 cs s.coming s.held s.carried s.totals (s.unassigned % 2 ^ 64) s refl link (r ∷ rs) r
    tallies places hs (choosing links joined) refl (sym g) refl
    (handling_is net r.key link to process places hs (sym l) (sym p) refl refl)
    (in_use_chosen net chosen usable places [] joined)
    ∙ ap (λ (o : Option (List Record)). held_out
    (then (put_all links r (slice_set s.carried link (without (entries o) 1))))
    (hold_all r.counts hs s.held joined)) g
    ∙ ap (held_out (then (put_all links r (slice_set s.carried link rs)))) taken
    ∙ ap (λ (t : State). let o : Outcome = Ok t in o)
    (arrived_is net (record s { carried = slice_set s.carried link rs }) r now
    (put_all links r (slice_set s.carried link rs)) tallies)

-- ---- a packet crosses

pub crosses_are_made : (net : Net) (classes : List Class) (packets : List Packet) (s : State) (i j n : ℕ) (p : Packet)
    (crossing : Crossing) (choices : Choices) (now : List (List Record))
    → entry_numbered packets i ≡ Some p → place s.coming i j ≡ Some n → entry_numbered (path classes p) j
    ≡ Some crossing
    → hold_all (one_packet p) (intakes_at net p.fields crossing) s.held choices ≡ Some now
    → after net classes packets (Cross i j choices) s ≡ Ok (record s { coming = remove s.coming n; held = now })
crosses_are_made net classes packets s i j n p crossing choices now k c a taken =
    let t : State = record s { coming = remove s.coming n } in
    ap (λ (o : Option Packet). after_cross net classes o (place s.coming i j) j s choices) k
    ∙ ap (λ (o : Option ℕ). after_cross net classes (Some p) o j s choices) c
    ∙ ap (λ (o : Option Crossing). all_acts net (one_packet p) (crossing_acts net p.fields o) t choices) a
    ∙ ap (λ (acts : List Act). all_acts net (one_packet p) acts t choices)
    (sym (met_acts net p.fields (occurrences net crossing p.fields)))
    ∙ holds_are net (one_packet p) (intakes_at net p.fields crossing) t s.held choices
    ∙ ap (held_out t) taken
