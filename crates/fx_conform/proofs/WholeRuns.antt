-- A whole run of a running network is a complete run of the abstract one.
use Rattle.std.proofs.Common.{option_map, ◌≡◌, ℕ, suc, ◌%◌, ◌^◌, true, List, [], ◌∷◌, length, slice_get, refl, ap, sym, ◌∙◌, subst, arith, Option, Some, None, All}
use Rattle.std.proofs.lemmas.List.Elements.{All-nil, All-cons}
use Rattle.fx_base.specs.Lines.{Lines}
use Rattle.fx_tables.specs.declared.packet.Packet.{Packet}
use Rattle.fx_tables.specs.declared.record.Record.{Record}
use Rattle.fx_tables.specs.Network.{Net}
use Rattle.fx_base.specs.Entries.{entry_numbered}
use Rattle.fx_machine.proofs.RunsAreMoves.{runs_of}
use Rattle.fx_machine.specs.Claim.{CountsEachModulo, CountsEachOnce, counts_modulo}
use Rattle.fx_tables.specs.Classes.{Class, IsOf, to_count}
use Rattle.fx_machine.specs.Moves.{Runs}
use Rattle.fx_machine.specs.States.{State, all_empty, opening}
use Rattle.fx_machine.specs.Sums.{total_at}
use Rattle.fx_collect.specs.Totals.{Totals}
use Rattle.fx_link.specs.Links.{Put}
use Rattle.fx_link.specs.Ongoing.{Ongoing}
use Rattle.fx_pcap.specs.Captures as captures
use Rattle.fx_topology.specs.declared.network.NetworkDocument.{NetworkDocument}
use Rattle.fx_ranks.specs.Ranks.{IsWhole}
use Rattle.fx_plan.specs.Tables.{net_of}
use Rattle.fx_net.specs.declared.action.Action.TheVariants as action
use Rattle.fx_net.specs.Contents.{Contents}
use Rattle.fx_net.specs.Doings.{Ended, EmptiesNetwork, ReadsFrame}
use Rattle.fx_net.specs.Running.{RunningNetwork, Closes, ObeysLines, ReadsFrames, RunsTo, begun}
use Rattle.fx_net.specs.Stores.{Stored}
use Rattle.fx_conform.specs.Held.{AreHeld}
use Rattle.fx_conform.specs.Closing.{NothingIsStored, NothingWaits}
use Rattle.fx_conform.specs.Calls.{ClosingsAreRows, GoesOn, GoesToEnd, IsSeenAs}
use Rattle.fx_conform.specs.Conforming.{IsSound}
use Rattle.fx_conform.specs.OnLinks.{AreStill}
use Rattle.fx_conform.specs.Rows.{AllCome, AreRows, Course, IsClosing, Reads, first_course}
use Rattle.fx_conform.specs.Whole.{AreOf, HavePaths, IsRunOf, ReadsLines, RunsAreComplete, TotalsArePlainSums, TotalsAreSumsModulo}
use Rattle.fx_conform.proofs.EmptiedHolders.{holds_nothing}
use Rattle.fx_conform.proofs.LinkLaws.{history_reads, nothing_carries}
use Rattle.fx_conform.proofs.ClosingEnd.{closing_empties}
use Rattle.fx_conform.proofs.NetworkMidway.{there_is_below}
use Rattle.fx_conform.proofs.ClosingSteps.{network_goes, all_by_index}
use Rattle.fx_conform.proofs.Lines.{Same, goes_both, goes_nowhere, goes_to_frame, lines_go, none_below, opening_conforms, reads_one, same_then}

lines_read : (lines : List (List ℕ)) (old new : RunningNetwork) (at to : captures.CaptureState) (from last : Lines)
    (before after : Put) → ObeysLines lines old new at to from last before after → ReadsLines from last lines
lines_read [] old new at to from last before after e = e.2
lines_read (line ∷ lines) old new at to from last before after e =
    (e.2, e.4, e.5, lines_read lines e.0 new e.1 to e.2 last e.3 after e.7)

-- ---- nothing is held or carried any more

held_empty : (stores : List (Option Stored)) (held : List (List Record)) → AreHeld stores held → NothingIsStored stores
    → all_empty held ≡ true
held_empty [] [] h none = refl
held_empty [] (rs ∷ held) h none = absurd h
held_empty (s ∷ stores) [] h none = absurd h
held_empty (s ∷ stores) (rs ∷ held) h none =
    ap (λ (ts : List Record). all_empty (ts ∷ held)) (holds_nothing s rs h.0 (none 0))
    ∙ held_empty stores held h.1 (λ place. none (suc place))

links_wait : (history : ℕ → List ℕ) (all : ℕ → List Record) (links : List Ongoing) (carried : List (List Record))
    → AreStill history all links carried → NothingWaits links
links_wait history all links carried h =
    all_by_index (λ (o : Ongoing). (o.outgoing.batch ≡ []) × (o.outgoing.octets ≡ [])) links
    (λ n o at. by n o at (slice_get carried n) refl) where
      by : (n : ℕ) (o : Ongoing) → slice_get links n ≡ Some o → (c : Option (List Record)) → slice_get carried n ≡ c
          → (o.outgoing.batch ≡ []) × (o.outgoing.octets ≡ [])
      by n o at (Some rs) on = let s = h.each n o rs at on in
          (ap (λ (x : Ongoing). x.outgoing.batch) s.ongoing_is, ap (λ (x : Ongoing). x.outgoing.octets) s.ongoing_is)
      by n o at None on = absurd (none_below carried n
          (let lt = there_is_below links n o at in let e = h.as_many in omega (arith, lt, e)) on)

module _ (network : NetworkDocument) (sound : IsSound (net_of network)) (classes : List Class)
    (paths : HavePaths classes) (begin : Put) where
  abbrev net : Net
  net = net_of network

  -- ---- the packets that are left

  abbrev Comes : captures.CaptureState → captures.CaptureState → Put → Contents → Put → Contents → Type 0
  Comes at to before old after new =
      (from : Course) (s : State) → IsSeenAs net classes begin before old from s → (left : List Packet)
      × GoesOn net classes begin (AllCome net classes left) from at to after new

  frames_go : (frames : List captures.Seen) (old new : RunningNetwork) (at to : captures.CaptureState)
      (before after : Put) → Same network sound classes paths begin old → ReadsFrames frames old new at to before after
      → Comes at to before old.contents after new.contents
  frames_go [] old new at to before after same e =
      λ from s seen. (
        [],
        goes_nowhere network sound classes paths begin at to before after old.contents new.contents
            from s e.1 e.2 (ap (λ (r : RunningNetwork). r.contents) e.0) seen,
      )
  frames_go (frame ∷ frames) old new at to before after same e =
      let mid : RunningNetwork = e.0 in
      let one = e.5 in
      let others = frames_go frames mid new e.1 to e.2 after
      (same_then network sound classes paths begin old mid same one.rest) e.6 in
      let done : Ended (ReadsFrame net classes action.Next frame) before old.contents e.2 mid.contents =
      subst (λ (n : NetworkDocument). Ended (ReadsFrame (net_of n) classes action.Next frame) before old.contents e.2
      mid.contents) same.network_is
      (subst (λ (cs : List Class). Ended (ReadsFrame (net_of old.network) cs action.Next frame) before old.contents e.2
      mid.contents) same.classes_are one.done) in
      λ from s seen.
      let read = reads_one network sound classes paths begin action.Next frame before e.2 old.contents mid.contents from
      s seen done in
      let row : Course → Course → Type 0 = λ a b. Reads net classes action.Next read.packet a b in
      let first = goes_to_frame network sound classes paths begin action.Next row frame at e.1 from e.2 mid.contents e.3
      e.4 read read.reads in
      let rest = others first.course first.state first.seen in (
        read.packet ∷ rest.0,
        goes_both network sound classes paths begin row (AllCome net classes rest.0)
            (AllCome net classes (read.packet ∷ rest.0)) from at e.1 to e.2 after mid.contents new.contents first rest.1
            (λ a b. (first.course, a, b)),
      )

  -- ---- the closing phase

  pub closes_go : (old new : RunningNetwork) (at to : captures.CaptureState) (before after : Put)
      → Same network sound classes paths begin old → Closes old new at to before after
      → (from : Course) (s : State) → IsSeenAs net classes begin before old.contents from s
      → GoesToEnd net classes begin from at to after new.contents
  closes_go old new at to before after same closes from s seen =
      let read = closes.reads.read in
      let come = frames_go read.frames old closes.mid at closes.reads.last before closes.put same read.read from s seen
      in
      let left : List Packet = come.0 in
      let goes = come.1 in
      let mid : Course = goes.course in
      let held = goes.seen.conforms in
      let own : EmptiesNetwork net closes.ranked closes.put closes.mid.contents after new.contents =
      subst (λ (n : NetworkDocument). EmptiesNetwork (net_of n) closes.ranked closes.put closes.mid.contents after
      new.contents) same.network_is closes.empties in
      let whole : IsWhole net closes.ranked =
      subst (λ (n : NetworkDocument). IsWhole (net_of n) closes.ranked) same.network_is closes.whole in
      let last = network_goes net sound classes begin mid.packets mid.chosen closes.ranked closes.put
      closes.mid.contents after new.contents mid.steps goes.state held goes.seen.chosen_are own in
      let end = last.conforms in
      let links : length closes.mid.contents.links ≡ length net.links = sym held.links.as_many ∙ held.as_many in
      let empty = closing_empties net closes.ranked closes.put after closes.mid.contents new.contents whole links
      held.stores.usable held.stores.named
      (links_wait held.history _ closes.mid.contents.links goes.state.carried held.links) own in
      record {
        last = closes.reads.last;
        end = closes.reads.end;
        ranked = closes.ranked;
        whole = whole;
        left = left;
        goes = record {
          frames = goes.frames;
          goes_on = goes.goes_on;
          read = goes.read;
          are_of = goes.are_of;
          course = record { chosen = mid.chosen; packets = mid.packets; steps = last.to };
          packets_are = goes.packets_are;
          rows_are = (mid, goes.rows_are, (last.to, last.shaped, refl));
          state = last.state;
          seen = record { chosen_are = last.chosen_are; conforms = end };
        };
        complete = record {
          crossed = end.crossed;
          nothing_held = held_empty new.contents.stores last.state.held end.stores.held empty.0;
          nothing_carried = nothing_carries end.history _ new.contents.links last.state.carried end.links empty.1;
        };
      }

  -- ---- all of it

  pub completes : (at to : captures.CaptureState) (from last : Lines) (after : Put) (totals : Totals)
      → RunsTo (begun network classes) at to from last begin after totals
      → IsRunOf network classes at to from last begin after totals
  completes at to from last after totals r =
      let runs = r.runs in
      let obeyed = runs.obeys.obeyed in
      let first : RunningNetwork = begun network classes in
      let same : Same network sound classes paths begin first = record { network_is = refl; classes_are = refl } in
      let lines = lines_go network sound classes paths begin obeyed.lines first runs.mid at runs.on from
      runs.obeys.behind begin runs.put same obeyed.obeyed in
      let a = lines.1 (first_course net) (opening net classes []) (opening_conforms network classes begin sound) in
      let b = closes_go runs.mid r.new runs.on to runs.put after lines.0 runs.closes a.course a.state a.seen in
      let all = goes_both network sound classes paths begin (AreRows network classes obeyed.lines)
      (IsClosing net classes b.ranked b.left) (λ _ course. course ≡ b.goes.course) (first_course net) at runs.on
      b.last runs.put after runs.mid.contents r.new.contents a b.goes (λ _ _. refl) in
      let end = b.goes.seen.conforms in
      record {
        frames = all.frames;
        last = b.last;
        goes_on = all.goes_on;
        end = b.end;
        course = b.goes.course;
        are_of = subst (AreOf classes all.frames)
            (sym all.packets_are ∙ ap (λ (course : Course). course.packets) all.rows_are) all.are_of;
        final = b.goes.state;
        run_is = end.run_is;
        complete = b.complete;
        in_order = record {
          lines = obeyed.lines;
          behind = runs.obeys.behind;
          read = lines_read obeyed.lines first runs.mid at runs.on from runs.obeys.behind begin runs.put obeyed.obeyed;
          end = runs.obeys.end;
          mid = a.course;
          rows = a.rows_are;
          ranked = b.ranked;
          whole = b.whole;
          left = b.left;
          closing = b.goes.rows_are;
        };
        totals_are = r.totals_are ∙ end.totals;
        read = λ link lt. (
          end.history link,
          end.written link,
          history_reads end.history _ r.new.contents.links
              b.goes.state.carried link end.links (let e = end.links.as_many in let f = end.as_many in
              omega (arith, lt, e, f)),
        );
      }

pub runs_are_complete : RunsAreComplete
runs_are_complete network classes at to from last before after totals sound paths r =
    completes network sound classes paths before at to from last after totals r

pub closings_are_rows : ClosingsAreRows
closings_are_rows old new at to begin before after from s sound paths seen closes =
    closes_go old.network sound old.classes paths begin old new at to before after
    (record { network_is = refl; classes_are = refl }) closes from s seen

-- ---- with the headline

all_of : (classes : List Class) (frames : List captures.Seen) (packets : List Packet) → AreOf classes frames packets
    → All (λ p. IsOf p (entry_numbered classes p.class)) packets
all_of classes [] [] h = All-nil (λ p. IsOf p (entry_numbered classes p.class))
all_of classes [] (p ∷ packets) h = absurd h
all_of classes (frame ∷ frames) [] h = absurd h
all_of classes (frame ∷ frames) (p ∷ packets) h =
    All-cons (λ p. IsOf p (entry_numbered classes p.class)) p packets h.1 (all_of classes frames packets h.2)

moves_of : (network : NetworkDocument) (classes : List Class) (at to : captures.CaptureState) (from last : Lines)
    (before after : Put) (totals : Totals) (r : IsRunOf network classes at to from last before after totals)
    → Runs (net_of network) classes r.course.packets (opening (net_of network) classes r.course.packets) r.final
moves_of network classes at to from last before after totals r =
    runs_of (net_of network) classes r.course.packets r.course.steps (opening (net_of network) classes r.course.packets)
    r.final r.run_is

pub totals_are_plain_sums : TotalsArePlainSums
totals_are_plain_sums network classes at to from last before after totals r once fit =
    let packets : List Packet = r.course.packets in
    let counts : CountsEachOnce (net_of network) (to_count classes packets) r.final =
    once packets (all_of classes r.frames packets r.are_of) fit r.final
    (moves_of network classes at to from last before after totals r) r.complete in
    record {
      sums = λ key. ap (λ (t : Totals). total_at t.entries key) r.totals_are ∙ counts.totals key;
      assigned = ap (λ (t : Totals). t.unassigned) r.totals_are ∙ ap (λ (n : ℕ). n % 2 ^ 64) counts.assigned;
    }

pub totals_are_sums_modulo : TotalsAreSumsModulo
totals_are_sums_modulo network classes at to from last before after totals r once =
    let packets : List Packet = r.course.packets in
    let counts : CountsEachModulo (net_of network) (to_count classes packets) r.final =
    once packets (all_of classes r.frames packets r.are_of) r.final
    (moves_of network classes at to from last before after totals r) r.complete in
    record {
      sums = λ key. ap (λ (t : Totals). option_map counts_modulo (total_at t.entries key)) r.totals_are
          ∙ counts.totals key;
      assigned = ap (λ (t : Totals). t.unassigned) r.totals_are ∙ ap (λ (n : ℕ). n % 2 ^ 64) counts.assigned;
    }
