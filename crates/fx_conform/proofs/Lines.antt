-- The lines of a schedule, one after another, as the steps of a run.
use Rattle.std.proofs.Common.{◌≡◌, ◌≢◌, ℕ, zero, suc, ◌<◌, false, List, [], ◌∷◌, ◌++◌, length, slice_get, get_or, refl, ap, sym, ◌∙◌, subst, arith, append_assoc, append-nil, Option, Some, None}
use Rattle.std.specs.Prelude.{IfSome}
use Rattle.std.proofs.lemmas.List.Quantifiers.{position-Some}
use Rattle.std.proofs.lemmas.Option.{slice_get-get_or}
use Rattle.fx_base.specs.Lines.{Lines}
use Rattle.fx_boxes.specs.Boxes.{holds}
use Rattle.fx_tables.specs.declared.packet.Packet.{Packet}
use Rattle.fx_tables.specs.declared.holder_name.HolderName.{HolderName}
use Rattle.fx_tables.specs.declared.holder_name.HolderName.TheVariants as holder
use Rattle.fx_run_text.specs.declared.step.Step.{Step}
use Rattle.fx_tables.specs.declared.traffic.Crossing.{Crossing}
use Rattle.fx_tables.specs.Network.{Net, Process}
use Rattle.fx_base.specs.Entries.{entry_numbered}
use Rattle.fx_tables.specs.Classes.{Class, IsOf, path}
use Rattle.fx_machine.specs.States.{State}
use Rattle.fx_machine.specs.Steps.{one_packet}
use Rattle.fx_link.specs.Links.{Put}
use Rattle.fx_pcap.specs.Captures as captures
use Rattle.fx_topology.specs.declared.network.NetworkDocument.{NetworkDocument}
use Rattle.fx_plan.specs.Tables.{net_of}
use Rattle.fx_plan.specs.ExporterPlaces.{exporter_place}
use Rattle.fx_net.specs.declared.action.Action.{Action}
use Rattle.fx_net.specs.declared.action.Action.TheVariants as action
use Rattle.fx_net.specs.Contents.{Contents, with_changed}
use Rattle.fx_net.specs.Doings.{DoesAction, Ended, ReadsFrame, LeastLeaves, Carries, Uses, IsFrame, IsGiven, reads_packet}
use Rattle.fx_net.specs.Running.{RunningNetwork, Obeys, ObeysLines, GoesTo, GoesOnToFrames}
use Rattle.fx_conform.specs.OnLinks.{none_pending}
use Rattle.fx_conform.specs.Calls.{GoesOn, IsSeenAs, LinesAreRows, OpeningConforms}
use Rattle.fx_conform.specs.Conforming.{IsSound, Conforms}
use Rattle.fx_conform.specs.Rows.{AreArrivals, AreCrossings, AreRows, Arrives, Course, IsExpiry, IsRow, LeastExpires, NoStep, Reads, Repeated, Row, with_destination}
use Rattle.fx_conform.specs.Whole.{AreOf, HavePaths}
use Rattle.fx_conform.proofs.NetworkMidway.{IsAmid}
use Rattle.fx_conform.proofs.PacketsCross.{Then as Made, all_at, all_to_list}
use Rattle.fx_conform.proofs.CalmTimes.{Went, amid_of, ended}
use Rattle.fx_conform.proofs.DestinationsStay.{carrying_chosen, least_chosen, path_chosen}
use Rattle.fx_conform.proofs.LinesAsSteps.{least_left, carried_so, packet_crosses, uses_so}
use Rattle.fx_conform.proofs.OpeningOfNetworks.{starts}

pub none_below : {A : Type 0} (xs : List A) (n : ℕ) → n < length xs → slice_get xs n ≡ None → ⊥
none_below [] n lt e = omega (arith, lt)
none_below (x ∷ xs) zero lt e = absurd cc
none_below (x ∷ xs) (suc n) lt e = none_below xs n (omega (arith, lt)) e

seen_is : (frame seen : captures.Seen) → ◌≡◌ {A = Option captures.Seen} (Some frame) (Some seen) → seen ≡ frame
seen_is frame seen e = let h : frame ≡ seen = cc in sym h

-- ---- a class that holds a packet

no_class : Class
no_class = record { region = record { low = []; high = [] }; paths = []; exempt = false }

some_path : (c : Class) → 0 < length c.paths → entry_numbered c.paths 1 ≢ None
some_path c lt = by c.paths lt where
  by : (xs : List (List Crossing)) → 0 < length xs → slice_get xs 0 ≢ None
  by [] l e = omega (arith, l)
  by (x ∷ xs) l e = absurd cc

-- a packet is of the class that a line gives it
pub is_of : (classes : List Class) (asked : Action) (p : Packet) → HavePaths classes → IsGiven classes asked p
    → IsOf p (entry_numbered classes p.class)
is_of classes action.Next p paths given =
    let k : ℕ = given.0 in
    let found = position-Some (λ (c : Class). holds c.region p.fields) classes k no_class given.1 in
    let there : slice_get classes k ≡ Some (get_or classes k no_class) = slice_get-get_or classes k no_class found.0 in
    let class : Class = get_or classes k no_class in
    let has : 0 < length class.paths = subst (λ (o : Option Class). IfSome o (λ c. 0 < length c.paths)) there
    (all_at (λ (c : Class). 0 < length c.paths) classes k
    (all_to_list (λ (c : Class). 0 < length c.paths) classes paths)) in
    let own : IsOf p (Some class) = (
      found.1,
      subst (λ (n : ℕ). entry_numbered class.paths n ≢ None) (sym given.3)
          (some_path class has),
    ) in
    subst (λ (n : ℕ). IsOf p (entry_numbered classes n)) (sym given.2) (subst (IsOf p) (sym there) own)
is_of classes (action.NextOf class path) p paths given =
    let c : Class = given.0 in
    let own : IsOf p (Some c) = (given.2, subst (λ (n : ℕ). entry_numbered c.paths n ≢ None) (sym given.4) given.5) in
    subst (λ (n : ℕ). IsOf p (entry_numbered classes n)) (sym given.3) (subst (IsOf p) (sym given.1) own)
is_of classes (action.Expire device cache) p paths given = absurd given
is_of classes (action.Emit device process aggregation) p paths given = absurd given
is_of classes (action.Carry link n) p paths given = absurd given
is_of classes (action.Use device exporter destination) p paths given = absurd given

-- ---- one after another

goes_on_join : (at on to : captures.CaptureState) (first rest : List captures.Seen) → GoesOnToFrames at on first
    → GoesOnToFrames on to rest → GoesOnToFrames at to (first ++ rest)
goes_on_join at on to [] rest a b = subst (λ (r : captures.CaptureState). GoesOnToFrames r to rest) a b
goes_on_join at on to (frame ∷ first) rest a b = (a.0, a.1, a.2, goes_on_join a.0 on to first rest a.3 b)

are_of_join : (classes : List Class) (f g : List captures.Seen) (p q : List Packet) → AreOf classes f p
    → AreOf classes g q → AreOf classes (f ++ g) (p ++ q)
are_of_join classes [] g [] q a b = b
are_of_join classes [] g (x ∷ p) q a b = absurd a
are_of_join classes (frame ∷ f) g [] q a b = absurd a
are_of_join classes (frame ∷ f) g (x ∷ p) q a b = (a.0, a.1, are_of_join classes f g p q a.2 b)

module _ (network : NetworkDocument) (sound : IsSound (net_of network)) (classes : List Class)
    (paths : HavePaths classes) (begin : Put) where
  abbrev net : Net
  net = net_of network

  abbrev Seen : Put → Contents → Course → State → Type 0
  Seen put c course s = IsSeenAs net classes begin put c course s

  abbrev Goes : (Course → Course → Type 0) → Course → captures.CaptureState → captures.CaptureState → Put → Contents
      → Type 0
  Goes rows from at to put c = GoesOn net classes begin rows from at to put c

  -- ---- a line that reads a packet

  pub record ReadOne (asked : Action) (frame : captures.Seen) (from : Course) (put : Put) (c : Contents) : Type 0 where
    pub packet : Packet
    pub is_frame : IsFrame packet frame
    pub is_of : IsOf packet (entry_numbered classes packet.class)
    pub course : Course
    pub packets_are : course.packets ≡ from.packets ++ packet ∷ []
    pub reads : Reads net classes asked packet from course
    pub state : State
    pub seen : Seen put c course state

  pub reads_one : (asked : Action) (frame : captures.Seen) (before after : Put) (old new : Contents) (from : Course)
      (s : State)
      → Seen before old from s → Ended (ReadsFrame net classes asked frame) before old after new
      → ReadOne asked frame from after new
  reads_one asked frame before after old new from s seen e =
      let r = e.made in
      let p : Packet = r.packet in
      let h = seen.conforms in
      let packets : List Packet = from.packets ++ p ∷ [] in
      let row : List ℕ → Row = λ chosen. AreCrossings net chosen (suc (length from.packets)) 1 (length (path classes p))
      in
      let stays : e.done.chosen ≡ from.chosen =
      ap (λ (d : Contents). d.chosen) r.done_is
      ∙ (path_chosen net p.fields (one_packet p) (path classes p) (record old { second = frame.second })
      ∙ seen.chosen_are) in
      let made : Made net classes packets (row from.chosen) e.done none_pending h.history [] from.steps =
      subst (λ (chosen : List ℕ). Made net classes packets (row chosen) e.done none_pending h.history [] from.steps)
      seen.chosen_are
      (packet_crosses net sound classes begin from.packets p frame r.is_frame r.soon before old e.done from.steps s h
      r.done_is) in
      let went = ended net classes begin packets from.chosen (row from.chosen) _ before after old new from.steps
      h.history h.written e stays made in
      record {
        packet = p;
        is_frame = r.is_frame;
        is_of = is_of classes asked p paths r.given;
        course = record { chosen = from.chosen; packets = packets; steps = went.to };
        packets_are = refl;
        reads = record { given = r.given; steps = went.to; crosses = went.shaped; to_is = refl };
        state = went.state;
        seen = record { chosen_are = went.chosen_are; conforms = went.conforms };
      }

  -- its capture has gone on to the frame
  pub goes_to_frame : (asked : Action) (rows : Course → Course → Type 0) (frame : captures.Seen)
      (at on : captures.CaptureState) (from : Course) (put : Put) (c : Contents)
      → captures.AtFrame at on → on.seen ≡ frame → (one : ReadOne asked frame from put c) → rows from one.course
      → Goes rows from at on put c
  goes_to_frame asked rows frame at on from put c goes is one row = record {
    frames = frame ∷ [];
    goes_on = (on, goes, is, refl);
    read = one.packet ∷ [];
    are_of = (one.is_frame, one.is_of, tt);
    course = one.course;
    packets_are = one.packets_are;
    rows_are = row;
    state = one.state;
    seen = one.seen;
  }

  -- ---- a line that reads none

  -- steps are made over the packets so far, and the capture stays
  made_on : (rows : Course → Course → Type 0) (row : Row) (at on : captures.CaptureState) (from : Course) (put : Put)
      (c : Contents) → on ≡ at
      → ((to : List Step) → row from.steps to
      → rows from (record { chosen = from.chosen; packets = from.packets; steps = to }))
      → Went net classes begin from.packets from.chosen row put c from.steps → Goes rows from at on put c
  made_on rows row at on from put c stays says went = record {
    frames = [];
    goes_on = stays;
    read = [];
    are_of = tt;
    course = record { chosen = from.chosen; packets = from.packets; steps = went.to };
    packets_are = sym (append-nil from.packets);
    rows_are = says went.to went.shaped;
    state = went.state;
    seen = record { chosen_are = went.chosen_are; conforms = went.conforms };
  }

  expires : (name : HolderName) (at on : captures.CaptureState) (before after : Put) (old new : Contents)
      (from : Course) (s : State)
      → on ≡ at → Seen before old from s → Ended (LeastLeaves net name) before old after new
      → Goes (IsExpiry net classes name) from at on after new
  expires name at on before after old new from s stays seen e =
      let h = seen.conforms in
      let row : List ℕ → Row = λ chosen a b. (place : ℕ) × LeastExpires net classes from.packets chosen name place a b
      in
      let same : e.done.chosen ≡ from.chosen = ap (λ (d : Contents). d.chosen) e.made.done_is
      ∙ (least_chosen net e.made.place old ∙ seen.chosen_are) in
      made_on (IsExpiry net classes name) (row from.chosen) at on from after new stays (λ to h. (to, h, refl))
      (ended net classes begin from.packets from.chosen (row from.chosen) _ before after old new from.steps h.history
      h.written e same
      (subst (λ (chosen : List ℕ). Made net classes from.packets (row chosen) e.done none_pending h.history []
      from.steps) seen.chosen_are
      (least_left net sound classes begin from.packets name before old e.done from.steps s h e.made)))

  carries : (link n : ℕ) (at on : captures.CaptureState) (before after : Put) (old new : Contents) (from : Course)
      (s : State)
      → on ≡ at → Seen before old from s → Ended (Carries net link n) before old after new
      → Goes (AreArrivals net (suc link)) from at on after new
  carries link n at on before after old new from s stays seen e = by_link (slice_get net.links link) refl where
    h : Conforms net classes begin before old from.packets from.steps s
    h = seen.conforms

    same : e.done.chosen ≡ from.chosen
    same = ap (λ (d : Contents). d.chosen) e.made.done_is ∙ (carrying_chosen net link n old ∙ seen.chosen_are)

    made : (to : ℕ) (process : Process) → slice_get net.links link ≡ Some to → slice_get net.processes to ≡ Some process
        → Goes (AreArrivals net (suc link)) from at on after new
    made to process leads there =
        made_on (AreArrivals net (suc link)) (Repeated (Arrives net from.chosen link)) at on from after new stays
        (λ to h. (to, h, refl))
        (ended net classes begin from.packets from.chosen (Repeated (Arrives net from.chosen link)) _ before after old
        new from.steps h.history h.written e same
        (subst (λ (chosen : List ℕ). Made net classes from.packets (Repeated (Arrives net chosen link)) e.done
        none_pending h.history [] from.steps) seen.chosen_are
        (carried_so net sound classes begin from.packets link n to process leads there before old e.done from.steps s h
        e.made.done_is)))

    by_process : (to : ℕ) (o : Option Process) → slice_get net.links link ≡ Some to → slice_get net.processes to ≡ o
        → Goes (AreArrivals net (suc link)) from at on after new
    by_process to (Some process) leads there = made to process leads there
    by_process to None leads there = absurd (none_below net.processes to (sound.leads link to leads) there)

    by_link : (o : Option ℕ) → slice_get net.links link ≡ o → Goes (AreArrivals net (suc link)) from at on after new
    by_link (Some to) leads = by_process to (slice_get net.processes to) leads refl
    by_link None leads = absurd (none_below net.links link (omega (arith, e.made.there, h.as_many, h.links.as_many))
        leads)

  uses : (device exporter destination : ℕ) (at on : captures.CaptureState) (before after : Put) (old new : Contents)
      (from : Course) (s : State)
      → on ≡ at → Seen before old from s → Ended (Uses network device exporter destination) before old after new
      → Goes (IsRow network classes (action.Use device exporter destination)) from at on after new
  uses device exporter destination at on before after old new from s stays seen e =
      let u = e.made in
      let h = seen.conforms in
      let a = amid_of net classes begin before old from.packets from.steps s h in
      let other : Contents = record old { chosen = with_changed (λ (_ : ℕ). destination) old.chosen u.place } in
      let chosen : List ℕ = with_destination (exporter_place network device exporter) destination from.chosen in
      let amid : IsAmid net classes from.packets other none_pending h.history [] from.steps s =
      record {
        run_is = a.run_is;
        coming_is = a.coming_is;
        as_many = a.as_many;
        links = a.links;
        chosen =
            uses_so net old.chosen u.place destination u.names u.exporter_is u.destination_there a.chosen;
        totals =
            a.totals;
        second = a.second;
      } in
      let changed : e.done.chosen ≡ chosen =
      ap (λ (d : Contents). d.chosen) u.done_is
      ∙ (ap (λ (cs : List ℕ). with_changed (λ (_ : ℕ). destination) cs u.place) seen.chosen_are
      ∙ sym (ap (λ (o : Option ℕ). with_destination o destination from.chosen) u.there)) in
      let went = ended net classes begin from.packets chosen NoStep _ before after old new from.steps h.history
      h.written e changed
      (subst (λ (d : Contents). Made net classes from.packets NoStep d none_pending h.history [] from.steps)
      (sym u.done_is)
      (record { to = from.steps; state = s; shaped = refl; amid = amid; stores = h.stores })) in
      record {
        frames = [];
        goes_on = stays;
        read = [];
        are_of = tt;
        course = record { chosen = chosen; packets = from.packets; steps = from.steps };
        packets_are = sym (append-nil from.packets);
        rows_are = refl;
        state = went.state;
        seen = record {
          chosen_are = went.chosen_are;
          conforms =
              subst (λ (ss : List Step). Conforms net classes begin after new from.packets ss went.state) went.shaped
              went.conforms;
        };
      }

  -- ---- lines, one after another

  -- nothing is done
  pub goes_nowhere : (at on : captures.CaptureState) (before after : Put) (old new : Contents) (from : Course)
      (s : State)
      → on ≡ at → after ≡ before → new ≡ old → Seen before old from s → Goes (λ a b. b ≡ a) from at on after new
  goes_nowhere at on before after old new from s stays put same seen = record {
    frames = [];
    goes_on = stays;
    read = [];
    are_of = tt;
    course = from;
    packets_are = sym (append-nil from.packets);
    rows_are = refl;
    state = s;
    seen = subst (λ (p : Put). Seen p new from s) (sym put)
        (subst (λ (c : Contents). Seen before c from s) (sym same) seen);
  }

  -- one thing and then another
  pub goes_both : (one other both : Course → Course → Type 0) (from : Course) (at on to : captures.CaptureState)
      (mid after : Put) (c new : Contents)
      → (first : Goes one from at on mid c) → (rest : Goes other first.course on to after new)
      → (one from first.course → other first.course rest.course → both from rest.course)
      → Goes both from at to after new
  goes_both one other both from at on to mid after c new first rest join = record {
    frames = first.frames ++ rest.frames;
    goes_on = goes_on_join at on to first.frames rest.frames first.goes_on rest.goes_on;
    read = first.read ++ rest.read;
    are_of = are_of_join classes first.frames rest.frames first.read rest.read first.are_of rest.are_of;
    course = rest.course;
    packets_are = rest.packets_are ∙ (ap (λ (ps : List Packet). ps ++ rest.read) first.packets_are
        ∙ append_assoc from.packets first.read rest.read);
    rows_are = join first.rows_are rest.rows_are;
    state = rest.state;
    seen = rest.seen;
  }

  line_goes : (asked : Action) (frame : Option captures.Seen) (at on : captures.CaptureState) (before after : Put)
      (old new : Contents) (from : Course) (s : State)
      → GoesTo (reads_packet asked) at on frame → Seen before old from s
      → Ended (DoesAction network classes frame asked) before old after new
      → Goes (IsRow network classes asked) from at on after new
  line_goes action.Next None at on before after old new from s goes seen e = absurd e.made
  line_goes action.Next (Some frame) at on before after old new from s goes seen e =
      let one = reads_one action.Next frame before after old new from s seen e in
      goes_to_frame action.Next (IsRow network classes action.Next) frame at on from after new goes.0
      (seen_is frame on.seen goes.1) one (one.packet, one.reads)
  line_goes (action.NextOf class number) None at on before after old new from s goes seen e = absurd e.made
  line_goes (action.NextOf class number) (Some frame) at on before after old new from s goes seen e =
      let one = reads_one (action.NextOf class number) frame before after old new from s seen e in
      goes_to_frame (action.NextOf class number) (IsRow network classes (action.NextOf class number)) frame at on from
      after new goes.0 (seen_is frame on.seen goes.1) one (one.packet, one.reads)
  line_goes (action.Expire device cache) frame at on before after old new from s goes seen e =
      expires (holder.Cache device cache) at on before after old new from s goes seen e
  line_goes (action.Emit device process aggregation) frame at on before after old new from s goes seen e =
      expires (holder.Aggregation device process aggregation) at on before after old new from s goes seen e
  line_goes (action.Carry zero n) frame at on before after old new from s goes seen e = absurd e.made
  line_goes (action.Carry (suc link) n) frame at on before after old new from s goes seen e =
      carries link n at on before after old new from s goes seen e
  line_goes (action.Use device exporter destination) frame at on before after old new from s goes seen e =
      uses device exporter destination at on before after old new from s goes seen e

  -- the network and its classes stay
  pub record Same (r : RunningNetwork) : Type 0 where
    pub network_is : r.network ≡ network
    pub classes_are : r.classes ≡ classes

  pub same_then : (old new : RunningNetwork) → Same old → new ≡ record old { contents = new.contents } → Same new
  same_then old new h e = record {
    network_is = ap (λ (r : RunningNetwork). r.network) e ∙ h.network_is;
    classes_are =
        ap (λ (r : RunningNetwork). r.classes) e ∙ h.classes_are;
  }

  obeyed_goes : (line : List ℕ) (old new : RunningNetwork) (at on : captures.CaptureState) (before after : Put)
      → Same old → (obeys : Obeys line old new at on before after)
      → (from : Course) (s : State) → Seen before old.contents from s
      → Goes (IsRow network classes obeys.asked) from at on after new.contents
  obeyed_goes line old new at on before after same obeys from s seen =
      line_goes obeys.asked obeys.frame at on before after old.contents new.contents from s obeys.goes seen
      (subst (λ (n : NetworkDocument). Ended (DoesAction n classes obeys.frame obeys.asked) before old.contents after
      new.contents) same.network_is
      (subst (λ (cs : List Class). Ended (DoesAction old.network cs obeys.frame obeys.asked) before old.contents after
      new.contents) same.classes_are obeys.does))

  -- what lines do from there on
  abbrev Rest : List (List ℕ) → captures.CaptureState → captures.CaptureState → Put → Contents → Put → Contents → Type 0
  Rest lines at to before old after new = (from : Course) (s : State) → Seen before old from s
      → Goes (AreRows network classes lines) from at to after new

  pub lines_go : (lines : List (List ℕ)) (old new : RunningNetwork) (at to : captures.CaptureState) (from last : Lines)
      (before after : Put) → Same old → ObeysLines lines old new at to from last before after
      → Same new × Rest lines at to before old.contents after new.contents
  lines_go [] old new at to from last before after same e = (
    subst Same (sym e.0) same,
    λ course s seen. goes_nowhere at to before after old.contents new.contents course s e.1 e.3
        (ap (λ (r : RunningNetwork). r.contents) e.0) seen,
  )
  lines_go (line ∷ lines) old new at to from last before after same e =
      let mid : RunningNetwork = e.0 in
      let obeys = e.6 in
      let others = lines_go lines mid new e.1 to e.2 last e.3 after (same_then old mid same obeys.rest) e.7 in (
        others.0,
        λ course s seen.
            let first = obeyed_goes line old mid at e.1 before e.3 same obeys course s seen in
            goes_both (IsRow network classes obeys.asked) (AreRows network classes lines)
            (AreRows network classes (line ∷ lines)) course at e.1 to e.3 after mid.contents new.contents
            first (others.1 first.course first.state first.seen) (λ a b. (obeys.asked, first.course, obeys.asks, a, b)),
      )

-- ---- the laws

pub opening_conforms : OpeningConforms
opening_conforms network classes put sound = record { chosen_are = refl; conforms = starts network classes put sound }

pub lines_are_rows : LinesAreRows
lines_are_rows line old new at to begin before after from s sound paths seen obeys =
    let first = obeyed_goes old.network sound old.classes paths begin line old new at to before after
    (record { network_is = refl; classes_are = refl }) obeys from s seen in
    goes_both old.network sound old.classes paths begin (IsRow old.network old.classes obeys.asked) (λ a b. b ≡ a)
    (AreRows old.network old.classes (line ∷ [])) from at to to after after new.contents new.contents
    first (goes_nowhere old.network sound old.classes paths begin to to after after new.contents new.contents
    first.course first.state refl refl refl first.seen) (λ a b. (obeys.asked, first.course, obeys.asks, a, b))
