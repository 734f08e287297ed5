-- The octets that links carry, and the records that the abstract network has on them.
use Rattle.std.specs.Prelude.{◌≡◌, ℕ, ◌^◌, ◌<◌, ◌==◌, true, List, [], ◌∷◌, ◌++◌, length, map, slice_get, slice_set, Some, None, if◌then◌else◌}
use Rattle.std.specs.List.{AllByRecursion}
use Rattle.fx_tables.specs.declared.record.Record.{Record}
use Rattle.fx_machine.specs.Sends.{put_all}
use Rattle.fx_machine.specs.States.{all_empty, nothing_at}
use Rattle.fx_session.specs.Streams.{start, after_piece}
use Rattle.fx_link.specs.Ongoing.{Ongoing, at_rest, after_finish, after_carry}
use Rattle.fx_link.specs.Outgoing.{with_all}
use Rattle.fx_link.specs.Sending.{IsSent, KeepsUp}
use Rattle.fx_link.specs.Wires.{Wire, on_link, InStep}
use Rattle.fx_runs.specs.Given.{records_given}
use Rattle.fx_net.specs.Arriving.{waiting_on, with_left}
use Rattle.fx_net.specs.Contents.{with_changed}
use Rattle.fx_net.specs.Exporting.{put_each}
use Rattle.fx_net.specs.Finishing.{HasRoom, to_put_on}
use Rattle.fx_net.specs.Opening.{new_links}

-- A session that reads these octets from the start reads exactly these records, without gap, skipped record, unfinished
-- octet or fault.
pub record AreRead (octets : List ℕ) (rs : List Record) : Type 0 where
  pub waiting : (after_piece start octets).known.waiting ≡ rs
  pub gaps : (after_piece start octets).known.gaps ≡ 0
  pub skipped : (after_piece start octets).known.skipped ≡ 0
  pub rest : (after_piece start octets).rest ≡ []
  pub fault : (after_piece start octets).fault ≡ None

-- A link while nothing is being sent, on which all these octets were put since the start.
pub record IsLinkAtRest (wire : Wire) (history : List ℕ) (before : List Record) : Type 0 where
  pub in_step : InStep wire
  -- no octet that has reached the receiver completes a further message
  pub settled : after_piece wire.receiver [] ≡ wire.receiver
  pub keeps_up : KeepsUp wire.sender (after_piece start history)
  pub read : AreRead history before

-- ---- a link

-- No record waits for its message: the records on the link are in its octets. All these octets and records were put on
-- it.
pub record IsStill (history : List ℕ) (all : List Record) (o : Ongoing) (rs : List Record) : Type 0 where
  pub wire : Wire
  pub kept : IsLinkAtRest wire history all
  pub ongoing_is : o ≡ at_rest wire
  pub records_are : rs ≡ on_link wire
  pub sent : AllByRecursion IsSent rs

-- The records in order: first those that have arrived but aren't handled yet, then those in octets, then those that
-- wait for
-- their message.
pub record IsCarried (time : ℕ) (pending : List Record) (history : List ℕ) (all : List Record) (o : Ongoing)
    (rs : List Record) : Type 0 where
  pub wire : Wire
  pub before : List Record
  pub put : List Record
  pub kept : IsLinkAtRest wire history before
  pub ongoing_is : o ≡ record (at_rest wire) { outgoing = with_all time (at_rest wire).outgoing put }
  pub records_are : rs ≡ pending ++ (on_link wire ++ put)
  pub all_are : all ≡ before ++ put
  pub sent : AllByRecursion IsSent rs

-- ---- all links, by their places

pub record AreStill (history : ℕ → List ℕ) (all : ℕ → List Record) (links : List Ongoing)
    (carried : List (List Record)) : Type 0 where
  pub as_many : length carried ≡ length links
  pub each : (link : ℕ) (o : Ongoing) (rs : List Record)
      → slice_get links link ≡ Some o → slice_get carried link ≡ Some rs → IsStill (history link) (all link) o rs

pub record AreCarried (time : ℕ) (pending : ℕ → List Record) (history : ℕ → List ℕ) (all : ℕ → List Record)
    (links : List Ongoing) (carried : List (List Record)) : Type 0 where
  pub as_many : length carried ≡ length links
  pub each : (link : ℕ) (o : Ongoing) (rs : List Record)
      → slice_get links link ≡ Some o → slice_get carried link ≡ Some rs
      → IsCarried time (pending link) (history link) (all link) o rs

-- no record has arrived
abbrev pub none_pending : ℕ → List Record
none_pending link = []

-- these records have arrived from one link
abbrev pub pending_from : ℕ → List Record → ℕ → List Record
pending_from from rs link = if link == from then rs else []

-- ---- the laws

-- Nothing is on a new network's links.
abbrev pub LinksBegin : Type 0
LinksBegin = (places : List ℕ) → AreStill (λ _. []) (λ _. []) (new_links places) (nothing_at places)

abbrev pub StillIsCarried : Type 0
StillIsCarried =
    (time : ℕ) (history : ℕ → List ℕ) (all : ℕ → List Record) (links : List Ongoing) (carried : List (List Record))
    → AreStill history all links carried → AreCarried time none_pending history all links carried

-- A record that is put on links is the last on each of them.
abbrev pub PutsAreCarried : Type 0
PutsAreCarried =
    (time : ℕ) (pending : ℕ → List Record) (history : ℕ → List ℕ) (all : ℕ → List Record)
    (links : List Ongoing) (carried : List (List Record)) (r : Record) (places : List ℕ)
    → AreCarried time pending history all links carried → IsSent r
    → AreCarried time pending history (λ link. all link ++ records_given places r link)
    (put_each time r places links) (put_all places r carried)

-- Once the waiting records are put out, none waits.
abbrev pub FinishingStills : Type 0
FinishingStills =
    (time : ℕ) (history : ℕ → List ℕ) (all : ℕ → List Record) (links : List Ongoing) (carried : List (List Record))
    → time < 2 ^ 32 → AreCarried time none_pending history all links carried
    → ((link : ℕ) → HasRoom (slice_get links link))
    → AreStill (λ link. history link ++ to_put_on time (slice_get links link)) all (map (after_finish time) links)
    carried

-- the links once this number of octets has reached the receiver of one link, whose records have been handed out
abbrev pub with_octets_carried : ℕ → ℕ → List Ongoing → List Ongoing
with_octets_carried link n links = with_changed (with_left []) (with_changed (after_carry n) links link) link

abbrev pub arrivals : ℕ → ℕ → List Ongoing → List Record
arrivals link n links = waiting_on (slice_get (with_changed (after_carry n) links link) link)

-- Octets that are carried complete the first records on the link, which have then arrived.
abbrev pub CarriedArrive : Type 0
CarriedArrive =
    (time link n : ℕ) (history : ℕ → List ℕ) (all : ℕ → List Record) (links : List Ongoing)
    (carried : List (List Record))
    → link < length links → AreStill history all links carried
    → AreCarried time (pending_from link (arrivals link n links)) history all (with_octets_carried link n links) carried

-- The first record that has arrived is the first on its link, and is removed from it.
abbrev pub ArrivedLeave : Type 0
ArrivedLeave =
    (time link : ℕ) (r : Record) (rest : List Record) (history : ℕ → List ℕ) (all : ℕ → List Record)
    (links : List Ongoing) (carried : List (List Record))
    → link < length links → AreCarried time (pending_from link (r ∷ rest)) history all links carried
    → (rs : List Record) × (slice_get carried link ≡ Some (r ∷ rs)) × IsSent r
    × AreCarried time (pending_from link rest) history all links (slice_set carried link rs)

-- Once no arrived record is left, no record is pending on any link.
abbrev pub NoneLeft : Type 0
NoneLeft =
    (time link : ℕ) (history : ℕ → List ℕ) (all : ℕ → List Record) (links : List Ongoing) (carried : List (List Record))
    → AreCarried time (pending_from link []) history all links carried
    → AreCarried time none_pending history all links carried

-- no octets are on these links
abbrev pub NoOctets : List Ongoing → Type 0
NoOctets links = AllByRecursion (λ (o : Ongoing). o.queue ≡ []) links

-- Links without octets carry nothing.
abbrev pub NothingIsCarried : Type 0
NothingIsCarried =
    (history : ℕ → List ℕ) (all : ℕ → List Record) (links : List Ongoing) (carried : List (List Record))
    → AreStill history all links carried → NoOctets links → all_empty carried ≡ true

-- The octets put on a link are read as exactly the records put on it.
abbrev pub HistoryIsRead : Type 0
HistoryIsRead =
    (history : ℕ → List ℕ) (all : ℕ → List Record) (links : List Ongoing) (carried : List (List Record)) (link : ℕ)
    → AreStill history all links carried → link < length links → AreRead (history link) (all link)
