-- That complete runs exist, worked out for a network where they do, and for two where they don't.
use Rattle.std.proofs.Common.{◌≡◌, ◌⊎◌, inl, inr, ℕ, zero, suc, ◌<◌, true, false, cond, List, [], ◌∷◌, ◌++◌, length, All, Some, None, IfSome, refl, sym, ap, ◌∙◌, subst, arith, ne_eqb, slice_get, remove}
use Rattle.std.proofs.lemmas.List.Elements.{All-nil, All-cons}
use Rattle.fx_layout.specs.Keys.{key_of}
use Rattle.fx_tables.specs.declared.packet.Packet.{Packet}
use Rattle.fx_tables.specs.declared.record.Record.{Record}
use Rattle.fx_tables.specs.declared.holder_name.HolderName.TheVariants.{Cache}
use Rattle.fx_tables.specs.Network.{Net, Exporter}
use Rattle.fx_base.specs.Entries.{entry_numbered}
use Rattle.fx_tables.specs.Classes.{path}
use Rattle.fx_machine.specs.States.{State, opening, Complete, put_last, without}
use Rattle.fx_machine.specs.Steps.{one_packet, crossing_acts}
use Rattle.fx_machine.specs.Moves.{MayTakeIn, MayDoAll, Moves, crosses, expires, arrives, Runs, ended, moved}
use Rattle.fx_tables.specs.Ranks.{ProcessRises, IsRanked}
use Rattle.fx_tables.specs.Runnable.{IsHolder, HasDestinations, HasAggregations, HasCaches, IsRunnable}
use Rattle.fx_machine.specs.CompleteRun.{HasCompleteRun}
use Rattle.fx_machine.proofs.ClaimExamples.{source, net, customers, first_packet, one, by_choice}
use Rattle.fx_machine.proofs.ActsCanLeave.{tally_tells}
use Rattle.fx_machine.proofs.CompleteRuns.{complete_runs_exist}

-- how records are sent, and the exporting processes of the collector's process
abbrev sending_on : Exporter → List ℕ → Net
sending_on e places = record (net e) { processes = record { exporters = places; aggregations = [] } ∷ [] }

-- no crossing is to come, and these records are in the cache, on the link and in the totals
abbrev standing : List Record → List Record → List Record → ℕ → State
standing held carried totals unassigned =
    record { coming = []; held = held ∷ []; carried = carried ∷ []; totals = totals; unassigned = unassigned }

none_numbered : {A : Type 0} (n : ℕ) (x : A) → entry_numbered [] n ≡ Some x → ⊥
none_numbered zero x h = absurd (cc)
none_numbered (suc n) x h = absurd (cc)

-- no record leaves where there is none
none_leaves : (place number : ℕ) (rs : List Record) (r : Record) → slice_get ([] ∷ []) place ≡ Some rs
    → entry_numbered rs number ≡ Some r → ⊥
none_leaves zero number rs r h k =
    let e : rs ≡ [] = cc in
    none_numbered number r (subst (λ (xs : List Record). entry_numbered xs number ≡ Some r) e k)
none_leaves (suc place) number rs r h k = absurd (cc)

-- and none is left where the only one leaves
one_leaves : (number : ℕ) (rs : List Record) (r q : Record) → Some (r ∷ []) ≡ Some rs → entry_numbered rs number
    ≡ Some q → without rs number ≡ []
one_leaves zero rs r q h k = absurd (cc)
one_leaves (suc zero) rs r q h k = let e : rs ≡ r ∷ [] = cc in ap (λ (xs : List Record). remove xs 0) e
one_leaves (suc (suc n)) rs r q h k =
    let e : rs ≡ r ∷ [] = cc in
    let none : None ≡ Some q = subst (λ (xs : List Record). slice_get xs (suc n) ≡ Some q) e k in
    absurd (cc)

first_taken_in : (rs : List Record) (r : Record) (new : List Record) → Some [] ≡ Some rs → MayTakeIn rs r new → new ≡ r
    ∷ []
first_taken_in rs r new e may =
    let none : rs ≡ [] = cc in
    elim (subst (λ xs. MayTakeIn xs r new) none may) [
      | inl same ↦ same
      | inr join ↦ absurd (none_numbered join.0 join.1 join.2)
    ]

module _ (e : Exporter) (places : List ℕ) where
  abbrev network : Net
  network = sending_on e places

  abbrev start : State
  start = opening network customers one

  cache : IsHolder network 0
  cache = record { name = Cache 1 1; named = refl; there = omega arith }

  has_caches : All (HasCaches network) network.devices
  has_caches zero device lt zero point le zero selection lf = cache
  has_caches zero device lt zero point le (suc k) selection lf = absurd (omega (arith, lf))
  has_caches zero device lt (suc k) point le n selection lf = absurd (omega (arith, le))
  has_caches (suc zero) device lt k point le n selection lf = absurd (omega (arith, le))
  has_caches (suc (suc n)) device lt k point le m selection lf = absurd (omega (arith, lt))

  -- no record is stuck where the exporting process has destinations
  is_runnable : HasDestinations network e → IsRunnable network
  is_runnable has = record {
    destinations = All-cons (HasDestinations network) e [] has (All-nil (HasDestinations network));
    aggregations = All-cons (HasAggregations network) (record { exporters = places; aggregations = [] }) [] (All-nil _)
        (All-nil (HasAggregations network));
    caches = has_caches;
  }

  -- the crossing puts a record in the cache
  crossed : (p : Packet) (n : ℕ) (new : State) → first_packet ≡ p → 0 ≡ n
      → MayDoAll network (one_packet p) (crossing_acts network p.fields (entry_numbered (path customers p) 1))
      (record start { coming = remove start.coming n }) new → (r : Record) × (new ≡ standing (r ∷ []) [] [] 0)
  crossed p n new is at may =
      let Does : Packet → ℕ → Type 0 = λ q k. MayDoAll network (one_packet q)
      (crossing_acts network q.fields (entry_numbered (path customers q) 1))
      (record start { coming = remove start.coming k }) new in
      let m : Does first_packet 0 = subst (λ q. Does q 0) (sym is) (subst (λ k. Does p k) (sym at) may) in
      let r : Record = record { key = key_of (source 32) first_packet.fields; counts = one_packet first_packet } in
      (r, sym m.2 ∙ m.1.4 ∙ ap (λ (rs : List Record). standing rs [] [] 0) (first_taken_in m.1.0 r m.1.1 m.1.2 m.1.3))

  from_start : (new : State) → Moves network customers one start new → (r : Record) × (new ≡ standing (r ∷ []) [] [] 0)
  from_start new (crosses zero crossing n p e k m) = absurd (cc)
  from_start new (crosses (suc zero) zero n p e k m) = let bad : None ≡ Some n = k in absurd (cc)
  from_start new (crosses (suc zero) (suc zero) n p e k m) =
      let is : Some first_packet ≡ Some p = e in
      let at : Some 0 ≡ Some n = k in
      let same : first_packet ≡ p = cc in
      let first : 0 ≡ n = cc in
      crossed p n new same first m
  from_start new (crosses (suc zero) (suc (suc crossing)) n p e k m) =
      let bad : None ≡ Some n = subst (λ b. cond b (Some 0) None ≡ Some n)
      (ne_eqb 1 (suc (suc crossing)) (λ same. omega (arith, same))) k in
      absurd (cc)
  from_start new (crosses (suc (suc packet)) crossing n p e k m) = let bad : None ≡ Some p = e in absurd (cc)
  from_start new (expires name holder number rs r h e k m) = absurd (none_leaves holder number rs r e k)
  from_start new (arrives link number rs r e k m) = absurd (none_leaves link number rs r e k)

  not_at_start : Complete start → ⊥
  not_at_start c = let none : start.coming ≡ [] = c.crossed in absurd (cc)

-- where moves lead from states of a kind only to states of that kind, none of which is complete, no run from one is
-- complete
never_complete : (net : Net) (Goes : State → Type 0)
    → ((s new : State) → Goes s → Moves net customers one s new → Goes new) → ((s : State) → Goes s → Complete s → ⊥)
    → (s final : State) → Runs net customers one s final → Goes s → Complete final → ⊥
never_complete net Goes on not_yet _ _ (ended s final same) goes c = not_yet final (subst Goes same goes) c
never_complete net Goes on not_yet _ _ (moved s next final m rest) goes c =
    never_complete net Goes on not_yet next final rest (on s next goes m) c

-- ---- to the link or to a destination that has none

has_links : All (λ d. IfSome d (λ link. link < length (net by_choice).links)) by_choice.destinations
has_links zero d lt = omega arith
has_links (suc zero) d lt = tt
has_links (suc (suc n)) d lt = absurd (omega (arith, lt))

-- the collector sends nothing on
is_ranked : (e : Exporter) → IsRanked (net e)
is_ranked e = record {
  rank = λ process. 0;
  below = λ process. omega arith;
  rises = rises;
}
  where
    rises : (process : ℕ) → ProcessRises (λ p. 0) (net e) process (slice_get (net e).processes process)
    rises zero = (All-nil _, All-nil _)
    rises (suc process) = tt

-- whatever the packets are
pub runs_by_choice : (packets : List Packet) → HasCompleteRun (net by_choice) customers packets
runs_by_choice packets =
    complete_runs_exist (net by_choice) customers packets (is_ranked by_choice)
    (is_runnable by_choice [] (record { links = has_links; some = λ e. omega arith }))

-- ---- to one of no destinations

abbrev to_none : Exporter
to_none = record { parallel = false; destinations = [] }

-- the crossing is to come, or its record is in the cache
abbrev IsStuck : State → Type 0
IsStuck s = (s ≡ start to_none []) ⊎ ((r : Record) × (s ≡ standing (r ∷ []) [] [] 0))

-- which can't leave it
from_cache : (r : Record) (new : State) → Moves (net to_none) customers one (standing (r ∷ []) [] [] 0) new → ⊥
from_cache r new (crosses packet crossing n p e k m) = let bad : None ≡ Some n = k in absurd (cc)
from_cache r new (expires name zero number rs q h e k m) = none_numbered m.1.0 m.1.1 m.1.2
from_cache r new (expires name (suc holder) number rs q h e k m) = let bad : None ≡ Some rs = e in absurd (cc)
from_cache r new (arrives link number rs q e k m) = none_leaves link number rs q e k

stays_stuck : (s new : State) → IsStuck s → Moves (net to_none) customers one s new → IsStuck new
stays_stuck s new stuck m =
    elim stuck [
      | inl e ↦ inr (from_start to_none [] new (subst (λ x. Moves (net to_none) customers one x new) e m))
      | inr h ↦ absurd (from_cache h.0 new (subst (λ x. Moves (net to_none) customers one x new) h.1 m))
    ]

not_while_stuck : (s : State) → IsStuck s → Complete s → ⊥
not_while_stuck s stuck c =
    elim stuck [
      | inl e ↦ not_at_start to_none [] (subst Complete e c)
      | inr h ↦ let empty : false ≡ true = (subst Complete h.1 c).nothing_held in absurd (cc)
    ]

-- so it isn't enough that records only go forward,
pub ranks_are_not_enough : ((net : Net) → IsRanked net → HasCompleteRun net customers one) → ⊥
ranks_are_not_enough law =
    let run = law (net to_none) (is_ranked to_none) in
    never_complete (net to_none) IsStuck stays_stuck not_while_stuck (start to_none []) run.final run.runs (inl refl)
    run.complete

-- ---- from the collector back to itself

abbrev to_link : Exporter
to_link = record { parallel = true; destinations = Some 0 ∷ [] }

abbrev ring : Net
ring = sending_on to_link (0 ∷ [])

abbrev OnLink : State → Type 0
OnLink s = (r : Record) × (totals : List Record) × (unassigned : ℕ) × (s ≡ standing [] (r ∷ []) totals unassigned)

-- the crossing is to come, or a record is in the cache, or one is on the link
abbrev IsGoing : State → Type 0
IsGoing s = (s ≡ start to_link (0 ∷ [])) ⊎ (((r : Record) × (s ≡ standing (r ∷ []) [] [] 0)) ⊎ OnLink s)

to_link_from_cache : (r : Record) (new : State) → Moves ring customers one (standing (r ∷ []) [] [] 0) new → OnLink new
to_link_from_cache r new (crosses packet crossing n p e k m) = let bad : None ≡ Some n = k in absurd (cc)
to_link_from_cache r new (expires name zero number rs q h e k m) =
    (q, [], 0, sym m.2 ∙ m.1 ∙ ap (λ (xs : List Record). standing xs (q ∷ []) [] 0) (one_leaves number rs r q e k))
to_link_from_cache r new (expires name (suc holder) number rs q h e k m) = let bad : None ≡ Some rs = e in absurd (cc)
to_link_from_cache r new (arrives link number rs q e k m) = absurd (none_leaves link number rs q e k)

to_link_from_link : (r : Record) (totals : List Record) (unassigned : ℕ) (new : State)
    → Moves ring customers one (standing [] (r ∷ []) totals unassigned) new → OnLink new
to_link_from_link r totals unassigned new (crosses packet crossing n p e k m) = let bad : None ≡ Some n = k in
    absurd (cc)
to_link_from_link r totals unassigned new (expires name holder number rs q h e k m) =
    absurd (none_leaves holder number rs q e k)
to_link_from_link r totals unassigned new (arrives zero number rs q e k m) =
    let t = tally_tells ring customers one q.counts q.key (standing [] (without rs number) totals unassigned) in
    let sent : State → State = λ s. record s { carried = put_last s.carried 0 q } in (
      q,
      t.0,
      t.1,
      sym m.2.2 ∙ m.2.1 ∙ ap sent (m.1 ∙ t.2)
          ∙ ap (λ (xs : List Record). standing [] (xs ++ q ∷ []) t.0 t.1) (one_leaves number rs r q e k),
    )
to_link_from_link r totals unassigned new (arrives (suc link) number rs q e k m) = let bad : None ≡ Some rs = e in
    absurd (cc)

keeps_going : (s new : State) → IsGoing s → Moves ring customers one s new → IsGoing new
keeps_going s new going m =
    elim going [
      | inl e ↦ inr (inl (from_start to_link (0 ∷ []) new (subst (λ x. Moves ring customers one x new) e m)))
      | inr h ↦ elim h [
        | inl e ↦ inr (inr (to_link_from_cache e.0 new (subst (λ x. Moves ring customers one x new) e.1 m)))
        | inr e ↦ inr (inr (to_link_from_link e.0 e.1 e.2 new (subst (λ x. Moves ring customers one x new) e.3 m)))
      ]
    ]

not_while_going : (s : State) → IsGoing s → Complete s → ⊥
not_while_going s going c =
    elim going [
      | inl e ↦ not_at_start to_link (0 ∷ []) (subst Complete e c)
      | inr h ↦ elim h [
        | inl e ↦ let empty : false ≡ true = (subst Complete e.1 c).nothing_held in absurd (cc)
        | inr e ↦ let empty : false ≡ true = (subst Complete e.3 c).nothing_carried in absurd (cc)
      ]
    ]

-- nor that none is stuck
pub no_stuck_record_is_not_enough : ((net : Net) → IsRunnable net → HasCompleteRun net customers one) → ⊥
no_stuck_record_is_not_enough law =
    let links : All (λ d. IfSome d (λ link. link < length ring.links)) to_link.destinations =
    All-cons (λ d. IfSome d (λ link. link < 1)) (Some 0) [] (omega arith) (All-nil _) in
    let run = law ring (is_runnable to_link (0 ∷ []) (record { links = links; some = λ e. absurd (cc) })) in
    never_complete ring IsGoing keeps_going not_while_going (start to_link (0 ∷ [])) run.final run.runs (inl refl)
    run.complete
