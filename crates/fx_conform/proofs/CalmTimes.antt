-- What a running network does between two times at which nothing is on its way.
use Rattle.std.proofs.Common.{◌≡◌, ℕ, suc, ◌^◌, ◌<◌, List, [], ◌∷◌, ◌++◌, length, slice_get, refl, ap, sym, ◌∙◌, subst, append_assoc, Option, Some, None, Ok}
use Rattle.std.specs.List.{AllByRecursion}
use Rattle.fx_base.specs.Device.{Writes}
use Rattle.fx_tables.specs.declared.packet.Packet.{Packet}
use Rattle.fx_run_text.specs.declared.step.Step.{Step}
use Rattle.fx_tables.specs.Network.{Net}
use Rattle.fx_base.specs.Entries.{entry_numbered}
use Rattle.fx_tables.specs.Classes.{Class, path}
use Rattle.fx_machine.specs.States.{State, Coming, opening, crossings_from}
use Rattle.fx_machine.specs.Steps.{run}
use Rattle.fx_link.specs.Links.{Put}
use Rattle.fx_runs.specs.PutOn.{put_on}
use Rattle.fx_runs.specs.Extending.{crossings_of, with_packet}
use Rattle.fx_runs.proofs.RunsGoOn.{runs_extend, opening_push}
use Rattle.fx_runs.proofs.PutOn.{put_extends}
use Rattle.fx_net.specs.Contents.{Contents}
use Rattle.fx_net.specs.Doings.{Making, Doing, Ended, Nothing, Then, Each}
use Rattle.fx_net.specs.Finishing.{PutsAll, after_finishing, to_put_on}
use Rattle.fx_conform.specs.OnLinks.{none_pending}
use Rattle.fx_conform.specs.Conforming.{Conforms, StoresConform, put_by_run}
use Rattle.fx_conform.specs.Rows.{Followed, InTurn, NoStep, Row}
use Rattle.fx_conform.proofs.LinkLaws.{finishing_rests, still_carries}
use Rattle.fx_conform.proofs.NetworkMidway.{IsAmid, carried_alike}
use Rattle.fx_conform.proofs.PacketsCross.{Then as Made}

pub writes_join : (a b c : Option (List ℕ)) (first rest : List ℕ) → Writes a b first → Writes b c rest
    → Writes a c (first ++ rest)
writes_join None b c first rest h k = subst (λ (o : Option (List ℕ)). Writes o c rest) h k
writes_join (Some xs) b c first rest h k = subst (λ (o : Option (List ℕ)). Writes o c rest) h k
    ∙ ap Some (append_assoc xs first rest)

module _ (net : Net) (classes : List Class) (begin : Put) where
  -- Some steps over these packets have followed.
  pub record Went (packets : List Packet) (chosen : List ℕ) (row : Row) (put : Put) (c : Contents) (steps : List Step) :
      Type 0 where
    pub to : List Step
    pub state : State
    pub shaped : row steps to
    pub chosen_are : c.chosen ≡ chosen
    pub conforms : Conforms net classes begin put c packets to state

  pub amid_of : (put : Put) (c : Contents) (packets : List Packet) (steps : List Step) (s : State)
      (h : Conforms net classes begin put c packets steps s)
      → IsAmid net classes packets c none_pending h.history [] steps s
  amid_of put c packets steps s h = record {
    run_is = h.run_is;
    coming_is = h.crossed;
    as_many = h.as_many;
    links = still_carries c.second h.history (put_by_run net classes packets steps) c.links s.carried h.links;
    chosen = h.chosen;
    totals = h.totals;
    second = h.second;
  }

  -- what waits is put out
  pub finished : (before after : Put) (c : Contents) (packets : List Packet) (steps : List Step) (s : State)
      (history : ℕ → List ℕ)
      → IsAmid net classes packets c none_pending history [] steps s → StoresConform net c.stores s.held
      → ((link : ℕ) → Writes (begin (suc link)) (before (suc link)) (history link))
      → PutsAll before after c.second c.links
      → Conforms net classes begin after (after_finishing c) packets steps s
  finished before after c packets steps s history a st written puts = record {
    history = λ link. history link ++ to_put_on c.second (slice_get c.links link);
    written = λ link. writes_join (begin (suc link)) (before (suc link)) (after (suc link)) (history link)
        (to_put_on c.second (slice_get c.links link)) (written link) (puts.1 link).1;
    run_is = a.run_is;
    crossed = a.coming_is;
    as_many = a.as_many;
    stores = st;
    links = finishing_rests c.second history (put_by_run net classes packets steps) c.links s.carried a.second a.links
        (λ link. (puts.1 link).0);
    chosen = a.chosen;
    totals = a.totals;
    second = a.second;
  }

  pub ended : (packets : List Packet) (chosen : List ℕ) (row : Row) (makes : Making) (before after : Put)
      (old new : Contents) (steps : List Step) (history : ℕ → List ℕ)
      → ((link : ℕ) → Writes (begin (suc link)) (before (suc link)) (history link))
      → (e : Ended makes before old after new) → e.done.chosen ≡ chosen
      → Made net classes packets row e.done none_pending history [] steps → Went packets chosen row after new steps
  ended packets chosen row makes before after old new steps history written e same made = record {
    to = made.to;
    state = made.state;
    shaped = made.shaped;
    chosen_are = ap (λ (c : Contents). c.chosen) e.new_is ∙ same;
    conforms = subst (λ (c : Contents). Conforms net classes begin after c packets made.to made.state) (sym e.new_is)
        (finished before after e.done packets made.to made.state history made.amid made.stores written e.put);
  }

  -- ---- one thing after another

  abbrev pub Goes : List Packet → List ℕ → Row → Doing → Type 0
  Goes packets chosen row do_ =
      (before : Put) (old : Contents) (after : Put) (new : Contents) (steps : List Step) (s : State)
      → Conforms net classes begin before old packets steps s → old.chosen ≡ chosen → do_ before old after new
      → Went packets chosen row after new steps

  pub goes_nothing : (packets : List Packet) (chosen : List ℕ) → Goes packets chosen NoStep Nothing
  goes_nothing packets chosen before old after new steps s h same e = record {
    to = steps;
    state = s;
    shaped = refl;
    chosen_are = ap (λ (c : Contents). c.chosen) e.1 ∙ same;
    conforms = subst (λ (put : Put). Conforms net classes begin put new packets steps s) (sym e.0)
        (subst (λ (c : Contents). Conforms net classes begin before c packets steps s) (sym e.1) h);
  }

  pub goes_then : (packets : List Packet) (chosen : List ℕ) (one other : Row) (first rest : Doing)
      → Goes packets chosen one first → Goes packets chosen other rest
      → Goes packets chosen (Followed one other) (Then first rest)
  goes_then packets chosen one other first rest g k before old after new steps s h same e =
      let a = g before old e.0 e.1 steps s h same e.2 in
      let b = k e.0 e.1 after new a.to a.state a.conforms a.chosen_are e.3 in
      record {
        to = b.to;
        state = b.state;
        shaped = (a.to, a.shaped, b.shaped);
        chosen_are = b.chosen_are;
        conforms =
            b.conforms;
      }

  pub goes_each : {A : Type 0} (packets : List Packet) (chosen : List ℕ) (P : A → Type 0) (row : A → Row)
      (do_ : A → Doing) → ((x : A) → P x → Goes packets chosen (row x) (do_ x)) → (xs : List A) → AllByRecursion P xs
      → Goes packets chosen (InTurn row xs) (Each do_ xs)
  goes_each packets chosen P row do_ g [] all = goes_nothing packets chosen
  goes_each packets chosen P row do_ g (x ∷ xs) all =
      goes_then packets chosen (row x) (InTurn row xs) (do_ x) (Each do_ xs) (g x all.0)
      (goes_each packets chosen P row do_ g xs all.1)

-- ---- a packet is read

module _ (net : Net) (classes : List Class) (begin : Put) where
  -- the packet comes behind the others
  abbrev pub with_one_more : List Packet → Packet → List Packet
  with_one_more packets p = packets ++ p ∷ []

  put_before : (packets : List Packet) (p : Packet) (steps : List Step) (s : State) (link : ℕ)
      → run net classes packets steps (opening net classes packets) ≡ Ok s
      → put_by_run net classes packets steps link ≡ put_by_run net classes (packets ++ p ∷ []) steps link
  put_before packets p steps s link e =
      sym (ap (λ (o : State). put_on net classes (packets ++ p ∷ []) link steps o) (opening_push net classes packets p)
      ∙ put_extends net classes packets (p ∷ []) (crossings_of classes packets p) link steps
      (opening net classes packets) s e)

  pub packet_comes : (put : Put) (c : Contents) (packets : List Packet) (steps : List Step) (s : State) (p : Packet)
      (second : ℕ) (h : Conforms net classes begin put c packets steps s) → second < 2 ^ 32
      → IsAmid net classes (packets ++ p ∷ []) (record c { second = second }) none_pending h.history
      (crossings_from (suc (length packets)) 1 (path classes p)) steps (with_packet classes packets p s)
  packet_comes put c packets steps s p second h lt = record {
    run_is = runs_extend net classes packets p steps s h.run_is;
    coming_is = ap (λ (l : List Coming). l ++ crossings_of classes packets p) h.crossed;
    as_many = h.as_many;
    links = carried_alike second none_pending h.history _ _ c.links s.carried
        (still_carries second h.history (put_by_run net classes packets steps) c.links s.carried h.links)
        (λ link below. put_before packets p steps s link h.run_is);
    chosen = h.chosen;
    totals = h.totals;
    second = lt;
  }

  pub last_numbered : (packets : List Packet) (p : Packet) → entry_numbered (packets ++ p ∷ []) (suc (length packets))
      ≡ Some p
  last_numbered [] p = refl
  last_numbered (q ∷ packets) p = last_numbered packets p
