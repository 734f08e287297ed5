-- A running network in the middle of what it does, and the steps that it has made so far.
use Rattle.std.proofs.Common.{◌≡◌, ℕ, zero, suc, ◌^◌, ◌<◌, ◌==◌, ◌&&◌, true, cond, remove, List, [], ◌∷◌, ◌++◌, length, slice_get, slice_set, refl, ap, sym, ◌∙◌, subst, arith, append-nil, Some, Ok}
use Rattle.std.specs.List.{AllByRecursion}
use Rattle.std.proofs.lemmas.Bool.Decides.{nat_tests}
use Rattle.fx_tables.specs.declared.packet.Packet.{Packet}
use Rattle.fx_tables.specs.declared.record.Record.{Record}
use Rattle.fx_tables.specs.declared.holder_name.HolderName.{HolderName}
use Rattle.fx_run_text.specs.declared.step.Step.{Step}
use Rattle.fx_run_text.specs.declared.step.Step.TheVariants.{Cross, Expire}
use Rattle.fx_tables.specs.declared.traffic.Crossing.{Crossing}
use Rattle.fx_tables.specs.Network.{Net, named_by}
use Rattle.fx_base.specs.Entries.{entry_numbered}
use Rattle.fx_tables.specs.Classes.{Class, path}
use Rattle.fx_machine.specs.States.{State, Coming, opening, wrapped_state, put_last}
use Rattle.fx_machine.specs.Acts.{Choices, Outcome}
use Rattle.fx_machine.specs.Sends.{put_all}
use Rattle.fx_machine.specs.Holds.{hold_all}
use Rattle.fx_machine.specs.Steps.{run, after, then_run, one_packet, place, later}
use Rattle.fx_collect.specs.Totals.{totals_in}
use Rattle.fx_link.specs.Ongoing.{Ongoing}
use Rattle.fx_runs.specs.Destinations.{AllUsable, links_used, sent_by}
use Rattle.fx_runs.specs.Given.{records_given}
use Rattle.fx_runs.specs.Making.{intakes_at}
use Rattle.fx_runs.specs.PutOn.{put_by}
use Rattle.fx_runs.proofs.RunsGoOn.{runs_join}
use Rattle.fx_runs.proofs.RecordsGiven.{expire_puts, cross_puts}
use Rattle.fx_runs.proofs.StepsThatCanBeMade.{expires_are_made, crosses_are_made}
use Rattle.fx_runs.proofs.PutOn.{put_first, put_joins}
use Rattle.fx_net.specs.Contents.{Contents}
use Rattle.fx_net.specs.Leaving.{after_leave, after_leaves}
use Rattle.fx_conform.specs.Held.{Leaver, Leave, AllLeave}
use Rattle.fx_conform.specs.OnLinks.{AreCarried, IsCarried}
use Rattle.fx_conform.specs.Sendable.{AreSent}
use Rattle.fx_conform.specs.Closing.{CanBeNamed}
use Rattle.fx_conform.specs.Conforming.{put_by_run}
use Rattle.fx_conform.specs.Rows.{Expires, Repeated, Row, expiry}
use Rattle.fx_conform.proofs.LinkLaws.{puts_carry}
use Rattle.fx_conform.proofs.CanBeSent.{leavings_can_be_sent}

-- Crossings may be to come, records may have arrived from a link that aren't handled yet, and some may wait on links.
pub record IsAmid (net : Net) (classes : List Class) (packets : List Packet) (c : Contents) (pending : ℕ → List Record)
    (history : ℕ → List ℕ) (coming : List Coming) (steps : List Step) (s : State) : Type 0 where
  pub run_is : run net classes packets steps (opening net classes packets) ≡ Ok s
  pub coming_is : s.coming ≡ coming
  pub as_many : length s.carried ≡ length net.links
  pub links : AreCarried c.second pending history (put_by_run net classes packets steps) c.links s.carried
  pub chosen : AllUsable net c.chosen
  pub totals : c.totals ≡ totals_in net.report_layout (wrapped_state s)
  pub second : c.second < 2 ^ 32

-- ---- lists of what is carried

pub there_is_below : {A : Type 0} (xs : List A) (n : ℕ) (x : A) → slice_get xs n ≡ Some x → n < length xs
there_is_below [] n x e = absurd cc
there_is_below (y ∷ ys) zero x e = omega arith
there_is_below (y ∷ ys) (suc n) x e = let h = there_is_below ys n x e in omega (arith, h)

last_length : (rss : List (List Record)) (n : ℕ) (r : Record) → length (put_last rss n r) ≡ length rss
last_length [] n r = refl
last_length (rs ∷ rss) zero r = refl
last_length (rs ∷ rss) (suc n) r = ap suc (last_length rss n r)

pub all_length : (links : List ℕ) (r : Record) (rss : List (List Record)) → length (put_all links r rss) ≡ length rss
all_length [] r rss = refl
all_length (l ∷ ls) r rss = all_length ls r (put_last rss l r) ∙ last_length rss l r

pub set_length : {A : Type 0} (xs : List A) (n : ℕ) (x : A) → length (slice_set xs n x) ≡ length xs
set_length [] n x = refl
set_length (y ∷ ys) zero x = refl
set_length (y ∷ ys) (suc n) x = ap suc (set_length ys n x)

-- what is put on links that aren't there doesn't matter
pub carried_alike : (time : ℕ) (pending : ℕ → List Record) (history : ℕ → List ℕ) (all new : ℕ → List Record)
    (links : List Ongoing) (carried : List (List Record))
    → AreCarried time pending history all links carried → ((link : ℕ) → link < length carried → all link ≡ new link)
    → AreCarried time pending history new links carried
carried_alike time pending history all new links carried h same = record {
  as_many = h.as_many;
  each = λ link o rs there on. subst (λ (a : List Record). IsCarried time (pending link) (history link) a o rs)
      (same link (there_is_below carried link rs on)) (h.each link o rs there on);
}

-- ---- a step more

module _ (net : Net) (classes : List Class) (packets : List Packet) where
  put_by_one : (steps : List Step) (step : Step) (s t : State) (link : ℕ)
      → run net classes packets steps (opening net classes packets) ≡ Ok s
      → after net classes packets step s ≡ Ok t
      → put_by_run net classes packets (steps ++ step ∷ []) link ≡ put_by_run net classes packets steps link
      ++ put_by step link s t
  put_by_one steps step s t link e f =
      put_joins net classes packets link steps (step ∷ []) (opening net classes packets) s e
      ∙ ap (λ (l : List Record). put_by_run net classes packets steps link ++ l)
      (put_first net classes packets link step [] s t f ∙ append-nil (put_by step link s t))

  pub run_one : (steps : List Step) (step : Step) (s t : State)
      → run net classes packets steps (opening net classes packets) ≡ Ok s
      → after net classes packets step s ≡ Ok t
      → run net classes packets (steps ++ step ∷ []) (opening net classes packets) ≡ Ok t
  run_one steps step s t e f =
      runs_join net classes packets steps (step ∷ []) (opening net classes packets) s t e
      (ap (λ (o : Outcome). then_run o (run net classes packets [])) f)

  -- the links after a step that puts these records on them
  pub links_then : (time : ℕ) (pending : ℕ → List Record) (history : ℕ → List ℕ) (more : ℕ → List Record)
      (links : List Ongoing) (steps : List Step) (step : Step) (s t : State)
      → run net classes packets steps (opening net classes packets) ≡ Ok s → after net classes packets step s ≡ Ok t
      → ((link : ℕ) → link < length t.carried → put_by step link s t ≡ more link)
      → AreCarried time pending history (λ link. put_by_run net classes packets steps link ++ more link) links t.carried
      → AreCarried time pending history (put_by_run net classes packets (steps ++ step ∷ [])) links t.carried
  links_then time pending history more links steps step s t e f puts h =
      carried_alike time pending history _ _ links t.carried h
      (λ link lt. ap (λ (l : List Record). put_by_run net classes packets steps link ++ l) (sym (puts link lt))
      ∙ sym (put_by_one steps step s t link e f))

  -- ---- records leave

  -- what follows by some steps
  pub record Follows (row : Row) (c : Contents) (pending : ℕ → List Record) (history : ℕ → List ℕ)
      (coming : List Coming) (steps : List Step) (held : List (List Record)) : Type 0 where
    pub to : List Step
    pub state : State
    pub shaped : row steps to
    pub amid : IsAmid net classes packets c pending history coming to state
    pub held_is : state.held ≡ held

  module _ (pending : ℕ → List Record) (history : ℕ → List ℕ) (coming : List Coming) where
    pub one_leaves : (l : Leaver) (c : Contents) (steps : List Step) (s : State) (now : List (List Record))
        (named : CanBeNamed net l.holder)
        → IsAmid net classes packets c pending history coming steps s → AreSent s.held → (leave : Leave l s.held now)
        → Follows (λ from to. to ≡ from ++ expiry net c.chosen named.0 l.holder leave.number ∷ []) (after_leave net l c)
        pending history coming steps now
    one_leaves l c steps s now named a sent leave =
        let name : HolderName = named.0 in
        let places : List ℕ = named_by (slice_get net.holders l.holder) in
        let links : List ℕ = links_used net c.chosen places in
        let step : Step = Expire name leave.number (sent_by net c.chosen places) in
        let t : State = record s { held = now; carried = put_all links l.flow s.carried } in
        let made : after net classes packets step s ≡ Ok t =
        expires_are_made net classes packets c.chosen s name l.holder leave.number leave.rs l.flow a.chosen named.1
        leave.there leave.flow_is
        ∙ ap (λ (h : List (List Record)). let u : Outcome =
        Ok (record s { held = h; carried = put_all links l.flow s.carried }) in u) (sym leave.now_is) in
        record {
          to = steps ++ step ∷ [];
          state = t;
          shaped = refl;
          amid = record {
            run_is = run_one steps step s t a.run_is made;
            coming_is = a.coming_is;
            as_many = all_length links l.flow s.carried ∙ a.as_many;
            links = links_then c.second pending history (records_given links l.flow) _ steps step s t a.run_is made
                (λ link lt. expire_puts name leave.number (sent_by net c.chosen places) s t links l.flow link refl
                (subst (λ (n : ℕ). link < n) (all_length links l.flow s.carried) lt))
                (puts_carry c.second pending history (put_by_run net classes packets steps) c.links s.carried l.flow
                links a.links (leavings_can_be_sent l s.held now leave sent).0);
            chosen = a.chosen;
            totals = a.totals;
            second = a.second;
          };
          held_is = refl;
        }

    -- one after another
    pub all_leave_so : (ls : List Leaver) (c : Contents) (steps : List Step) (s : State) (held now : List (List Record))
        → AllByRecursion (λ (l : Leaver). CanBeNamed net l.holder) ls
        → IsAmid net classes packets c pending history coming steps s → s.held ≡ held → AreSent held
        → AllLeave ls held now
        → Follows (Repeated (Expires net c.chosen)) (after_leaves net ls c) pending history coming steps now
    all_leave_so [] c steps s held now named a is sent leave =
        record { to = steps; state = s; shaped = (0, refl); amid = a; held_is = is ∙ sym leave }
    all_leave_so (l ∷ ls) c steps s held now named a is sent leave =
        let there : Leave l s.held leave.0 = subst (λ (h : List (List Record)). Leave l h leave.0) (sym is) leave.1 in
        let first = one_leaves l c steps s leave.0 named.0 a (subst AreSent (sym is) sent) there in
        let rest = all_leave_so ls (after_leave net l c) first.to first.state leave.0 now named.1 first.amid
        first.held_is (leavings_can_be_sent l held leave.0 leave.1 sent).1 leave.2 in
        let expires : Expires net c.chosen steps first.to =
        record {
          name = named.0.0;
          place = l.holder;
          named = named.0.1;
          number = there.number;
          to_is =
              first.shaped;
        } in
        record {
          to = rest.to;
          state = rest.state;
          shaped = (suc rest.shaped.0, (first.to, expires, rest.shaped.1));
          amid = rest.amid;
          held_is = rest.held_is;
        }

  -- ---- a packet crosses

  module _ (pending : ℕ → List Record) (history : ℕ → List ℕ) (rest : List Coming) (i j : ℕ) (p : Packet)
      (crossing : Crossing) where
    first_place : (coming : List Coming) → coming ≡ record { packet = i; crossing = j } ∷ rest → place coming i j
        ≡ Some 0
    first_place coming e =
        let here : (i == i && j == j) ≡ true = grind (arith, nat_tests) in
        ap (λ (cs : List Coming). place cs i j) e ∙ ap (λ b. cond b (Some 0) (later (place rest i j))) here

    pub crosses : (c : Contents) (steps : List Step) (s : State) (choices : Choices) (now : List (List Record))
        → entry_numbered packets i ≡ Some p → entry_numbered (path classes p) j ≡ Some crossing
        → IsAmid net classes packets c pending history (record { packet = i; crossing = j } ∷ rest) steps s
        → hold_all (one_packet p) (intakes_at net p.fields crossing) s.held choices ≡ Some now
        → Follows (λ from to. to ≡ from ++ Cross i j choices ∷ []) c pending history rest steps now
    crosses c steps s choices now is on a taken =
        let step : Step = Cross i j choices in
        let t : State = record s { coming = rest; held = now } in
        let made : after net classes packets step s ≡ Ok t =
        crosses_are_made net classes packets s i j 0 p crossing choices now is (first_place s.coming a.coming_is) on
        taken
        ∙ ap (λ (cs : List Coming). let u : Outcome = Ok (record s { coming = remove cs 0; held = now }) in u)
        a.coming_is in
        record {
          to = steps ++ step ∷ [];
          state = t;
          shaped = refl;
          amid = record {
            run_is = run_one steps step s t a.run_is made;
            coming_is = refl;
            as_many = a.as_many;
            links = links_then c.second pending history (λ link. []) c.links steps step s t a.run_is made
                (λ link lt. cross_puts i j choices s t link refl)
                (carried_alike c.second pending history _ _ c.links s.carried a.links
                (λ link lt. sym (append-nil (put_by_run net classes packets steps link))));
            chosen = a.chosen;
            totals = a.totals;
            second = a.second;
          };
          held_is = refl;
        }
