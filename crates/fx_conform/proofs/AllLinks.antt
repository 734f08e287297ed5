-- What all links carry, by their places.
use Rattle.std.proofs.Common.{◌≡◌, ℕ, zero, suc, ◌^◌, ◌<◌, ◌==◌, Bool, true, false, cond, List, [], ◌∷◌, ◌++◌, length, Option, Some, option_map, None, refl, sym, ap, ◌∙◌, subst, arith, slice_get, slice_set}
use Rattle.std.specs.Prelude.{map}
use Rattle.std.proofs.lemmas.Bool.{eqb-true, eqb-false, eq-eqb}
use Rattle.fx_tables.specs.declared.record.Record.{Record}
use Rattle.fx_machine.specs.States.{all_empty, nothing_at}
use Rattle.fx_machine.specs.Sends.{put_all}
use Rattle.fx_machine.proofs.LastLeaves.{there}
use Rattle.fx_link.specs.Sending.{IsSent}
use Rattle.fx_link.specs.Wires.{new_wire}
use Rattle.fx_link.specs.Ongoing.{Ongoing, at_rest, after_finish, after_carry}
use Rattle.fx_net.specs.Arriving.{waiting_on, with_left}
use Rattle.fx_net.specs.Contents.{with_changed}
use Rattle.fx_net.specs.Exporting.{put_each}
use Rattle.fx_net.specs.Finishing.{HasRoom, to_put_on}
use Rattle.fx_net.specs.Opening.{new_links}
use Rattle.fx_runs.specs.Given.{records_given}
use Rattle.fx_runs.proofs.RecordsGiven.{gives_all}
use Rattle.fx_conform.specs.OnLinks.{AreRead, IsStill, IsCarried, AreStill, AreCarried, none_pending, pending_from, with_octets_carried, arrivals, NoOctets}
use Rattle.fx_conform.proofs.Places.{at_set, at_other, changed_other}
use Rattle.fx_conform.proofs.LinkPlaces.{same_some, made_of, map_at, changed_here, mapped_many, changed_many, set_many, put_all_many, put_each_many, given_sent, putting, put_each_at}
use Rattle.fx_conform.proofs.OneLink.{new_is_still, still_is_carried, puts_are_carried, finishing_stills, octets_arrive, arrived_leaves, nothing_carried}

-- ---- at the beginning

as_many_new : (places : List ℕ) → length (nothing_at places) ≡ length (new_links places)
as_many_new [] = refl
as_many_new (p ∷ ps) = ap suc (as_many_new ps)

new_each : (places : List ℕ) (link : ℕ) (o : Ongoing) (rs : List Record) → slice_get (new_links places) link ≡ Some o
    → slice_get (nothing_at places) link ≡ Some rs → IsStill [] [] o rs
new_each [] link o rs a b = absurd (cc)
new_each (p ∷ ps) zero o rs a b =
    subst (λ (l : List Record). IsStill [] [] o l) (same_some {A = List Record} [] rs b)
    (subst (λ (x : Ongoing). IsStill [] [] x []) (same_some (at_rest new_wire) o a) new_is_still)
new_each (p ∷ ps) (suc n) o rs a b = new_each ps n o rs a b

pub links_begin : (places : List ℕ) → AreStill (λ _. []) (λ _. []) (new_links places) (nothing_at places)
links_begin places = record { as_many = as_many_new places; each = new_each places }

-- ---- records that are put on links

module _ (time : ℕ) (history : ℕ → List ℕ) (all : ℕ → List Record) (links : List Ongoing) (carried : List (List Record))
  where
    pub stills_are_carried : AreStill history all links carried → AreCarried time none_pending history all links carried
    stills_are_carried s = record {
      as_many = s.as_many;
      each = λ link o rs a b. still_is_carried time (history link) (all link) o rs (s.each link o rs a b);
    }

    pub all_puts_are_carried : (pending : ℕ → List Record) (r : Record) (places : List ℕ)
        → AreCarried time pending history all links carried → IsSent r
        → AreCarried time pending history (λ link. all link ++ records_given places r link)
        (put_each time r places links)
        (put_all places r carried)
    all_puts_are_carried pending r places c s = record {
      as_many = put_all_many places r carried ∙ c.as_many ∙ sym (put_each_many time r places links);
      each = λ link o rs a b.
          let more : List Record = records_given places r link in
          let before = made_of (putting time more) (slice_get links link) o
          (sym (put_each_at time r places links link) ∙ a) in
          let held = made_of (λ (l : List Record). l ++ more) (slice_get carried link) rs
          (sym (gives_all places r carried link) ∙ b) in
          let one = puts_are_carried time (history link) (all link) before.0 held.0 (pending link) more
          (c.each link before.0 held.0 before.1 held.1) (given_sent places r link s) in
          subst (λ (l : List Record). IsCarried time (pending link) (history link) (all link ++ more) o l) held.2
          (subst (λ (x : Ongoing). IsCarried time (pending link) (history link) (all link ++ more) x (held.0 ++ more))
          before.2 one);
    }

    pub all_finishing_stills : time < 2 ^ 32 → AreCarried time none_pending history all links carried
        → ((link : ℕ) → HasRoom (slice_get links link))
        → AreStill (λ link. history link ++ to_put_on time (slice_get links link)) all (map (after_finish time) links)
        carried
    all_finishing_stills h c room = record {
      as_many = c.as_many ∙ sym (mapped_many (after_finish time) links);
      each = λ link o rs a b.
          let before = made_of (after_finish time) (slice_get links link) o
          (sym (map_at (after_finish time) links link) ∙ a) in
          let one = finishing_stills time (history link) (all link) before.0 rs h (c.each link before.0 rs before.1 b)
          (subst HasRoom before.1 (room link)) in
          subst (λ (x : Option Ongoing). IsStill (history link ++ to_put_on time x) (all link) o rs) (sym before.1)
          (subst (λ (x : Ongoing). IsStill (history link ++ to_put_on time (Some before.0)) (all link) x rs) before.2
          one);
    }

-- ---- octets are carried

-- octets reach the receiver, which gives its records out
abbrev after_reading : ℕ → Ongoing → Ongoing
after_reading n o = with_left [] (after_carry n o)

both_made : (n : ℕ) (o : Option Ongoing) → option_map (with_left []) (option_map (after_carry n) o)
    ≡ option_map (after_reading n) o
both_made n None = refl
both_made n (Some o) = refl

module _ (link n : ℕ) (links : List Ongoing) where
  carried_here : slice_get (with_octets_carried link n links) link ≡ option_map (after_reading n) (slice_get links link)
  carried_here =
      changed_here (with_left []) (with_changed (after_carry n) links link) link
      ∙ ap (option_map (with_left [])) (changed_here (after_carry n) links link)
      ∙ both_made n (slice_get links link)

  carried_other : (k : ℕ) → (k ≡ link → ⊥) → slice_get (with_octets_carried link n links) k ≡ slice_get links k
  carried_other k ne = changed_other (with_left []) (with_changed (after_carry n) links link) link k ne
      ∙ changed_other (after_carry n) links link k ne

  arrived_is : (o : Ongoing) → slice_get links link ≡ Some o → waiting_on (Some (after_carry n o))
      ≡ arrivals link n links
  arrived_is o at = sym (ap waiting_on (changed_here (after_carry n) links link)
      ∙ ap (λ (x : Option Ongoing). waiting_on (option_map (after_carry n) x)) at)

module _ (time link n : ℕ) (history : ℕ → List ℕ) (all : ℕ → List Record) (links : List Ongoing)
    (carried : List (List Record)) (s : AreStill history all links carried) where
  arrive_at : (k : ℕ) (o : Ongoing) (rs : List Record) → slice_get (with_octets_carried link n links) k ≡ Some o
      → slice_get carried k ≡ Some rs → (b : Bool) → (k == link) ≡ b
      → IsCarried time (cond b (arrivals link n links) []) (history k) (all k) o rs
  arrive_at k o rs a b false e =
      let at : slice_get links k ≡ Some o = sym (carried_other link n links k (eqb-false k link e)) ∙ a in
      still_is_carried time (history k) (all k) o rs (s.each k o rs at b)
  arrive_at k o rs a b true e =
      let same : k ≡ link = eqb-true k link e in
      let here : slice_get (with_octets_carried link n links) k ≡ option_map (after_reading n) (slice_get links k) =
      subst (λ (m : ℕ). slice_get (with_octets_carried link n links) m
      ≡ option_map (after_reading n) (slice_get links m)) (sym same) (carried_here link n links) in
      let before = made_of (after_reading n) (slice_get links k) o (sym here ∙ a) in
      let one = octets_arrive time n (history k) (all k) before.0 rs (s.each k before.0 rs before.1 b) in
      let come : waiting_on (Some (after_carry n before.0)) ≡ arrivals link n links =
      arrived_is link n links before.0 (sym (ap (slice_get links) same) ∙ before.1) in
      subst (λ (l : List Record). IsCarried time l (history k) (all k) o rs) come
      (subst (λ (x : Ongoing). IsCarried time (waiting_on (Some (after_carry n before.0))) (history k) (all k) x rs)
      before.2 one)

  pub all_octets_arrive : link < length links
      → AreCarried time (pending_from link (arrivals link n links)) history all (with_octets_carried link n links)
      carried
  all_octets_arrive within = record {
    as_many = s.as_many ∙ sym (changed_many (with_left []) (with_changed (after_carry n) links link) link
        ∙ changed_many (after_carry n) links link);
    each = λ k o rs a b. arrive_at k o rs a b (k == link) refl;
  }

-- ---- records leave

module _ (time link : ℕ) (history : ℕ → List ℕ) (all : ℕ → List Record) (links : List Ongoing)
    (carried : List (List Record)) where
  pub first_arrived_leaves : (r : Record) (rest : List Record) → link < length links
      → AreCarried time (pending_from link (r ∷ rest)) history all links carried
      → (rs : List Record) × (slice_get carried link ≡ Some (r ∷ rs)) × IsSent r
      × AreCarried time (pending_from link rest) history all links (slice_set carried link rs)
  first_arrived_leaves r rest within c =
      let o = there links link within in
      let held = there carried link (subst (λ (n : ℕ). link < n) (sym c.as_many) within) in
      let here : IsCarried time (r ∷ rest) (history link) (all link) o.0 held.0 =
      subst (λ (b : Bool). IsCarried time (cond b (r ∷ rest) []) (history link) (all link) o.0 held.0)
      (eq-eqb link link refl) (c.each link o.0 held.0 o.1 held.1) in
      let one = arrived_leaves time (history link) (all link) o.0 held.0 r rest here in (
        one.0,
        held.1 ∙ ap (λ (l : List Record). Some l) one.1,
        one.2,
        record {
          as_many = set_many carried link one.0 ∙ c.as_many;
          each =
              λ k x rs a b. by o held one k x rs a b (k == link) refl;
        },
      )
    where
      by : (o : (x : Ongoing) × (slice_get links link ≡ Some x))
          (held : (l : List Record) × (slice_get carried link ≡ Some l))
          (one : (l : List Record) × (held.0 ≡ r ∷ l) × IsSent r × IsCarried time rest (history link) (all link) o.0 l)
          (k : ℕ) (x : Ongoing) (rs : List Record)
          → slice_get links k ≡ Some x → slice_get (slice_set carried link one.0) k ≡ Some rs → (b : Bool) → (k == link)
          ≡ b → IsCarried time (cond b rest []) (history k) (all k) x rs
      by o held one k x rs a b false e =
          let apart : k ≡ link → ⊥ = eqb-false k link e in
          let at : slice_get carried k ≡ Some rs = sym (at_other carried link k one.0 apart) ∙ b in
          subst (λ (t : Bool). IsCarried time (cond t (r ∷ rest) []) (history k) (all k) x rs) e (c.each k x rs a at)
      by o held one k x rs a b true e =
          let same : k ≡ link = eqb-true k link e in
          let ongoing : o.0 ≡ x = same_some o.0 x (sym o.1 ∙ ap (slice_get links) (sym same) ∙ a) in
          let records : one.0 ≡ rs = same_some one.0 rs
          (sym (at_set carried link held.0 one.0 held.1) ∙ ap (slice_get (slice_set carried link one.0)) (sym same)
          ∙ b) in
          subst (λ (m : ℕ). IsCarried time rest (history m) (all m) x rs) (sym same)
          (subst (λ (l : List Record). IsCarried time rest (history link) (all link) x l) records
          (subst (λ (y : Ongoing). IsCarried time rest (history link) (all link) y one.0) ongoing one.3))

  pub none_left : AreCarried time (pending_from link []) history all links carried
      → AreCarried time none_pending history all links carried
  none_left c = record { as_many = c.as_many; each = λ k o rs a b. by (k == link) (c.each k o rs a b) } where
    by : {k : ℕ} {o : Ongoing} {rs : List Record} (t : Bool) → IsCarried time (cond t [] []) (history k) (all k) o rs
        → IsCarried time [] (history k) (all k) o rs
    by true h = h
    by false h = h

-- ---- nothing is on its way

all_are_empty : (links : List Ongoing) (carried : List (List Record)) → length carried ≡ length links
    → ((link : ℕ) (o : Ongoing) (rs : List Record) → slice_get links link ≡ Some o → slice_get carried link ≡ Some rs
    → o.queue ≡ [] → rs ≡ []) → NoOctets links → all_empty carried ≡ true
all_are_empty links [] many h none = refl
all_are_empty [] (rs ∷ rss) many h none = absurd (omega arith)
all_are_empty (o ∷ os) (rs ∷ rss) many h none =
    let first : rs ≡ [] = h 0 o rs refl refl none.0 in
    let fewer : length rss ≡ length os = omega arith in
    ap (λ (l : List Record). all_empty (l ∷ rss)) first ∙ all_are_empty os rss fewer (λ link. h (suc link)) none.1

module _ (history : ℕ → List ℕ) (all : ℕ → List Record) (links : List Ongoing) (carried : List (List Record))
    (s : AreStill history all links carried) where
  pub all_nothing_carried : NoOctets links → all_empty carried ≡ true
  all_nothing_carried none = all_are_empty links carried s.as_many
      (λ link o rs a b e. nothing_carried 0 (history link) (all link) o rs (s.each link o rs a b) e) none

  pub history_is_read : (link : ℕ) → link < length links → AreRead (history link) (all link)
  history_is_read link within =
      let o = there links link within in
      let held = there carried link (subst (λ (n : ℕ). link < n) (sym s.as_many) within) in
      (s.each link o.0 held.0 o.1 held.1).kept.read
