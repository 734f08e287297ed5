-- A run in the making goes on by a step of the record on top.
use Rattle.std.proofs.Common.{◌≡◌, ℕ, zero, suc, ◌+◌, ◌≤◌, Bool, true, false, cond, ◌==◌, List, [], ◌∷◌, ◌++◌, map, length, length-append, Option, Some, None, Ok, refl, sym, ap, ap₂, ◌∙◌, subst, arith, slice_get}
use Rattle.fx_layout.specs.Keys.{Layout, Key, Fits, key_of, refines, project}
use Rattle.fx_layout.proofs.Projections.{project_key}
use Rattle.fx_tables.specs.declared.packet.Packet.{Packet}
use Rattle.fx_tables.specs.declared.record.Record.{Record}
use Rattle.fx_run_text.specs.declared.step.Step.{Step}
use Rattle.fx_run_text.specs.declared.step.Step.TheVariants.{Expire, Arrive}
use Rattle.fx_tables.specs.Classes.{Class}
use Rattle.fx_tables.specs.Network.{Net}
use Rattle.fx_tables.specs.Ranks.{IsNetwork}
use Rattle.fx_machine.specs.States.{State, Coming, opening, nothing_at, put_last, add_at}
use Rattle.fx_machine.specs.Steps.{run, then_run, after, one_packet}
use Rattle.fx_machine.proofs.Lists.{length_nothing}
use Rattle.fx_leaf.specs.declared.verdict.Fate.{Fate}
use Rattle.fx_leaf.specs.declared.verdict.Fate.TheVariants.{Never, Once, Many, Differing, Unassigned}
use Rattle.fx_leaf.specs.Fates.{both}
use Rattle.fx_leaf.specs.Laws.{IsSized}
use Rattle.fx_leaf.specs.Tables.{Numbering}
use Rattle.fx_leaf.proofs.Verdicts.{both_assoc, both_never}
use Rattle.fx_steps.specs.declared.pending.Pending.{Pending}
use Rattle.fx_steps.specs.declared.pending.Pending.TheVariants.{AtHolder, OnLink}
use Rattle.fx_steps.specs.Building.{with_item, with_items, with_tallies}
use Rattle.fx_steps.specs.CostTables.{CostTable}
use Rattle.fx_steps.specs.Planning.{pending_items, item_of, pending_fate, total_fate, step_pending, step_keys, arrival_keys, keys_fate, layout_in, IsThere, Steps}
use Rattle.fx_steps.specs.Playing.{totals_with, fate_of}
use Rattle.fx_steps.specs.UnderWay.{state_of_tallies, UnderWay, IsStepOf, Leaves}
use Rattle.fx_steps.specs.Waiting.{zeros_for, one_more_at, holder_counts, link_counts}
use Rattle.fx_steps.specs.Ways.{tally_fate}
use Rattle.fx_steps.proofs.Places.{there}
use Rattle.fx_steps.proofs.PlansMeetFates.{fate_joined, items_joined}
use Rattle.fx_steps.proofs.RunsOfPackets
use Rattle.fx_steps.proofs.RecordsSpread.{put_append, tally_put_each, sized_put_each}
use Rattle.fx_steps.proofs.PlannedPlaces.{leaves, comes_in}
use Rattle.fx_steps.proofs.Tallies.{times_on, fates_both}

-- ---- fates in another order

pub both_turned : (f g : Fate) → both f g ≡ both g f
both_turned Never Never = refl
both_turned Never Once = refl
both_turned Never Many = refl
both_turned Never Differing = refl
both_turned Never Unassigned = refl
both_turned Once Never = refl
both_turned Once Once = refl
both_turned Once Many = refl
both_turned Once Differing = refl
both_turned Once Unassigned = refl
both_turned Many Never = refl
both_turned Many Once = refl
both_turned Many Many = refl
both_turned Many Differing = refl
both_turned Many Unassigned = refl
both_turned Differing Never = refl
both_turned Differing Once = refl
both_turned Differing Many = refl
both_turned Differing Differing = refl
both_turned Differing Unassigned = refl
both_turned Unassigned Never = refl
both_turned Unassigned Once = refl
both_turned Unassigned Many = refl
both_turned Unassigned Differing = refl
both_turned Unassigned Unassigned = refl

-- what a record was to come to is tallied in part
pub moved : (t xs k ps : Fate) → both (both t k) (both xs ps) ≡ both t (both xs (both k ps))
moved t xs k ps =
    both_assoc t k (both xs ps)
    ∙ ap (both t) (sym (both_assoc k xs ps) ∙ ap (λ f. both f ps) (both_turned k xs) ∙ both_assoc xs k ps)

-- ---- how many wait

lengths_put : (rss : List (List Record)) (n : ℕ) (r : Record) → map length (put_last rss n r)
    ≡ one_more_at (map length rss) n
lengths_put [] n r = refl
lengths_put (rs ∷ rss) zero r = let e : length (rs ++ r ∷ []) ≡ suc (length rs) =
    omega (arith, length-append rs (r ∷ [])) in ap (λ m. m ∷ map length rss) e
lengths_put (rs ∷ rss) (suc n) r = ap (λ ms. length rs ∷ ms) (lengths_put rss n r)

lengths_nothing : {A : Type 0} (xs : List A) → map length (nothing_at xs) ≡ zeros_for xs
lengths_nothing [] = refl
lengths_nothing (x ∷ xs) = ap (λ ms. 0 ∷ ms) (lengths_nothing xs)

length_there : (rss : List (List Record)) (n count : ℕ) (rs : List Record) → slice_get (map length rss) n ≡ Some count
    → slice_get rss n ≡ Some rs → count ≡ length rs
length_there [] n count rs h k = absurd (cc)
length_there (ss ∷ rss) zero count rs h k = let e : ss ≡ rs = cc in let d : length ss ≡ count = cc in
    sym d ∙ ap length e
length_there (ss ∷ rss) (suc n) count rs h k = length_there rss n count rs h k

module _ (net : Net) (n : Numbering) (p : Packet) where
  held_counts : (xs : List Pending) (s : State)
      → map length (with_items (one_packet p) (pending_items net n p.fields xs) s).held
      ≡ holder_counts (map length s.held) xs
  held_counts [] s = refl
  held_counts (AtHolder holder f ∷ xs) s =
      let x = item_of net n p.fields (AtHolder holder f) in
      held_counts xs (with_item (one_packet p) x s) ∙ ap (λ cs. holder_counts cs xs) (lengths_put s.held holder _)
  held_counts (OnLink link number f ∷ xs) s =
      held_counts xs (with_item (one_packet p) (item_of net n p.fields (OnLink link number f)) s)

  carried_counts : (xs : List Pending) (s : State)
      → map length (with_items (one_packet p) (pending_items net n p.fields xs) s).carried
      ≡ link_counts (map length s.carried) xs
  carried_counts [] s = refl
  carried_counts (AtHolder holder f ∷ xs) s =
      carried_counts xs (with_item (one_packet p) (item_of net n p.fields (AtHolder holder f)) s)
  carried_counts (OnLink link number f ∷ xs) s =
      let x = item_of net n p.fields (OnLink link number f) in
      carried_counts xs (with_item (one_packet p) x s) ∙ ap (λ cs. link_counts cs xs) (lengths_put s.carried link _)

  -- ---- what is tallied

  -- after these keys, too
  record Tallied (t u : ℕ) (ks : List Key) : Type 0 where
    tallies : ℕ
    unassigned : ℕ
    same : (coming : List Coming) → with_tallies net (one_packet p) ks (state_of_tallies net p t u coming)
        ≡ state_of_tallies net p tallies unassigned coming
    fate : fate_of tallies unassigned ≡ both (fate_of t u) (keys_fate net ks)
    few : tallies ≤ suc t

  none_tallied : (t u : ℕ) → Tallied t u []
  none_tallied t u = record {
    tallies = t;
    unassigned = u;
    same = λ coming. refl;
    fate =
        sym (both_never (fate_of t u));
    few = omega arith;
  }

  one_tallied : (t u : ℕ) (layout : Layout) → Fits layout → (b : Bool) → refines layout net.report_layout ≡ b
      → Tallied t u (key_of layout p.fields ∷ [])
  one_tallied t u layout fits true e =
      let key = key_of layout p.fields in
      let own = key_of net.report_layout p.fields in
      let counts = one_packet p in
      let yes : State → State = λ s. record s { totals = add_at s.totals (project key net.report_layout) counts } in
      let no : State → State = λ s. record s { unassigned = s.unassigned + 1 } in
      let zero_more : u ≡ u + 0 = omega arith in
      let fate : tally_fate net key ≡ Once = ap (λ b. cond b Once Unassigned) e in
      record {
        tallies = t + 1;
        unassigned = u + 0;
        same = λ coming.
            ap (λ b. cond b (yes (state_of_tallies net p t u coming)) (no (state_of_tallies net p t u coming))) e
            ∙ ap (λ k. record (state_of_tallies net p t u coming)
            { totals = add_at (totals_with t own counts []) k counts })
            (project_key layout net.report_layout p.fields fits e)
            ∙ ap₂ (λ (ts : List Record) (m : ℕ). record (state_of_tallies net p t u coming)
            { totals = ts; unassigned = m }) (times_on t 1 own counts []) zero_more;
        fate = fates_both t u 1 0 ∙ ap (both (fate_of t u)) (sym (both_never (tally_fate net key) ∙ fate));
        few = omega arith;
      }
  one_tallied t u layout fits false e =
      let key = key_of layout p.fields in
      let counts = one_packet p in
      let yes : State → State = λ s. record s { totals = add_at s.totals (project key net.report_layout) counts } in
      let no : State → State = λ s. record s { unassigned = s.unassigned + 1 } in
      let own = key_of net.report_layout p.fields in
      let zero_more : t ≡ t + 0 = omega arith in
      let fate : tally_fate net key ≡ Unassigned = ap (λ b. cond b Once Unassigned) e in
      record {
        tallies = t + 0;
        unassigned = u + 1;
        same = λ coming.
            ap (λ b. cond b (yes (state_of_tallies net p t u coming)) (no (state_of_tallies net p t u coming))) e
            ∙ ap (λ m. record (state_of_tallies net p t u coming)
            { totals = totals_with m own counts []; unassigned = u + 1 }) zero_more;
        fate = fates_both t u 0 1 ∙ ap (both (fate_of t u)) (sym (both_never (tally_fate net key) ∙ fate));
        few = omega arith;
      }

  arrival_tallied : (t u : ℕ) (layout : Layout) → Fits layout → (o : Option ℕ)
      → Tallied t u (arrival_keys net p.fields layout o)
  arrival_tallied t u layout fits None = none_tallied t u
  arrival_tallied t u layout fits (Some process) =
      elim (process == net.report) as (λ b. Tallied t u (cond b (key_of layout p.fields ∷ []) [])) [
        | true ↦ one_tallied t u layout fits (refines layout net.report_layout) refl
        | false ↦ none_tallied t u
      ]

  step_tallied : (t u : ℕ) (x : Pending) → IsThere net n x → Tallied t u (step_keys net n p.fields x)
  step_tallied t u (AtHolder holder f) is = none_tallied t u
  step_tallied t u (OnLink link number f) is =
      let same : is.1.0 ≡ layout_in (slice_get n.layouts number) = sym (ap layout_in is.1.1) in
      arrival_tallied t u (layout_in (slice_get n.layouts number)) (subst Fits same is.1.2) (slice_get net.links link)

  -- ---- the record on top leaves

  pub sized : (t u : ℕ) (coming : List Coming) → IsSized net (state_of_tallies net p t u coming)
  sized t u coming = record { held = length_nothing net.holders; carried = length_nothing net.links }

  module _ (table : CostTable) (classes : List Class) (network : IsNetwork net) where
    -- by its step
    made : (xs : List Pending) (x : Pending) (step : Step) (t u : ℕ) (coming : List Coming)
        → IsStepOf table net n p.fields xs x step → IsThere net n x → Steps table net n p.fields x → let s =
        with_items (one_packet p) (pending_items net n p.fields xs) (state_of_tallies net p t u coming) in
        after net classes (p ∷ []) step (with_item (one_packet p) (item_of net n p.fields x) s)
        ≡ Ok (with_items (one_packet p) (pending_items net n p.fields (step_pending table net n p.fields x))
        (with_tallies net (one_packet p) (step_keys net n p.fields x) s))
    made xs (AtHolder holder f) step t u coming is at x =
        let base = state_of_tallies net p t u coming in
        let s = with_items (one_packet p) (pending_items net n p.fields xs) base in
        let z = sized_put_each net (one_packet p) (pending_items net n p.fields xs) base (sized t u coming) in
        let here = there s.held holder (let lt = at.there in let e = z.held in omega arith) in
        let counts = held_counts xs base ∙ ap (λ cs. holder_counts cs xs) (lengths_nothing net.holders) in
        let e : is.1 ≡ length here.0 = length_there s.held holder is.1 here.0
        (ap (λ cs. slice_get cs holder) counts ∙ is.3) here.1 in
        ap (λ step. after net classes (p ∷ []) step
        (with_item (one_packet p) (item_of net n p.fields (AtHolder holder f)) s))
        (is.4 ∙ ap (λ m. Expire is.0 (suc m) _) e)
        ∙ leaves table net n classes p network holder f is.0 is.2 at.there x s z here.0 here.1
    made xs (OnLink link number f) step t u coming is at x =
        let base = state_of_tallies net p t u coming in
        let s = with_items (one_packet p) (pending_items net n p.fields xs) base in
        let z = sized_put_each net (one_packet p) (pending_items net n p.fields xs) base (sized t u coming) in
        let here = there s.carried link (let lt = at.0 in let e = z.carried in omega arith) in
        let counts = carried_counts xs base ∙ ap (λ cs. link_counts cs xs) (lengths_nothing net.links) in
        let e : is.0 ≡ length here.0 = length_there s.carried link is.0 here.0
        (ap (λ cs. slice_get cs link) counts ∙ is.1) here.1 in
        ap (λ step. after net classes (p ∷ []) step
        (with_item (one_packet p) (item_of net n p.fields (OnLink link number f)) s))
        (is.2 ∙ ap (λ m. Arrive (suc link) (suc m) _) e)
        ∙ comes_in table net n classes p network link number f x s z here.0 here.1

    pub goes_on : (xs : List Pending) (x : Pending) (old new : List Step) (coming : List Coming) (f : Fate)
        → IsThere net n x → Steps table net n p.fields x → Leaves table net n p.fields xs x old new
        → UnderWay net n classes p coming f old (xs ++ x ∷ [])
        → UnderWay net n classes p coming f new (xs ++ step_pending table net n p.fields x)
    goes_on xs x old new coming f at can left way =
        let counts = one_packet p in
        let t = step_tallied way.tallies way.unassigned x at in
        let base = state_of_tallies net p way.tallies way.unassigned coming in
        let is = pending_items net n p.fields xs in
        let ps = step_pending table net n p.fields x in
        let s = with_items counts is base in
        let ks = step_keys net n p.fields x in
        let top : with_items counts (pending_items net n p.fields (xs ++ x ∷ [])) base
        ≡ with_item counts (item_of net n p.fields x) s =
        ap (λ js. with_items counts js base) (items_joined table net n p.fields xs (x ∷ []))
        ∙ put_append net counts is (item_of net n p.fields x ∷ []) base in
        let under : with_tallies net counts ks s
        ≡ with_items counts is (state_of_tallies net p t.tallies t.unassigned coming) =
        tally_put_each net counts ks is base ∙ ap (with_items counts is) (t.same coming) in
        let ends : after net classes (p ∷ []) left.step
        (with_items counts (pending_items net n p.fields (xs ++ x ∷ [])) base)
        ≡ Ok (with_items counts (pending_items net n p.fields (xs ++ ps))
        (state_of_tallies net p t.tallies t.unassigned coming)) =
        ap (after net classes (p ∷ []) left.step) top
        ∙ made xs x left.step way.tallies way.unassigned coming left.is at can
        ∙ ap (λ r. Ok (with_items counts (pending_items net n p.fields ps) r)) under
        ∙ ap Ok (sym (put_append net counts is (pending_items net n p.fields ps)
        (state_of_tallies net p t.tallies t.unassigned coming))
        ∙ ap (λ js. with_items counts js (state_of_tallies net p t.tallies t.unassigned coming))
        (sym (items_joined table net n p.fields xs ps))) in
        let one : run net classes (p ∷ []) (left.step ∷ [])
        (with_items counts (pending_items net n p.fields (xs ++ x ∷ [])) base)
        ≡ Ok (with_items counts (pending_items net n p.fields (xs ++ ps))
        (state_of_tallies net p t.tallies t.unassigned coming)) =
        ap (λ o. then_run o (run net classes (p ∷ []) [])) ends in
        let old_fate : total_fate (xs ++ x ∷ []) ≡ both (total_fate xs) (pending_fate x) =
        fate_joined table net n p.fields xs (x ∷ []) ∙ ap (both (total_fate xs)) (both_never (pending_fate x)) in
        let new_fate : both (fate_of t.tallies t.unassigned) (total_fate (xs ++ ps))
        ≡ both (fate_of way.tallies way.unassigned) (total_fate (xs ++ x ∷ [])) =
        ap₂ both t.fate (fate_joined table net n p.fields xs ps)
        ∙ moved (fate_of way.tallies way.unassigned) (total_fate xs) (keys_fate net ks) (total_fate ps)
        ∙ ap (λ g. both (fate_of way.tallies way.unassigned) (both (total_fate xs) g)) can.fate
        ∙ ap (both (fate_of way.tallies way.unassigned)) (sym old_fate) in
        record {
          tallies = t.tallies;
          unassigned = t.unassigned;
          runs = ap (λ steps. run net classes (p ∷ []) steps (opening net classes (p ∷ []))) left.last
              ∙ RunsOfPackets.run_both net classes p network old (left.step ∷ []) (opening net classes (p ∷ []))
              (with_items counts (pending_items net n p.fields (xs ++ x ∷ [])) base)
              (with_items counts (pending_items net n p.fields (xs ++ ps))
              (state_of_tallies net p t.tallies t.unassigned coming)) way.runs one;
          joint = new_fate ∙ way.joint;
          few = let a = t.few in let b = way.few in let l = ap length left.last ∙ length-append old (left.step ∷ []) in
              omega arith;
        }
