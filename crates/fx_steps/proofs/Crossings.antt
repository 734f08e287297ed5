-- A run in the making goes on by a crossing.
use Rattle.std.proofs.Common.{◌≡◌, ℕ, suc, ◌+◌, ◌≤◌, List, [], ◌∷◌, ◌++◌, length, length-append, Some, Ok, refl, sym, ap, ap₂, ◌∙◌, subst, arith}
use Rattle.std.specs.List.{AllByRecursion}
use Rattle.fx_elements.specs.Axes.{Fields}
use Rattle.fx_tables.specs.declared.observation.Occurrence.{Occurrence}
use Rattle.fx_tables.specs.declared.packet.Packet.{Packet}
use Rattle.fx_run_text.specs.declared.step.Step.{Step}
use Rattle.fx_run_text.specs.declared.step.Step.TheVariants.{Cross}
use Rattle.fx_tables.specs.declared.traffic.Crossing.{Crossing}
use Rattle.fx_tables.specs.Classes.{Class, path}
use Rattle.fx_tables.specs.Network.{Net}
use Rattle.fx_base.specs.Entries.{entry_numbered}
use Rattle.fx_tables.specs.Occurrences.{occurrences}
use Rattle.fx_tables.specs.Ranks.{IsNetwork}
use Rattle.fx_tables.specs.Runnable.{IsHolder, IsRunnable}
use Rattle.fx_machine.specs.States.{Coming, opening}
use Rattle.fx_machine.specs.Acts.{all_acts}
use Rattle.fx_machine.specs.Steps.{run, then_run, after, crossing_acts, one_packet}
use Rattle.fx_leaf.specs.declared.verdict.Fate.{Fate}
use Rattle.fx_leaf.specs.Fates.{both}
use Rattle.fx_leaf.specs.Tables.{Numbering, Tables, AreTables}
use Rattle.fx_leaf.proofs.Verdicts.{both_never}
use Rattle.fx_steps.specs.Building.{with_items}
use Rattle.fx_machine.specs.Limits.{step_limit}
use Rattle.fx_steps.specs.Costs.{cost_of, one_step_more, both_costs}
use Rattle.fx_steps.specs.CostTables.{CostTable, cost_fill, occurrence_costs, path_costs}
use Rattle.fx_steps.specs.Planning.{pending_items, total_cost, occurrence_pending, occurrence_choices, Crosses, IsThere}
use Rattle.fx_steps.specs.Playing.{fate_of}
use Rattle.fx_steps.specs.Spread.{shares}
use Rattle.fx_steps.specs.UnderWay.{state_of_tallies, UnderWay, HasCosts}
use Rattle.fx_steps.proofs.RunGoesOn.{sized}
use Rattle.fx_steps.proofs.CostsTell.{cost_next}
use Rattle.fx_steps.proofs.PathCosts.{caches_met}
use Rattle.fx_steps.proofs.FilledTables.{table_tells}
use Rattle.fx_steps.proofs.StepsMeetFates.{each_crosses}
use Rattle.fx_steps.proofs.Packets
use Rattle.fx_steps.proofs.SharesCost.{pick_is}
use Rattle.fx_steps.proofs.RunsOfPackets
use Rattle.fx_steps.proofs.RecordsSpread.{acts_done}
use Rattle.fx_steps.proofs.PlannedPlaces.{all_of_every, meets_there}
use Rattle.fx_steps.proofs.WholeNetworks.{whole}

module _ (net : Net) (n : Numbering) (table : CostTable) (classes : List Class) (p : Packet) (network : IsNetwork net)
  where
    pub crossed : (c : Crossing) (number : ℕ) (coming : List Coming) (f g : Fate) (old new : List Step)
        → entry_numbered (path classes p) number ≡ Some c → Crosses table net n p.fields c g → new ≡ old
        ++ Cross 1 number (occurrence_choices (occurrences net c p.fields)) ∷ []
        → UnderWay net n classes p (record { packet = 1; crossing = number } ∷ coming) f old []
        → UnderWay net n classes p coming (both f g) new (occurrence_pending table net n (occurrences net c p.fields) g)
    crossed c number coming f g old new at can last way =
        let os = occurrences net c p.fields in
        let step = Cross 1 number (occurrence_choices os) in
        let ps = occurrence_pending table net n os g in
        let s = state_of_tallies net p way.tallies way.unassigned coming in
        let from = state_of_tallies net p way.tallies way.unassigned (record { packet = 1; crossing = number } ∷ coming)
        in
        let end = with_items (one_packet p) (pending_items net n p.fields ps) s in
        let ends : after net classes (p ∷ []) step from ≡ Ok end =
        Packets.crosses net classes p network s coming number (occurrence_choices os)
        ∙ ap (λ o. all_acts net (one_packet p) (crossing_acts net p.fields o) s (occurrence_choices os)) at
        ∙ acts_done net (one_packet p) (crossing_acts net p.fields (Some c)) (occurrence_choices os)
        (pending_items net n p.fields ps) [] can.spreads s (sized net n p way.tallies way.unassigned coming) in
        let one : run net classes (p ∷ []) (step ∷ []) from ≡ Ok end =
        ap (λ o. then_run o (run net classes (p ∷ []) [])) ends in
        record {
          tallies = way.tallies;
          unassigned = way.unassigned;
          runs = ap (λ steps. run net classes (p ∷ []) steps (opening net classes (p ∷ []))) last
              ∙ RunsOfPackets.run_both net classes p network old (step ∷ []) (opening net classes (p ∷ [])) from end
              way.runs one;
          joint = ap₂ both (sym (both_never (fate_of way.tallies way.unassigned)) ∙ way.joint) can.fate;
          few = let b = way.few in let l = ap length last ∙ length-append old (step ∷ []) in omega arith;
        }

module _ (t : Tables) (are : AreTables t) (runs : IsRunnable t.net) (fields : Fields) (table : CostTable)
    (filled : HasCosts t fields table) where
  -- a crossing's share of the fate, and what is known of it
  pub record Share (steps : ℕ) (c : Crossing) (rest : List Crossing) (f : Fate) (os : List Occurrence)
      (now later : Fate) : Type 0 where
    pub met : os ≡ occurrences t.net c fields
    pub fate : both now later ≡ f
    pub cheap : cost_of (occurrence_costs table t.net t.numbering os) now ≤ step_limit
    pub crosses : Crosses table t.net t.numbering fields c now
    pub there : AllByRecursion (IsThere t.net t.numbering) (occurrence_pending table t.net t.numbering os now)
    pub holders : AllByRecursion (λ (o : Occurrence). IsHolder t.net o.holder) os
    pub same : suc steps + total_cost table t.net t.numbering (occurrence_pending table t.net t.numbering os now)
        + cost_of (path_costs table t.net t.numbering fields rest) later ≡ steps
        + cost_of (path_costs table t.net t.numbering fields (c ∷ rest)) f

  can_cross : (c : Crossing) (f : Fate) → cost_of
      (occurrence_costs table t.net t.numbering (occurrences t.net c fields)) f ≤ step_limit
      → Crosses table t.net t.numbering fields c f
  can_cross c f le =
      let P : CostTable → Type 0 = λ x. cost_of (occurrence_costs x t.net t.numbering (occurrences t.net c fields)) f
      ≤ step_limit → Crosses x t.net t.numbering fields c f in
      subst P (sym filled.filled) (each_crosses t are runs fields filled.before filled.room c f) le

  share : (steps : ℕ) (c : Crossing) (rest : List Crossing) (f : Fate) → steps
      + cost_of (path_costs table t.net t.numbering fields (c ∷ rest)) f ≤ step_limit → let q =
      shares (one_step_more (occurrence_costs table t.net t.numbering (occurrences t.net c fields)))
      (path_costs table t.net t.numbering fields rest) f in Share steps c rest f (occurrences t.net c fields) q.0 q.1
  share steps c rest f le =
      let net = t.net in
      let n = t.numbering in
      let os = occurrences net c fields in
      let met = occurrence_costs table net n os in
      let others = path_costs table net n fields rest in
      let small : cost_of (both_costs (one_step_more met) others) f ≤ step_limit = omega (arith, le) in
      let k = pick_is (one_step_more met) others f small in
      let q = shares (one_step_more met) others f in
      let e = cost_next met q.0 in
      let cheap : cost_of met q.0 ≤ step_limit = omega (arith, e, k.first) in
      let can = can_cross c q.0 cheap in
      let caches = caches_met net n fields are.network are.numbers (whole net runs)
      (cost_fill net n fields t.order filled.before)
      (table_tells t are (whole net runs) fields filled.before filled.room) c in
      record {
        met = refl;
        fate = k.fate;
        cheap = cheap;
        crosses = can;
        there = all_of_every (IsThere net n) (occurrence_pending table net n os q.0)
            (meets_there table net n os q.0 caches);
        holders = all_of_every (λ (o : Occurrence). IsHolder net o.holder) os caches;
        same = omega (arith, e, k.first, k.sum, can.cost);
      }

  pub shared : (steps : ℕ) (c : Crossing) (rest : List Crossing) (f : Fate) (os : List Occurrence) (q : Fate × Fate)
      → steps + cost_of (path_costs table t.net t.numbering fields (c ∷ rest)) f ≤ step_limit → os
      ≡ occurrences t.net c fields → q ≡ shares (one_step_more (occurrence_costs table t.net t.numbering os))
      (path_costs table t.net t.numbering fields rest) f → Share steps c rest f os q.0 q.1
  shared steps c rest f os q le met is =
      let others = path_costs table t.net t.numbering fields rest in
      let e = is ∙ ap (λ os. shares (one_step_more (occurrence_costs table t.net t.numbering os)) others f) met in
      subst (λ os. Share steps c rest f os q.0 q.1) (sym met)
      (subst (λ (q : Fate × Fate). Share steps c rest f (occurrences t.net c fields) q.0 q.1) (sym e)
      (share steps c rest f le))
