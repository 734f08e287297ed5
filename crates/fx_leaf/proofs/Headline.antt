-- Each packet is counted once.
use Rattle.std.proofs.Common.{◌≡◌, ◌≢◌, ℕ, zero, suc, true, List, [], ◌∷◌, All, Option, Some, None, option_map, Ok, refl, sym, ap, ap₂, ◌∙◌, subst, arith}
use Rattle.fx_base.specs.declared.counts.Counts.{Counts}
use Rattle.fx_boxes.specs.Boxes.{holds}
use Rattle.fx_layout.specs.Keys.{Key}
use Rattle.fx_tables.specs.declared.traffic.Crossing.{Crossing}
use Rattle.fx_tables.specs.declared.packet.Packet.{Packet}
use Rattle.fx_run_text.specs.declared.step.Step.{Step}
use Rattle.fx_base.specs.Entries.{entry_numbered}
use Rattle.fx_tables.specs.Network.{entries, Net}
use Rattle.fx_tables.specs.Classes.{paths_of, path, exempts, to_count, IsOf, Class}
use Rattle.fx_machine.specs.States.{State, opening, Complete}
use Rattle.fx_machine.specs.Steps.{run}
use Rattle.fx_machine.specs.Sums.{plain_sum, total_at, SumsFit}
use Rattle.fx_machine.proofs.Lists.{length_nothing}
use Rattle.fx_machine.proofs.RunsAreMoves.{steps_of}
use Rattle.fx_machine.specs.Claim.{CountsEachOnce, counts_modulo, CountsEachModulo}
use Rattle.fx_tables.specs.Ranks.{IsNetwork}
use Rattle.fx_leaf.specs.Fates.{fate, packet_fate, wanted_fate}
use Rattle.fx_leaf.specs.Certificates.{AllAsWanted}
use Rattle.fx_leaf.specs.Quantity.{Weight, Wrong, Nothing, plus, weigh_all, total_weight, unassigned_weight, held_weight, carried_weight, coming_weight, wrapped_weight, quantity}
use Rattle.fx_leaf.specs.Laws.{Opens, OpensModulo, Keeps, Ends, Theorem, TheoremModulo}
use Rattle.fx_leaf.proofs.Weights.{plus_nothing}
use Rattle.fx_leaf.proofs.FateLaws.{Every}
use Rattle.fx_leaf.proofs.Acts.{IsSized}
use Rattle.fx_leaf.proofs.Steps.{run_keeps, step_keeps}
use Rattle.fx_leaf.proofs.Ranks.{is_fate}
use Rattle.fx_leaf.proofs.Trees.{sound_wanted}
use Rattle.fx_leaf.proofs.OpeningQuantity.{opens, empty_weighs, plain_weight, plain_weighs, plain_modulo, total_modulo, plain_not_wrong}

all_wanted : (net : Net) (classes : List Class) (packets : List Packet) → AllAsWanted net classes
    → All (λ p. IsOf p (entry_numbered classes p.class)) packets
    → Every (λ p. packet_fate net p.fields (path classes p) ≡ wanted_fate (exempts (entry_numbered classes p.class)))
    packets
all_wanted net classes [] sound h = tt
all_wanted net classes (p ∷ ps) sound h = (
  by_class (entry_numbered classes p.class) refl (h 0 p (omega arith)),
  all_wanted net classes ps sound
      (λ k. λ d. λ lt. h (suc k) d (omega arith)),
)
  where
    by_path : (class : Class) (o : Option (List Crossing)) → entry_numbered classes p.class ≡ Some class
        → entry_numbered class.paths p.path ≡ o → holds class.region p.fields ≡ true → o ≢ None
        → packet_fate net p.fields (entries o) ≡ wanted_fate class.exempt
    by_path class None c m r some = absurd (some refl)
    by_path class (Some crossings) c m r some = sound p.class p.path class crossings p.fields c m r

    by_class : (o : Option Class) → entry_numbered classes p.class ≡ o → IsOf p o
        → packet_fate net p.fields (entries (entry_numbered (paths_of o) p.path)) ≡ wanted_fate (exempts o)
    by_class None c of = absurd of
    by_class (Some class) c of = by_path class (entry_numbered class.paths p.path) c refl of.0 of.1

same_total : (a b : Option Counts) → total_weight a ≡ total_weight b → a ≡ b
same_total None None h = refl
same_total None (Some b) h = absurd (cc)
same_total (Some a) None h = absurd (cc)
same_total (Some a) (Some b) h = cc

none_unassigned : (n : ℕ) (w : Weight) → plus (unassigned_weight n) w ≢ Wrong → n ≡ 0
none_unassigned zero w h = refl
none_unassigned (suc n) w h = absurd (h refl)

pub opens_law : (net : Net) (classes : List Class) → IsNetwork net → AllAsWanted net classes → Opens net classes
opens_law net classes is_net sound packets of fit total =
    opens net is_net classes packets total (all_wanted net classes packets sound of)
    ∙ plain_weighs net.report_layout total (to_count classes packets) (fit total)

pub opens_modulo_law : (net : Net) (classes : List Class) → IsNetwork net → AllAsWanted net classes
    → OpensModulo net classes
opens_modulo_law net classes is_net sound packets of total =
    ap wrapped_weight (opens net is_net classes packets total (all_wanted net classes packets sound of))
    ∙ plain_modulo net.report_layout total (to_count classes packets)

pub kept_law : (net : Net) (classes : List Class) (step : Step) → IsNetwork net → Keeps net classes step
kept_law net classes step is_net packets total s new sized good h =
    let keeps = step_keeps (fate net) net (is_fate net is_net.ranked) classes packets total step s new good sized h in
    (keeps.kept, keeps.sized)

pub sized_law : (net : Net) (classes : List Class) (packets : List Packet) → IsSized net (opening net classes packets)
sized_law net classes packets = record { held = length_nothing net.holders; carried = length_nothing net.links }

pub ends_law : (net : Net) (classes : List Class) → Ends net classes
ends_law net classes packets total s complete =
    let at = fate net in
    let h = empty_weighs (held_weight at net total) s.held (λ n. refl) complete.nothing_held in
    let c = empty_weighs (carried_weight at net total) s.carried (λ n. refl) complete.nothing_carried in
    let k : weigh_all (coming_weight at net classes packets total) s.coming ≡ Nothing =
    ap (weigh_all (coming_weight at net classes packets total)) complete.crossed in
    let t = total_weight (total_at s.totals total) in
    ap (plus (unassigned_weight s.unassigned)) (ap (plus t) (ap₂ plus h (ap₂ plus c k)) ∙ plus_nothing t)

module _ (net : Net) (is_net : IsNetwork net) (classes : List Class) (sound : AllAsWanted net classes)
    (packets : List Packet) (of : All (λ p. IsOf p (entry_numbered classes p.class)) packets) (steps : List Step)
    (final : State) (ran : run net classes packets steps (opening net classes packets) ≡ Ok final)
    (complete : Complete final) where
  opening_is : (total : Key) → quantity net classes packets total (opening net classes packets)
      ≡ plain_weight net.report_layout total (to_count classes packets)
  opening_is total = opens net is_net classes packets total (all_wanted net classes packets sound of)

  kept : (total : Key) → plus (unassigned_weight final.unassigned) (total_weight (total_at final.totals total))
      ≡ plain_weight net.report_layout total (to_count classes packets)
  kept total =
      let good : quantity net classes packets total (opening net classes packets) ≢ Wrong =
      subst (λ q. q ≢ Wrong) (sym (opening_is total))
      (plain_not_wrong net.report_layout total (to_count classes packets)) in
      let sized = sized_law net classes packets in
      sym (ends_law net classes packets total final complete)
      ∙ (run_keeps (fate net) net (is_fate net is_net.ranked) classes packets total steps
      (opening net classes packets) final good sized ran).kept ∙ opening_is total

  assigned : final.unassigned ≡ 0
  assigned =
      let total : Key = record { layout = []; values = [] } in
      none_unassigned final.unassigned (total_weight (total_at final.totals total))
      (subst (λ q. q ≢ Wrong) (sym (kept total))
      (plain_not_wrong net.report_layout total (to_count classes packets)))

  totals_weigh : (key : Key) → total_weight (total_at final.totals key)
      ≡ plain_weight net.report_layout key (to_count classes packets)
  totals_weigh key =
      sym (ap (λ n. plus (unassigned_weight n) (total_weight (total_at final.totals key))) assigned) ∙ kept key

  pub counts_each_once : SumsFit net.report_layout (to_count classes packets)
      → CountsEachOnce net (to_count classes packets) final
  counts_each_once fit = record {
    totals = λ key. same_total (total_at final.totals key) (plain_sum net.report_layout key (to_count classes packets))
        (totals_weigh key ∙ plain_weighs net.report_layout key (to_count classes packets) (fit key));
    assigned = assigned;
  }

  pub counts_each_modulo : CountsEachModulo net (to_count classes packets) final
  counts_each_modulo = record {
    totals = λ key. same_total (option_map counts_modulo (total_at final.totals key))
        (option_map counts_modulo (plain_sum net.report_layout key (to_count classes packets)))
        (total_modulo (total_at final.totals key) ∙ ap wrapped_weight (totals_weigh key)
        ∙ plain_modulo net.report_layout key (to_count classes packets));
    assigned = assigned;
  }

-- the headline
pub exactly_once : Theorem
exactly_once net classes trees is_net certified packets of fit final ran complete =
    let steps = steps_of net classes packets (opening net classes packets) final ran in
    counts_each_once net is_net classes (sound_wanted net classes trees certified) packets of steps.0 final steps.1
    complete fit

-- and without a bound on the plain sums
pub once_modulo : TheoremModulo
once_modulo net classes trees is_net certified packets of final ran complete =
    let steps = steps_of net classes packets (opening net classes packets) final ran in
    counts_each_modulo net is_net classes (sound_wanted net classes trees certified) packets of steps.0 final steps.1
    complete
