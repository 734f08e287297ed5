use Rattle.std.proofs.Common.{◌≡◌, ◌⊎◌, inl, inr, ◌≤◌, false, List, [], ◌∷◌, length, refl, sym, ap, ap₂, ◌∙◌, Ok, subst, arith, IsTrue}
use Rattle.fx_base.specs.declared.fault.Fault.{Fault}
use Rattle.fx_base.specs.declared.fault.Place.TheVariants as places
use Rattle.fx_base.specs.Fault.{fault_at}
use Rattle.fx_layout.specs.Keys.{Key, Layout, IsLayout, key_of}
use Rattle.fx_tables.specs.declared.packet.Packet.{Packet}
use Rattle.fx_tables.specs.Network.{Net}
use Rattle.fx_base.specs.Entries.{entry_numbered}
use Rattle.fx_tables.specs.Classes.{Class, IsOf, to_count}
use Rattle.fx_machine.specs.States.{State, opening, Complete, wrapped_state}
use Rattle.fx_machine.specs.Steps.{run}
use Rattle.fx_run_text.specs.declared.step.Step.{Step}
use Rattle.fx_machine.specs.Stores.{LoadedNetwork}
use Rattle.fx_collect.specs.Totals.{Totals, totals_of, totals_in}
use Rattle.fx_collect.proofs.Runs.{run_table, run_restated}
use Rattle.fx_plan.proofs.Numberings.{exit_with}
use Rattle.fx_refute.specs.Confirming.{plain_totals, TotalsAgreeAt, IsStopped}
use Rattle.fx_machine.specs.Limits.{step_limit}
use Rattle.fx_refute.specs.Refutations.{Refutation, ReachesState, IsPlainSumTable, IsNoRefutation, Refutes, packets_to_count}
use Rattle.fx_refute.specs.Refutations.IsNoRefutation.{incomplete, agrees}
use Rattle.fx_refute.proofs.TotalsAgree.{ran, stopped, one_or_none, plain_are_sums, agrees_counted, counted_agrees}
use Rattle.fx_refute.proofs.UnassignedPerStep.{few_unassigned}
use Rattle.fx_refute.proofs.confirming.confirm_run.Goals as goal

-- ---- what a run's end tells

abbrev Refuses : Net → List Class → Refutation → Fault → Type 0
Refuses net classes r e = (e ≡ fault_at 900 places.None) ⊎ IsNoRefutation net classes r e

-- the last state, as the code sees it
abbrev Ended : Net → List Class → Refutation → LoadedNetwork → Type 0
Ended net classes r new = (last : State) × ReachesState net classes r last × (new.state ≡ wrapped_state last)

to_complete : (s : State) → Complete s → Complete (wrapped_state s)
to_complete s c = record { crossed = c.crossed; nothing_held = c.nothing_held; nothing_carried = c.nothing_carried }

from_complete : (s : State) → Complete (wrapped_state s) → Complete s
from_complete s c = record { crossed = c.crossed; nothing_held = c.nothing_held; nothing_carried = c.nothing_carried }

not_complete : (net : Net) (classes : List Class) (r : Refutation) (new : LoadedNetwork) (e : Fault)
    → Ended net classes r new → (Complete new.state → ⊥) → e ≡ fault_at 504 places.None → Refuses net classes r e
not_complete net classes r new e h incomplete' is =
    inr (subst (IsNoRefutation net classes r) (sym is)
    (incomplete h.0 h.1 (λ c. incomplete' (subst Complete (sym h.2) (to_complete h.0 c)))))

-- the totals that are reported of it
reported_totals : (net : Net) (classes : List Class) (r : Refutation) (new : LoadedNetwork)
    (h : Ended net classes r new) → IsLayout net.report_layout → new.net ≡ net
    → totals_of new.net.report_layout new.state ≡ totals_in net.report_layout (wrapped_state h.0)
reported_totals net classes r new h layout same =
    ap (λ (n : Net). totals_of n.report_layout new.state) same ∙ ap (totals_of net.report_layout) h.2
    ∙ run_restated net classes (r.packet ∷ []) r.steps h.0 layout h.1.runs

do_agree : (net : Net) (classes : List Class) (r : Refutation) (new : LoadedNetwork) (e : Fault)
    (h : Ended net classes r new) (t plain : Totals) (key : Key) → IsLayout net.report_layout → length r.steps
    ≤ step_limit → t ≡ totals_in net.report_layout (wrapped_state h.0) → plain
    ≡ plain_totals net.report_layout (packets_to_count classes r) → key ≡ key_of net.report_layout r.packet.fields
    → Complete new.state → TotalsAgreeAt t plain key → e ≡ fault_at 505 places.None → Refuses net classes r e
do_agree net classes r new e h t plain key layout few ts ps ks c a is =
    let own = key_of net.report_layout r.packet.fields in
    let lost = few_unassigned net classes (r.packet ∷ []) r.steps (opening net classes (r.packet ∷ [])) h.0 refl
    h.1.runs in
    let a' : TotalsAgreeAt (totals_in net.report_layout (wrapped_state h.0))
    (plain_totals net.report_layout (packets_to_count classes r)) own =
    subst (λ (x : Totals). TotalsAgreeAt x (plain_totals net.report_layout (packets_to_count classes r)) own) ts
    (subst (λ (x : Totals). TotalsAgreeAt t x own) ps (subst (λ (x : Key). TotalsAgreeAt t plain x) ks a)) in
    inr (subst (IsNoRefutation net classes r) (sym is)
    (agrees h.0 h.1 (from_complete h.0 (subst Complete h.2 c))
    (agrees_counted net r.packet h.0 layout (packets_to_count classes r) (one_or_none classes r.packet)
    (omega arith) a')))

do_differ : (net : Net) (classes : List Class) (r : Refutation) (new : LoadedNetwork) (h : Ended net classes r new)
    (t plain : Totals) (key : Key) → IsLayout net.report_layout → t ≡ totals_in net.report_layout (wrapped_state h.0)
    → plain ≡ plain_totals net.report_layout (packets_to_count classes r) → key
    ≡ key_of net.report_layout r.packet.fields → Complete new.state → (TotalsAgreeAt t plain key → ⊥)
    → Refutes net classes r
do_differ net classes r new h t plain key layout ts ps ks c no' =
    let own = key_of net.report_layout r.packet.fields in
    record {
      last = h.0;
      runs_to = h.1;
      complete = from_complete h.0 (subst Complete h.2 c);
      wrong = λ once.
          let a = counted_agrees net r.packet h.0 layout (packets_to_count classes r) (one_or_none classes r.packet)
          (run_table net classes (r.packet ∷ []) r.steps h.0 h.1.runs) once in
          no' (subst (λ (x : Key). TotalsAgreeAt t plain x) (sym ks)
          (subst (λ (x : Totals). TotalsAgreeAt t x own) (sym ps)
          (subst (λ (x : Totals). TotalsAgreeAt x (plain_totals net.report_layout (packets_to_count classes r)) own)
          (sym ts) a)));
    }

ended : (net : Net) (classes : List Class) (r : Refutation) (p : Packet) (steps : List Step) (old new : LoadedNetwork)
    → p ≡ r.packet → steps ≡ r.steps → old ≡ record {
      net = net;
      classes = classes;
      packets = p ∷ [];
      state =
          opening net classes (p ∷ []);
    } → IsOf p (entry_numbered classes p.class)
    → ((s : State) → old.state ≡ wrapped_state s → (last : State)
    × (run old.net old.classes old.packets steps s ≡ Ok last) × (new.state ≡ wrapped_state last))
    → Ended net classes r new
ended net classes r p steps old new ps ss is of_class made =
    let r' : Refutation = record { packet = p; steps = steps } in
    let same : r' ≡ r = ap₂ (λ (x : Packet) (y : List Step). record { packet = x; steps = y }) ps ss in
    subst (λ (x : Refutation). Ended net classes x new) same (ran net classes r' old new is of_class made)

halted : (net : Net) (classes : List Class) (r : Refutation) (p : Packet) (steps : List Step) (old : LoadedNetwork)
    (e : Fault) → p ≡ r.packet → steps ≡ r.steps → old
    ≡ record { net = net; classes = classes; packets = p ∷ []; state = opening net classes (p ∷ []) }
    → IsOf p (entry_numbered classes p.class)
    → ((s : State) → old.state ≡ wrapped_state s → IsStopped old.net old.classes old.packets steps s e)
    → IsNoRefutation net classes r e
halted net classes r p steps old e ps ss is of_class stop =
    let r' : Refutation = record { packet = p; steps = steps } in
    let same : r' ≡ r = ap₂ (λ (x : Packet) (y : List Step). record { packet = x; steps = y }) ps ss in
    subst (λ (x : Refutation). IsNoRefutation net classes x e) same (stopped net classes r' old e is of_class stop)

true_not_false : IsTrue false → ⊥
true_not_false h = absurd (cc)

-- ---- the answers

pub returns-in_err-make_steps-clause-err : goal.returns-in_err-make_steps-clause-err
returns-in_err-make_steps-clause-err c =
    let net = c.args.net.now in
    let classes = c.args.classes.now in
    let r = c.args.refutation.now in
    let either : Refuses net classes r c.in_err-make_steps.field-0.0 = elim c.in_err-make_steps.ensures.err [
      | inl memory ↦ inl memory
      | inr stop ↦ inr (halted net classes r r.packet c.steps.result.now c.args.state.now _ refl c.steps.ensures.value
          c.requires.opening c.requires.of_class stop)
    ] in
    exit_with _ _ (Refuses net classes r) c.from_residual.ensures either

pub returns-then-not-complete-clause-err : goal.returns-then-not-complete-clause-err
returns-then-not-complete-clause-err c =
    let net = c.args.net.now in
    let classes = c.args.classes.now in
    let r = c.args.refutation.now in
    let end = ended net classes r r.packet c.steps.result.now c.args.state.now c.make_steps.new.state refl
    c.steps.ensures.value c.requires.opening c.requires.of_class c.in_ok-make_steps.ensures.ok in
    not_complete net classes r c.make_steps.new.state c.bare.result end
    (λ h. true_not_false (c.if-not-complete.ensures.1 h)) c.bare.ensures

pub returns-then-agree-clause-err : goal.returns-then-agree-clause-err
returns-then-agree-clause-err c =
    let net = c.args.net.now in
    let classes = c.args.classes.now in
    let r = c.args.refutation.now in
    let end = ended net classes r r.packet c.steps.result.now c.args.state.now c.make_steps.new.state refl
    c.steps.ensures.value c.requires.opening c.requires.of_class c.in_ok-make_steps.ensures.ok in
    let same : c.make_steps.new.state.net ≡ net = c.in_ok-make_steps.ensures.net
    ∙ ap (λ (x : LoadedNetwork). x.net) c.requires.opening in
    let few : length r.steps ≤ step_limit =
    subst (λ (xs : List Step). length xs ≤ step_limit) c.steps.ensures.value c.steps.ensures.few in
    do_agree net classes r c.make_steps.new.state c.bare-then-agree.result end c.in_ok-ran.ran c.in_ok-plain.plain
    c.key_of.result c.report_layout-layout.ensures.layout few
    (c.in_ok-ran.ensures.ok ∙ reported_totals net classes r c.make_steps.new.state end
    c.report_layout-layout.ensures.layout same)
    (c.in_ok-plain.ensures.ok ∙ ap (λ (p : Packet). plain_totals net.report_layout (to_count classes (p ∷ [])))
    c.packet-packet.ensures) (c.key_of.ensures
    ∙ ap₂ (λ (l : Layout) (p : Packet). key_of l p.fields) c.report_layout-layout.ensures.value
    c.packet-packet.ensures) (c.if-not-complete.ensures.0 refl) (c.if-agree.ensures.0 refl)
    c.bare-then-agree.ensures

pub returns-clause-refutes : goal.returns-clause-refutes
returns-clause-refutes c =
    let net = c.args.net.now in
    let classes = c.args.classes.now in
    let r = c.args.refutation.now in
    let end = ended net classes r r.packet c.steps.result.now c.args.state.now c.make_steps.new.state refl
    c.steps.ensures.value c.requires.opening c.requires.of_class c.in_ok-make_steps.ensures.ok in
    let same : c.make_steps.new.state.net ≡ net = c.in_ok-make_steps.ensures.net
    ∙ ap (λ (x : LoadedNetwork). x.net) c.requires.opening in
    do_differ net classes r c.make_steps.new.state end c.in_ok-ran.ran c.in_ok-plain.plain c.key_of.result
    c.report_layout-layout.ensures.layout (c.in_ok-ran.ensures.ok
    ∙ reported_totals net classes r c.make_steps.new.state end c.report_layout-layout.ensures.layout same)
    (c.in_ok-plain.ensures.ok ∙ ap (λ (p : Packet). plain_totals net.report_layout (to_count classes (p ∷ [])))
    c.packet-packet.ensures) (c.key_of.ensures
    ∙ ap₂ (λ (l : Layout) (p : Packet). key_of l p.fields) c.report_layout-layout.ensures.value
    c.packet-packet.ensures) (c.if-not-complete.ensures.0 refl) (λ h. true_not_false (c.if-agree.ensures.1 h))

pub returns-clause-totals : goal.returns-clause-totals
returns-clause-totals c =
    let net = c.args.net.now in
    let classes = c.args.classes.now in
    let r = c.args.refutation.now in
    let end = ended net classes r r.packet c.steps.result.now c.args.state.now c.make_steps.new.state refl
    c.steps.ensures.value c.requires.opening c.requires.of_class c.in_ok-make_steps.ensures.ok in
    let same : c.make_steps.new.state.net ≡ net = c.in_ok-make_steps.ensures.net
    ∙ ap (λ (x : LoadedNetwork). x.net) c.requires.opening in
    record {
      last = end.0;
      runs_to = end.1;
      totals = c.in_ok-ran.ensures.ok ∙ reported_totals net classes r c.make_steps.new.state end
          c.report_layout-layout.ensures.layout same;
      sums = subst (λ (t : Totals). IsPlainSumTable net.report_layout (packets_to_count classes r) t)
          (sym (c.in_ok-plain.ensures.ok ∙ ap (λ (p : Packet). plain_totals net.report_layout
          (to_count classes (p ∷ []))) c.packet-packet.ensures))
          (plain_are_sums net.report_layout r.packet (packets_to_count classes r) c.report_layout-layout.ensures.layout
          (one_or_none classes r.packet));
    }
