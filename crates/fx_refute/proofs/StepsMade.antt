-- Steps that are made one by one, up to the first that isn't enabled.
use Rattle.std.proofs.Common.{◌≡◌, ℕ, suc, ◌+◌, List, [], ◌∷◌, ◌++◌, take, drop, Some, Ok, Err, refl, sym, ap, ◌∙◌, slice_get, arith}
use Rattle.fx_base.specs.declared.fault.Fault.{Fault}
use Rattle.fx_base.specs.declared.fault.Place.TheVariants as places
use Rattle.fx_base.specs.Fault.{fault_at}
use Rattle.fx_run_text.specs.declared.step.Step.{Step}
use Rattle.fx_machine.specs.Acts.{Outcome}
use Rattle.fx_machine.specs.States.{State, wrapped_state}
use Rattle.fx_machine.specs.Steps.{run, after}
use Rattle.fx_machine.specs.Stores.{LoadedNetwork}
use Rattle.fx_refute.specs.Confirming.{IsStopped}
use Rattle.fx_refute.proofs.StepsInTurn.{take_next, parted, length_taken, run_on, one_step}

-- the tables stay, and after so many of the steps it is as reported
pub record Made (old new : LoadedNetwork) (steps : List Step) (k : ℕ) : Type 0 where
  pub net : new.net ≡ old.net
  pub classes : new.classes ≡ old.classes
  pub packets : new.packets ≡ old.packets
  pub at : (s : State) → old.state ≡ wrapped_state s → (mid : State)
      × (run old.net old.classes old.packets (take k steps) s ≡ Ok mid) × (new.state ≡ wrapped_state mid)

pub nothing_made : (r : LoadedNetwork) (steps : List Step) → Made r r steps 0
nothing_made r steps = record { net = refl; classes = refl; packets = refl; at = λ s e. (s, refl, e) }

moved : (old new : LoadedNetwork) (step : Step) (s : State) (o : Outcome) → new.net ≡ old.net → new.classes
    ≡ old.classes → new.packets ≡ old.packets → after new.net new.classes new.packets step s ≡ o
    → after old.net old.classes old.packets step s ≡ o
moved old new step s o n c p h =
    ap (λ x. after x old.classes old.packets step s) (sym n) ∙ ap (λ x. after new.net x old.packets step s) (sym c)
    ∙ ap (λ x. after new.net new.classes x step s) (sym p) ∙ h

pub step_made : (old mid new : LoadedNetwork) (steps : List Step) (k : ℕ) (step : Step) → slice_get steps k ≡ Some step
    → Made old mid steps k → (new.net ≡ mid.net) × (new.classes ≡ mid.classes) × (new.packets ≡ mid.packets)
    → ((s : State) → mid.state ≡ wrapped_state s → (next : State)
    × (after mid.net mid.classes mid.packets step s ≡ Ok next) × (new.state ≡ wrapped_state next))
    → Made old new steps (k + 1)
step_made old mid new steps k step is m same next = record {
  net = same.0 ∙ m.net;
  classes = same.1 ∙ m.classes;
  packets = same.2 ∙ m.packets;
  at = λ s e.
      let a = m.at s e in
      let n = next a.0 a.2 in
      let one = one_step old.net old.classes old.packets step a.0 n.0
      (moved old mid step a.0 (Ok n.0) m.net m.classes m.packets n.1) in
      let more : suc k ≡ k + 1 = omega arith in
      let taken : take (k + 1) steps ≡ take k steps ++ step ∷ [] = ap (λ j. take j steps) (sym more)
      ∙ take_next steps k step is in (
        n.0,
        ap (λ xs. run old.net old.classes old.packets xs s) taken
            ∙ run_on old.net old.classes old.packets (take k steps) (step ∷ []) s a.0 (Ok n.0) a.1 one,
        n.2,
      );
}

pub is_stopped : (old mid : LoadedNetwork) (steps : List Step) (k : ℕ) (step : Step) (number : ℕ) (e : Fault)
    → slice_get steps k ≡ Some step → Made old mid steps k
    → ((s : State) → mid.state ≡ wrapped_state s → after mid.net mid.classes mid.packets step s ≡ Err number) → e
    ≡ fault_at 503 (places.Line (k + 3)) → (s : State) → old.state ≡ wrapped_state s
    → IsStopped old.net old.classes old.packets steps s e
is_stopped old mid steps k step number e is m refused fault s at =
    let a = m.at s at in
    record {
      before = take k steps;
      step = step;
      behind = drop (suc k) steps;
      mid = a.0;
      number = number;
      all = parted steps k step is;
      runs = a.1;
      refused = moved old mid step a.0 (Err number) m.net m.classes m.packets (refused a.0 a.2);
      fault = fault ∙ ap (λ n. fault_at 503 (places.Line (n + 3))) (sym (length_taken steps k step is));
    }

pub all_made : (old new : LoadedNetwork) (steps : List Step) (k : ℕ) → Made old new steps k → take k steps ≡ steps
    → (s : State) → old.state ≡ wrapped_state s → (last : State)
    × (run old.net old.classes old.packets steps s ≡ Ok last) × (new.state ≡ wrapped_state last)
all_made old new steps k m whole s e =
    let a = m.at s e in
    (a.0, ap (λ xs. run old.net old.classes old.packets xs s) (sym whole) ∙ a.1, a.2)
