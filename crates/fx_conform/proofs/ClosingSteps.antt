-- The closing phase, as the steps of a run.
use Rattle.std.proofs.Common.{◌≡◌, ℕ, suc, ◌==◌, Bool, true, false, List, [], ◌∷◌, map, slice_get, refl, ap, ◌∙◌, subst, Option, Some, None}
use Rattle.std.specs.List.{AllByRecursion, flat_map}
use Rattle.fx_tables.specs.declared.packet.Packet.{Packet}
use Rattle.fx_tables.specs.declared.holder_name.HolderName.TheVariants as holder
use Rattle.fx_tables.specs.Network.{Net, DeviceEntry, AggregationEntry, Process, caches_of}
use Rattle.fx_tables.specs.Classes.{Class}
use Rattle.fx_tables.specs.Runnable.{IsHolder}
use Rattle.fx_link.specs.Links.{Put}
use Rattle.fx_net.specs.Arriving.{queued_on}
use Rattle.fx_net.specs.Contents.{Contents}
use Rattle.fx_net.specs.Doings.{Ended, Empties, EmptiesAll, EmptiesNetwork, CarriesWhole, CarriesInto, Where, Finishes, leads_to, link_places, holders_of, caches_of_all}
use Rattle.fx_conform.specs.Closing.{CanBeNamed}
use Rattle.fx_conform.specs.Conforming.{IsSound}
use Rattle.fx_conform.specs.OnLinks.{none_pending}
use Rattle.fx_conform.specs.Rows.{ArriveIf, Arrives, InTurn, IsEmptied, IsEmptying, IsFinished, Repeated}
use Rattle.fx_conform.proofs.DestinationsStay.{carrying_chosen, emptying_chosen}
use Rattle.fx_conform.proofs.PacketsCross.{Then as Made, all_join}
use Rattle.fx_conform.proofs.RecordsArrive.{aggregations_held}
use Rattle.fx_conform.proofs.CalmTimes.{Goes, goes_nothing, goes_then, goes_each, ended}
use Rattle.fx_conform.proofs.LinesAsSteps.{emptied, carried_so}
use Rattle.fx_conform.proofs.Lines.{none_below}

-- ---- what is emptied can be named

pub all_by_index : {A : Type 0} (P : A → Type 0) (xs : List A) → ((n : ℕ) (x : A) → slice_get xs n ≡ Some x → P x)
    → AllByRecursion P xs
all_by_index P [] h = tt
all_by_index P (x ∷ xs) h = (h 0 x refl, all_by_index P xs (λ n y e. h (suc n) y e))

all_flat : {A B : Type 0} (P : B → Type 0) (f : A → List B) (xs : List A)
    → AllByRecursion (λ x. AllByRecursion P (f x)) xs → AllByRecursion P (flat_map f xs)
all_flat P f [] h = tt
all_flat P f (x ∷ xs) h = all_join P (f x) (flat_map f xs) h.0 (all_flat P f xs h.1)

module _ (net : Net) where
  pub caches_named : AllByRecursion (CanBeNamed net) (caches_of_all net)
  caches_named = all_flat (CanBeNamed net) (λ (d : DeviceEntry). d.caches) net.devices
      (all_by_index (λ (d : DeviceEntry). AllByRecursion (CanBeNamed net) d.caches) net.devices
      (λ n d is. all_by_index (CanBeNamed net) d.caches
      (λ k place at. (
        holder.Cache (suc n) (suc k),
        ap (λ (o : Option DeviceEntry). slice_get (caches_of o) k) is
            ∙ at,
      ))))

  each_named : (xs : List AggregationEntry) → AllByRecursion (λ (a : AggregationEntry). IsHolder net a.holder) xs
      → AllByRecursion (CanBeNamed net) (map (λ (a : AggregationEntry). a.holder) xs)
  each_named [] h = tt
  each_named (a ∷ xs) h = ((h.0.name, h.0.named), each_named xs h.1)

  pub holders_named : IsSound net → (process : ℕ)
      → AllByRecursion (CanBeNamed net) (holders_of (slice_get net.processes process))
  holders_named sound process = by (slice_get net.processes process) refl where
    by : (o : Option Process) → slice_get net.processes process ≡ o → AllByRecursion (CanBeNamed net) (holders_of o)
    by None is = tt
    by (Some p) is = each_named p.aggregations (aggregations_held net sound.runnable process p is)

-- ---- what is done

module _ (net : Net) (sound : IsSound net) (classes : List Class) (begin : Put) (packets : List Packet)
    (chosen : List ℕ) where
  empties_goes : (place : ℕ) → CanBeNamed net place
      → Goes net classes begin packets chosen (IsEmptied net classes packets chosen place) (Ended (Empties net place))
  empties_goes place named before old after new steps s h same e =
      ended net classes begin packets chosen (IsEmptied net classes packets chosen place) (Empties net place) before
      after old new steps h.history h.written e
      (ap (λ (c : Contents). c.chosen) e.made ∙ (emptying_chosen net place old ∙ same))
      (subst (λ (cs : List ℕ). Made net classes packets (IsEmptied net classes packets cs place) e.done none_pending
      h.history [] steps) same (emptied net sound classes begin packets place named before old e.done steps s h
      e.made))

  empties_all_goes : (places : List ℕ) → AllByRecursion (CanBeNamed net) places
      → Goes net classes begin packets chosen (InTurn (IsEmptied net classes packets chosen) places)
      (EmptiesAll net places)
  empties_all_goes places named =
      goes_each net classes begin packets chosen (CanBeNamed net) (IsEmptied net classes packets chosen)
      (λ place. Ended (Empties net place)) empties_goes places named

  carries_goes : (link to : ℕ) (process : Process) → slice_get net.links link ≡ Some to → slice_get net.processes to
      ≡ Some process
      → Goes net classes begin packets chosen (Repeated (Arrives net chosen link)) (Ended (CarriesWhole net link))
  carries_goes link to process leads there before old after new steps s h same e =
      let n : ℕ = queued_on (slice_get old.links link) in
      ended net classes begin packets chosen (Repeated (Arrives net chosen link)) (CarriesWhole net link) before after
      old new steps h.history h.written e
      (ap (λ (c : Contents). c.chosen) e.made ∙ (carrying_chosen net link n old ∙ same))
      (subst (λ (cs : List ℕ). Made net classes packets (Repeated (Arrives net cs link)) e.done none_pending h.history
      [] steps) same (carried_so net sound classes begin packets link n to process leads there before old e.done
      steps s h e.made))

  into_goes : (process link : ℕ) → Goes net classes begin packets chosen
      (ArriveIf (leads_to (slice_get net.links link) process) net chosen link) (CarriesInto net process link)
  into_goes process link = by (slice_get net.links link) refl where
    there : (to : ℕ) (o : Option Process) → slice_get net.links link ≡ Some to → slice_get net.processes to ≡ o
        → Goes net classes begin packets chosen (Repeated (Arrives net chosen link)) (Ended (CarriesWhole net link))
    there to (Some p) leads is = carries_goes link to p leads is
    there to None leads is = absurd (none_below net.processes to (sound.leads link to leads) is)

    if_so : (to : ℕ) → slice_get net.links link ≡ Some to → (b : Bool)
        → Goes net classes begin packets chosen (ArriveIf b net chosen link) (Where b (Ended (CarriesWhole net link)))
    if_so to leads true = there to (slice_get net.processes to) leads refl
    if_so to leads false = goes_nothing net classes begin packets chosen

    by : (o : Option ℕ) → slice_get net.links link ≡ o
        → Goes net classes begin packets chosen (ArriveIf (leads_to o process) net chosen link)
        (Where (leads_to o process) (Ended (CarriesWhole net link)))
    by None is = goes_nothing net classes begin packets chosen
    by (Some to) is = if_so to is (to == process)

  any : (xs : List ℕ) → AllByRecursion (λ (_ : ℕ). Unit {0}) xs
  any [] = tt
  any (x ∷ xs) = (tt, any xs)

  finishes_goes : (process : ℕ) → Goes net classes begin packets chosen (IsFinished net classes packets chosen process)
      (Finishes net process)
  finishes_goes process =
      goes_then net classes begin packets chosen _ _ _ _
      (goes_each net classes begin packets chosen (λ (_ : ℕ). Unit {0})
      (λ link. ArriveIf (leads_to (slice_get net.links link) process) net chosen link) (CarriesInto net process)
      (λ link _. into_goes process link) (link_places net) (any (link_places net)))
      (empties_all_goes (holders_of (slice_get net.processes process)) (holders_named net sound process))

  pub network_goes : (ranked : List ℕ) → Goes net classes begin packets chosen
      (IsEmptying net classes packets chosen ranked) (EmptiesNetwork net ranked)
  network_goes ranked =
      goes_then net classes begin packets chosen _ _ _ _ (empties_all_goes (caches_of_all net) (caches_named net))
      (goes_each net classes begin packets chosen (λ (_ : ℕ). Unit {0}) (IsFinished net classes packets chosen)
      (Finishes net) (λ process _. finishes_goes process) ranked (any ranked))
