-- Networks in which no record is stuck, fate_costs along their lists.
use Rattle.std.proofs.Common.{suc, ◌<◌, List, [], ◌∷◌, length, All, IfSome, arith}
use Rattle.std.specs.List.{AllByRecursion}
use Rattle.fx_tables.specs.declared.observation.Selection.{Selection}
use Rattle.fx_tables.specs.Network.{Net, Exporter, AggregationEntry, Process, Point, DeviceEntry}
use Rattle.fx_tables.specs.Runnable as runnable
use Rattle.fx_tables.specs.Runnable.{IsHolder, IsRunnable}

abbrev pub HasLinks : Net → Exporter → Type 0
HasLinks net e = AllByRecursion (λ d. IfSome d (λ link. link < length net.links)) e.destinations

abbrev pub HasHolders : Net → Process → Type 0
HasHolders net p = AllByRecursion (λ (a : AggregationEntry). IsHolder net a.holder) p.aggregations

abbrev pub HasCaches : Net → DeviceEntry → Type 0
HasCaches net d = AllByRecursion (λ (p : Point). AllByRecursion (λ (s : Selection). IfSome s.holder (IsHolder net))
    p.selections) d.points

pub record IsWhole (net : Net) : Type 0 where
  pub links : AllByRecursion (HasLinks net) net.exporters
  pub aggregations : AllByRecursion (HasHolders net) net.processes
  pub caches : AllByRecursion (HasCaches net) net.devices

pub along : {A : Type 0} (P Q : A → Type 0) (xs : List A) → ((x : A) → P x → Q x) → All P xs → AllByRecursion Q xs
along P Q [] f h = tt
along P Q (x ∷ xs) f h = (f x (h 0 x (omega arith)), along P Q xs f (λ k. λ d. λ lt. h (suc k) d (omega arith)))

same_along : {A : Type 0} (P : A → Type 0) (xs : List A) → All P xs → AllByRecursion P xs
same_along P xs h = along P P xs (λ x y. y) h

pub whole : (net : Net) → IsRunnable net → IsWhole net
whole net is = record {
  links = along (runnable.HasDestinations net) (HasLinks net) net.exporters
      (λ e h. same_along (λ d. IfSome d (λ link. link < length net.links)) e.destinations h.links) is.destinations;
  aggregations = along (runnable.HasAggregations net) (HasHolders net) net.processes
      (λ p h. same_along (λ (a : AggregationEntry). IsHolder net a.holder) p.aggregations h) is.aggregations;
  caches = along (runnable.HasCaches net) (HasCaches net) net.devices
      (λ d h. along (λ (p : Point). All (λ (s : Selection). IfSome s.holder (IsHolder net)) p.selections)
      (λ (p : Point). AllByRecursion (λ (s : Selection). IfSome s.holder (IsHolder net)) p.selections) d.points
      (λ p k. same_along (λ (s : Selection). IfSome s.holder (IsHolder net)) p.selections k) h) is.caches;
}
