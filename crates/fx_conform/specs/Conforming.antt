-- A running network between two calls, as the state that a run of the abstract network has reached.
use Rattle.std.specs.Prelude.{◌≡◌, ℕ, suc, ◌^◌, ◌<◌, List, [], length, Option, Ok, slice_get}
use Rattle.std.specs.List.{AllByRecursion}
use Rattle.fx_base.specs.Device.{Writes}
use Rattle.fx_tables.specs.declared.packet.Packet.{Packet}
use Rattle.fx_tables.specs.declared.record.Record.{Record}
use Rattle.fx_run_text.specs.declared.step.Step.{Step}
use Rattle.fx_tables.specs.Network.{Net, AggregationEntry, aggregations_of}
use Rattle.fx_tables.specs.Classes.{Class}
use Rattle.fx_tables.specs.Ranks.{IsNetwork}
use Rattle.fx_tables.specs.Runnable.{IsRunnable}
use Rattle.fx_machine.specs.States.{State, opening, wrapped_state}
use Rattle.fx_machine.specs.Steps.{run}
use Rattle.fx_collect.specs.Totals.{totals_in}
use Rattle.fx_link.specs.Links.{Put}
use Rattle.fx_ranks.specs.Ranks.{LinksLead}
use Rattle.fx_runs.specs.Destinations.{AllUsable}
use Rattle.fx_runs.specs.PutOn.{put_on}
use Rattle.fx_net.specs.Contents.{Contents, stored_at}
use Rattle.fx_net.specs.Stores.{Stored}
use Rattle.fx_conform.specs.Held.{AreHeld}
use Rattle.fx_conform.specs.Usable.{AreUsable}
use Rattle.fx_conform.specs.TakingIn.{IsUnbounded}
use Rattle.fx_conform.specs.Closing.{OnlyNamedHold}
use Rattle.fx_conform.specs.OnLinks.{AreStill}
use Rattle.fx_conform.specs.Sendable.{AreSent, HaveLayouts}

-- the invariants of the tables of a network
pub record IsSound (net : Net) : Type 0 where
  pub network : IsNetwork net
  pub runnable : IsRunnable net
  pub leads : LinksLead net
  pub layouts : HaveLayouts net.holders

-- the stores of aggregations are unbounded
abbrev pub AreBoundless : Net → List (Option Stored) → Type 0
AreBoundless net stores =
    (process : ℕ)
    → AllByRecursion (λ (a : AggregationEntry). IsUnbounded (stored_at stores a.holder))
    (aggregations_of (slice_get net.processes process))

-- each holder holds one record for each flow of its store
pub record StoresConform (net : Net) (stores : List (Option Stored)) (holding : List (List Record)) : Type 0 where
  pub as_many : length stores ≡ length net.holders
  pub held : AreHeld stores holding
  pub usable : AreUsable stores
  pub boundless : AreBoundless net stores
  pub named : OnlyNamedHold net stores
  pub sent : AreSent holding

-- all records that a run has put on a link
abbrev pub put_by_run : Net → List Class → List Packet → List Step → ℕ → List Record
put_by_run net classes packets steps link = put_on net classes packets link steps (opening net classes packets)

-- The run's state: each store has the records that its holder holds, each link those that it carries, and the collector
-- has
-- counted the same. All octets put on a link since the run began encode the records that the run has put on it.
pub record Conforms (net : Net) (classes : List Class) (begin put : Put) (c : Contents) (packets : List Packet)
    (steps : List Step) (s : State) : Type 0 where
  pub history : ℕ → List ℕ
  pub written : (link : ℕ) → Writes (begin (suc link)) (put (suc link)) (history link)
  pub run_is : run net classes packets steps (opening net classes packets) ≡ Ok s
  pub crossed : s.coming ≡ []
  pub as_many : length s.carried ≡ length net.links
  pub stores : StoresConform net c.stores s.held
  pub links : AreStill history (put_by_run net classes packets steps) c.links s.carried
  pub chosen : AllUsable net c.chosen
  pub totals : c.totals ≡ totals_in net.report_layout (wrapped_state s)
  pub second : c.second < 2 ^ 32
