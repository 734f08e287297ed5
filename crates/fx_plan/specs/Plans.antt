-- The plan of a network document, and the refusals that remain once its walk has found no fault.
use Rattle.std.specs.Prelude.{◌≡◌, ◌⊎◌, ℕ, ◌<◌, ◌≤◌, List, [], length, reverse, slice_get, Result, Ok, Err}
use Rattle.serde_json.specs.Data.{Data}
use Rattle.fx_base.specs.declared.fault.Fault.{Fault}
use Rattle.fx_base.specs.declared.fault.Place.TheVariants as places
use Rattle.fx_base.specs.Fault.{fault_at}
use Rattle.fx_base.specs.Refusals.{link_cycle, too_many_layouts}
use Rattle.fx_walk.specs.Walk.{Refuses}
use Rattle.fx_layout.specs.Keys.{Fits, Layout}
use Rattle.fx_tables.specs.Limits.{layout_limit}
use Rattle.fx_tables.specs.Network.{Net, layout_of}
use Rattle.fx_tables.specs.Matches.{AreEntries}
use Rattle.fx_tables.specs.Ranks.{IsRanked}
use Rattle.fx_tables.specs.Runnable.{IsRunnable}
use Rattle.fx_topology.specs.declared.network.NetworkDocument.{NetworkDocument}
use Rattle.fx_plan.specs.Cycles.{IsTextPlace, stuck_text}
use Rattle.fx_plan.specs.Layouts.{AreNumbers, layouts_of}
use Rattle.fx_topology.specs.Networks.{network_faults, network_of}
use Rattle.fx_ranks.specs.Ranks.{AreStuck, IsStuck, IsWhole, LinksLead}
use Rattle.fx_plan.specs.Tables.{net_of}

-- the links and the report lead to existing processes
pub record IsResolved (net : Net) : Type 0 where
  pub leads : LinksLead net
  pub report : net.report < length net.processes

-- ---- refusals

abbrev pub HasTooManyLayouts : Net → Type 0
HasTooManyLayouts net = layout_limit < length (layouts_of net)

-- some processes are stuck, so there are no ranks, and the fault lists all stuck processes
pub record IsCycle (network : NetworkDocument) (e : Fault) : Type 0 where
  pub stuck : List ℕ
  pub are_stuck : AreStuck (net_of network) stuck
  pub one : (process : ℕ) × (process < length (net_of network).processes) × IsStuck (net_of network) process
  pub unranked : IsRanked (net_of network) → ⊥
  pub number : e.number ≡ link_cycle
  pub text : IsTextPlace e.place (stuck_text network.devices stuck)

-- the refusals of a network whose document has no other fault, in this order
abbrev pub RefusesNetwork : NetworkDocument → Fault → Type 0
RefusesNetwork network e =
    ((e ≡ fault_at too_many_layouts places.None) × HasTooManyLayouts (net_of network))
    ⊎ ((length (layouts_of (net_of network)) ≤ layout_limit) × IsCycle network e)

-- the result of reading a plan: the network that the document declares, if it has no fault, otherwise its first
-- fault; or out of memory
abbrev pub ReadsPlan : Data → Result NetworkDocument Fault → Type 0
ReadsPlan d (Ok network) =
    (network_faults [] d ≡ []) × (network ≡ network_of d) × (length (layouts_of (net_of network)) ≤ layout_limit)
    × ((process : ℕ) → IsStuck (net_of network) process → ⊥)
ReadsPlan d (Err e) = Refuses e (network_faults [] d) ⊎ ((network_faults [] d ≡ []) × RefusesNetwork (network_of d) e)

-- ---- the contents of a plan

pub record IsPlan (network : NetworkDocument) (net : Net) (ranked order : List ℕ) (layouts : List Layout)
    (numbers : List ℕ) : Type 0 where
  pub net_is : net ≡ net_of network
  pub report : net.report < length net.processes
  pub whole : IsWhole net ranked
  pub order_is : order ≡ reverse ranked
  pub fits : (holder : ℕ) → Fits (layout_of (slice_get net.holders holder))
  pub entries : AreEntries net
  pub runnable : IsRunnable net
  pub layouts_are : layouts ≡ layouts_of net
  pub few : length layouts ≤ layout_limit
  pub numbers_are : AreNumbers layouts net.holders numbers
