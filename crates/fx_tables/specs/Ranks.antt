-- Networks in which records only move forward.
use Rattle.std.specs.Prelude.{ℕ, ◌<◌, List, length, All, Option, Some, None, slice_get}
use Rattle.fx_layout.specs.Keys.{Fits}
use Rattle.fx_tables.specs.Network.{Net, Exporter, Process, at_places, exporters_of, layout_of}

-- a link that leads to a process leads to one of higher rank than this one
abbrev pub RisesTo : (ℕ → ℕ) → ℕ → Option ℕ → Type 0
RisesTo rank from None = Unit {0}
RisesTo rank from (Some process) = rank from < rank process

-- the same for a destination that has a link
abbrev pub Rises : (ℕ → ℕ) → Net → ℕ → Option ℕ → Type 0
Rises rank net from None = Unit {0}
Rises rank net from (Some link) = RisesTo rank from (slice_get net.links link)

abbrev pub AllRise : (ℕ → ℕ) → Net → ℕ → List Exporter → Type 0
AllRise rank net from exporters = All (λ e. All (Rises rank net from) e.destinations) exporters

-- through its own exporting processes and those of its aggregations, a process feeds only processes of higher rank
abbrev pub ProcessRises : (ℕ → ℕ) → Net → ℕ → Option Process → Type 0
ProcessRises rank net from None = Unit {0}
ProcessRises rank net from (Some process) =
    AllRise rank net from (at_places net.exporters process.exporters)
    × All (λ a. AllRise rank net from (exporters_of net (slice_get net.holders a.holder))) process.aggregations

-- each link leads to a process of higher rank than each process that feeds it
pub record IsRanked (net : Net) : Type 0 where
  pub rank : ℕ → ℕ
  pub below : (process : ℕ) → rank process < length net.processes
  pub rises : (process : ℕ) → ProcessRises rank net process (slice_get net.processes process)

-- the invariant of a network's tables: ranks, and no more bits of an axis than it has
pub record IsNetwork (net : Net) : Type 0 where
  pub ranked : IsRanked net
  pub fits : (holder : ℕ) → Fits (layout_of (slice_get net.holders holder))
