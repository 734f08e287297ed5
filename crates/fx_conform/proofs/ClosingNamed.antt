-- Only holders that can be named hold records, also once counts were taken in and once records have left.
use Rattle.std.proofs.Common.{ℕ, List, Option}
use Rattle.std.specs.List.{AllByRecursion}
use Rattle.fx_base.specs.declared.counts.Counts.{Counts}
use Rattle.fx_tables.specs.declared.holding.Holding.{Holding}
use Rattle.fx_tables.specs.Network.{Net}
use Rattle.fx_net.specs.Stores.{Stored}
use Rattle.fx_net.specs.Taking.{stores_and_leavers}
use Rattle.fx_conform.specs.Closing.{CanBeNamed, OnlyNamedHold}
use Rattle.fx_conform.specs.Emptying.{without_leasts}
use Rattle.fx_conform.specs.Usable.{AreUsable}
use Rattle.fx_conform.proofs.ClosingFilled.{filled_by_adding, filled_by_leasts}

pub taking_stays_named : (net : Net) (stores : List (Option Stored)) (counts : Counts) (hs : List Holding)
    → OnlyNamedHold net stores → AllByRecursion (λ (h : Holding). CanBeNamed net h.holder) hs
    → OnlyNamedHold net (stores_and_leavers stores counts hs).stores
taking_stays_named net stores counts hs h named = filled_by_adding (CanBeNamed net) counts hs stores named h

pub leaving_stays_named : (net : Net) (stores : List (Option Stored)) (place n : ℕ) → AreUsable stores
    → OnlyNamedHold net stores → OnlyNamedHold net (without_leasts place stores n)
leaving_stays_named net stores place n u h = filled_by_leasts (CanBeNamed net) n stores place h
