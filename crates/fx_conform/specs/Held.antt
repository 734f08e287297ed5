-- The held records that correspond to the contents of stores, and records that leave.
use Rattle.std.specs.Prelude.{◌≡◌, ℕ, List, [], ◌∷◌, Option, Some, None, slice_get, slice_set}
use Rattle.std.specs.FinMap.{get}
use Rattle.fx_layout.specs.Keys.{Key}
use Rattle.fx_tables.specs.declared.record.Record.{Record}
use Rattle.fx_base.specs.Entries.{entry_numbered}
use Rattle.fx_machine.specs.States.{without}
use Rattle.fx_machine.specs.Sums.{total_at}
use Rattle.fx_store.specs.Flows.{Flows}
use Rattle.fx_collect.specs.Totals.{Differ}
use Rattle.fx_net.specs.Stores.{Stored, flows_in}
use Rattle.fx_net.specs.Leaving.{leaver}

-- ---- what is held

-- one record for each flow
pub record IsHeld (held : Flows) (rs : List Record) : Type 0 where
  pub differ : Differ rs
  pub same : (key : Key) → total_at rs key ≡ get held key

-- an immediate cache holds nothing
abbrev pub HeldAt : Option Stored → List Record → Type 0
HeldAt None rs = rs ≡ []
HeldAt (Some stored) rs = IsHeld (flows_in stored) rs

-- each holder's records correspond to its store
abbrev pub AreHeld : List (Option Stored) → List (List Record) → Type 0
AreHeld [] [] = Unit {0}
AreHeld (stored ∷ stores) (rs ∷ rss) = HeldAt stored rs × AreHeld stores rss
AreHeld _ _ = ⊥

-- ---- what leaves

abbrev pub ResultOf : {A : Type 0} {B : Type 0} → (A → B) → Type 0
ResultOf {A} {B} make = B

-- a record that leaves a holder: the result type of `leaver`, which has no name outside of its crate
abbrev pub Leaver : Type 0
Leaver = ResultOf (leaver 0)

-- the record is held by its holder, and is removed
pub record Leave (l : Leaver) (held now : List (List Record)) : Type 0 where
  pub number : ℕ
  pub rs : List Record
  pub there : slice_get held l.holder ≡ Some rs
  pub flow_is : entry_numbered rs number ≡ Some l.flow
  pub now_is : now ≡ slice_set held l.holder (without rs number)

-- these records leave in order
abbrev pub AllLeave : List Leaver → List (List Record) → List (List Record) → Type 0
AllLeave [] held now = now ≡ held
AllLeave (l ∷ ls) held now = (mid : List (List Record)) × Leave l held mid × AllLeave ls mid now
