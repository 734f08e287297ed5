-- Stores that counts can be added to.
use Rattle.std.specs.Prelude.{ℕ, ◌≤◌, List, [], ◌∷◌, length, Option, Some, None}
use Rattle.std.specs.List.{IsDistinct}
use Rattle.std.specs.Map.{keys_of}
use Rattle.fx_base.specs.declared.counts.Counts.{Counts}
use Rattle.fx_layout.specs.Keys.{Key, same_key}
use Rattle.fx_store.specs.Flows.{Entry}
use Rattle.fx_store.specs.Recent.{Recent}
use Rattle.fx_net.specs.Leaving.{taken_out}
use Rattle.fx_net.specs.Stores.{Stored, unbounded, bounded, new_store, with_counts, without_entry}

-- the keys are distinct, and their number is at most the bound
pub record IsRecent (recent : Recent) : Type 0 where
  pub differ : IsDistinct same_key (keys_of recent.entries)
  pub some : 1 ≤ recent.capacity
  pub room : length recent.entries ≤ recent.capacity

abbrev pub IsUsable : Stored → Type 0
IsUsable (unbounded held) = Unit {0}
IsUsable (bounded recent) = IsRecent recent

abbrev pub UsableAt : Option Stored → Type 0
UsableAt None = Unit {0}
UsableAt (Some stored) = IsUsable stored

abbrev pub AreUsable : List (Option Stored) → Type 0
AreUsable [] = Unit {0}
AreUsable (stored ∷ stores) = UsableAt stored × AreUsable stores

-- ---- the laws

abbrev pub NewStoresAreUsable : Type 0
NewStoresAreUsable = (max_flows : ℕ) → IsUsable (new_store max_flows)

abbrev pub AdditionsStayUsable : Type 0
AdditionsStayUsable =
    (stored : Stored) (key : Key) (counts : Counts) → IsUsable stored → IsUsable (with_counts stored key counts)

abbrev pub RemovalsStayUsable : Type 0
RemovalsStayUsable =
    ((stored : Stored) (key : Key) → IsUsable stored → IsUsable (without_entry stored key))
    × ((taken : Option Entry) (stored : Stored) → IsUsable stored → IsUsable (taken_out taken stored))
