-- A bounded number of flows, ordered by how recently counts were added to them.
use Rattle.std.specs.Prelude.{◌≡◌, ℕ, List, ◌∷◌, Option, take, slice_get}
use Rattle.std.specs.List.{list_any}
use Rattle.std.specs.Ordering.{eq_by_cmp}
use Rattle.std.specs.FinMap.{contains_key}
use Rattle.std.specs.Map.{lookup, remove_entry}
use Rattle.fx_base.specs.declared.counts.Counts.{Counts}
use Rattle.fx_layout.specs.Keys.{Key, same_key}
use Rattle.fx_store.specs.Order.{key_cmp}
use Rattle.fx_store.specs.Flows.{Entry, Flows, with_more}

-- the entries, the most recently updated first, and their largest number
pub record Recent : Type 0 where
  pub entries : List Entry
  pub capacity : ℕ

abbrev pub counts_at : List Entry → Key → Option Counts
counts_at entries key = lookup (same_key key) entries

abbrev pub without_key : List Entry → Key → List Entry
without_key entries key = remove_entry (same_key key) entries

-- the counts are added at the key, whose entry now comes first
abbrev pub with_latest : List Entry → Key → Counts → List Entry
with_latest entries key counts = (key, with_more (counts_at entries key) counts) ∷ without_key entries key

-- the entries that there is room for
abbrev pub after_add : Recent → Key → Counts → Recent
after_add r key counts = record r { entries = take r.capacity (with_latest r.entries key counts) }

-- the entry that there is no room for
abbrev pub pushed_out : Recent → Key → Counts → Option Entry
pushed_out r key counts = slice_get (with_latest r.entries key counts) r.capacity

-- the keys are exactly those of the flows
abbrev pub AreKeysOf : Flows → List Key → Type 0
AreKeysOf flows keys = (q : Key) → list_any (eq_by_cmp key_cmp q) keys ≡ contains_key flows q
