-- Flows: a finite map from flow keys to counts (RFC 7011, section 2: a flow's records have its key).
use Rattle.std.specs.Prelude.{◌≡◌, List, Option, Some, None, IfSome, slice_get}
use Rattle.std.specs.FinMap.{FinMap, entries, from_entries, get, insert, remove}
use Rattle.fx_base.specs.declared.counts.Counts.{Counts}
use Rattle.fx_base.specs.Counts.{add_counts}
use Rattle.fx_layout.specs.Keys.{Key}
use Rattle.fx_store.specs.Order.{key_cmp}

abbrev pub Flows : Type 0
Flows = FinMap key_cmp Counts

-- a key and its counts
abbrev pub Entry : Type 0
Entry = Key × Counts

-- the flows of some entries with distinct keys
abbrev pub flows_of : List Entry → Flows
flows_of es = from_entries es

-- the counts so far, with more added
abbrev pub with_more : Option Counts → Counts → Counts
with_more None more = more
with_more (Some before) more = add_counts before more

-- the counts are added at the key
abbrev pub with_added : Flows → Key → Counts → Flows
with_added flows key counts = insert flows key (with_more (get flows key) counts)

-- the entry is removed, if there is one
abbrev pub without : Flows → Option Entry → Flows
without flows None = flows
without flows (Some e) = remove flows e.0

-- the entry with the least key
abbrev pub least : Flows → Option Entry
least flows = slice_get (entries flows) 0

-- Counts are added at a key, and an entry may leave.
pub record Adds (old new : Flows) (key : Key) (counts : Counts) (left : Option Entry) : Type 0 where
  pub flows : new ≡ with_added (without old left) key counts
  -- an entry leaves only if the key is new, and then it is another key's entry with all its counts
  pub whole : IfSome left (λ e. (get old key ≡ None) × (get old e.0 ≡ Some e.1))
