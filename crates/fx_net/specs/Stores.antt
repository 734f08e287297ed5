-- What caches and aggregations hold.
use Rattle.std.specs.Prelude.{ℕ, ◌==◌, min, [], Option, None, if◌then◌else◌}
use Rattle.std.specs.FinMap as flows
use Rattle.fx_base.specs.declared.counts.Counts.{Counts}
use Rattle.fx_layout.specs.Keys.{Key}
use Rattle.fx_store.specs.Flows.{Flows, Entry, flows_of, with_added}
use Rattle.fx_store.specs.Recent.{Recent, after_add, pushed_out, without_key}

-- A bounded store knows which of its flows were added to most recently.
pub data Stored : Type 0 where
  unbounded : Flows → Stored
  bounded : Recent → Stored

abbrev pub flows_in : Stored → Flows
flows_in (unbounded held) = held
flows_in (bounded recent) = flows_of recent.entries

-- the largest number of records that a bounded cache holds, whatever its bound is
abbrev pub most_flows : ℕ
most_flows = 65536

-- an empty store: the bound 0 means unbounded, and a bound above the largest is the largest
abbrev pub new_store : ℕ → Stored
new_store max_flows =
    if max_flows == 0 then unbounded (flows_of []) else bounded
    (record { entries = []; capacity = min max_flows most_flows })

-- the counts are added at a key
abbrev pub with_counts : Stored → Key → Counts → Stored
with_counts (unbounded held) key counts = unbounded (with_added held key counts)
with_counts (bounded recent) key counts = bounded (after_add recent key counts)

-- the entry that leaves to make room
abbrev pub makes_room : Stored → Key → Counts → Option Entry
makes_room (unbounded held) key counts = None
makes_room (bounded recent) key counts = pushed_out recent key counts

-- an entry is removed
abbrev pub without_entry : Stored → Key → Stored
without_entry (unbounded held) key = unbounded (flows.remove held key)
without_entry (bounded recent) key = bounded (record recent { entries = without_key recent.entries key })
