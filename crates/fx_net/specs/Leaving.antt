-- Records that leave caches and aggregations.
use Rattle.std.specs.Prelude.{ℕ, zero, suc, List, [], ◌∷◌, option_map, Option, Some, None, slice_get}
use Rattle.std.specs.FinMap as flows
use Rattle.fx_tables.specs.Network.{Net, named_by}
use Rattle.fx_store.specs.Flows.{Entry, least}
use Rattle.fx_net.specs.declared.leaving.Leaver.{Leaver}
use Rattle.fx_net.specs.Stores.{Stored, flows_in, without_entry}
use Rattle.fx_net.specs.Contents.{Contents, with_changed, stored_at}
use Rattle.fx_net.specs.Exporting.{after_send}

abbrev pub leaver : ℕ → Entry → Leaver
leaver holder e = record { holder = holder; flow = record { key = e.0; counts = e.1 } }

-- the exporting processes that the holder names send the record
abbrev pub after_leave : Net → Leaver → Contents → Contents
after_leave net l c = after_send net (named_by (slice_get net.holders l.holder)) l.flow c

-- these records leave, in order
abbrev pub after_leaves : Net → List Leaver → Contents → Contents
after_leaves net [] c = c
after_leaves net (l ∷ ls) c = after_leaves net ls (after_leave net l c)

-- the entry of the least key
abbrev pub least_of : Option Stored → Option Entry
least_of None = None
least_of (Some stored) = least (flows_in stored)

abbrev pub least_at : Contents → ℕ → Option Entry
least_at c place = least_of (stored_at c.stores place)

-- an entry is removed from its store
abbrev pub taken_out : Option Entry → Stored → Stored
taken_out None stored = stored
taken_out (Some e) stored = without_entry stored e.0

abbrev pub without_least : List (Option Stored) → ℕ → List (Option Stored)
without_least stores place = with_changed (option_map (taken_out (least_of (stored_at stores place)))) stores place

-- the entry leaves, if there is one
abbrev pub after_expire : Net → ℕ → Option Entry → Contents → Contents
after_expire net place None c = c
after_expire net place (Some e) c = after_leave net (leaver place e) c

-- the record with the least key leaves, if there is one
abbrev pub after_least : Net → ℕ → Contents → Contents
after_least net place c = after_expire net place (least_at c place) (record c { stores = without_least c.stores place })

-- the same, this number of times
abbrev pub after_leasts : Net → ℕ → ℕ → Contents → Contents
after_leasts net place zero c = c
after_leasts net place (suc n) c = after_leasts net place n (after_least net place c)

-- the number of records that a holder has
abbrev pub count_of : Option Stored → ℕ
count_of None = 0
count_of (Some stored) = flows.len (flows_in stored)

abbrev pub count_at : Contents → ℕ → ℕ
count_at c place = count_of (stored_at c.stores place)

-- all records leave, the least key first
abbrev pub after_emptying : Net → ℕ → Contents → Contents
after_emptying net place c = after_leasts net place (count_at c place) c
