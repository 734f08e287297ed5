-- How caches and aggregations add the records that come to them.
use Rattle.std.specs.Prelude.{ℕ, List, [], ◌∷◌, ◌++◌, option_and_then, option_map, Option, Some, None, if◌then◌else◌}
use Rattle.fx_base.specs.declared.counts.Counts.{Counts}
use Rattle.fx_tables.specs.declared.holding.Holding.{Holding}
use Rattle.fx_tables.specs.Network.{Net}
use Rattle.fx_store.specs.Flows.{Entry}
use Rattle.fx_net.specs.Stores.{Stored, with_counts, makes_room}
use Rattle.fx_net.specs.Contents.{Contents, with_changed, stored_at, is_immediate}
use Rattle.fx_net.specs.declared.leaving.Leaver.{Leaver}
use Rattle.fx_net.specs.Leaving.{leaver, after_leaves}

-- the stores after counts were added to some of them in order, and the entries that left to make room
pub record Adding : Type 0 where
  pub stores : List (Option Stored)
  pub left : List Leaver

abbrev pub left_by : ℕ → Option Entry → List Leaver
left_by holder None = []
left_by holder (Some e) = leaver holder e ∷ []

-- the counts are added at the key of a holder
abbrev pub with_holding : Counts → Holding → Adding → Adding
with_holding counts h a = record {
  stores = with_changed (option_map (λ s. with_counts s h.key counts)) a.stores h.holder;
  left = a.left ++ left_by h.holder (option_and_then (λ s. makes_room s h.key counts) (stored_at a.stores h.holder));
}

abbrev pub with_holdings : Counts → List Holding → Adding → Adding
with_holdings counts [] a = a
with_holdings counts (h ∷ hs) a = with_holdings counts hs (with_holding counts h a)

abbrev pub stores_and_leavers : List (Option Stored) → Counts → List Holding → Adding
stores_and_leavers stores counts holdings = with_holdings counts holdings (record { stores = stores; left = [] })

-- the record of an immediate cache leaves at once
abbrev pub leaves_at_once : List (Option Stored) → Counts → Holding → List Leaver
leaves_at_once stores counts h =
    if is_immediate (stored_at stores h.holder) then leaver h.holder (h.key, counts) ∷ [] else []

abbrev pub all_leave_at_once : List (Option Stored) → Counts → List Holding → List Leaver
all_leave_at_once stores counts [] = []
all_leave_at_once stores counts (h ∷ hs) = leaves_at_once stores counts h ++ all_leave_at_once stores counts hs

-- the contents with these stores
abbrev pub with_stores : Contents → List (Option Stored) → Contents
with_stores c stores = record c { stores = stores }

-- the counts are added, and the entries that make room have left
abbrev pub after_adding : Net → Counts → List Holding → Contents → Contents
after_adding net counts holdings c =
    after_leaves net (stores_and_leavers c.stores counts holdings).left
    (with_stores c (stores_and_leavers c.stores counts holdings).stores)

-- The counts are added to all these holders: entries that make room leave first, then the records of immediate caches.
abbrev pub after_taking : Net → Counts → List Holding → Contents → Contents
after_taking net counts holdings c =
    after_leaves net (all_leave_at_once (stores_and_leavers c.stores counts holdings).stores counts holdings)
    (after_adding net counts holdings c)
