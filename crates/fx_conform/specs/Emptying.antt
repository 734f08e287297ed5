-- Holders from which the record of the least key is removed, once or several times.
use Rattle.std.specs.Prelude.{◌≡◌, ℕ, zero, suc, ◌<◌, List, [], ◌++◌, length, Option, Some, slice_get}
use Rattle.fx_tables.specs.declared.record.Record.{Record}
use Rattle.fx_tables.specs.Network.{Net}
use Rattle.fx_store.specs.Flows.{Entry}
use Rattle.fx_net.specs.Stores.{Stored}
use Rattle.fx_net.specs.Contents.{Contents, stored_at}
use Rattle.fx_net.specs.Leaving.{leaver, least_of, without_least, count_of, count_at, after_leaves, after_emptying}
use Rattle.fx_net.specs.Taking.{left_by, with_stores}
use Rattle.fx_conform.specs.Held.{Leaver, AreHeld, Leave, AllLeave}
use Rattle.fx_conform.specs.Usable.{AreUsable}

-- the records that leave when the record of the least key is removed this number of times
abbrev pub leasts : ℕ → List (Option Stored) → ℕ → List Leaver
leasts place stores zero = []
leasts place stores (suc n) =
    left_by place (least_of (stored_at stores place)) ++ leasts place (without_least stores place) n

-- the stores afterwards
abbrev pub without_leasts : ℕ → List (Option Stored) → ℕ → List (Option Stored)
without_leasts place stores zero = stores
without_leasts place stores (suc n) = without_leasts place (without_least stores place) n

-- the number of records that the holder has
abbrev pub count_in : List (Option Stored) → ℕ → ℕ
count_in stores place = count_of (stored_at stores place)

-- ---- the laws

-- The record of the least key is removed, and the stores still agree with the held records.
abbrev pub LeastRecordsLeave : Type 0
LeastRecordsLeave =
    (stores : List (Option Stored)) (held : List (List Record)) (place : ℕ) (e : Entry)
    → AreHeld stores held → AreUsable stores → least_of (stored_at stores place) ≡ Some e
    → (now : List (List Record)) × Leave (leaver place e) held now
    × AreHeld (without_least stores place) now × AreUsable (without_least stores place)

-- The same, repeated this number of times.
abbrev pub LeastsLeave : Type 0
LeastsLeave =
    (stores : List (Option Stored)) (held : List (List Record)) (place : ℕ) (n : ℕ)
    → AreHeld stores held → AreUsable stores
    → (now : List (List Record)) × AllLeave (leasts place stores n) held now
    × AreHeld (without_leasts place stores n) now × AreUsable (without_leasts place stores n)

-- Repeated once for each record of the holder: the holder then holds nothing.
abbrev pub EmptiedHoldsNothing : Type 0
EmptiedHoldsNothing =
    (stores : List (Option Stored)) (held : List (List Record)) (place : ℕ)
    → AreUsable stores → place < length stores
    → AreHeld (without_leasts place stores (count_in stores place)) held
    → slice_get held place ≡ Some []

-- A running network does the same when it empties a holder.
abbrev pub EmptyingIsLeaving : Type 0
EmptyingIsLeaving =
    (net : Net) (place : ℕ) (c : Contents)
    → after_emptying net place c
    ≡ after_leaves net (leasts place c.stores (count_at c place))
    (with_stores c (without_leasts place c.stores (count_at c place)))
