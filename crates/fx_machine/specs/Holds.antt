-- Adding records to several holders, and undoing it.
use Rattle.std.specs.Prelude.{ℕ, zero, suc, ◌-◌, List, [], ◌∷◌, take, length, option_and_then, Option, Some, None, slice_get, slice_set}
use Rattle.fx_base.specs.declared.counts.Counts.{Counts}
use Rattle.fx_tables.specs.declared.record.Record.{Record}
use Rattle.fx_tables.specs.declared.holding.Holding.{Holding}
use Rattle.fx_machine.specs.declared.holding.Joined.{Joined}
use Rattle.fx_machine.specs.declared.holding.Taking.{Taking}
use Rattle.fx_machine.specs.Acts.{Choices, Act, Hold, taken_in}

abbrev pub hold_act : Holding → Act
hold_act h = Hold h.holder h.key

-- ---- adding

abbrev pub put_in : List (List Record) → ℕ → Option (List Record) → Option (List (List Record))
put_in held holder None = None
put_in held holder (Some rs) = Some (slice_set held holder rs)

abbrev pub take_in_at : Option (List Record) → List (List Record) → ℕ → Record → Option ℕ → Option (List (List Record))
take_in_at None held holder r choice = None
take_in_at (Some rs) held holder r choice = put_in held holder (taken_in rs choice r)

-- the lists after one holder adds a record
abbrev pub held_with : List (List Record) → Counts → Holding → Option ℕ → Option (List (List Record))
held_with held counts h choice = take_in_at (slice_get held h.holder) held h.holder
    (record { key = h.key; counts = counts }) choice

-- the lists after each holder adds a record in order, with no choice left over
abbrev pub hold_all : Counts → List Holding → List (List Record) → Choices → Option (List (List Record))
hold_all counts [] held [] = Some held
hold_all counts [] held (c ∷ cs) = None
hold_all counts (h ∷ hs) held [] = None
hold_all counts (h ∷ hs) held (c ∷ cs) =
    option_and_then (λ (now : List (List Record)). hold_all counts hs now cs) (held_with held counts h c)

-- ---- undoing

abbrev pub with_counts : List Record → ℕ → Counts → List Record
with_counts [] n counts = []
with_counts (r ∷ rs) zero counts = record { key = r.key; counts = counts } ∷ rs
with_counts (r ∷ rs) (suc n) counts = r ∷ with_counts rs n counts

-- the last record is removed, or the former counts are restored
abbrev pub given_back : Option Joined → List Record → List Record
given_back None rs = take (length rs - 1) rs
given_back (Some j) rs = with_counts rs j.place j.counts

abbrev pub back_at : List (List Record) → ℕ → Option Joined → List (List Record)
back_at [] n j = []
back_at (rs ∷ rss) zero j = given_back j rs ∷ rss
back_at (rs ∷ rss) (suc n) j = rs ∷ back_at rss n j

-- the additions are undone, the last first
abbrev pub undone : List Taking → List (List Record) → List (List Record)
undone [] held = held
undone (t ∷ ts) held = back_at (undone ts held) t.holder t.joined
