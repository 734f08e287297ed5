-- The first index of a key.
use Rattle.std.specs.Prelude.{◌≡◌, ℕ, zero, suc, ◌<◌, true, false, List, [], ◌∷◌, length, get_or}
use Rattle.fx_layout.specs.Keys.{Key, same_key}
use Rattle.fx_tables.specs.declared.record.Record.{Record}

-- none of the first n records has the key
abbrev pub NoneBefore : ℕ → List Record → Key → Type 0
NoneBefore zero ts key = Unit {0}
NoneBefore (suc n) [] key = Unit {0}
NoneBefore (suc n) (t ∷ ts) key = (same_key t.key key ≡ false) × NoneBefore n ts key

pub record FirstAt (n : ℕ) (ts : List Record) (key : Key) : Type 0 where
  pub within : n < length ts
  pub here : (d : Record) → same_key (get_or ts n d).key key ≡ true
  pub before : NoneBefore n ts key
