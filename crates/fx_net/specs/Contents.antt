-- What a running network holds.
use Rattle.std.specs.Prelude.{ℕ, zero, suc, Bool, true, false, List, [], ◌∷◌, Option, Some, None, slice_get}
use Rattle.fx_link.specs.Ongoing.{Ongoing}
use Rattle.fx_collect.specs.Totals.{Totals}
use Rattle.fx_net.specs.Stores.{Stored}

pub record Contents : Type 0 where
  -- the store of each cache and of each aggregation; an immediate cache has none
  pub stores : List (Option Stored)
  -- the state of each link
  pub links : List Ongoing
  -- for each exporting process the number of the destination in use
  pub chosen : List ℕ
  pub totals : Totals
  -- the second of the last packet read, or 0 if none was read
  pub second : ℕ

-- ---- access by index

-- the list with the entry at this index changed
abbrev pub with_changed : {A : Type 0} → (A → A) → List A → ℕ → List A
with_changed f [] n = []
with_changed f (x ∷ xs) zero = f x ∷ xs
with_changed f (x ∷ xs) (suc n) = x ∷ with_changed f xs n

-- the entry at this place, if any
abbrev pub inner_option : {A : Type 0} → Option (Option A) → Option A
inner_option None = None
inner_option (Some x) = x

abbrev pub stored_at : List (Option Stored) → ℕ → Option Stored
stored_at stores place = inner_option (slice_get stores place)

-- an immediate cache has no store
abbrev pub is_immediate : Option Stored → Bool
is_immediate None = true
is_immediate (Some stored) = false
