-- The number of records that wait at each holder and on each link.
use Rattle.std.specs.Prelude.{◌≡◌, ℕ, zero, suc, ◌+◌, ◌<◌, List, [], ◌∷◌, length, replicate, Some, slice_get}
use Rattle.fx_tables.specs.Network.{Net}
use Rattle.fx_steps.specs.declared.pending.Pending.{Pending}
use Rattle.fx_steps.specs.declared.pending.Pending.TheVariants.{AtHolder, OnLink}
use Rattle.fx_steps.specs.declared.waiting.Waiting.{Waiting}

-- no record waits at any of these
abbrev pub zeros_for : {A : Type 0} → List A → List ℕ
zeros_for xs = replicate (length xs) 0

abbrev pub total : List ℕ → ℕ
total [] = 0
total (count ∷ counts) = count + total counts

-- one more record waits at this index
abbrev pub one_more_at : List ℕ → ℕ → List ℕ
one_more_at [] n = []
one_more_at (count ∷ counts) zero = suc count ∷ counts
one_more_at (count ∷ counts) (suc n) = count ∷ one_more_at counts n

-- at least one record waits at this index
pub record HasOneMore (counts : List ℕ) (place : ℕ) : Type 0 where
  pub before : List ℕ
  pub inside : place < length before
  pub is : counts ≡ one_more_at before place

-- the last record added at this index leaves, from this position
pub record LastLeaves (old new : List ℕ) (place position : ℕ) : Type 0 where
  pub left : (before : List ℕ) → place < length before → old ≡ one_more_at before place → new ≡ before
  pub last : (before : List ℕ) (count : ℕ) → slice_get before place ≡ Some count → old ≡ one_more_at before place
      → position ≡ suc count

-- these records are added to the counts of holders, and of links
abbrev pub holder_counts : List ℕ → List Pending → List ℕ
holder_counts counts [] = counts
holder_counts counts (AtHolder holder f ∷ xs) = holder_counts (one_more_at counts holder) xs
holder_counts counts (OnLink link number f ∷ xs) = holder_counts counts xs

abbrev pub link_counts : List ℕ → List Pending → List ℕ
link_counts counts [] = counts
link_counts counts (AtHolder holder f ∷ xs) = link_counts counts xs
link_counts counts (OnLink link number f ∷ xs) = link_counts (one_more_at counts link) xs

-- the index of the record's place is below this number
abbrev pub HasPlace : ℕ → ℕ → Pending → Type 0
HasPlace holders links (AtHolder holder f) = holder < holders
HasPlace holders links (OnLink link number f) = link < links

-- exactly these records wait in the network
pub record Wait (net : Net) (xs : List Pending) (w : Waiting) : Type 0 where
  pub held : w.held.items ≡ holder_counts (zeros_for net.holders) xs
  pub carried : w.carried.items ≡ link_counts (zeros_for net.links) xs
