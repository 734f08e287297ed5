-- Members that are refused with a number of their own, and how many of some members there are.
use Rattle.std.proofs.Common.{◌≡◌, ℕ, List, [], ◌∷◌, Option, Some, None, refl, ap, Bor, map, cond, Bool, true, false, is_some, count_by, ◌+◌}
use Rattle.std.specs.List.{fold, find}
use Rattle.serde_json.specs.Data.{Data}
use Rattle.serde_json.specs.Find.{get}
use Rattle.fx_walk.specs.Choice.{numbered_faults, numbered_row}
use Rattle.fx_walk.specs.declared.choice.Refused.{Refused}
use Rattle.fx_walk.specs.Pointer.{below}
use Rattle.fx_walk.specs.Walk.{FoundFault, first}

find_none : {A B : Type 0} (b : Bool) (x : A) (y : B) (ys : List B) (rest : Option A) → None ≡ cond b (Some x) rest
    → (None ≡ rest → ys ≡ []) → cond b (y ∷ ys) ys ≡ []
find_none true x y ys rest h next = absurd cc
find_none false x y ys rest h next = next h

find_some : (b : Bool) (x y : Refused) (up : List ℕ) (rest : Option Refused) (fs : List FoundFault) → Some y
    ≡ cond b (Some x) rest → (Some y ≡ rest → first fs ≡ Some (y.number, below up y.name.now))
    → first (cond b ((x.number, below up x.name.now) ∷ fs) fs) ≡ Some (y.number, below up y.name.now)
find_some true x y up rest fs h next = let e : x ≡ y = cc in
    ap (λ (z : Refused). Some (z.number, below up z.name.now)) e
find_some false x y up rest fs h next = next h

pub none_numbered : (rows : List Refused) (up : List ℕ) (d : Data) → None ≡ find (λ r. is_some (get r.name.now d)) rows
    → numbered_faults (map numbered_row rows) up d ≡ []
none_numbered [] up d h = refl
none_numbered (r ∷ rows) up d h = find_none (is_some (get r.name.now d)) r _ _ _ h (none_numbered rows up d)

pub first_numbered : (rows : List Refused) (r : Refused) (up : List ℕ) (d : Data) → Some r
    ≡ find (λ r. is_some (get r.name.now d)) rows → first (numbered_faults (map numbered_row rows) up d)
    ≡ Some (r.number, below up r.name.now)
first_numbered [] r up d h = absurd cc
first_numbered (x ∷ rows) r up d h = find_some (is_some (get x.name.now d)) x r up _ _ h (first_numbered rows r up d)

count_from : (d : Data) (a : ℕ) (names : List (Bor (List ℕ)))
    → fold (λ k n. k + cond (is_some (get n d)) 1 0) a (map (λ n. n.now) names)
    ≡ fold (λ k n. k + cond (is_some (get n.now d)) 1 0) a names
count_from d a [] = refl
count_from d a (n ∷ names) = count_from d (a + cond (is_some (get n.now d)) 1 0) names

pub count_now : (names : List (Bor (List ℕ))) (d : Data) → count_by (λ n. is_some (get n d)) (map (λ n. n.now) names)
    ≡ count_by (λ n. is_some (get n.now d)) names
count_now names d = count_from d 0 names
