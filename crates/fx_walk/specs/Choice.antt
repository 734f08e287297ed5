-- Members of which exactly one is required, and members that are refused with a number of their own.
use Rattle.std.specs.Prelude.{ℕ, zero, suc, List, [], ◌∷◌, is_some, map, count_by, cond}
use Rattle.serde_json.specs.Data.{Data}
use Rattle.serde_json.specs.Find.{get}
use Rattle.fx_walk.specs.Pointer.{below}
use Rattle.fx_walk.specs.Walk.{FoundFault, Row}
use Rattle.fx_walk.specs.declared.choice.Refused.{Refused}
use Rattle.fx_base.specs.Refusals.{bad_value, missing_member}

abbrev pub unless_one : ℕ → List ℕ → List FoundFault
unless_one zero up = (missing_member, up) ∷ []
unless_one (suc zero) up = []
unless_one (suc (suc n)) up = (bad_value, up) ∷ []

-- exactly one of these members is required; the rows below list them
abbrev pub one_of : List (List ℕ) → Row
one_of names = record { names = []; faults = λ up d. unless_one (count_by (λ n. is_some (get n d)) names) up }

abbrev pub numbered_faults : List (List ℕ × ℕ) → List ℕ → Data → List FoundFault
numbered_faults [] up d = []
numbered_faults (r ∷ rows) up d = cond (is_some (get r.0 d)) ((r.1, below up r.0) ∷ numbered_faults rows up d)
    (numbered_faults rows up d)

-- none of these members is allowed
abbrev pub none_of : List (List ℕ × ℕ) → Row
none_of rows = record { names = map (λ r. r.0) rows; faults = numbered_faults rows }

abbrev pub numbered_row : Refused → List ℕ × ℕ
numbered_row r = (r.name.now, r.number)
