-- Objects that are built member by member, unless memory runs out.
use Rattle.std.specs.Prelude.{◌≡◌, ℕ, Bool, true, false, List, Option, None, Some, Result, Ok}
use Rattle.std.specs.declared.alloc.AllocError.{AllocError}
use Rattle.serde_json.specs.Data.{Data, Members, put}
use Rattle.serde_json.specs.View.{view, members_view}
use Rattle.serde_json.specs.declared.value.Value.{Value}
use Rattle.fx_json_answers.specs.declared.members.Members.{Members as Building}

-- no value after a failed allocation
abbrev pub unless : {A : Type 0} → Bool → A → Option A
unless true a = None
unless false a = Some a

abbrev pub built : Building → Option Members
built m = unless m.is_short (members_view m.map.entries)

-- a value was made, and the data is its meaning
abbrev pub IsView : Result Value AllocError → Data → Type 0
IsView made d = (v : Value) × (made ≡ Ok v) × (d ≡ view v)

-- members with one added, whose data satisfies the predicate
pub record IsAdded (key : List ℕ) (Is : Data → Type 0) (old : Option Members) (new : Members) : Type 0 where
  pub before : Members
  pub value : Data
  pub old_is : old ≡ Some before
  pub value_is : Is value
  pub new_is : new ≡ put key value before
