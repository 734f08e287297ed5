-- The list that is an object's member.
use Rattle.std.proofs.Common.{◌≡◌, ℕ, List, Some, Result, Ok, Err, Bor}
use Rattle.serde_json.specs.Data.{Data}
use Rattle.serde_json.specs.Find.{get}
use Rattle.serde_json.specs.declared.value.Value.{Value}
use Rattle.fx_base.specs.declared.fault.Fault.{Fault}
use Rattle.fx_walk.specs.Lists.{IsListOf, IsMemberList}
use Rattle.fx_walk.specs.Pointer.{below}

-- a member that is there
pub list_there : (least most : ℕ) (up name : List ℕ) (d value : Data) (r : Result (Bor (List Value)) Fault) → get name d
    ≡ Some value → IsListOf least most (below up name) value r → IsMemberList least most up name d r
list_there least most up name d value (Ok values) is h = rw is (λ faults none. h.0 faults, h.1)
list_there least most up name d value (Err e) is h = rw is h
