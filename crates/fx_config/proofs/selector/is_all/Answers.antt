use Rattle.std.proofs.Common.{◌≡◌, List, [], ◌∷◌, length, Bool, true, false, String, Global, refl}
use Rattle.std.specs.Bool.{IsTrue}
use Rattle.serde_json.specs.View.{members_view}
use Rattle.serde_json.specs.declared.value.Value.{Value}
use Rattle.serde_json.proofs.Views.{view-Object}
use Rattle.fx_config.specs.Selectors.{has_no_member}
use Rattle.fx_config.proofs.selector.is_all.Goals as goal

empty_or_not : (r : Bool) (es : List (String Global × Value)) → (IsTrue r → length es ≡ 0) → (length es ≡ 0 → IsTrue r)
    → r ≡ has_no_member (members_view es)
empty_or_not true [] f g = refl
empty_or_not true (e ∷ es) f g = let h : length (e ∷ es) ≡ 0 = f refl in absurd cc
empty_or_not false [] f g = (let h : false ≡ true = g refl in absurd cc)
empty_or_not false (e ∷ es) f g = refl

pub returns-in-Object : goal.returns-in-Object
returns-in-Object c = rw (c.in-Object.is, view-Object)
    (empty_or_not c.is_empty.result c.in-Object.members.entries c.is_empty.ensures.0 c.is_empty.ensures.1)
