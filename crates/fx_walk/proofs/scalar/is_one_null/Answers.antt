use Rattle.std.proofs.Common.{◌≡◌, ◌≤◌, List, [], ◌∷◌, length, false, refl, arith}
use Rattle.serde_json.specs.View.{items_view}
use Rattle.serde_json.specs.declared.value.Value.{Value}
use Rattle.fx_walk.specs.Scalars.{is_one_null}
use Rattle.fx_walk.proofs.scalar.is_one_null.Goals as goal

two_or_more : (vs : List Value) → 2 ≤ length vs → false ≡ is_one_null (items_view vs)
two_or_more [] h = absurd (omega arith)
two_or_more (v ∷ []) h = absurd (omega arith)
two_or_more (v ∷ (w ∷ vs)) h = refl

pub returns-in-empty-2 : goal.returns-in-empty-2
returns-in-empty-2 c = two_or_more c.args.items.now c.in-empty.len_at_least
