use Rattle.std.proofs.Common.{inl, inr, ℕ, IfSome, Option, subst}
use Rattle.fx_leaf.specs.Splits.{IsSplitBy}
use Rattle.fx_leaf.proofs.PathSelectionVerdicts.{on_ok_more}
use Rattle.fx_leaf.proofs.balance.push_bounds.Goals as goal

pub returns : goal.returns
returns c =
    on_ok_more _ _ c.push_bound-2.result (λ h at there. elim (h at there) [
      | inl before ↦ elim (c.in_ok-push_bound.ensures at before) [
        | inl old ↦ inl old
        | inr low ↦ inr (subst (λ (o : Option ℕ). IfSome o (IsSplitBy c.args.region.now c.args.other.now c.args.axis))
            low c.low_bound.ensures)
      ]
      | inr high ↦ inr (subst (λ (o : Option ℕ). IfSome o (IsSplitBy c.args.region.now c.args.other.now c.args.axis))
          high c.high_bound.ensures)
    ]) c.push_bound-2.ensures
