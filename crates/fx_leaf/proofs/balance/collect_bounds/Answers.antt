use Rattle.std.proofs.Common.{◌∙◌, inl, inr, ℕ, Contains, Global, Vec, ap, arith, length, subst, sym}
use Rattle.fx_leaf.specs.PathSelections.{IsApart, PathSelection}
use Rattle.fx_leaf.specs.Splits.{Meets}
use Rattle.fx_leaf.proofs.PathSelectionVerdicts.{split_by_bound}
use Rattle.fx_leaf.proofs.balance.collect_bounds.Goals as goal
use Rattle.fx_leaf.proofs.balance.collect_bounds.Goals.{in-Some+in_ok-push_bounds, in_default}

pub loop-index-init : goal.loop-index-init
loop-index-init c = λ net path at meets there.
    absurd (let within = there.1 in let none = ap length c.clear.ensures.items in omega (arith, within, none))

pub loop-index-preserved : goal.loop-index-preserved
loop-index-preserved c = λ net path at meets there. elim c.match-met.branch [
  | in-Some+in_ok-push_bounds w ↦ elim (w.in_ok-push_bounds.ensures at
      (subst (λ (v : Vec ℕ Global). Contains v.items at) w.values-is there)) [
        | inl before ↦ c.loop-index.invariant net path at meets before
        | inr by ↦
            let x = c.index-selections-index.result in
            let region = c.args.region.now in
            let met = subst (Meets net path) (ap (λ (s : PathSelection). s.selection) (sym c.met.view_is))
            (meets x (c.loop-index.index, c.loop-index-test.true, sym c.index-selections-index.is)) in
            split_by_bound net path region w.in-Some.other c.met.inside.selection.now c.args.axis at
            c.bounds_hold.ensures
            (λ apart. c.requires c.loop-index.index x c.loop-index-test.true
            (subst (λ (s : PathSelection). IsApart region s.selection) (c.met.view_is ∙ c.index-selections-index.is)
            apart)) w.in-Some.is by met
      ]
  | in_default w ↦ c.loop-index.invariant net path at meets
      (subst (λ (v : Vec ℕ Global). Contains v.items at) w.values-is there)
]
