use Rattle.std.proofs.Common.{ℕ, Bool, false, not, List, ◌∷◌, ◌++◌, [], Vec, Global, get_or, sym, ap, ◌∙◌}
use Rattle.std.proofs.lemmas.Bool.{not_from_false, not_from_true}
use Rattle.fx_ranks.proofs.Ranges.{filter_yes, filter_no}
use Rattle.fx_plan.proofs.cycle.places_left.Goals as goal
use Rattle.fx_plan.proofs.cycle.places_left.Goals.{then-not-there+in_ok-push, else-not-there}

pub loop-index-preserved : goal.loop-index-preserved
loop-index-preserved c =
    let come = c.args.come.now in
    let left : ℕ → Bool = λ (index : ℕ). not (get_or c.args.come.now index false) in
    let k = c.loop-index.index in
    elim c.if-not-there.branch [
      | then-not-there+in_ok-push w ↦ ap (λ (v : Vec ℕ Global). v.items) w.places-is
          ∙ (w.in_ok-push.ensures.items ∙ (ap (λ (l : List ℕ). l ++ k ∷ []) c.loop-index.invariant
          ∙ sym (filter_yes left k (not_from_false (get_or come k false) w.if-not-there.true))))
      | else-not-there w ↦ ap (λ (v : Vec ℕ Global). v.items) w.places-is
          ∙ (c.loop-index.invariant ∙ sym (filter_no left k (not_from_true (get_or come k false) w.if-not-there.false)))
    ]
