use Rattle.std.proofs.Common.{◌≡◌, ◌-◌, ◌≤◌, ◌∙◌, List, ℕ, ap, sym, subst, slice_index_or, slice_set}
use Rattle.fx_steps.proofs.WaitingCounts.{set_back, some_raised, count_raised}
use Rattle.fx_steps.proofs.waiting.lower.Goals as goal

pub overflow_sub-counts : goal.overflow_sub-counts
overflow_sub-counts c =
    let some = c.requires.some in
    subst (λ (cs : List ℕ). 1 ≤ slice_index_or cs c.args.index 0) (sym some.is)
    (some_raised some.before c.args.index some.inside)

pub returns : goal.returns
returns c = record {
  left = λ before lt is. subst (λ (cs : List ℕ). slice_set cs c.args.index (slice_index_or cs c.args.index 0 - 1)
      ≡ before) (sym is) (set_back before c.args.index lt);
  last = λ before count at is. ap (λ (cs : List ℕ). slice_index_or cs c.args.index 0) is
      ∙ count_raised before c.args.index count at;
}
