use Rattle.std.proofs.Common.{◌≡◌, ◌<◌, ℕ, ◌+◌, ◌∙◌, List, length, ap, arith, subst, sym, true}
use Rattle.fx_leaf.specs.PathSelections.{PathSelection, IsApart}
use Rattle.fx_leaf.proofs.Narrowing.{IsParted, none_parted, apart_more, kept_more, all_narrowed}
use Rattle.fx_leaf.proofs.path_selections.narrow.Goals.{then-not-is_apart, else-not-is_apart}
use Rattle.fx_leaf.proofs.path_selections.narrow.Goals as goal

pub loop-index-init : goal.loop-index-init
loop-index-init c = none_parted c.args.region.now c.args.selections.now

pub loop-index-preserved : goal.loop-index-preserved
loop-index-preserved c =
    let region = c.args.region.now in
    let old = c.args.selections.now in
    let at = c.loop-index in
    let x = c.index-selections-index.result in
    let same = ap (λ (s : PathSelection). s.selection) (c.index-selections-index.is ∙ sym c.met.view_is) in
    let within = c.requires.within in
    let lt : at.index < length at.selections = let less = c.loop-index-test.true in
    omega (arith, less, within, at.auto.selections) in
    elim c.if-not-is_apart.branch [
      | then-not-is_apart w ↦
          let counts = λ (apart : IsApart region x.selection). let reported : c.is_apart.result ≡ true =
          c.is_apart.ensures.1 (subst (IsApart region) same apart) in let reported_not = w.if-not-is_apart.true in
          absurd cc in
          subst (λ (n : ℕ). IsParted region old c.if-not-is_apart.selections n (at.index + 1)) (sym w.kept-is)
          (subst (λ (xs : List PathSelection). IsParted region old xs (at.kept + 1) (at.index + 1))
          (sym w.selections-is) (kept_more region old at.selections at.kept at.index x lt
          c.index-selections-index.is at.invariant w.swap.new.self w.swap.ensures.after counts))
      | else-not-is_apart w ↦
          let apart = subst (IsApart region) (sym same) (c.is_apart.ensures.0 w.if-not-is_apart.false) in
          subst (λ (n : ℕ). IsParted region old c.if-not-is_apart.selections n (at.index + 1)) (sym w.kept-is)
          (subst (λ (xs : List PathSelection). IsParted region old xs at.kept (at.index + 1)) (sym w.selections-is)
          (apart_more region old at.selections at.kept at.index x lt c.index-selections-index.is at.invariant
          apart))
    ]

pub returns : goal.returns
returns c =
    let at = c.loop-index in
    let past = c.loop-index-test.false in
    let end : at.index ≡ c.args.active = omega arith in
    let h = subst (IsParted c.args.region.now c.args.selections.now at.selections at.kept) end at.invariant in
    record {
      narrowed = all_narrowed c.args.region.now c.args.selections.now at.selections at.kept c.args.active
          (omega (arith, at.auto.selections)) h c.requires.narrowed;
      overlapping = h.overlapping;
      fewer = h.within;
      moved = h.moved;
      others = h.others;
    }
