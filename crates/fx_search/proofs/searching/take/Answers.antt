use Rattle.std.proofs.Common.{◌≡◌, ℕ, ◌≤◌, ◌<◌, ◌++◌, List, refl, slice_index_or, sym, ap, subst, ◌∙◌, arith, [], None}
use Rattle.fx_boxes.specs.Boxes.{Bounds}
use Rattle.fx_check.specs.FirstRefusal.{depth_limit}
use Rattle.fx_leaf.specs.PathSelections.{IsApart, IsNarrowed, PathSelection}
use Rattle.fx_search.specs.declared.growing.Waiting.{Waiting}
use Rattle.fx_search.specs.Fronts.{RegionAhead, lower, upper}
use Rattle.fx_search.specs.Growing.{front, leaf_item}
use Rattle.fx_search.proofs.AheadWithinTarget.{split_inside}
use Rattle.fx_search.proofs.RegionsAhead.{leaf_ahead, split_ahead, two_next}
use Rattle.fx_search.proofs.RegionsTaken.{cut_taken, cut_too_deep, cut_too_long, leaf_taken, leaf_too_long, wrong_at}
use Rattle.fx_search.proofs.searching.take.Goals as goal

pub returns-then-growth-most-clause-on : goal.returns-then-growth-most-clause-on
returns-then-growth-most-clause-on c targets version later g =
    cut_too_long c.args.tables.now.net targets version c.args.most c.args.growth.now.items.items []
    c.args.growth.now.lines c.args.here.now (front c.args.growth.now.ahead.items ++ later) g c.in-Cut.axis
    c.in-Cut.at c.in-Cut.ensures.judged c.if-growth-most.true

pub returns-then-here-ge-DEPTHS-clause-on : goal.returns-then-here-ge-DEPTHS-clause-on
returns-then-here-ge-DEPTHS-clause-on c targets version later g =
    let depth : c.here.inside.depth ≡ c.args.here.now.depth = ap (λ (a : RegionAhead). a.depth) c.here.view_is in
    cut_too_deep c.args.tables.now.net targets version c.args.most c.args.growth.now.items.items []
    c.args.growth.now.lines c.args.here.now (front c.args.growth.now.ahead.items ++ later) g c.in-Cut.axis
    c.in-Cut.at c.in-Cut.ensures.judged (omega (arith, c.if-here-ge-DEPTHS.true, depth))

pub returns-in-Cut-clause-on : goal.returns-in-Cut-clause-on
returns-in-Cut-clause-on c targets version later g =
    let a = c.args.here.now in
    let axis = c.in_ok-bound.bound.0 in
    let at = c.in_ok-bound.bound.1 in
    let depth : c.here.inside.depth ≡ a.depth = ap (λ (x : RegionAhead). x.depth) c.here.view_is in
    let deep : a.depth < depth_limit = omega (arith, c.if-here-ge-DEPTHS.false, depth) in
    let less : c.args.growth.now.lines < c.args.most = omega (arith, c.if-growth-most.false) in
    let split = c.in_ok-bound.ensures.ok c.in-Cut.ensures.judged.1 in
    let now = two_next c.args.growth.now.ahead.items c.split.new.self.ahead.items
    (record { ahead = upper a axis at; active = c.narrow-active.result })
    (record { ahead = lower a axis at; active = c.narrow-active.result }) later c.in_ok-split.ensures.ahead in
    rw (c.in_ok-split.ensures.lines, now) (cut_taken c.args.tables.now.net targets version c.args.most
    c.args.growth.now.items.items c.split.new.self.items.items c.args.growth.now.lines a
    (front c.args.growth.now.ahead.items ++ later) g axis at (c.in-Cut.ensures.judged.0, split) less deep
    c.in_ok-split.ensures.items (c.in_ok-split.ensures.written g.written))

pub returns-in-Cut-clause-narrowed : goal.returns-in-Cut-clause-narrowed
returns-in-Cut-clause-narrowed c = λ going ahead.
    let a = c.args.here.now in
    let axis = c.in_ok-bound.bound.0 in
    let at = c.in_ok-bound.bound.1 in
    let active = c.narrow-active.result in
    let xs = c.args.scratch.now.selections in
    let ys = c.judge-judgement.new.scratch.selections in
    let here : Waiting = record { ahead = a; active = c.args.active } in
    let high : Waiting = record { ahead = upper a axis at; active = active } in
    let low : Waiting = record { ahead = lower a axis at; active = active } in
    let keeps = λ (b : Bounds) (m : ℕ) (le : c.args.active ≤ m) (h : IsNarrowed xs b m).
    subst (λ (zs : List PathSelection). IsNarrowed zs b m) (sym c.in-Cut.ensures.kept)
    (c.narrow-active.ensures.others b m le h) in
    let split = c.in_ok-bound.ensures.ok c.in-Cut.ensures.judged.1 in
    let inside = split_inside c.args.tables.now.net a.target.crossings a.region axis at split in
    let narrowed = subst (λ (zs : List PathSelection). IsNarrowed zs a.region active) (sym c.in-Cut.ensures.kept)
    c.narrow-active.ensures.narrowed in
    rw c.in_ok-split.ensures.ahead (split_ahead xs ys a.target c.args.growth.now.ahead.items here keeps ahead axis at
    active high low refl refl inside c.narrow-active.ensures.fewer narrowed)

pub split-requires-clause-inside : goal.split-requires-clause-inside
split-requires-clause-inside c =
    let a = c.args.here.now in
    split_inside c.args.tables.now.net a.target.crossings a.region c.in_ok-bound.bound.0 c.in_ok-bound.bound.1
    (c.in_ok-bound.ensures.ok c.in-Cut.ensures.judged.1)

pub returns-in_default-leaf_for : goal.returns-in_default-leaf_for
returns-in_default-leaf_for c =
    let a = c.args.here.now in
    let none : leaf_item c.judge-judgement.result a.target.exempt ≡ None =
    ap (leaf_item c.judge-judgement.result) (sym c.exempt.ensures) ∙ sym c.leaf_for.ensures.is
    ∙ c.in_default-leaf_for.is in
    record {
      on = λ targets version later g. (
        (
          wrong_at c.args.tables.now.net a c.judge-judgement.result
              c.judge-judgement.ensures.region c.judge-judgement.ensures.judged c.in_default.not-Cut none,
          c.judge-judgement.ensures.judged,
          none,
        ),
        (front c.args.growth.now.ahead.items ++ later, c.args.growth.now.lines, g.front),
      );
      lines = λ going. absurd cc;
      err = tt;
      begun = c.judge-judgement.ensures.begun;
      room = c.judge-judgement.ensures.room;
      narrowed = λ going. absurd cc;
    }

pub returns-then-most-growth : goal.returns-then-most-growth
returns-then-most-growth c =
    let a = c.args.here.now in
    let named = ap (leaf_item c.judge-judgement.result) (sym c.exempt.ensures) ∙ sym c.leaf_for.ensures.is
    ∙ c.in-Some.is in
    record {
      on = λ targets version later g. leaf_too_long c.args.tables.now.net targets version c.args.most
          c.args.growth.now.items.items [] c.args.growth.now.lines a (front c.args.growth.now.ahead.items ++ later) g
          c.judge-judgement.result c.in-Some.item c.judge-judgement.ensures.judged named c.if-most-growth.true;
      lines = λ going. absurd cc;
      err = tt;
      begun = c.judge-judgement.ensures.begun;
      room = c.judge-judgement.ensures.room;
      narrowed = λ going. absurd cc;
    }

pub returns : goal.returns
returns c =
    let a = c.args.here.now in
    let xs = c.args.scratch.now.selections in
    let ys = c.judge-judgement.new.scratch.selections in
    let here : Waiting = record { ahead = a; active = c.args.active } in
    let keeps = λ (b : Bounds) (m : ℕ) (le : c.args.active ≤ m) (h : IsNarrowed xs b m).
    subst (λ (zs : List PathSelection). IsNarrowed zs b m) (sym c.judge-judgement.ensures.kept)
    (c.narrow-active.ensures.others b m le h) in
    let named = ap (leaf_item c.judge-judgement.result) (sym c.exempt.ensures) ∙ sym c.leaf_for.ensures.is
    ∙ c.in-Some.is in
    let less : c.args.growth.now.lines < c.args.most = omega (arith, c.if-most-growth.false) in
    record {
      on = λ targets version later g. rw (c.in_ok-add.ensures.lines, c.in_ok-add.ensures.ahead)
          (leaf_taken c.args.tables.now.net targets version c.args.most c.args.growth.now.items.items
          c.add.new.self.items.items c.args.growth.now.lines a (front c.args.growth.now.ahead.items ++ later) g
          c.judge-judgement.result c.in-Some.item c.judge-judgement.ensures.judged named less c.in_ok-add.ensures.items
          (c.in_ok-add.ensures.written g.written));
      lines = λ h. (c.in_ok-add.ensures.lines, omega (arith, c.in_ok-add.ensures.lines, less));
      err = tt;
      begun = c.judge-judgement.ensures.begun;
      room = c.judge-judgement.ensures.room;
      narrowed = λ going ahead. rw c.in_ok-add.ensures.ahead
          (leaf_ahead xs ys a.target c.args.growth.now.ahead.items here keeps ahead);
    }

pub halving_bound-requires-clause-overlapping : goal.halving_bound-requires-clause-overlapping
halving_bound-requires-clause-overlapping c = λ k d less apart.
    c.narrow-active.ensures.overlapping k d less
    (subst (λ (zs : List PathSelection). IsApart c.args.here.now.region (slice_index_or zs k d).selection)
    c.in-Cut.ensures.kept apart)
