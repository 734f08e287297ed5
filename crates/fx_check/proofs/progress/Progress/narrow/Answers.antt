use Rattle.std.proofs.Common.{◌≡◌, ◌∙◌, arith, sym, subst}
use Rattle.fx_leaf.specs.PathTables.{PathTable}
use Rattle.fx_check.specs.Remaining.{IsNarrowedTo}
use Rattle.fx_check.specs.declared.progress.Stage.TheVariants as stage
use Rattle.fx_check.specs.declared.stack.WaitingRegion.{WaitingRegion}
use Rattle.fx_check.proofs.ReadyProgress.{narrowed_there}
use Rattle.fx_check.proofs.progress.Progress.narrow.Goals as goal

pub narrow-requires : goal.narrow-requires
narrow-requires c = record {
  narrowed =
      narrowed_there c.args.self.now.stage c.args.self.now.waiting c.args.scratch.now.selections c.in-Tree.here
      c.in-Tree.is c.requires.narrowed;
}

pub returns-then-here-le1 : goal.returns-then-here-le1
returns-then-here-le1 c = λ w is.
    let both : stage.Tree c.in-Tree.here ≡ stage.Tree w = sym c.in-Tree.is ∙ is in
    let same : c.in-Tree.here ≡ w = cc in
    let scratch = c.args.scratch.now in
    subst (λ (p : PathTable). IsNarrowedTo scratch p w c.in-Tree.here.active) (sym c.enter.ensures)
    (subst (λ (v : WaitingRegion). IsNarrowedTo scratch scratch v c.in-Tree.here.active) same (record {
      narrowed = narrowed_there c.args.self.now.stage c.args.self.now.waiting scratch.selections c.in-Tree.here
          c.in-Tree.is c.requires.narrowed;
      fewer = omega arith;
      others = λ b m le h. h;
      begun = λ t path h. h;
      room = λ t h. h;
      more = omega arith;
    }))

pub returns : goal.returns
returns c = λ w is.
    let both : stage.Tree c.in-Tree.here ≡ stage.Tree w = sym c.in-Tree.is ∙ is in
    let same : c.in-Tree.here ≡ w = cc in
    subst (λ (v : WaitingRegion). IsNarrowedTo c.args.scratch.now c.narrow.new.self v c.narrow.result) same (record {
      narrowed = c.narrow.ensures.narrowed;
      fewer = c.narrow.ensures.fewer;
      others = c.narrow.ensures.others;
      begun = c.narrow.ensures.begun;
      room = c.narrow.ensures.room;
      more = c.narrow.ensures.more;
    })
