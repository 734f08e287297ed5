use Rattle.std.proofs.Common.{◌≡◌, ◌∙◌, ap, sym, true, false, cond, List, []}
use Rattle.fx_tables.specs.declared.observation.Selection.{Selection}
use Rattle.fx_tables.specs.Occurrences.{watches}
use Rattle.fx_leaf.specs.Reach.{marks_by_holders, holders_by}
use Rattle.fx_leaf.proofs.MarksAreClosed.{points_more}
use Rattle.fx_leaf.proofs.reach.mark_at_points.Goals as goal
use Rattle.fx_leaf.proofs.reach.mark_at_points.Goals.{then-watches, else-watches}

pub loop-point-preserved : goal.loop-point-preserved
loop-point-preserved c =
    let t = c.args.tables.now in
    let crossing = c.args.crossing.now in
    let p = c.point-item.result in
    let marks = c.loop-point.marks in
    let now : c.if-watches.marks ≡ marks_by_holders t.net t.numbering marks
    (cond (watches p crossing) (holders_by p.selections) []) =
    elim c.if-watches.branch [
      | then-watches w ↦ let watched : watches p crossing ≡ true = sym c.watches.ensures ∙ w.if-watches.true in
          w.marks-is ∙ w.mark_by_selections.ensures
          ∙ ap (λ (ss : List Selection). marks_by_holders t.net t.numbering marks (holders_by ss)) w.selections.ensures
          ∙ ap (λ b. marks_by_holders t.net t.numbering marks (cond b (holders_by p.selections) [])) (sym watched)
      | else-watches w ↦ let unwatched : watches p crossing ≡ false = sym c.watches.ensures ∙ w.if-watches.false in
          w.marks-is ∙ ap (λ b. marks_by_holders t.net t.numbering marks (cond b (holders_by p.selections) []))
          (sym unwatched)
    ]
    in
    points_more t.net t.numbering crossing marks c.if-watches.marks c.loop-point.point-index c.args.points.now p
    c.loop-point-test.true c.point-item.is now ∙ c.loop-point.invariant
