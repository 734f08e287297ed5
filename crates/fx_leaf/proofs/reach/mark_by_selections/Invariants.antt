use Rattle.std.proofs.Common.{◌≡◌, drop}
use Rattle.fx_leaf.specs.Reach.{marks_by_holders, holders_by}
use Rattle.fx_leaf.proofs.reach.mark_by_selections.Given as goal

abbrev pub invariant-loop-selection : goal.invariant-loop-selection
invariant-loop-selection l =
    marks_by_holders l.tables.net l.tables.numbering l.marks (holders_by (drop l.selection-index l.selections))
    ≡ marks_by_holders l.tables.net l.tables.numbering l.initial.marks (holders_by l.selections)
