use Rattle.std.proofs.Common.{[], ◌∷◌, ◌∙◌, List, subst, sym}
use Rattle.fx_leaf.specs.PathSelections.{IsNarrowed, PathSelection}
use Rattle.fx_tests_network.proofs.TwoMeters.{lent}
use Rattle.fx_tests_network.proofs.leaf_filters.asked.Goals as goal

pub begin-all-requires-clause-tables : goal.begin-all-requires-clause-tables
begin-all-requires-clause-tables g c = lent c.new-tables.result c.args.net.now c.new.result c.new-tables.ensures
    c.new.ensures c.requires.holders c.requires.processes c.requires.report

pub fate-requires-clause-tables : goal.fate-requires-clause-tables
fate-requires-clause-tables g c = lent c.new-tables.result c.args.net.now c.new.result c.new-tables.ensures
    c.new.ensures c.requires.holders c.requires.processes c.requires.report

pub fate-requires-2-clause-tables : goal.fate-requires-2-clause-tables
fate-requires-2-clause-tables g c = lent c.new-tables.result c.args.net.now c.new.result c.new-tables.ensures
    c.new.ensures c.requires.holders c.requires.processes c.requires.report

pub never-requires-clause-tables : goal.never-requires-clause-tables
never-requires-clause-tables g c = lent c.new-tables.result c.args.net.now c.new.result c.new-tables.ensures
    c.new.ensures c.requires.holders c.requires.processes c.requires.report

pub never-requires-2-clause-tables : goal.never-requires-2-clause-tables
never-requires-2-clause-tables g c = lent c.new-tables.result c.args.net.now c.new.result c.new-tables.ensures
    c.new.ensures c.requires.holders c.requires.processes c.requires.report

pub cut-split-requires-clause-tables : goal.cut-split-requires-clause-tables
cut-split-requires-clause-tables g c = lent c.new-tables.result c.args.net.now c.new.result c.new-tables.ensures
    c.new.ensures c.requires.holders c.requires.processes c.requires.report

pub judge-judgement-requires-clause-tables : goal.judge-judgement-requires-clause-tables
judge-judgement-requires-clause-tables g c =
    lent c.new-tables.result c.args.net.now c.new.result c.new-tables.ensures c.new.ensures c.requires.holders
    c.requires.processes c.requires.report

pub judge-judged-requires-clause-tables : goal.judge-judged-requires-clause-tables
judge-judged-requires-clause-tables g c =
    lent c.new-tables.result c.args.net.now c.new.result c.new-tables.ensures c.new.ensures c.requires.holders
    c.requires.processes c.requires.report

pub narrow-active-requires : goal.narrow-active-requires
narrow-active-requires g c = record { narrowed = c.begin-all.ensures.all c.sources-region.result }

pub fate-requires-2-clause-begun : goal.fate-requires-2-clause-begun
fate-requires-2-clause-begun g c = c.narrow-active.ensures.begun c.new-tables.result
    (c.into.result ∷ (c.into-2.result ∷ [])) c.begin-all.ensures.begun

pub never-requires-2-clause-narrowed : goal.never-requires-2-clause-narrowed
never-requires-2-clause-narrowed g c = subst (λ (xs : List PathSelection). IsNarrowed xs c.sources-region.result
    c.narrow-active.result) (sym c.fate-2.ensures.kept) c.narrow-active.ensures.narrowed

pub judge-judged-requires-clause-narrowed : goal.judge-judged-requires-clause-narrowed
judge-judged-requires-clause-narrowed g c =
    subst (λ (xs : List PathSelection). IsNarrowed xs c.sources-region.result c.narrow-active.result)
    (sym (c.never-2.ensures.kept ∙ c.fate-2.ensures.kept)) c.narrow-active.ensures.narrowed

pub halved-requires-clause-tables : goal.halved-requires-clause-tables
halved-requires-clause-tables g c = lent c.new-tables.result c.args.net.now c.new.result c.new-tables.ensures
    c.new.ensures c.requires.holders c.requires.processes c.requires.report

pub halved-requires-clause-narrowed : goal.halved-requires-clause-narrowed
halved-requires-clause-narrowed g c = subst (λ (xs : List PathSelection). IsNarrowed xs c.sources-region.result
    c.narrow-active.result) (sym (c.judge-judged.ensures.kept ∙ c.never-2.ensures.kept ∙ c.fate-2.ensures.kept))
    c.narrow-active.ensures.narrowed

pub new-requires-3 : goal.new-requires-3
new-requires-3 g c = lent c.new-tables.result c.args.net.now c.new.result c.new-tables.ensures c.new.ensures
    c.requires.holders c.requires.processes c.requires.report

pub fate-requires-2-clause-room : goal.fate-requires-2-clause-room
fate-requires-2-clause-room g c = c.narrow-active.ensures.room c.new-tables.result c.begin-all.ensures.room
