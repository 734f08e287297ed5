use Rattle.std.proofs.Common.{◌≡◌, ◌∙◌, ap, List, ℕ, length, subst, sym}
use Rattle.fx_leaf.specs.Reach.{IsMarked, HoldsAlongPath, IsClosed, spread, holders_along}
use Rattle.fx_leaf.proofs.MarksAreClosed.{spread_closed, along_marked, length_holders}
use Rattle.fx_leaf.proofs.reach.mark.Goals as goal

pub returns-clause-along : goal.returns-clause-along
returns-clause-along c =
    let t = c.args.tables.now in
    let path = c.args.path.now in
    let cleared = c.fill.new.self in
    let same = c.spread.ensures ∙ ap (spread t.net t.numbering t.order) c.mark_along.ensures in
    subst (λ (ms : List ℕ). HoldsAlongPath t.net t.numbering (IsMarked ms) path) (sym same)
    (along_marked t path cleared (c.fill.ensures.len ∙ c.requires.size))

pub returns-clause-closed : goal.returns-clause-closed
returns-clause-closed c =
    let t = c.args.tables.now in
    let marked = c.mark_along.new.marks in
    let size : length marked ≡ length t.net.processes = ap length c.mark_along.ensures
    ∙ length_holders t.net t.numbering (holders_along t.net c.args.path.now) c.fill.new.self ∙ c.fill.ensures.len
    ∙ c.requires.size in
    subst (IsClosed t.net t.numbering) (sym c.spread.ensures) (spread_closed t c.requires.tables marked size)
