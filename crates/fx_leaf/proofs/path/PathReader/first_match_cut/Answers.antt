use Rattle.std.proofs.Common.{ap, subst, sym}
use Rattle.fx_leaf.specs.PathSelections.{PathSelection}
use Rattle.fx_leaf.specs.Reach.{HoldsBehindSelection, IsMarked}
use Rattle.fx_leaf.specs.Splits.{Meets}
use Rattle.fx_leaf.proofs.path.PathReader.first_match_cut.Goals as goal

pub match_cut-requires-clause-along : goal.match_cut-requires-clause-along
match_cut-requires-clause-along c =
    let t = c.args.self.now.verdicts.tables.now in
    subst (HoldsBehindSelection t.net t.numbering (IsMarked c.args.self.now.marks.now))
    (ap (λ (s : PathSelection). s.selection) (sym c.met.view_is))
    (c.requires.along c.index-selections-index.result
    (c.loop-index.index, c.loop-index-test.true, sym c.index-selections-index.is))

pub returns-in-Some : goal.returns-in-Some
returns-in-Some c = λ path all.
    c.in-Some.ensures path (subst (Meets c.args.self.now.verdicts.tables.now.net path)
    (ap (λ (s : PathSelection). s.selection) (sym c.met.view_is))
    (all c.index-selections-index.result (
      c.loop-index.index,
      c.loop-index-test.true,
      sym c.index-selections-index.is,
    )))
