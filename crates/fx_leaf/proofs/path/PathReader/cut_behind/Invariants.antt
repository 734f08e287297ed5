use Rattle.std.proofs.Common.{◌≤◌, List}
use Rattle.fx_tables.specs.declared.traffic.Crossing.{Crossing}
use Rattle.fx_tables.specs.Ranks.{IsRanked}
use Rattle.fx_leaf.specs.Causes.{Starts, HasNoVerdict}
use Rattle.fx_leaf.specs.Reach.{IsMarked}
use Rattle.fx_leaf.proofs.path.PathReader.cut_behind.Given as goal

abbrev pub invariant-loop-step : goal.invariant-loop-step
invariant-loop-step l = record {
  starts : (path : List Crossing) → Starts l.self.verdicts.tables.now l.self.verdicts.region.now path l.process l.number
      → Starts l.self.verdicts.tables.now l.self.verdicts.region.now path l.index l.layout;
  none : HasNoVerdict l.self.verdicts.tables.now l.self.verdicts.rows.now l.process l.number
      → HasNoVerdict l.self.verdicts.tables.now l.self.verdicts.rows.now l.index l.layout;
  marked : IsMarked l.self.marks.now l.index l.layout;
  risen : (ranked : IsRanked l.self.verdicts.tables.now.net) → l._step ≤ ranked.rank l.index;
}
