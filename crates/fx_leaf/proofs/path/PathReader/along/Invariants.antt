use Rattle.std.proofs.Common.{take}
use Rattle.fx_leaf.specs.Leaves.{AddsVerdicts}
use Rattle.fx_leaf.specs.Verdicts.{verdict, path_verdicts}
use Rattle.fx_leaf.proofs.path.PathReader.along.Given as goal

abbrev pub invariant-loop-index : goal.invariant-loop-index
invariant-loop-index l =
    let net = l.self.verdicts.tables.now.net in
    let region = l.self.verdicts.region.now in
    AddsVerdicts l.initial.known l.known (path_verdicts (verdict net region) net region 1 (take l.index l.path))
