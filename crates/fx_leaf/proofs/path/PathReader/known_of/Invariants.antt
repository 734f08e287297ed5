use Rattle.std.proofs.Common.{take}
use Rattle.fx_leaf.specs.Leaves.{AddsVerdicts, nothing_known}
use Rattle.fx_leaf.specs.Verdicts.{verdict, verdicts_of}
use Rattle.fx_leaf.proofs.path.PathReader.known_of.Given as goal

abbrev pub invariant-loop-index : goal.invariant-loop-index
invariant-loop-index l =
    let net = l.self.verdicts.tables.now.net in
    let region = l.self.verdicts.region.now in
    AddsVerdicts nothing_known l.known (verdicts_of (verdict net region) net region (take l.index l.selections))
