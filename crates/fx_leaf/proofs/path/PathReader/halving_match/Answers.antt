use Rattle.std.proofs.Common.{IfSome, Option, ℕ, subst}
use Rattle.fx_elements.specs.declared.axis.Axis.{Axis}
use Rattle.fx_leaf.specs.declared.cause.Cause.TheVariants.{Split}
use Rattle.fx_leaf.specs.Causes.{IsCauseAt}
use Rattle.fx_leaf.proofs.CausesCut.{follow_split}
use Rattle.fx_leaf.proofs.path.PathReader.halving_match.Goals as goal

pub returns-in-Some-2 : goal.returns-in-Some-2
returns-in-Some-2 c = λ path all other.
    let reader = c.args.self.now in
    let t = reader.verdicts.tables.now in
    let region = reader.verdicts.region.now in
    let rows = reader.verdicts.rows.now in
    let cut = c.in-Some.cut in
    let split = c.in-Some-2.split in
    let there : IsCauseAt t region rows cut.process cut.number (Split split.0 split.1) =
    subst (λ (o : Option (Axis × ℕ)). IfSome o
    (λ s. IsCauseAt t region rows cut.process cut.number (Split s.0 s.1))) c.in-Some-2.is c.in_ok-split.ensures in
    follow_split t c.requires.tables region reader.bounded rows path cut.process cut.number
    (c.in-Some.ensures path all).starts split.0 split.1 there
