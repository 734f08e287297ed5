use Rattle.std.proofs.Common.{subst}
use Rattle.fx_leaf.specs.declared.cause.Cause.{Cause}
use Rattle.fx_leaf.specs.declared.cause.Cause.TheVariants.{Behind}
use Rattle.fx_leaf.specs.Causes.{IsCauseByHolder}
use Rattle.fx_leaf.proofs.PathSplits.{some_more, none_more, starts_at, marked_there, no_verdict_there, not_by_holder}
use Rattle.fx_leaf.proofs.path.PathReader.cut_behind_holder.Goals as goal

pub returns-in-None-clause-none : goal.returns-in-None-clause-none
returns-in-None-clause-none c =
    let reader = c.args.self.now in
    let t = reader.verdicts.tables.now in
    not_by_holder t c.requires.tables reader.verdicts.region.now reader.bounded reader.verdicts.rows.now
    reader.marks.now reader.filled c.args.holder c.requires.along c.in-None.ensures.none

pub returns-in-Some-Split-clause-none : goal.returns-in-Some-Split-clause-none
returns-in-Some-Split-clause-none c =
    let verdicts = c.args.self.now.verdicts in
    absurd (subst (λ (l : Cause). IsCauseByHolder verdicts.tables.now verdicts.rows.now c.args.holder l)
    c.in-Some-Split.field-0-is c.in-Some-Split.ensures.some)

pub returns-in-Some-Behind-clause-some : goal.returns-in-Some-Behind-clause-some
returns-in-Some-Behind-clause-some c =
    let reader = c.args.self.now in
    let t = reader.verdicts.tables.now in
    let process = c.in-Some-Behind.process in
    let number = c.in-Some-Behind.number in
    let s : IsCauseByHolder t reader.verdicts.rows.now c.args.holder (Behind process number) =
    subst (λ (l : Cause). IsCauseByHolder t reader.verdicts.rows.now c.args.holder l) c.in-Some-Behind.field-0-is
    c.in-Some-Behind.ensures.some in
    some_more _ _ c.cut_behind.result (λ x. λ h. λ path. λ held. h path
    (starts_at t c.requires.tables reader.verdicts.region.now reader.bounded reader.verdicts.rows.now path
    c.args.holder process number s held)) c.cut_behind.ensures.some

pub returns-in-Some-Behind-clause-none : goal.returns-in-Some-Behind-clause-none
returns-in-Some-Behind-clause-none c =
    let reader = c.args.self.now in
    let t = reader.verdicts.tables.now in
    let process = c.in-Some-Behind.process in
    let number = c.in-Some-Behind.number in
    let s : IsCauseByHolder t reader.verdicts.rows.now c.args.holder (Behind process number) =
    subst (λ (l : Cause). IsCauseByHolder t reader.verdicts.rows.now c.args.holder l) c.in-Some-Behind.field-0-is
    c.in-Some-Behind.ensures.some in
    none_more _ _ c.cut_behind.result (λ none. λ h. none
    (no_verdict_there t c.requires.tables reader.verdicts.region.now reader.bounded reader.verdicts.rows.now
    c.args.holder process number s)) c.cut_behind.ensures.none

pub cut_behind-requires-clause-marked : goal.cut_behind-requires-clause-marked
cut_behind-requires-clause-marked c =
    let reader = c.args.self.now in
    let t = reader.verdicts.tables.now in
    let process = c.in-Some-Behind.process in
    let number = c.in-Some-Behind.number in
    let s : IsCauseByHolder t reader.verdicts.rows.now c.args.holder (Behind process number) =
    subst (λ (l : Cause). IsCauseByHolder t reader.verdicts.rows.now c.args.holder l) c.in-Some-Behind.field-0-is
    c.in-Some-Behind.ensures.some in
    marked_there t c.requires.tables reader.verdicts.region.now reader.bounded reader.verdicts.rows.now reader.marks.now
    reader.filled c.args.holder process number c.requires.along s
