use Rattle.std.proofs.Common.{arith, subst}
use Rattle.fx_leaf.specs.declared.cause.Cause.{Cause}
use Rattle.fx_leaf.specs.declared.cause.Cause.TheVariants.{Split, Behind}
use Rattle.fx_leaf.specs.Causes.{IsCauseAt}
use Rattle.fx_leaf.proofs.CausesCut.{follow_split, follow_on, no_verdict_on, cause_is_marked, ranks_rise, some_verdict}
use Rattle.fx_leaf.proofs.path.PathReader.cut_behind.Goals as goal

pub returns-in-None-clause-none : goal.returns-in-None-clause-none
returns-in-None-clause-none c = λ none.
    let reader = c.args.self.now in
    some_verdict reader.verdicts.tables.now c.requires.tables reader.verdicts.region.now reader.bounded
    reader.verdicts.rows.now reader.marks.now reader.filled c.loop-step.index c.loop-step.layout
    c.loop-step.invariant.marked c.in-None.ensures.none (c.loop-step.invariant.none none)

pub returns-in-Some-Split-clause-some : goal.returns-in-Some-Split-clause-some
returns-in-Some-Split-clause-some c = λ path. λ starts.
    let reader = c.args.self.now in
    let from : IsCauseAt reader.verdicts.tables.now reader.verdicts.region.now reader.verdicts.rows.now
    c.loop-step.index c.loop-step.layout (Split c.in-Some-Split.axis c.in-Some-Split.at) =
    subst (λ (l : Cause). IsCauseAt reader.verdicts.tables.now reader.verdicts.region.now reader.verdicts.rows.now
    c.loop-step.index c.loop-step.layout l) c.in-Some-Split.field-0-is c.in-Some-Split.ensures.some in
    let here = c.loop-step.invariant.starts path starts in
    let at_bound = follow_split reader.verdicts.tables.now c.requires.tables reader.verdicts.region.now reader.bounded
    reader.verdicts.rows.now path c.loop-step.index c.loop-step.layout here c.in-Some-Split.axis c.in-Some-Split.at
    from in
    record { starts = here; splits = at_bound }

pub loop-step-preserved : goal.loop-step-preserved
loop-step-preserved c =
    let reader = c.args.self.now in
    let t = reader.verdicts.tables.now in
    let region = reader.verdicts.region.now in
    let rows = reader.verdicts.rows.now in
    let index = c.loop-step.index in
    let layout = c.loop-step.layout in
    let on = c.in-Some-Behind.next in
    let its = c.in-Some-Behind.its in
    let from : IsCauseAt t region rows index layout (Behind on its) =
    subst (λ (l : Cause). IsCauseAt t region rows index layout l) c.in-Some-Behind.field-0-is
    c.in-Some-Behind.ensures.some in
    record {
      starts = λ path. λ s. follow_on t c.requires.tables region reader.bounded rows path index layout
          (c.loop-step.invariant.starts path s) on its from;
      none = λ s. no_verdict_on t c.requires.tables region reader.bounded rows index layout on its from;
      marked = cause_is_marked t c.requires.tables region reader.bounded rows reader.marks.now reader.filled index
          layout on its c.loop-step.invariant.marked from;
      risen = λ ranked. let up = ranks_rise t c.requires.tables region reader.bounded rows ranked index layout on its
          from in let low = c.loop-step.invariant.risen ranked in omega (arith, up, low);
    }
