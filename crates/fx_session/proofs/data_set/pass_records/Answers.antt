use Rattle.std.proofs.Common.{◌∙◌, ap, sym, arith, List}
use Rattle.fx_wire.specs.Values.{after_record}
use Rattle.fx_wire.specs.declared.field.FieldSpecifier.{FieldSpecifier}
use Rattle.fx_session.specs.DataSets.{Taken, option_set}
use Rattle.fx_session.proofs.DataSteps.{option_set-more, option_set-refused, option_set-padding}
use Rattle.fx_session.proofs.data_set.pass_records.Goals as goal

pub returns-in_default-clause-done : goal.returns-in_default-clause-done
returns-in_default-clause-done c = λ _.
    let done = c.in_default.ensures ∙ ap (λ (fs : List FieldSpecifier). after_record fs c.loop-rest.rest.now)
    c.fields.ensures in
    c.loop-rest.invariant.same ∙ option_set-refused c.args.template.now.fields c.loop-rest.taken c.loop-rest.rest.now
    (omega arith) (omega arith) done

pub loop-rest-smaller : goal.loop-rest-smaller
loop-rest-smaller c =
    let done = c.in-Some.ensures ∙ ap (λ (fs : List FieldSpecifier). after_record fs c.loop-rest.rest.now)
    c.fields.ensures in
    (option_set-more c.args.template.now.fields c.loop-rest.taken c.loop-rest.rest.now _ (omega arith) (omega arith)
    done).1

pub loop-rest-preserved : goal.loop-rest-preserved
loop-rest-preserved c =
    let done = c.in-Some.ensures ∙ ap (λ (fs : List FieldSpecifier). after_record fs c.loop-rest.rest.now)
    c.fields.ensures in
    record {
      same = c.loop-rest.invariant.same ∙ (option_set-more c.args.template.now.fields c.loop-rest.taken
          c.loop-rest.rest.now _ (omega arith) (omega arith) done).0
          ∙ ap (λ (t : Taken). option_set c.args.template.now.fields t c.in-Some.behind.now) (sym c.pass.ensures);
      grows = (
        c.loop-rest.invariant.grows.0,
        ap (λ (t : Taken). t.waiting) c.pass.ensures
            ∙ c.loop-rest.invariant.grows.1,
      );
    }

pub returns-clause-done : goal.returns-clause-done
returns-clause-done c = c.loop-rest.invariant.same
    ∙ option_set-padding c.args.template.now.fields c.loop-rest.taken c.loop-rest.rest.now (omega arith) (omega arith)
