use Rattle.std.proofs.Common.{List, Bool, true, false, subst, string_bytes, codes}
use Rattle.fx_cli.specs.Arguments.{EndsByArguments, EndsByArgumentsExplained, EndsByArgumentsInJson}
use Rattle.fx_cli.specs.OptionFlag.{RemovesFlag, RemovesFormat}
use Rattle.fx_cli.proofs.running.answer_given.Goals as goal

pub returns-then-take_format-clause-options : goal.returns-then-take_format-clause-options
returns-then-take_format-clause-options g c =
    let rest = c.take_format.new.arguments.items in
    let unmeasured = c.take_flag-progress.new.arguments.items in
    let unexplained = c.take_flag-explained.new.arguments.items in (
      rest,
      true,
      c.take_flag-explained.result,
      c.take_flag-progress.result,
      record {
        unmeasured = unmeasured;
        unexplained = unexplained;
        progress_is = c.take_flag-progress.ensures;
        explain_is = c.take_flag-explained.ensures;
        format_is = subst (λ (taken : Bool). RemovesFormat string_bytes unexplained rest taken) c.if-take_format.true
            c.take_format.ensures;
      },
      subst (λ (words : List _). EndsByArgumentsInJson string_bytes g.S.Sink.taken g.S.Sink.failed words c.args.sink.now
          c.answer_in_json.new.sink c.answer_in_json.result) c.as_slice.ensures.value
          (record {
            bundle = c.answer_in_json.ensures.bundle;
            call = c.answer_in_json.ensures.call;
            no_call =
                c.answer_in_json.ensures.no_call;
          }),
    )

pub returns-then-explained-clause-options : goal.returns-then-explained-clause-options
returns-then-explained-clause-options g c =
    let rest = c.take_format.new.arguments.items in
    let unmeasured = c.take_flag-progress.new.arguments.items in
    let unexplained = c.take_flag-explained.new.arguments.items in (
      rest,
      false,
      true,
      c.take_flag-progress.result,
      record {
        unmeasured = unmeasured;
        unexplained = unexplained;
        progress_is = c.take_flag-progress.ensures;
        explain_is = subst (λ (taken : Bool). RemovesFlag (codes "--explain") string_bytes unmeasured unexplained taken)
            c.if-explained.true c.take_flag-explained.ensures;
        format_is = subst (λ (taken : Bool). RemovesFormat string_bytes unexplained rest taken) c.if-take_format.false
            c.take_format.ensures;
      },
      subst (λ (words : List _). EndsByArgumentsExplained string_bytes g.S.Sink.taken g.S.Sink.failed words
          c.args.sink.now c.answer_explained.new.sink c.answer_explained.result) c.as_slice-then-explained.ensures.value
          (record {
            bundle = c.answer_explained.ensures.bundle;
            call = c.answer_explained.ensures.call;
            no_call =
                c.answer_explained.ensures.no_call;
          }),
    )

pub returns-clause-options : goal.returns-clause-options
returns-clause-options g c =
    let rest = c.take_format.new.arguments.items in
    let unmeasured = c.take_flag-progress.new.arguments.items in
    let unexplained = c.take_flag-explained.new.arguments.items in (
      rest,
      false,
      false,
      c.take_flag-progress.result,
      record {
        unmeasured = unmeasured;
        unexplained = unexplained;
        progress_is = c.take_flag-progress.ensures;
        explain_is = subst (λ (taken : Bool). RemovesFlag (codes "--explain") string_bytes unmeasured unexplained taken)
            c.if-explained.false c.take_flag-explained.ensures;
        format_is = subst (λ (taken : Bool). RemovesFormat string_bytes unexplained rest taken) c.if-take_format.false
            c.take_format.ensures;
      },
      subst (λ (words : List _). EndsByArguments string_bytes g.S.Sink.taken g.S.Sink.failed words c.args.sink.now
          c.answer_arguments.new.sink c.answer_arguments.result) c.as_slice-else-explained.ensures.value
          (record {
            bundle = c.answer_arguments.ensures.bundle;
            call = c.answer_arguments.ensures.call;
            no_call =
                c.answer_arguments.ensures.no_call;
          }),
    )
