use Rattle.std.proofs.Common.{◌≡◌, Some, subst}
use Rattle.fx_layout.specs.Keys.{Layout}
use Rattle.fx_sums.specs.SumLines.{values_under, values_first}
use Rattle.fx_sums.proofs.ValuesRead.{rest_is, values_step}
use Rattle.fx_sums.proofs.record_line.+read_values.Goals as goal

pub returns-in_ok-fields-in-len1-up : goal.returns-in_ok-fields-in-len1-up
returns-in_ok-fields-in-len1-up t c =
    values_step c.args.parts.now _ c.args.words c.in_ok-word-in-len1-up.words c.in_ok-fields-in-len1-up.words
    c.in_ok-word-in-len1-up.word.now c.in_ok-start-in-len1-up.start c.in_ok-fields-in-len1-up.fields
    c.with_value.result c.in-len1-up.len_at_least c.requires.ascend (c.in_ok-word-in-len1-up.ensures)
    (c.in_ok-start-in-len1-up.ensures.value)
    (subst (λ (ps : Layout). Some (
      values_under ps c.in_ok-fields-in-len1-up.fields,
      c.in_ok-fields-in-len1-up.words,
    ) ≡ values_first ps c.in_ok-word-in-len1-up.words) (rest_is c.args.parts.now)
    c.in_ok-fields-in-len1-up.ensures) c.with_value.ensures.at c.with_value.ensures.others
