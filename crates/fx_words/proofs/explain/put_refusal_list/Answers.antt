use Rattle.std.proofs.Common.{rules}
use Rattle.fx_words.proofs.Lists.{listed_first, listed_behind}
use Rattle.fx_words.proofs.explain.put_refusal_list.Goals as goal

pub returns : goal.returns
returns g c = (
  listed_behind _ _ _ _ _ _ (listed_behind _ _ _ _ _ _
      (listed_behind _ _ _ _ _ _ (listed_behind _ _ _ _ _ _
      (listed_behind _ _ _ _ _ _ (listed_behind _ _ _ _ _ _
      (listed_behind _ _ _ _ _ _ (listed_behind _ _ _ _ _ _
      (listed_first _ _ _ _ c.in_ok-put_rows.ensures.0 c.rows.ensures) c.in_ok-put_rows-2.ensures.0 c.rows-2.ensures)
      c.in_ok-put_rows-3.ensures.0 c.rows-3.ensures) c.in_ok-put_rows-4.ensures.0 c.rows-4.ensures)
      c.in_ok-put_rows-5.ensures.0 c.rows-5.ensures) c.in_ok-put_rows-6.ensures.0 c.rows-6.ensures)
      c.in_ok-put_rows-7.ensures.0 c.rows-7.ensures) c.in_ok-put_rows-8.ensures.0 c.rows-8.ensures)
      c.in_ok-put_rows-9.ensures.0 c.rows-9.ensures,
  search rules,
)
