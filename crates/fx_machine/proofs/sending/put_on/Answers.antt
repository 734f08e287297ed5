use Rattle.std.proofs.Common.{◌∙◌, sym, ap, List, [], ◌∷◌, ◌++◌, arith}
use Rattle.fx_tables.specs.declared.record.Record.{Record}
use Rattle.fx_machine.proofs.Lists.{put_last_is, put_last_past}
use Rattle.fx_machine.proofs.sending.put_on.Goals as goal

pub returns-in_ok-push-clause-ok : goal.returns-in_ok-push-clause-ok
returns-in_ok-push-clause-ok c =
    put_last_is c.args.carried.now.items c.args.link c.index_mut-records.result.now c.push.new.self c.args.entry
    (omega arith) (c.in_ok-push.ensures.ok ∙ ap (λ (xs : List Record). xs ++ c.args.entry ∷ [])
    c.index_mut-records.ensures.value)

pub returns-else-link-len-clause-ok : goal.returns-else-link-len-clause-ok
returns-else-link-len-clause-ok c = sym (put_last_past c.args.carried.now.items c.args.link c.args.entry (omega arith))
