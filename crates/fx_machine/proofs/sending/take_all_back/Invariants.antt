use Rattle.std.proofs.Common.{◌≡◌, ◌-◌, List, length, take}
use Rattle.fx_tables.specs.declared.record.Record.{Record}
use Rattle.fx_machine.specs.Sends.{put_all}
use Rattle.fx_machine.proofs.sending.take_all_back.Given as goal

abbrev pub invariant-loop-back : goal.invariant-loop-back
invariant-loop-back l =
    (rss : List (List Record)) → l.initial.carried.items ≡ put_all l.links l.entry rss → l.carried.items
    ≡ put_all (take (length l.links - l.back) l.links) l.entry rss
