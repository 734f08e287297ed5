use Rattle.fx_net.proofs.RecordsHandled.{next_is}
use Rattle.fx_net.proofs.arriving.next_record.Goals as goal

pub returns-in-Some : goal.returns-in-Some
returns-in-Some c =
    next_is c.args.links.now.items c.args.link c.in-Some.link.now c.next_record.new.self c.next_record.result
    c.in-Some.ensures.item.3.0 c.in-Some.ensures.value c.next_record.ensures.receiver c.next_record.ensures.rest
