use Rattle.std.proofs.Common.{◌∙◌, ap, arith}
use Rattle.std.proofs.lemmas.Result.{err_from_is_err_and}
use Rattle.fx_layout.specs.Keys.{key_of}
use Rattle.fx_session.specs.Parts.{layout_by}
use Rattle.fx_session.specs.Values.{noted_part}
use Rattle.fx_session.proofs.Keys.{all_stand, flow_known, flow_refused, values_fit}
use Rattle.fx_session.proofs.flow.flow_of.Goals as goal

pub of-requires : goal.of-requires
of-requires c = values_fit (noted_part c.args.seen.now) c.gather.new.bits c.gather.new.numbers (omega arith)
    c.in_ok-gather.ensures

pub key_of-requires : goal.key_of-requires
key_of-requires c = all_stand (noted_part c.args.seen.now) c.gather.new.bits c.gather.new.numbers c.in_ok-gather.ensures

pub returns-in_err-gather : goal.returns-in_err-gather
returns-in_err-gather c =
    let p = err_from_is_err_and c.from_residual.result c.from_residual.ensures.1 in
    rw (p.1, p.2) (flow_refused c.args.seen.now c.in-Some.octets c.in-Some-packets.packets c.in_err-gather.field-0.0
    c.in-Some.is c.in-Some-packets.is c.in_err-gather.ensures)

pub returns : goal.returns
returns c =
    flow_known c.args.seen.now c.in-Some.octets c.in-Some-packets.packets c.gather.new.bits c.gather.new.numbers
    c.key_of.result c.in-Some.is c.in-Some-packets.is (omega arith) c.in_ok-gather.ensures
    (c.key_of.ensures ∙ ap (key_of (layout_by c.gather.new.bits)) c.of.ensures)
