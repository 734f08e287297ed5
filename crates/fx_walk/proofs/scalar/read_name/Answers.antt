use Rattle.std.proofs.Common.{sym}
use Rattle.fx_base.specs.Name.{is_name}
use Rattle.serde_json.specs.View.{view}
use Rattle.fx_walk.specs.Pointer.{pointer}
use Rattle.fx_walk.specs.Scalars.{text_that}
use Rattle.fx_walk.proofs.NamesRead.{name_read, no_memory, no_name}
use Rattle.fx_walk.proofs.scalar.read_name.Goals as goal

pub returns-in-Ok : goal.returns-in-Ok
returns-in-Ok c =
    name_read c.args.wrong (pointer c.args.path.now) (view c.args.value.now) c.in-Some.text.now c.in-Ok.name
    (sym c.in-Some.ensures) c.in-Ok.ensures.ok.0 c.in-Ok.ensures.ok.1

pub returns-in-Err : goal.returns-in-Err
returns-in-Err c =
    no_name c.args.wrong (pointer c.args.path.now) (view c.args.value.now) c.in-Some.text.now c.in-Err.fault
    c.refusal-in-Err.result (sym c.in-Some.ensures) c.in-Err.ensures.err c.if-this-eq-BAD_VALUE.true
    c.refusal-in-Err.ensures

pub returns-in-Err-2 : goal.returns-in-Err-2
returns-in-Err-2 c =
    no_memory c.in-Some.text.now c.in-Err.fault
    (text_that c.args.wrong is_name (pointer c.args.path.now) (view c.args.value.now)) c.in-Err.ensures.err
    c.if-this-eq-BAD_VALUE.false
