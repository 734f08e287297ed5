use Rattle.std.proofs.Common.{map}
use Rattle.serde_json.specs.View.{view}
use Rattle.fx_walk.specs.Pointer.{pointer}
use Rattle.fx_config.proofs.EntryNamed.{named, refused}
use Rattle.fx_config.proofs.entry_name.entry_name.Goals as goal

pub returns-in_err-object_of-clause-reads : goal.returns-in_err-object_of-clause-reads
returns-in_err-object_of-clause-reads c =
    refused (map (λ t. t.now) c.args.listed.now) c.args.earlier.now (pointer c.args.path.now) (view c.args.value.now) _
    _ c.from_residual.ensures c.in_err-object_of.ensures

pub returns-clause-reads : goal.returns-clause-reads
returns-clause-reads c =
    named (map (λ t. t.now) c.args.listed.now) c.args.earlier.now (pointer c.args.path.now) (view c.args.value.now)
    c.name_member.result c.in_ok-object_of.ensures c.name_member.ensures.reads
