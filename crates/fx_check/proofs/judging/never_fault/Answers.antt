use Rattle.std.proofs.Common.{List, ◌∙◌, ap, subst}
use Rattle.fx_leaf.specs.PathTables.{IsPathBegun}
use Rattle.fx_tables.specs.declared.traffic.Crossing.{Crossing}
use Rattle.fx_traffic.specs.Targets.{Target}
use Rattle.fx_check.specs.Judging.{sound_never, unless_never}
use Rattle.fx_check.proofs.judging.never_fault.Goals as goal

pub returns-in-Err : goal.returns-in-Err
returns-in-Err c =
    let path = ap (λ (t : Target). t.crossings) c.target.view_is in
    let judged = λ (crossings : List Crossing). unless_never
    (sound_never c.args.tables.now.net crossings c.args.here.now.region) in
    record {
      fault = ap unless_never c.in-Err.ensures.answer ∙ ap judged path;
      room = c.in-Err.ensures.room;
      kept = c.in-Err.ensures.kept;
      more = c.in-Err.ensures.more;
      begun = subst (λ (crossings : List Crossing). IsPathBegun c.args.tables.now crossings c.never.new.self) path
          c.in-Err.ensures.begun;
    }

pub returns-in-Ok : goal.returns-in-Ok
returns-in-Ok c =
    let path = ap (λ (t : Target). t.crossings) c.target.view_is in
    let judged = λ (crossings : List Crossing). unless_never
    (sound_never c.args.tables.now.net crossings c.args.here.now.region) in
    record {
      fault = ap unless_never c.in-Ok.ensures.answer ∙ ap judged path;
      room = c.in-Ok.ensures.room;
      kept = c.in-Ok.ensures.kept;
      more = c.in-Ok.ensures.more;
      begun = subst (λ (crossings : List Crossing). IsPathBegun c.args.tables.now crossings c.never.new.self) path
          c.in-Ok.ensures.begun;
    }
