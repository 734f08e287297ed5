use Rattle.std.proofs.Common.{◌≡◌, ◌∙◌, List, true, false, Ok, Some, None, refl, sym, ap, subst}
use Rattle.fx_base.specs.Refusals.{counted_elsewhere}
use Rattle.fx_leaf.specs.PathTables.{IsPathBegun}
use Rattle.fx_tables.specs.declared.traffic.Crossing.{Crossing}
use Rattle.fx_traffic.specs.Targets.{Target}
use Rattle.fx_check.specs.Judging.{same_leaf, sound_leaf, unless_same}
use Rattle.fx_check.proofs.judging.leaf_fault.Goals as goal

pub returns-in-Err : goal.returns-in-Err
returns-in-Err c =
    let path = ap (λ (t : Target). t.crossings) c.target.view_is in
    let judged = λ (crossings : List Crossing). unless_same c.args.leaf.now
    (sound_leaf c.args.tables.now.net crossings c.args.here.now.region) in
    record {
      fault = ap (unless_same c.args.leaf.now) c.in-Err.ensures.answer ∙ ap judged path;
      room = c.in-Err.ensures.room;
      kept = c.in-Err.ensures.kept;
      more = c.in-Err.ensures.more;
      begun = subst (λ (crossings : List Crossing). IsPathBegun c.args.tables.now crossings c.fate.new.self) path
          c.in-Err.ensures.begun;
    }

pub returns-then-same_leaf : goal.returns-then-same_leaf
returns-then-same_leaf c =
    let path = ap (λ (t : Target). t.crossings) c.target.view_is in
    let judged = λ (crossings : List Crossing). unless_same c.args.leaf.now
    (sound_leaf c.args.tables.now.net crossings c.args.here.now.region) in
    let same : same_leaf c.in-Ok.counted c.args.leaf.now ≡ true = sym c.same_leaf.ensures ∙ c.if-same_leaf.true in
    let none : None ≡ unless_same c.args.leaf.now (Ok c.in-Ok.counted) = rw same refl in
    record {
      fault = none ∙ (ap (unless_same c.args.leaf.now) c.in-Ok.ensures.answer ∙ ap judged path);
      room = c.in-Ok.ensures.room;
      kept = c.in-Ok.ensures.kept;
      more = c.in-Ok.ensures.more;
      begun = subst (λ (crossings : List Crossing). IsPathBegun c.args.tables.now crossings c.fate.new.self) path
          c.in-Ok.ensures.begun;
    }

pub returns-else-same_leaf : goal.returns-else-same_leaf
returns-else-same_leaf c =
    let path = ap (λ (t : Target). t.crossings) c.target.view_is in
    let judged = λ (crossings : List Crossing). unless_same c.args.leaf.now
    (sound_leaf c.args.tables.now.net crossings c.args.here.now.region) in
    let other : same_leaf c.in-Ok.counted c.args.leaf.now ≡ false = sym c.same_leaf.ensures ∙ c.if-same_leaf.false in
    let elsewhere : Some counted_elsewhere ≡ unless_same c.args.leaf.now (Ok c.in-Ok.counted) = rw other refl in
    record {
      fault = elsewhere ∙ (ap (unless_same c.args.leaf.now) c.in-Ok.ensures.answer ∙ ap judged path);
      room = c.in-Ok.ensures.room;
      kept = c.in-Ok.ensures.kept;
      more = c.in-Ok.ensures.more;
      begun = subst (λ (crossings : List Crossing). IsPathBegun c.args.tables.now crossings c.fate.new.self) path
          c.in-Ok.ensures.begun;
    }
