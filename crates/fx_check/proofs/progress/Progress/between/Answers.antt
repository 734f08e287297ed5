use Rattle.std.proofs.Common.{◌≡◌, ◌≤◌, ◌==◌, length, ◌&&◌, false, sym, List, ◌∙◌, ap, inl, inr, refl, subst}
use Rattle.std.proofs.lemmas.Option.{slice_get_read}
use Rattle.fx_leaf.specs.PathSelections.{path_selections}
use Rattle.fx_leaf.specs.PathTables.{IsPathBegun}
use Rattle.fx_tables.specs.declared.traffic.Crossing.{Crossing}
use Rattle.fx_traffic.specs.Targets.{Target}
use Rattle.fx_check.proofs.BetweenTrees.{class_opens, deep_none, end_closes, no_class, no_end, none_waits, not_both, opens_begun, region_whole, wrong_class}
use Rattle.fx_check.proofs.ReadyProgress.{narrowed_first, rooms_more}
use Rattle.fx_check.proofs.progress.Progress.between.Goals.{else-class-target-via-then-class-target+else-path-target, else-class-target-via-else-class-target}
use Rattle.fx_check.proofs.progress.Progress.between.Goals as goal

pub begin-active-requires-clause-path : goal.begin-active-requires-clause-path
begin-active-requires-clause-path c =
    let target = c.index-targets-self.result in
    let fits = c.requires.ready.rooms c.args.self.now.current target
    (slice_get_read c.args.targets.now (length c.args.targets.now) c.args.self.now.current target refl
    c.if-self-targets.true c.index-targets-self.is) in
    subst (λ (t : Target). length (path_selections c.args.tables.now.net 1 t.crossings) ≤ c.args.scratch.now.room)
    (sym c.target.view_is) fits

pub returns-then-path-target : goal.returns-then-path-target
returns-then-path-target c =
    let old = c.args.self.now in
    let targets = c.args.targets.now in
    let target = c.index-targets-self.result in
    let view = c.target.view_is in
    let none = none_waits targets old.current old.waiting old.stage c.requires.stage c.requires.consistent in
    let begun = subst (λ (crossings : List Crossing). IsPathBegun c.args.tables.now crossings c.begin-active.new.self)
    (ap (λ (t : Target). t.crossings) view) c.begin-active.ensures.begun in
    record {
      after = λ judge. class_opens old.version judge old.made targets old.current old.waiting old.stage c.args.item.now
          c.requires.stage target c.in-Class.class c.in-Class.path c.target.inside.region c.begin-active.result none
          c.if-self-targets.true c.index-targets-self.is c.in-Class.is
          (c.if-class-target.true ∙ ap (λ (t : Target). t.class) view)
          (c.if-path-target.true ∙ ap (λ (t : Target). t.path) view) (ap (λ (t : Target). t.region) view);
      consistent = (c.if-self-targets.true, deep_none old.waiting none);
      made = rw c.in-Class.is refl;
      ready = record {
        room = c.begin-active.ensures.room;
        rooms = rooms_more c.args.tables.now targets c.args.scratch.now c.begin-active.new.self
            c.begin-active.ensures.more c.requires.ready.rooms;
        begun = opens_begun c.args.tables.now targets old.current
            (region_whole c.target.inside.region c.begin-active.result) target c.begin-active.new.self
            c.index-targets-self.is begun;
        narrowed = narrowed_first old.waiting c.begin-active.new.self.selections
            (region_whole c.target.inside.region c.begin-active.result) none
            (c.begin-active.ensures.all c.target.inside.region);
      };
      same = tt;
    }

pub returns-else-class-target : goal.returns-else-class-target
returns-else-class-target c =
    let old = c.args.self.now in
    let target = c.index-targets-self.result in
    let view = c.target.view_is in
    let other : (c.in-Class.class == target.class && c.in-Class.path == target.path) ≡ false =
    elim c.else-class-target.branch [
      | else-class-target-via-then-class-target+else-path-target w ↦
          not_both c.in-Class.class target.class c.in-Class.path target.path
          (inr (λ same. w.if-path-target.false (same ∙ sym (ap (λ (t : Target). t.path) view))))
      | else-class-target-via-else-class-target w ↦
          not_both c.in-Class.class target.class c.in-Class.path target.path
          (inl (λ same. w.if-class-target.false (same ∙ sym (ap (λ (t : Target). t.class) view))))
    ] in
    record {
      after = λ judge. wrong_class old.version judge old.made c.args.targets.now old.current old.waiting old.stage
          c.args.item.now c.requires.stage target c.in-Class.class c.in-Class.path c.if-self-targets.true
          c.index-targets-self.is c.in-Class.is other;
      consistent = c.requires.consistent;
      made = tt;
      ready = c.requires.ready;
      same = refl;
    }

pub returns-in_default : goal.returns-in_default
returns-in_default c =
    let old = c.args.self.now in
    record {
      after = λ judge. no_class old.version judge old.made c.args.targets.now old.current old.waiting old.stage
          c.args.item.now c.requires.stage c.index-targets-self.result c.if-self-targets.true c.index-targets-self.is
          c.in_default.not-Class;
      consistent = c.requires.consistent;
      made = tt;
      ready = c.requires.ready;
      same = refl;
    }

pub returns-in-End : goal.returns-in-End
returns-in-End c =
    let old = c.args.self.now in
    record {
      after = λ judge. end_closes old.version judge old.made c.args.targets.now old.current old.waiting old.stage
          c.args.item.now c.requires.stage c.if-self-targets.false c.in-End.is;
      consistent = none_waits c.args.targets.now old.current old.waiting old.stage c.requires.stage
          c.requires.consistent;
      made = rw c.in-End.is refl;
      ready = record { room = c.requires.ready.room; rooms = c.requires.ready.rooms; begun = tt; narrowed = tt };
      same = tt;
    }

pub returns : goal.returns
returns c =
    let old = c.args.self.now in
    record {
      after = λ judge. no_end old.version judge old.made c.args.targets.now old.current old.waiting old.stage
          c.args.item.now c.requires.stage c.if-self-targets.false c.in_default-item.not-End;
      consistent = c.requires.consistent;
      made = tt;
      ready = c.requires.ready;
      same = refl;
    }
