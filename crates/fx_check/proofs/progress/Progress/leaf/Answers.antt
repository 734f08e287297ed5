use Rattle.std.proofs.Common.{List, None, subst, sym, arith}
use Rattle.fx_leaf.specs.PathSelections.{PathSelection}
use Rattle.fx_check.specs.Judging.{judge_of}
use Rattle.fx_check.proofs.ConsistentProgress.{leaf_out_of_place, leaf_too_many, leaf_judged, begun_there, begins_there, region_of, stands}
use Rattle.fx_check.specs.Remaining.{HasNarrowed}
use Rattle.fx_check.proofs.ReadyProgress.{narrowed_there, rooms_more}
use Rattle.fx_check.proofs.progress.Progress.leaf.Goals as goal

pub returns-then-target-clause-after : goal.returns-then-target-clause-after
returns-then-target-clause-after c =
    let there = region_of c.args.self.now.stage c.requires.stage in
    leaf_out_of_place c.args.self.now.version (judge_of c.args.tables.now.net) c.args.self.now.made c.args.targets.now
    c.args.self.now.current c.args.self.now.waiting c.args.self.now.stage there.0 c.args.leaf.now
    c.index-targets-self.result there.1 c.requires.consistent c.index-targets-self.is (grind arith)

pub returns-then-self-ge-LINES-clause-after : goal.returns-then-self-ge-LINES-clause-after
returns-then-self-ge-LINES-clause-after c =
    let there = region_of c.args.self.now.stage c.requires.stage in
    leaf_too_many c.args.self.now.version (judge_of c.args.tables.now.net) c.args.self.now.made c.args.targets.now
    c.args.self.now.current c.args.self.now.waiting c.args.self.now.stage there.0 c.args.leaf.now
    c.index-targets-self.result there.1 c.requires.consistent c.index-targets-self.is (grind arith)
    c.if-self-ge-LINES.true

pub leaf_fault-requires-clause-begun : goal.leaf_fault-requires-clause-begun
leaf_fault-requires-clause-begun c =
    begun_there c.args.tables.now c.args.targets.now c.args.self.now.current c.args.self.now.stage c.in-Tree.here
    c.index-targets-self.result c.args.scratch.now c.requires.ready.begun c.in-Tree.is
    (stands c.args.targets.now c.args.self.now.current c.args.self.now.waiting c.args.self.now.stage
    c.requires.consistent c.requires.stage).0 c.index-targets-self.is

pub returns-in-Some-clause-after : goal.returns-in-Some-clause-after
returns-in-Some-clause-after c =
    leaf_judged c.args.self.now.version (judge_of c.args.tables.now.net) c.args.self.now.made c.args.targets.now
    c.args.self.now.current c.args.self.now.waiting c.args.self.now.stage c.in-Tree.here c.args.leaf.now
    c.index-targets-self.result _ c.in-Tree.is c.requires.consistent c.index-targets-self.is (grind arith)
    c.if-self-ge-LINES.false (sym c.in-Some.ensures.fault)

pub returns-clause-after : goal.returns-clause-after
returns-clause-after c =
    rw (c.close_region.ensures.goals)
    (leaf_judged c.args.self.now.version (judge_of c.args.tables.now.net) c.args.self.now.made c.args.targets.now
    c.args.self.now.current c.args.self.now.waiting c.args.self.now.stage c.in-Tree.here c.args.leaf.now
    c.index-targets-self.result None c.in-Tree.is c.requires.consistent c.index-targets-self.is (grind arith)
    c.if-self-ge-LINES.false (sym c.in_default-leaf_fault.ensures.fault))

pub leaf_fault-requires-clause-narrowed : goal.leaf_fault-requires-clause-narrowed
leaf_fault-requires-clause-narrowed c =
    narrowed_there c.args.self.now.stage c.args.self.now.waiting c.args.scratch.now.selections c.in-Tree.here
    c.in-Tree.is c.requires.ready.narrowed

pub returns-clause-ready : goal.returns-clause-ready
returns-clause-ready c =
    c.close_region.ensures.ready c.args.tables.now c.leaf_fault.new.scratch (record {
      room = c.in_default-leaf_fault.ensures.room;
      rooms = rooms_more c.args.tables.now c.args.targets.now c.args.scratch.now c.leaf_fault.new.scratch
          c.in_default-leaf_fault.ensures.more c.requires.ready.rooms;
      begun = begins_there c.args.tables.now c.args.targets.now c.args.self.now.current c.args.self.now.stage
          c.in-Tree.here c.index-targets-self.result c.leaf_fault.new.scratch c.in-Tree.is c.index-targets-self.is
          c.in_default-leaf_fault.ensures.begun;
      narrowed = subst (λ (xs : List PathSelection). HasNarrowed c.args.self.now.stage c.args.self.now.waiting xs)
          (sym c.in_default-leaf_fault.ensures.kept) c.requires.ready.narrowed;
    })

pub returns-in-Some-clause-ready : goal.returns-in-Some-clause-ready
returns-in-Some-clause-ready c = record {
  room = c.in-Some.ensures.room;
  rooms = rooms_more c.args.tables.now c.args.targets.now c.args.scratch.now c.leaf_fault.new.scratch
      c.in-Some.ensures.more c.requires.ready.rooms;
  begun = begins_there c.args.tables.now c.args.targets.now c.args.self.now.current c.args.self.now.stage c.in-Tree.here
      c.index-targets-self.result c.leaf_fault.new.scratch c.in-Tree.is c.index-targets-self.is c.in-Some.ensures.begun;
  narrowed = subst (λ (xs : List PathSelection). HasNarrowed c.args.self.now.stage c.args.self.now.waiting xs)
      (sym c.in-Some.ensures.kept) c.requires.ready.narrowed;
}
