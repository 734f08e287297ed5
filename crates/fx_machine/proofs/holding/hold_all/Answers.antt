use Rattle.std.proofs.Common.{◌+◌, ℕ, List, Option, drop, refl, ap, ◌∙◌, arith, inl, inr}
use Rattle.std.proofs.lemmas.List.{at_drop_more, drop_all}
use Rattle.fx_machine.specs.declared.holding.Taking.{Taking}
use Rattle.fx_machine.specs.Holds.{undone}
use Rattle.fx_machine.proofs.RecordsTakenIn.{hold_unequal, rest_at, one_holds, one_refuses, none_holds, all_undone}
use Rattle.fx_machine.proofs.holding.hold_all.Goals as goal

pub returns-then-holdings-choices-clause-err : goal.returns-then-holdings-choices-clause-err
returns-then-holdings-choices-clause-err c =
    inr (
      c.bare.ensures,
      hold_unequal c.args.counts.now c.args.holdings.now c.args.held.now.items c.args.choices.now
          c.if-holdings-choices.true,
    )

pub loop-index-init : goal.loop-index-init
loop-index-init c = record {
  so_far = refl;
  back =
      ap (λ (log : List Taking). undone log c.args.held.now.items) c.clear.ensures.items;
}

pub loop-index-preserved : goal.loop-index-preserved
loop-index-preserved c =
    let hs = c.args.holdings.now in
    let cs = c.args.choices.now in
    let n = c.loop-index.index in
    let h = c.index-holdings-index.result in
    record {
      so_far = c.loop-index.invariant.so_far ∙ one_holds c.args.counts.now (drop n hs) (drop (n + 1) hs) (drop n cs)
          (drop (n + 1) cs) h _ c.loop-index.held.items c.hold_next.new.held.items
          (rest_at hs n h c.loop-index-test.true c.index-holdings-index.is)
          (at_drop_more (λ (rest : List (Option ℕ)). rest) cs n _
          (omega (arith, c.loop-index-test.true, c.if-holdings-choices.false))) c.in_default.ensures.ok.0;
      back = c.in_default.ensures.ok.1 ∙ c.loop-index.invariant.back;
    }

pub returns-in-Err : goal.returns-in-Err
returns-in-Err c =
    let hs = c.args.holdings.now in
    let cs = c.args.choices.now in
    let n = c.loop-index.index in
    let h = c.index-holdings-index.result in
    record {
      ok = tt;
      same = all_undone c.loop-index.log.items c.hold_next.new.log.items c.as_slice.result.now c.loop-index.held.items
          c.hold_next.new.held.items c.args.held.now.items c.give_all_back.new.held.items c.give_all_back.ensures
          c.as_slice.ensures.value c.in-Err.ensures.same.0 c.in-Err.ensures.same.1 c.loop-index.invariant.back;
      err = elim c.in-Err.ensures.err [
        | inl memory ↦ inl memory
        | inr wrong ↦ inr (
          wrong.0,
          c.loop-index.invariant.so_far
              ∙ one_refuses c.args.counts.now (drop n hs) (drop (n + 1) hs) (drop n cs) (drop (n + 1) cs) h _
              c.loop-index.held.items (rest_at hs n h c.loop-index-test.true c.index-holdings-index.is)
              (at_drop_more (λ (rest : List (Option ℕ)). rest) cs n _
              (omega (arith, c.loop-index-test.true, c.if-holdings-choices.false))) wrong.1,
        )
      ];
    }

pub returns : goal.returns
returns c =
    let hs = c.args.holdings.now in
    let cs = c.args.choices.now in
    let n = c.loop-index.index in
    record {
      ok = (
        c.loop-index.invariant.so_far ∙ none_holds c.args.counts.now (drop n hs) (drop n cs) c.loop-index.held.items
            (drop_all n hs c.loop-index-test.false)
            (drop_all n cs (omega (arith, c.loop-index-test.false, c.if-holdings-choices.false))),
        c.loop-index.invariant.back,
      );
      same = tt;
      err = tt;
    }
