use Rattle.std.proofs.Common.{◌≢◌, ◌+◌, ℕ, List, Option, drop, get_or, refl, ap, ◌∙◌, arith, inl, inr, sym, length}
use Rattle.std.proofs.lemmas.List.{at_drop_more, drop_all, length-map}
use Rattle.fx_tables.specs.declared.observation.Occurrence.{Occurrence}
use Rattle.fx_tables.specs.Holdings.{holding_of, met_holdings}
use Rattle.fx_machine.specs.Steps.{one_packet}
use Rattle.fx_machine.specs.declared.holding.Taking.{Taking}
use Rattle.fx_machine.specs.Holds.{undone}
use Rattle.fx_machine.proofs.RecordsTakenIn.{hold_unequal, one_holds, one_refuses, none_holds, all_undone}
use Rattle.fx_machine.proofs.holding.hold_met.Goals as goal

pub returns-then-met-choices-clause-err : goal.returns-then-met-choices-clause-err
returns-then-met-choices-clause-err c =
    let packet = c.args.packet.now in
    let holders = c.args.net.now.holders in
    let met = c.args.met.now in
    let hs = met_holdings holders packet.fields met in
    let differ : length hs ≢ length c.args.choices.now =
    λ e. c.if-met-choices.true (sym (length-map met (holding_of holders packet.fields)) ∙ e) in
    inr (c.bare.ensures, hold_unequal (one_packet packet) hs c.args.held.now.items c.args.choices.now differ)

pub loop-index-init : goal.loop-index-init
loop-index-init c = record {
  so_far = refl;
  back =
      ap (λ (log : List Taking). undone log c.args.held.now.items) c.clear.ensures.items;
}

pub loop-index-preserved : goal.loop-index-preserved
loop-index-preserved c =
    let met = c.args.met.now in
    let cs = c.args.choices.now in
    let n = c.loop-index.index in
    let of = met_holdings c.args.net.now.holders c.args.packet.now.fields in
    let first = ap of (at_drop_more (λ (rest : List Occurrence). rest) met n
    (record { point = 0; process = 0; holder = 0 }) c.loop-index-test.true) in
    record {
      so_far = c.loop-index.invariant.so_far ∙ one_holds (one_packet c.args.packet.now) (of (drop n met))
          (of (drop (n + 1) met)) (drop n cs) (drop (n + 1) cs)
          (holding_of c.args.net.now.holders c.args.packet.now.fields
          (get_or met n (record { point = 0; process = 0; holder = 0 }))) _ c.loop-index.held.items
          c.hold_next.new.held.items first (at_drop_more (λ (rest : List (Option ℕ)). rest) cs n _
          (omega (arith, c.loop-index-test.true, c.if-met-choices.false))) c.in_default.ensures.ok.0;
      back = c.in_default.ensures.ok.1 ∙ c.loop-index.invariant.back;
    }

pub returns-in-Err : goal.returns-in-Err
returns-in-Err c =
    let met = c.args.met.now in
    let cs = c.args.choices.now in
    let n = c.loop-index.index in
    let of = met_holdings c.args.net.now.holders c.args.packet.now.fields in
    let first = ap of (at_drop_more (λ (rest : List Occurrence). rest) met n
    (record { point = 0; process = 0; holder = 0 }) c.loop-index-test.true) in
    record {
      ok = tt;
      same = all_undone c.loop-index.log.items c.hold_next.new.log.items c.as_slice.result.now c.loop-index.held.items
          c.hold_next.new.held.items c.args.held.now.items c.give_all_back.new.held.items c.give_all_back.ensures
          c.as_slice.ensures.value c.in-Err.ensures.same.0 c.in-Err.ensures.same.1 c.loop-index.invariant.back;
      err = elim c.in-Err.ensures.err [
        | inl memory ↦ inl memory
        | inr wrong ↦ inr (
          wrong.0,
          c.loop-index.invariant.so_far
              ∙ one_refuses (one_packet c.args.packet.now) (of (drop n met)) (of (drop (n + 1) met)) (drop n cs)
              (drop (n + 1) cs) (holding_of c.args.net.now.holders c.args.packet.now.fields
              (get_or met n (record { point = 0; process = 0; holder = 0 }))) _ c.loop-index.held.items first
              (at_drop_more (λ (rest : List (Option ℕ)). rest) cs n _
              (omega (arith, c.loop-index-test.true, c.if-met-choices.false))) wrong.1,
        )
      ];
    }

pub returns : goal.returns
returns c =
    let met = c.args.met.now in
    let cs = c.args.choices.now in
    let n = c.loop-index.index in
    let of = met_holdings c.args.net.now.holders c.args.packet.now.fields in
    record {
      ok = c.loop-index.invariant.so_far ∙ none_holds (one_packet c.args.packet.now) (of (drop n met)) (drop n cs)
          c.loop-index.held.items (ap of (drop_all n met c.loop-index-test.false))
          (drop_all n cs (omega (arith, c.loop-index-test.false, c.if-met-choices.false)));
      same = tt;
      err = tt;
    }
