use Rattle.std.proofs.Common.{◌∙◌, ℕ, ◌+◌, not, drop, sym, ap, arith, Option, None, List, get_or}
use Rattle.std.proofs.lemmas.List.{at_drop_more}
use Rattle.fx_base.specs.Entries.{entry_numbered}
use Rattle.fx_tables.specs.declared.holding.Holding.{Holding}
use Rattle.fx_machine.specs.Effects.{new_keys}
use Rattle.fx_machine.proofs.RecordsTakenIn.{rest_at}
use Rattle.fx_machine.proofs.KeysHeld.{past_new, past_joined_at, past_other}
use Rattle.fx_machine.proofs.effects.new_key.Goals.{then-is_none+then-holdings-index+else-left-eq1, else-is_none, else-is_none-via-then-is_none+else-holdings-index, else-is_none-via-else-is_none}
use Rattle.fx_machine.proofs.effects.new_key.Goals as goal

pub loop-index-preserved : goal.loop-index-preserved
loop-index-preserved c =
    let hs = c.args.holdings.now in
    let cs = c.args.choices.now in
    let n = c.loop-index.index in
    let lt = c.loop-index-test.true in
    let chosen = at_drop_more (λ (rest : List (Option ℕ)). rest) cs n None (omega (arith, lt, c.requires)) in
    let inv = c.loop-index.invariant in
    let choice = get_or cs n None in
    elim c.if-is_none.branch [
      | then-is_none+then-holdings-index+else-left-eq1 w ↦ (let h = w.index-holdings-index.result in record {
        some = omega (arith, inv.some, w.left-is, w.if-left-eq1.false);
        rest = inv.rest ∙ past_new c.args.holder (drop n hs) (drop (n + 1) hs) (drop n cs) (drop (n + 1) cs) h choice
            c.loop-index.left c.if-is_none.left (rest_at hs n h lt w.index-holdings-index.is) chosen
            (c.is_none.ensures ∙ ap (λ b. not b) w.if-is_none.true)
            (ap (λ (x : Holding). x.holder) w.index-holdings-index.is ∙ w.if-holdings-index.true) inv.some
            w.if-left-eq1.false w.left-is;
      })
      | else-is_none w ↦ record {
        some = omega (arith, inv.some, w.left-is);
        rest = inv.rest ∙ elim w.else-is_none.branch [
          | else-is_none-via-then-is_none+else-holdings-index w' ↦ (let h = w'.index-holdings-index.result in
              past_other c.args.holder (drop n hs) (drop (n + 1) hs) (drop n cs) (drop (n + 1) cs) h choice
              c.loop-index.left (rest_at hs n h lt w'.index-holdings-index.is) chosen
              (λ e. w'.if-holdings-index.false (sym (ap (λ (x : Holding). x.holder) w'.index-holdings-index.is)
              ∙ e)))
          | else-is_none-via-else-is_none w' ↦ past_joined_at c.args.holder hs n (drop n cs) (drop (n + 1) cs) choice
              c.loop-index.left lt chosen (c.is_none.ensures ∙ ap (λ b. not b) w'.if-is_none.false)
        ] ∙ ap (entry_numbered (new_keys c.args.holder (drop (n + 1) hs) (drop (n + 1) cs))) (sym w.left-is);
      }
    ]
