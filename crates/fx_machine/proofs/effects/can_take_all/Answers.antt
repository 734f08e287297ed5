use Rattle.std.proofs.Common.{◌≡◌, ◌∙◌, ◌+◌, false, true, List, Option, None, [], ◌∷◌, ◌++◌, ◌<◌, length, is_some, drop, take, refl, sym, ap, ap₂, arith, get_or}
use Rattle.std.proofs.lemmas.List.{at_drop_more, drop_all, take_more}
use Rattle.fx_tables.specs.declared.record.Record.{Record}
use Rattle.fx_tables.specs.declared.holding.Holding.{Holding}
use Rattle.fx_machine.specs.Acts.{Choices}
use Rattle.fx_machine.specs.Holds.{hold_all, held_with}
use Rattle.fx_machine.proofs.RecordsTakenIn.{hold_unequal, rest_at, one_holds, one_refuses, none_holds}
use Rattle.fx_machine.proofs.KeysHeld.{one_more, none_where_false, some_where_true}
use Rattle.fx_machine.proofs.effects.can_take_all.Goals as goal

abbrev Lists : Type 0
Lists = List (List Record)

pub returns-then-holdings-choices-clause-exact : goal.returns-then-holdings-choices-clause-exact
returns-then-holdings-choices-clause-exact c counts =
    ap (λ (o : Option Lists). is_some o) (sym
    (hold_unequal counts c.args.holdings.now c.args.held.now c.args.choices.now c.if-holdings-choices.true))

pub loop-index-init : goal.loop-index-init
loop-index-init c counts = (c.args.held.now, refl, refl)

pub returns-then-not-can_take-clause-exact : goal.returns-then-not-can_take-clause-exact
returns-then-not-can_take-clause-exact c counts =
    let hs = c.args.holdings.now in
    let cs = c.args.choices.now in
    let n = c.loop-index.index in
    let lt = c.loop-index-test.true in
    let h = c.index-holdings-index.result in
    let inv = c.loop-index.invariant counts in
    let no : is_some (held_with inv.0 counts h (get_or cs n None)) ≡ false = sym (c.can_take.ensures counts inv.0 inv.1)
    ∙ c.if-not-can_take.true in
    let refused : hold_all counts (drop n hs) inv.0 (drop n cs) ≡ None =
    one_refuses counts (drop n hs) (drop (n + 1) hs) (drop n cs) (drop (n + 1) cs) h (get_or cs n None) inv.0
    (rest_at hs n h lt c.index-holdings-index.is)
    (at_drop_more (λ (rest : Choices). rest) cs n None (omega (arith, lt, c.if-holdings-choices.false)))
    (none_where_false (held_with inv.0 counts h (get_or cs n None)) no) in
    ap (λ (o : Option Lists). is_some o) (sym (inv.2 ∙ refused))

pub loop-index-preserved : goal.loop-index-preserved
loop-index-preserved c counts =
    let hs = c.args.holdings.now in
    let cs = c.args.choices.now in
    let held = c.args.held.now in
    let n = c.loop-index.index in
    let lt = c.loop-index-test.true in
    let lt' : n < length cs = omega (arith, lt, c.if-holdings-choices.false) in
    let h = c.index-holdings-index.result in
    let inv = c.loop-index.invariant counts in
    let yes : is_some (held_with inv.0 counts h (get_or cs n None)) ≡ true = sym (c.can_take.ensures counts inv.0 inv.1)
    ∙ c.if-not-can_take.false in
    let next = some_where_true (held_with inv.0 counts h (get_or cs n None)) yes in
    let more_hs : take (n + 1) hs ≡ take n hs ++ h ∷ [] = take_more hs n h lt
    ∙ ap (λ (x : Holding). take n hs ++ x ∷ []) (sym c.index-holdings-index.is) in (
      next.0,
      ap₂ (λ (xs : List Holding) (ys : Choices). hold_all counts xs held ys) more_hs (take_more cs n None lt')
          ∙ one_more counts (take n hs) held (take n cs) inv.0 next.0 h (get_or cs n None) inv.1 next.1,
      inv.2 ∙ one_holds counts (drop n hs) (drop (n + 1) hs) (drop n cs) (drop (n + 1) cs) h (get_or cs n None) inv.0
          next.0 (rest_at hs n h lt c.index-holdings-index.is) (at_drop_more (λ (rest : Choices). rest) cs n None lt')
          next.1,
    )

pub returns-clause-exact : goal.returns-clause-exact
returns-clause-exact c counts =
    let hs = c.args.holdings.now in
    let cs = c.args.choices.now in
    let n = c.loop-index.index in
    let inv = c.loop-index.invariant counts in
    ap (λ (o : Option Lists). is_some o) (sym
    (inv.2 ∙ none_holds counts (drop n hs) (drop n cs) inv.0 (drop_all n hs c.loop-index-test.false)
    (drop_all n cs (omega (arith, c.loop-index-test.false, c.if-holdings-choices.false)))))
