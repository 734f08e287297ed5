use Rattle.std.proofs.Common.{◌≡◌, ◌+◌, ◌≤◌, ◌∙◌, ℕ, suc, List, [], ◌∷◌, length, drop, Some, refl, ap, sym, subst, arith, add-one}
use Rattle.std.proofs.Math.ListN.{drop_of_length-le}
use Rattle.std.proofs.lemmas.Option.{slice_get-get_or}
use Rattle.fx_tables.specs.Classes.{path}
use Rattle.fx_base.specs.Entries.{entry_numbered}
use Rattle.fx_machine.specs.States.{Coming, crossings_from}
use Rattle.fx_tables.specs.declared.traffic.Crossing.{Crossing}
use Rattle.fx_machine.specs.Limits.{step_limit}
use Rattle.fx_run_text.specs.declared.step.Step.{Step}
use Rattle.fx_leaf.specs.declared.verdict.Fate.{Fate}
use Rattle.fx_leaf.specs.declared.verdict.Fate.TheVariants.{Never}
use Rattle.fx_leaf.specs.Fates.{both}
use Rattle.fx_leaf.proofs.Verdicts.{both_never}
use Rattle.fx_steps.specs.declared.costs.Costs.{Costs}
use Rattle.fx_steps.specs.Costs.{cost_of, costs_of_never}
use Rattle.fx_steps.specs.CostTables.{path_costs}
use Rattle.fx_steps.specs.UnderWay.{UnderWay}
use Rattle.fx_steps.proofs.RecordsBehind.{rest_is}
use Rattle.fx_steps.proofs.RunEnds.{drop_next}
use Rattle.fx_steps.proofs.SharesCost.{alone}
use Rattle.fx_steps.proofs.wrong.build.Goals as goal

pub loop-number-preserved : goal.loop-number-preserved
loop-number-preserved c =
    let net = c.args.costs.now.tables.net in
    let n = c.args.costs.now.tables.numbering in
    let p = c.args.costs.now.packet in
    let rows = c.args.costs.now.table in
    let xs = c.args.path.now in
    let k = c.loop-number.number in
    let old = c.loop-number.building in
    let new = c.make_crossing.new.self in
    let inv = c.loop-number.invariant in
    let e = c.in_ok-left.ensures in
    let crossing = c.index-path-number.result in
    let rest = rest_is (k + 1) xs in
    let here : drop k xs ≡ crossing ∷ drop (k + 1) xs = drop_next k xs crossing c.loop-number-test.true
    ∙ ap (λ (x : Crossing). x ∷ drop (k + 1) xs) (sym c.index-path-number.is) in (
      e.nothing,
      e.waiting,
      ap (λ (cs : List Crossing). length new.steps.items
          + cost_of (path_costs rows net n p.fields cs) c.in_ok-left.left) (sym rest)
          ∙ e.number
          ∙ ap (λ (cs : List Crossing). length old.steps.items
          + cost_of (path_costs rows net n p.fields cs) c.loop-number.left)
          (ap (λ (cs : List Crossing). crossing ∷ cs) rest ∙ sym here)
          ∙ inv.2,
      λ classes same.
          let way = inv.3 classes same in
          let coming = crossings_from 1 (suc (suc k)) (drop (k + 1) xs) in
          let at : entry_numbered (path classes p) (k + 1) ≡ Some crossing =
          ap (λ (cs : List Crossing). entry_numbered cs (k + 1)) same ∙ ap (entry_numbered xs) (add-one k)
          ∙ slice_get-get_or xs k crossing c.loop-number-test.true
          ∙ ap (λ (x : Crossing). Some x) (sym c.index-path-number.is) in
          let first : crossings_from 1 (suc k) (drop k xs) ≡ record { packet = 1; crossing = k + 1 } ∷ coming =
          ap (crossings_from 1 (suc k)) here ∙ ap (λ m. record { packet = 1; crossing = m } ∷ coming) (sym (add-one k))
          in
          let made = e.way classes coming way.0 at
          (subst (λ (cs : List Coming). UnderWay net n classes p cs way.0 old.steps.items []) first way.2) in (
            made.0,
            made.1 ∙ way.1,
            subst (λ m. UnderWay net n classes p (crossings_from 1 (suc m) (drop (k + 1) xs))
                made.0 new.steps.items []) (sym (add-one k)) made.2,
          ),
    )

pub make_crossing-requires-clause-cheap : goal.make_crossing-requires-clause-cheap
make_crossing-requires-clause-cheap c =
    let rows = c.args.costs.now.table in
    let tables = c.args.costs.now.tables in
    let xs = c.args.path.now in
    let k = c.loop-number.number in
    let made = length c.loop-number.building.steps.items in
    let left = c.loop-number.left in
    let crossing = c.index-path-number.result in
    let costs : List Crossing → Costs = path_costs rows tables.net tables.numbering c.args.costs.now.packet.fields in
    let here : drop k xs ≡ crossing ∷ drop (k + 1) xs = drop_next k xs crossing c.loop-number-test.true
    ∙ ap (λ (x : Crossing). x ∷ drop (k + 1) xs) (sym c.index-path-number.is) in
    subst (λ (cs : List Crossing). made + cost_of (costs cs) left ≤ step_limit)
    (here ∙ ap (λ (cs : List Crossing). crossing ∷ cs) (sym (rest_is (k + 1) xs)))
    (subst (λ m. m ≤ step_limit) (sym c.loop-number.invariant.2) c.requires.cheap)

-- where no crossing is left, what was to be met is met
module _ (costs : List Crossing → Costs) (never : costs [] ≡ costs_of_never) (xs : List Crossing) (k made : ℕ)
    (left fate : Fate) (past : length xs ≤ k)
    (so_far : made + cost_of (costs (drop k xs)) left ≡ cost_of (costs xs) fate)
    (cheap : cost_of (costs xs) fate ≤ step_limit) where
  end : drop k xs ≡ []
  end = drop_of_length-le xs past

  all : made + cost_of costs_of_never left ≡ cost_of (costs xs) fate
  all = ap (λ (c : Costs). made + cost_of c left) (sym (ap costs end ∙ never)) ∙ so_far

  nothing_left : (left ≡ Never) × (cost_of costs_of_never left ≡ 0)
  nothing_left = let e = all in alone left (omega arith)

  number : made ≡ cost_of (costs xs) fate
  number = let e = all in let none = nothing_left.1 in omega arith

pub returns-clause-number : goal.returns-clause-number
returns-clause-number c =
    let tables = c.args.costs.now.tables in
    ap length c.into_steps.ensures ∙ number
    (path_costs c.args.costs.now.table tables.net tables.numbering c.args.costs.now.packet.fields) refl
    c.args.path.now c.loop-number.number (length c.loop-number.building.steps.items) c.loop-number.left c.args.fate
    c.loop-number-test.false c.loop-number.invariant.2 c.requires.cheap

pub returns-clause-few : goal.returns-clause-few
returns-clause-few c = subst (λ m. m ≤ step_limit) (sym (returns-clause-number c)) c.requires.cheap

pub returns-clause-way : goal.returns-clause-way
returns-clause-way c classes same =
    let net = c.args.costs.now.tables.net in
    let n = c.args.costs.now.tables.numbering in
    let p = c.args.costs.now.packet in
    let xs = c.args.path.now in
    let left = c.loop-number.left in
    let steps = c.loop-number.building.steps.items in
    let way = c.loop-number.invariant.3 classes same in
    let none = nothing_left (path_costs c.args.costs.now.table net n p.fields) refl xs c.loop-number.number
    (length steps) left c.args.fate c.loop-number-test.false c.loop-number.invariant.2 c.requires.cheap in
    let fate : way.0 ≡ c.args.fate = sym (both_never way.0) ∙ ap (both way.0) (sym none.0) ∙ way.1 in
    let made = subst (λ (cs : List Coming). UnderWay net n classes p cs way.0 steps [])
    (ap (crossings_from 1 (suc c.loop-number.number)) (drop_of_length-le xs c.loop-number-test.false)) way.2 in
    subst (λ (ss : List Step). UnderWay net n classes p [] c.args.fate ss []) (sym c.into_steps.ensures)
    (subst (λ (f : Fate). UnderWay net n classes p [] f steps []) fate made)
