use Rattle.std.proofs.Common.{◌≡◌, ◌≢◌, ◌≤◌, ◌++◌, ◌∙◌, ℕ, Bool, List, length, take, drop, append-nil, arith, ap, sym, subst}
use Rattle.std.proofs.Math.ListN.{drop_of_length-le}
use Rattle.std.proofs.Math.Seq.{take-length}
use Rattle.fx_tables.specs.declared.traffic.Crossing.{Crossing}
use Rattle.fx_leaf.specs.Fates.{wanted_fate}
use Rattle.fx_steps.specs.declared.costs.Costs.{Costs}
use Rattle.fx_steps.specs.CostTables.{CostTable, path_costs}
use Rattle.fx_steps.specs.Costs.{over_limit, cost_of, Tells}
use Rattle.fx_steps.specs.Ways.{PacketComes}
use Rattle.fx_steps.proofs.RunEnds.{ends_wrong}
use Rattle.fx_steps.proofs.LeastUnwanted.{CostsLeast, least_of_all, none_within}
use Rattle.fx_steps.proofs.wrong.wrong_run.Goals as goal

-- a list that was changed as a whole is what it was changed to
all_changed : {A : Type 0} (len : ℕ) (xs ws : List A) → length ws ≡ length xs → len ≡ length xs
    → take len (ws ++ drop (length ws) xs) ≡ ws
all_changed {A = A} len xs ws size long =
    ap (λ (ys : List A). take len (ws ++ ys)) (drop_of_length-le xs (omega arith)) ∙ ap (take len) (append-nil ws)
    ∙ ap (λ n. take n ws) (long ∙ sym size) ∙ take-length ws

pub returns-then-cost_of-ge-OVER_LIMIT-clause-none : goal.returns-then-cost_of-ge-OVER_LIMIT-clause-none
returns-then-cost_of-ge-OVER_LIMIT-clause-none c =
    let net = c.args.tables.now.net in
    let p = c.args.packet.now in
    let fate_costs = c.least_steps-fate_costs.result in
    let fate = c.least_unwanted_fate-fate.result in
    let tells = subst (λ (cs : List Crossing). Tells fate_costs (PacketComes net p.fields cs)) c.path_of-path.ensures
    c.least_steps-fate_costs.ensures.tells in
    let least = subst (λ (b : Bool). CostsLeast fate_costs (wanted_fate b) fate) c.exempts.ensures
    c.least_unwanted_fate-fate.ensures.least in
    let over : over_limit ≤ cost_of fate_costs fate = omega arith in
    none_within fate_costs _ tells _ fate least over

pub returns-clause-found : goal.returns-clause-found
returns-clause-found c =
    let t = c.args.tables.now in
    let fate = c.least_unwanted_fate-fate.result in
    let e = c.in_ok-steps.ensures in
    let unwanted = subst (λ (b : Bool). fate ≢ wanted_fate b) c.exempts.ensures
    c.least_unwanted_fate-fate.ensures.unwanted in
    ends_wrong t.net t.numbering c.args.classes.now c.args.packet.now c.requires.tables.network fate
    c.in_ok-steps.steps.items e.few unwanted (e.way c.args.classes.now (sym c.path_of-path.ensures))

pub returns-clause-least : goal.returns-clause-least
returns-clause-least c =
    let net = c.args.tables.now.net in
    let p = c.args.packet.now in
    let fate_costs = c.least_steps-fate_costs.result in
    let fate = c.least_unwanted_fate-fate.result in
    let tells = subst (λ (cs : List Crossing). Tells fate_costs (PacketComes net p.fields cs)) c.path_of-path.ensures
    c.least_steps-fate_costs.ensures.tells in
    let least = subst (λ (b : Bool). CostsLeast fate_costs (wanted_fate b) fate) c.exempts.ensures
    c.least_unwanted_fate-fate.ensures.least in
    let rows = c.in_ok-rows.rows in
    let size : length c.least_steps-fate_costs.new.rows ≡ length rows.items = c.least_steps-fate_costs.ensures.size
    ∙ ap length c.as_mut_slice.ensures.value in
    let filled = all_changed rows.len rows.items c.least_steps-fate_costs.new.rows size rows.ok.0 in
    let number : length c.in_ok-steps.steps.items ≡ cost_of fate_costs fate =
    c.in_ok-steps.ensures.number
    ∙ ap (λ (table : CostTable). cost_of (path_costs table net c.args.tables.now.numbering p.fields
    c.path_of-path.result.now) fate) (c.as_slice.ensures.value ∙ filled)
    ∙ ap (λ (k : Costs). cost_of k fate) (sym c.least_steps-fate_costs.ensures.costs) in
    λ f n unwanted comes.
    subst (λ m. m ≤ n) (sym number) (least_of_all fate_costs _ tells _ fate least f n unwanted comes)
