use Rattle.std.proofs.Common.{◌≡◌, ◌-◌, ◌≤◌, ◌∙◌, List, [], ◌∷◌, length, drop, take, get_or, ap, ap₂, arith}
use Rattle.fx_elements.specs.Axes.{Fields}
use Rattle.fx_tables.specs.declared.traffic.Crossing.{Crossing}
use Rattle.fx_tables.specs.Network.{Net}
use Rattle.fx_tables.specs.Occurrences.{occurrences}
use Rattle.fx_leaf.specs.Tables.{Numbering}
use Rattle.fx_steps.specs.declared.costs.Costs.{Costs}
use Rattle.fx_steps.specs.Costs.{both_costs, costs_of_never, one_step_more}
use Rattle.fx_steps.specs.CostTables.{CostTable, occurrence_costs, path_costs}
use Rattle.fx_steps.proofs.RecordsBehind.{rest_is}
use Rattle.fx_steps.proofs.table.PacketCosts.+path_costs.Goals as goal

first_and_rest : (table : CostTable) (net : Net) (n : Numbering) (fields : Fields) (xs : List Crossing) (x : Crossing)
    (here more others all : Costs) → 1 ≤ length xs → x ≡ get_or xs 0 x → here
    ≡ occurrence_costs table net n (occurrences net x fields) → more ≡ one_step_more here → others
    ≡ path_costs table net n fields (take (length xs - 1) (drop 1 xs)) → all ≡ both_costs more others → all
    ≡ path_costs table net n fields xs
first_and_rest table net n fields [] x here more others all some first is one rest both = absurd (omega arith)
first_and_rest table net n fields (y ∷ ys) x here more others all some first is one rest both =
    both ∙ ap₂ both_costs (one ∙ ap one_step_more
    (is ∙ ap (λ (z : Crossing). occurrence_costs table net n (occurrences net z fields)) first))
    (rest ∙ ap (path_costs table net n fields) (rest_is 1 (y ∷ ys)))

none_left : (table : CostTable) (net : Net) (n : Numbering) (fields : Fields) (xs : List Crossing) (all : Costs)
    → length xs ≤ 0 → all ≡ costs_of_never → all ≡ path_costs table net n fields xs
none_left table net n fields [] all none is = is
none_left table net n fields (x ∷ xs) all none is = absurd (omega arith)

pub returns-in-empty : goal.returns-in-empty
returns-in-empty t c =
    let costs = c.args.self.now in
    let tables = costs.tables in
    none_left costs.table tables.net tables.numbering costs.packet.fields c.args.path.now c.of_never.result
    (omega arith) c.of_never.ensures

pub returns-in-len1-up : goal.returns-in-len1-up
returns-in-len1-up t c =
    let costs = c.args.self.now in
    let tables = costs.tables in
    first_and_rest costs.table tables.net tables.numbering costs.packet.fields c.args.path.now c.first-item.result
    c.crossing_costs.result c.one_step_more.result c.path_costs-others.result c.both.result
    c.in-len1-up.len_at_least c.first-item.is c.crossing_costs.ensures c.one_step_more.ensures
    c.path_costs-others.ensures c.both.ensures
