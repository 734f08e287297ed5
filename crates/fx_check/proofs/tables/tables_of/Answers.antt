use Rattle.std.proofs.Common.{sym, subst}
use Rattle.fx_leaf.specs.Tables.{AreTables}
use Rattle.fx_check.proofs.LentTables.{lent_by}
use Rattle.fx_check.proofs.tables.tables_of.Goals as goal

pub returns-clause-tables : goal.returns-clause-tables
returns-clause-tables c = subst AreTables (sym c.new.ensures)
    (lent_by c.net.result.now _ c.downwards.result.now c.layouts.result.now _ c.layout_numbers.result.now
    c.net.ensures.value c.layouts.ensures.value c.net.ensures.network c.net.ensures.report c.net.ensures.entries
    c.downwards.ensures c.layouts.ensures.few c.layout_numbers.ensures)
