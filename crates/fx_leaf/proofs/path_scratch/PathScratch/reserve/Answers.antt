use Rattle.std.proofs.Common.{arith, rules}
use Rattle.std.proofs.Common.{subst, sym}
use Rattle.fx_leaf.specs.PathTables.{HasProcessRoom}
use Rattle.fx_leaf.proofs.path_scratch.PathScratch.reserve.Goals as goal

pub returns-clause-path : goal.returns-clause-path
returns-clause-path c = first_of (grind arith, search rules)

pub returns-in_err-reserve-clause-room : goal.returns-in_err-reserve-clause-room
returns-in_err-reserve-clause-room c =
    let here = subst (HasProcessRoom c.args.tables.now) (sym c.self.view_is) c.requires.room in
    record { table = here.table; marks = here.marks; matches = here.matches }

pub returns-clause-room : goal.returns-clause-room
returns-clause-room c =
    let here = subst (HasProcessRoom c.args.tables.now) (sym c.self.view_is) c.requires.room in
    record { table = here.table; marks = here.marks; matches = here.matches }
