use Rattle.std.proofs.Common.{[], refl}
use Rattle.fx_walk.proofs.Faults.{pointer-Member, exit}
use Rattle.fx_walk.specs.Lists.{entries_faults}
use Rattle.fx_walk.proofs.entries.named_member.Goals as goal

pub returns-in_err-items : goal.returns-in_err-items
returns-in_err-items g c =
    exit _ _ _ _ c.from_residual.ensures (c.in_err-items.ensures
    (λ up ds. entries_faults g.T.Entry.faults (λ d. g.T.Entry.name (g.T.Entry.meaning d)) [] up 0 ds))

pub returns : goal.returns
returns g c =
    rw (
      c.in_ok-items.ensures.0 (λ up ds. entries_faults g.T.Entry.faults (λ d. g.T.Entry.name (g.T.Entry.meaning d)) []
          up 0 ds) refl,
      c.in_ok-items.ensures.1,
    ) (rw pointer-Member at c.entries_of.ensures)
