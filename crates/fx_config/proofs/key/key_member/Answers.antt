use Rattle.std.proofs.Common.{[]}
use Rattle.fx_walk.proofs.Faults.{pointer-Member, exit}
use Rattle.fx_config.specs.Keys.{fields_faults}
use Rattle.fx_config.proofs.key.key_member.Goals as goal

pub returns-in_err-items-in-Some : goal.returns-in_err-items-in-Some
returns-in_err-items-in-Some c =
    exit _ _ _ _ c.from_residual.ensures (rw (← c.in-Some.ensures)
    (rw pointer-Member at (c.in_err-items-in-Some.ensures (λ up ds. fields_faults [] up 0 ds))))
