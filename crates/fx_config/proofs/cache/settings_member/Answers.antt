use Rattle.std.proofs.Common.{refl, ap, Some}
use Rattle.fx_walk.proofs.Faults.{pointer-Member, exit}
use Rattle.fx_config.proofs.cache.settings_member.Goals as goal

pub returns-in_err-settings-in-Some : goal.returns-in_err-settings-in-Some
returns-in_err-settings-in-Some c =
    exit _ _ _ _ c.from_residual.ensures (rw (← c.in-Some.ensures)
    (rw pointer-Member at c.in_err-settings-in-Some.ensures))

pub returns-in_ok-settings-in-Some : goal.returns-in_ok-settings-in-Some
returns-in_ok-settings-in-Some c =
    let h = rw pointer-Member at c.in_ok-settings-in-Some.ensures in
    rw (← c.in-Some.ensures) (h.0, ap Some h.1)

pub returns-in-None : goal.returns-in-None
returns-in-None c = rw (← c.in-None.ensures) (refl, refl)
