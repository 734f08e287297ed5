use Rattle.std.proofs.Common.{[]}
use Rattle.fx_walk.proofs.Faults.{pointer-Member, exit}
use Rattle.fx_walk.specs.Lists.{entries_faults}
use Rattle.fx_config.specs.CacheFields.{cache_field_faults, cache_field_of}
use Rattle.fx_config.proofs.cache_field.fields_member.Goals as goal

pub returns-in_err-items-in-Some : goal.returns-in_err-items-in-Some
returns-in_err-items-in-Some c =
    exit _ _ _ _ c.from_residual.ensures (rw (← c.in-Some.ensures)
    (rw pointer-Member at (c.in_err-items-in-Some.ensures
    (λ up ds. entries_faults (cache_field_faults c.args.immediate) (λ d. (cache_field_of c.args.immediate d).name)
    [] up 0 ds))))
