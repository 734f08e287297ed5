use Rattle.std.proofs.Common.{Option, ℕ, sym, ap, refl}
use Rattle.std.specs.Option.{unwrap_or}
use Rattle.fx_net.proofs.Lookups.{found_in, none_in}
use Rattle.fx_net.proofs.exporting.number_in_use.Goals as goal

pub returns-in-None : goal.returns-in-None
returns-in-None c =
    let chosen = c.args.chosen.now in
    sym (ap (λ (n : Option ℕ). unwrap_or n 0) (none_in chosen chosen c.args.index refl c.in-None.ensures.lookup.3))

pub returns-in-Some : goal.returns-in-Some
returns-in-Some c =
    let chosen = c.args.chosen.now in
    let number = c.in-Some.number.now in
    let at = c.in-Some.ensures.lookup.3 in
    sym (ap (λ (n : Option ℕ). unwrap_or n 0) (found_in chosen chosen c.args.index number refl at.0 (at.1 number)))
