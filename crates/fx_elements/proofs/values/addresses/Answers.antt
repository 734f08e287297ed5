use Rattle.std.proofs.Common.{arith}
use Rattle.fx_elements.proofs.Widening.{range_fits}
use Rattle.fx_elements.proofs.values.addresses.Goals as goal

pub overflow_add-result : goal.overflow_add-result
overflow_add-result c =
    let fits = range_fits c.args.width c.args.bits c.args.address c.requires.some c.requires.fewer c.requires.most
    c.requires.fits in
    omega (arith, fits)
