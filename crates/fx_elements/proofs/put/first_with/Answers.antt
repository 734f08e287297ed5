use Rattle.std.proofs.Common.{◌^◌, ◌-◌, ◌*◌, ◌%◌, ◌<◌, arith, ◌≡◌}
use Rattle.fx_elements.specs.Axes.{axis_width}
use Rattle.fx_elements.proofs.Widening.{widened_fits}
use Rattle.fx_elements.proofs.put.first_with.Goals as goal

pub overflow_mul-result : goal.overflow_mul-result
overflow_mul-result c =
    let wide : c.width.result ≡ axis_width c.args.axis = c.width.ensures.bits in
    let fits : c.args.value * (1 * 2 ^ (c.width.result - c.args.bits) % 2 ^ 128) < 2 ^ 128 =
    widened_fits c.width.result c.args.bits c.args.value (omega (arith, c.requires.fewer, wide))
    (omega (arith, c.width.ensures.bound)) c.requires.fits in
    omega (arith, fits)
