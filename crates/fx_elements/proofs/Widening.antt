-- A value with zeros behind its leading bits stays within 128 bits.
use Rattle.std.proofs.Common.{◌≡◌, ℕ, suc, ◌+◌, ◌-◌, ◌*◌, ◌/◌, ◌%◌, ◌^◌, ◌<◌, ◌≤◌, sym, ap, ◌∙◌, arith, pow-add}
use Rattle.std.proofs.Math.Nat.{mul-le-mul_left, mul-lt-mul_of_pos_right, pow-le-pow_right, mod-le, mul-le-mul_right, div-lt_iff_lt-mul, mod-eq_of_lt}
use Rattle.std.proofs.Math.Pow.{pow-lt}
use Rattle.std.proofs.lemmas.Nat.{pow_pos}

pub widened_fits : (width bits value : ℕ) → bits ≤ width → width ≤ 128 → value < 2 ^ bits
    → value * (1 * 2 ^ (width - bits) % 2 ^ 128) < 2 ^ 128
widened_fits width bits value le most lt =
    let size : ℕ = 2 ^ (width - bits) in
    let cut : 1 * 2 ^ (width - bits) % 2 ^ 128 ≤ 1 * 2 ^ (width - bits) = mod-le _ _ in
    let times : value * (1 * 2 ^ (width - bits) % 2 ^ 128) ≤ value * (1 * 2 ^ (width - bits)) =
    mul-le-mul_left value cut in
    let more : value * 2 ^ (width - bits) < 2 ^ bits * 2 ^ (width - bits) =
    mul-lt-mul_of_pos_right lt (pow_pos (width - bits)) in
    let whole : 2 ^ bits * 2 ^ (width - bits) ≡ 2 ^ width = sym (pow-add 2 bits (width - bits))
    ∙ ap (λ n. 2 ^ n) (let e : bits + (width - bits) ≡ width = omega arith in e) in
    let top : 2 ^ width ≤ 2 ^ 128 = pow-le-pow_right {n = 2} (omega arith) most in
    let one : 1 * 2 ^ (width - bits) ≡ 2 ^ (width - bits) = omega arith in
    let same : value * (1 * 2 ^ (width - bits)) ≡ value * 2 ^ (width - bits) = ap (λ n. value * n) one in
    omega (arith, times, more, whole, top, same)

-- the values that begin with the leading bits of one end within the width
pub range_ends : (width bits value : ℕ) → bits ≤ width → value < 2 ^ width
    → value / 2 ^ (width - bits) * 2 ^ (width - bits) + 2 ^ (width - bits) ≤ 2 ^ width
range_ends width bits value le lt =
    let size : ℕ = 2 ^ (width - bits) in
    let q : ℕ = value / size in
    let whole : 2 ^ bits * size ≡ 2 ^ width = sym (pow-add 2 bits (width - bits))
    ∙ ap (λ n. 2 ^ n) (let e : bits + (width - bits) ≡ width = omega arith in e) in
    let in' : value < 2 ^ bits * size = omega (arith, lt, whole) in
    let few : q < 2 ^ bits = (div-lt_iff_lt-mul (pow_pos (width - bits))).1 in' in
    let rows : suc q * size ≤ 2 ^ bits * size = mul-le-mul_right size few in
    let one : suc q * size ≡ q * size + size = omega arith in
    omega (arith, rows, one, whole)

pub range_fits : (width bits value : ℕ) → 0 < bits → bits ≤ width → width ≤ 128 → value < 2 ^ width
    → value / (1 * 2 ^ (width - bits) % 2 ^ 128) * (1 * 2 ^ (width - bits) % 2 ^ 128)
    + (1 * 2 ^ (width - bits) % 2 ^ 128 - 1) < 2 ^ 128
range_fits width bits value some le most lt =
    let one : 1 * 2 ^ (width - bits) ≡ 2 ^ (width - bits) = omega arith in
    let small : 2 ^ (width - bits) < 2 ^ 128 = pow-lt {i = width - bits} {j = 128} (omega (arith, some, le, most)) in
    let same : 1 * 2 ^ (width - bits) % 2 ^ 128 ≡ 2 ^ (width - bits) = ap (λ n. n % 2 ^ 128) one ∙ mod-eq_of_lt small in
    let top : 2 ^ width ≤ 2 ^ 128 = pow-le-pow_right {n = 2} (omega arith) most in
    let ends = range_ends width bits value le lt in
    let pos : 0 < 2 ^ (width - bits) = pow_pos (width - bits) in
    rw same (omega (arith, ends, pos, top))
