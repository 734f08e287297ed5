-- Numbers written and read.
use Rattle.std.proofs.Common.{◌≡◌, ℕ, zero, suc, ◌+◌, ◌*◌, ◌%◌, ◌/◌, ◌^◌, ◌<◌, ◌≤◌, fold, refl, ap, sym, ◌∙◌, arith}
use Rattle.std.specs.Int.{bytes_high_first, byte_at}
use Rattle.std.proofs.Math.Arith.{mod-mul}
use Rattle.std.proofs.Math.Nat.{mod-eq_of_lt}
use Rattle.fx_session.specs.Flows.{number_in}

-- an octet of a number is its digit to the base 256
digit : (k v : ℕ) → byte_at k v ≡ v / 256 ^ k % 256
digit zero v = omega arith
digit (suc k) v = refl

base_pos : (k : ℕ) → 0 < 256 ^ k
base_pos zero = omega arith
base_pos (suc k) = let h : 0 < 256 ^ k = base_pos k in omega arith

one_more : (acc b p r : ℕ) → (acc * 256 + b) * p + r ≡ acc * (256 * p) + (b * p + r)
one_more acc b p r = grind arith

folded : (k acc v : ℕ) → fold (λ n b. n * 256 + b) acc (bytes_high_first k v) ≡ acc * 256 ^ k + v % 256 ^ k
folded zero acc v = omega arith
folded (suc k) acc v =
    let rest : fold (λ n b. n * 256 + b) (acc * 256 + byte_at k v) (bytes_high_first k v)
    ≡ (acc * 256 + byte_at k v) * 256 ^ k + v % 256 ^ k = folded k (acc * 256 + byte_at k v) v in
    let base : 256 * 256 ^ k ≡ 256 ^ suc k = omega arith in
    let digits : v % (256 * 256 ^ k) ≡ v / 256 ^ k % 256 * 256 ^ k + v % 256 ^ k = mod-mul v (omega arith) (base_pos k)
    in
    rest ∙ one_more acc (byte_at k v) (256 ^ k) (v % 256 ^ k)
    ∙ ap (λ (b : ℕ). acc * (256 * 256 ^ k) + (b * 256 ^ k + v % 256 ^ k)) (digit k v)
    ∙ ap (λ (n : ℕ). acc * (256 * 256 ^ k) + n) (sym digits)
    ∙ ap (λ (b : ℕ). acc * b + v % b) base

-- a number of no more than 16 octets is read as it was written
pub number_back : (k v : ℕ) → 256 ^ k ≤ 2 ^ 128 → v < 256 ^ k → number_in (bytes_high_first k v) ≡ v
unfolding number_in
number_back k v few h =
    let whole : fold (λ n b. n * 256 + b) 0 (bytes_high_first k v) ≡ v = folded k 0 v
    ∙ (let m : v % 256 ^ k ≡ v = mod-eq_of_lt h in omega (arith, m)) in
    ap (λ (n : ℕ). n % 2 ^ 128) whole ∙ mod-eq_of_lt (omega (arith, few, h))
