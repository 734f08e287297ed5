use Rattle.std.proofs.Common.{◌≡◌, ℕ, suc, ◌+◌, ◌*◌, ◌/◌, refl, arith}
use Rattle.fx_layout.specs.Seeds.{after_words}
use Rattle.fx_layout.proofs.seed.SeededHasherHasher.write.Goals as goal

pub loop-at-init : goal.loop-at-init
unfolding after_words
loop-at-init c = (refl, omega arith, refl)

pub loop-at-preserved : goal.loop-at-preserved
unfolding after_words
loop-at-preserved c =
    let at : ℕ = c.loop-at.at in
    let whole : at ≡ 8 * (at / 8) = omega (arith, c.loop-at.invariant.0) in
    let more : (at + 8) / 8 ≡ suc (at / 8) = omega arith in (
      omega (arith, c.loop-at.invariant.0),
      omega (arith, c.loop-at.invariant.1, c.loop-at-test.true),
      rw (more, c.folded_product-state.ensures, c.read_word.ensures, ← c.loop-at.invariant.2, ← whole) refl,
    )
