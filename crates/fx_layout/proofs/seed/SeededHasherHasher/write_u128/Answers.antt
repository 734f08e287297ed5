use Rattle.std.proofs.Common.{◌≡◌, ℕ, ap, sym, ◌∙◌, ◌/◌, ◌^◌}
use Rattle.std.specs.Hash.{le_bytes}
use Rattle.std.proofs.lemmas.Nat.{and_mask}
use Rattle.fx_layout.specs.Seeds.{after_words, word}
use Rattle.fx_layout.proofs.Words.{after_word, hasher_at, low_word, high_word}
use Rattle.fx_layout.proofs.seed.SeededHasherHasher.write_u128.Goals as goal

pub returns : goal.returns
unfolding le_bytes after_words
returns c =
    let old = c.args.self.now in
    let i : ℕ = c.args.i in
    let below : ℕ = after_word old.second old.state (word (le_bytes 16 i) 0) in
    let low : c.folded_product-low.result ≡ below = c.folded_product-low.ensures
    ∙ ap (after_word old.second old.state) (and_mask i 64 ∙ sym (low_word i)) in
    ap (hasher_at old.second)
    (c.folded_product-self.ensures
    ∙ ap (λ (state : ℕ). after_word old.second state (i / 2 ^ 64)) low
    ∙ ap (after_word old.second below) (sym (high_word i c.ranges.i.fits)))
