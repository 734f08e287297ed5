use Rattle.std.proofs.Common.{ap, sym, ◌∙◌}
use Rattle.std.specs.Hash.{le_bytes}
use Rattle.fx_layout.specs.Seeds.{after_words}
use Rattle.fx_layout.proofs.Words.{after_word, hasher_at, own_word}
use Rattle.fx_layout.proofs.seed.SeededHasherHasher.write_usize.Goals as goal

pub returns : goal.returns
unfolding le_bytes after_words
returns c =
    let old = c.args.self.now in
    ap (hasher_at old.second) (c.folded_product-self.ensures
    ∙ ap (after_word old.second old.state) (sym (own_word c.args.i c.ranges.i.fits)))
