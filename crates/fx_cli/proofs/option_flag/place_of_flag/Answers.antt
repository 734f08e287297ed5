use Rattle.std.proofs.Common.{rules, string_bytes, ◌≡◌, ◌⊎◌, ◌∙◌, ℕ, ◌+◌, ◌<◌, true, false, length, Option, Some, arith, refl, sym, ap, subst, inl, inr}
use Rattle.std.specs.Prelude.{unwrap_or, slice_get}
use Rattle.std.proofs.lemmas.Option.{slice_get_read}
use Rattle.fx_cli.specs.OptionFlag.{is_flag, is_last_flag}
use Rattle.fx_cli.proofs.option_flag.place_of_flag.Goals as goal

before_or_at : (index end : ℕ) → index < end + 1 → (index < end) ⊎ (index ≡ end)
before_or_at index end less = grind (arith, less)

one_of_some : {A : Type 0} (a b : A) (o : Option A) → o ≡ Some a → o ≡ Some b → b ≡ a
one_of_some a b o x y = ap (λ (v : Option _). unwrap_or v a) (sym y ∙ x)

pub returns-then-eq-clause-place : goal.returns-then-eq-clause-place
returns-then-eq-clause-place c =
    let is = slice_get_read c.args.words.now (length c.args.words.now) c.loop-index.index c.index-words-index.result
    refl c.loop-index-test.true c.index-words-index.is in
    let last : is_last_flag (string_bytes c.index-words-index.result) ≡ true = search rules in
    (c.loop-index.index, c.loop-index.invariant.unmarked, inr (c.index-words-index.result, is, last))

pub returns-then-eq-2-clause-place : goal.returns-then-eq-2-clause-place
returns-then-eq-2-clause-place c =
    let is = slice_get_read c.args.words.now (length c.args.words.now) c.loop-index.index c.index-words-index.result
    refl c.loop-index-test.true c.index-words-index.is in
    let flag : is_flag c.args.flag.now (string_bytes c.index-words-index.result) ≡ true = search rules in
    (c.loop-index.invariant.unmarked, c.loop-index.invariant.from, (c.index-words-index.result, is, flag))

pub loop-index-preserved : goal.loop-index-preserved
loop-index-preserved c =
    let is = slice_get_read c.args.words.now (length c.args.words.now) c.loop-index.index c.index-words-index.result
    refl c.loop-index-test.true c.index-words-index.is in
    let no_last : is_last_flag (string_bytes c.index-words-index.result) ≡ false = search rules in
    let no_flag : is_flag c.args.flag.now (string_bytes c.index-words-index.result) ≡ false = search rules in
    record {
      unmarked = λ index word one less at. elim (before_or_at index c.loop-index.index less) [
        | inl earlier ↦ c.loop-index.invariant.unmarked index word one earlier at
        | inr same ↦
            let here = one_of_some c.index-words-index.result word (slice_get c.args.words.now c.loop-index.index) is
            (subst (λ (n : ℕ). slice_get c.args.words.now n ≡ Some word) same at) in (
              ap (λ w. is_flag c.args.flag.now (string_bytes w)) here
                  ∙ no_flag,
              ap (λ w. is_last_flag (string_bytes w)) here ∙ no_last,
            )
      ];
      from = omega (arith, c.loop-index.invariant.from);
    }
