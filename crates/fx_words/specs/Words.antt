-- A refusal in words, by its texts alone.
use Rattle.std.specs.Prelude.{ℕ, List}
use Rattle.fx_words.specs.declared.refusal.Refusal.{Refusal}

-- its number, what is wrong, its usual cause, what to do, and where to read more
pub record Words : Type 0 where
  pub number : ℕ
  pub wrong : List ℕ
  pub cause : List ℕ
  pub cure : List ℕ
  pub section : List ℕ

-- what a row of a table says
abbrev pub words_at : ℕ → List ℕ → List ℕ → List ℕ → List ℕ → Words
words_at number wrong cause cure section =
    record { number = number; wrong = wrong; cause = cause; cure = cure; section = section }

-- what a refusal says
abbrev pub words_of : Refusal → Words
words_of r = words_at r.number r.wrong.now r.cause.now r.cure.now r.section.now
