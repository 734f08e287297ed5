-- What a drawing prints.
use Rattle.std.specs.Prelude.{◌≡◌, ℕ, List}
use Rattle.fx_checker.specs.declared.answer.Answer.{Answer}
use Rattle.fx_checker.specs.declared.answer.Answer.TheVariants.{Yes}
use Rattle.fx_drawings.specs.Drawings.{IsPlainDrawing}

-- text whose only control characters are line feeds
abbrev pub IsDrawingText : Answer → List ℕ → Type 0
IsDrawingText answer text = (answer ≡ Yes) × IsPlainDrawing text
