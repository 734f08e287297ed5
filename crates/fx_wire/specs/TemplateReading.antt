-- The answers of the reader of template records.
use Rattle.std.specs.Prelude.{ℕ, List, Result, Ok, Err}
use Rattle.std.specs.Borrow.{Bor}
use Rattle.fx_wire.specs.declared.template.TemplateHeading.{TemplateHeading}
use Rattle.fx_wire.specs.declared.malformed.Malformed.{Malformed}

abbrev pub with_rest : Result (TemplateHeading × Bor (List ℕ)) Malformed → Result (TemplateHeading × List ℕ) Malformed
with_rest (Ok p) = Ok (p.0, p.1.now)
with_rest (Err why) = Err why
