use Rattle.std.proofs.Common.{ap, length, ◌∙◌, List, ℕ, ◌==◌}
use Rattle.fx_base.proofs.Trimmed.{trim_keeps}
use Rattle.fx_base.proofs.name.has_bare_ends.Goals as goal

pub returns : goal.returns
returns c =
    ap (λ (xs : List ℕ). length xs == length c.args.text.now) c.trim.ensures.trim
    ∙ trim_keeps c.args.text.now c.utf8.text
