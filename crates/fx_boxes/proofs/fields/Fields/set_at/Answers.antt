-- A value takes its place in the narrow half or in the wide one.
use Rattle.std.proofs.Common.{sym, ap, ◌∙◌, arith}
use Rattle.std.proofs.Math.ListN.{set}
use Rattle.std.proofs.lemmas.List.{set-append_left, set-append_right}
use Rattle.fx_boxes.proofs.fields.Fields.set_at.Goals as goal

pub returns-then-k-lt-NARROW : goal.returns-then-k-lt-NARROW
returns-then-k-lt-NARROW c =
    sym (set-append_left c.self.inside.narrow c.self.inside.wide c.args.k c.args.value
    (omega (arith, c.self.invariant.0))) ∙ ap (λ v. set v c.args.k c.args.value) c.self.view_is

pub returns-else-k-lt-NARROW : goal.returns-else-k-lt-NARROW
returns-else-k-lt-NARROW c =
    sym (set-append_right c.self.inside.narrow c.self.inside.wide 7 c.args.k c.args.value c.self.invariant.0
    c.if-k-lt-NARROW.false) ∙ ap (λ v. set v c.args.k c.args.value) c.self.view_is
