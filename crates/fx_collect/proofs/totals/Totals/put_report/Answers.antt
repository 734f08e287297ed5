use Rattle.std.proofs.Common.{ℕ, ◌++◌, length, refl, subst, codes, append_assoc}
use Rattle.indexmap.proofs.MapLemmas.{OnOk-map}
use Rattle.fx_base.specs.Device.{Writes}
use Rattle.fx_base.proofs.Writing.{writes_both}
use Rattle.fx_collect.specs.Report.{number_line, record_lines}
use Rattle.fx_collect.proofs.totals.Totals.put_report.Goals as goal

pub returns-clause-ok : goal.returns-clause-ok
returns-clause-ok g c =
    let now = c.args.self.now in
    let keys : Writes (g.S.Sink.taken c.args.sink.now) (g.S.Sink.taken c.put_number_line.new.sink)
    (number_line (codes "keys ") (length now.entries)) =
    subst (λ (n : ℕ). Writes (g.S.Sink.taken c.args.sink.now) (g.S.Sink.taken c.put_number_line.new.sink)
    (number_line (codes "keys ") n)) c.len.ensures c.in_ok-put_number_line.ensures.ok in
    let lines : Writes (g.S.Sink.taken c.args.sink.now) (g.S.Sink.taken c.put_lines.new.sink)
    (number_line (codes "keys ") (length now.entries) ++ record_lines now.entries) =
    writes_both _ _ _ _ _ _ keys c.in_ok-put_lines.ensures.ok refl in
    OnOk-map _ _ _ (λ h. writes_both _ _ _ _ (number_line (codes "unassigned ") now.unassigned) _ lines
    (subst (λ (n : ℕ). Writes (g.S.Sink.taken c.put_lines.new.sink) (g.S.Sink.taken c.put_number_line-2.new.sink)
    (number_line (codes "unassigned ") n)) c.unassigned.ensures h)
    (append_assoc (number_line (codes "keys ") (length now.entries)) (record_lines now.entries)
    (number_line (codes "unassigned ") now.unassigned))) c.put_number_line-2.ensures.ok
