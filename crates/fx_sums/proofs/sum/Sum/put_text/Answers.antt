use Rattle.std.proofs.Common.{OnOk, refl, subst}
use Rattle.fx_base.specs.Device.{Writes}
use Rattle.fx_collect.specs.Report.{totals_text}
use Rattle.fx_sums.specs.Sums.{Sum}
use Rattle.fx_sums.specs.SumText.{notes_text, noted_text}
use Rattle.fx_base.proofs.Writing.{writes_2}
use Rattle.fx_sums.proofs.sum.Sum.put_text.Goals as goal

pub returns-clause-ok : goal.returns-clause-ok
returns-clause-ok g c =
    let taken = g.S.Sink.taken in
    let inside : Sum = record { totals = c.self.inside.totals; notes = c.self.inside.notes } in
    subst (λ (s : Sum). OnOk c.put_notes.result
    (Writes (taken c.args.sink.now) (taken c.put_notes.new.sink) (noted_text s))) c.self.view_is
    (writes_2 c.put_notes.result (taken c.args.sink.now) (taken c.put_report.new.sink) (taken c.put_notes.new.sink)
    (totals_text inside.totals) (notes_text inside.notes) (noted_text inside) c.in_ok-put_report.ensures.ok
    c.put_notes.ensures.0 refl)
