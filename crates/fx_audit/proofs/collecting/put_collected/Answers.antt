-- The text is that of the sorted totals and the two lines behind it.
use Rattle.std.proofs.Common.{ℕ, List, ◌++◌, codes, refl}
use Rattle.indexmap.proofs.MapLemmas.{OnOk-map}
use Rattle.fx_base.specs.Device.{Writes}
use Rattle.fx_collect.specs.Report.{number_line, totals_text}
use Rattle.fx_audit.proofs.Streams.{all_written}
use Rattle.fx_audit.specs.Streams.{IsTotalsText}
use Rattle.fx_audit.proofs.collecting.put_collected.Goals as goal

pub returns-clause-ok : goal.returns-clause-ok
returns-clause-ok g c =
    let sorted = c.sort.new.self in
    let known = c.args.session.now.known in
    let text : List ℕ = totals_text sorted ++ (number_line (codes "gaps ") known.gaps
    ++ number_line (codes "skipped ") known.skipped) in
    let is : IsTotalsText c.args.totals.now known.gaps known.skipped text = record {
      totals = sorted;
      entries = c.in_ok-sort.ensures.same.0;
      ascending = c.in_ok-sort.ensures.sorted;
      layout_is = c.in_ok-sort.ensures.same.1;
      unassigned = c.in_ok-sort.ensures.same.2;
      text_is = refl;
    } in
    OnOk-map _ _ _
    (λ h.
    let all : (x : List ℕ) × IsTotalsText c.args.totals.now known.gaps known.skipped x
    × Writes (g.S.Sink.taken c.args.sink.now) (g.S.Sink.taken c.put_number_line-2.new.sink) x = (
      text,
      is,
      all_written _ _ _ _ (totals_text sorted) known.gaps _ known.skipped _ c.gaps.ensures c.skipped.ensures
          c.in_ok-put_report.ensures.ok c.in_ok-put_number_line.ensures.ok h,
    ) in
    all)
    c.put_number_line-2.ensures.ok
