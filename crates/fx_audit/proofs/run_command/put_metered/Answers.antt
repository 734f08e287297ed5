-- The text is that of the sorted totals and the line behind it.
use Rattle.std.proofs.Common.{ℕ, List, ◌++◌, refl}
use Rattle.indexmap.proofs.MapLemmas.{OnOk-map}
use Rattle.fx_base.specs.Device.{Writes}
use Rattle.fx_base.proofs.Writing.{writes_both}
use Rattle.fx_collect.specs.Report.{totals_text}
use Rattle.fx_audit.specs.Metering.{IsMeteredText, skipped_line}
use Rattle.fx_audit.proofs.run_command.put_metered.Goals as goal

pub returns-clause-ok : goal.returns-clause-ok
returns-clause-ok g c =
    let sorted = c.sort.new.self in
    let skipped = c.args.metered.skipped in
    let text : List ℕ = totals_text sorted ++ skipped_line skipped.other skipped.malformed in
    let is : IsMeteredText c.args.metered.totals skipped.other skipped.malformed text = record {
      totals = sorted;
      entries = c.in_ok-sort.ensures.same.0;
      ascending = c.in_ok-sort.ensures.sorted;
      layout_is = c.in_ok-sort.ensures.same.1;
      unassigned = c.in_ok-sort.ensures.same.2;
      text_is = refl;
    } in
    OnOk-map _ _ _
    (λ h.
    let all : (x : List ℕ) × IsMeteredText c.args.metered.totals skipped.other skipped.malformed x
    × Writes (g.S.Sink.taken c.args.sink.now) (g.S.Sink.taken c.put_skipped.new.sink) x =
    (text, is, writes_both _ _ _ _ _ _ c.in_ok-put_report.ensures.ok h refl) in
    all)
    c.put_skipped.ensures.0
