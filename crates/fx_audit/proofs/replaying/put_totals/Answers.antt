-- The text is that of the sorted totals and the line behind it.
use Rattle.std.proofs.Common.{◌≡◌, ℕ, List, ◌++◌, refl}
use Rattle.indexmap.proofs.MapLemmas.{OnOk-map}
use Rattle.fx_base.proofs.Writing.{writes_both}
use Rattle.fx_collect.specs.Totals.{Totals}
use Rattle.fx_collect.specs.Report.{totals_text}
use Rattle.fx_audit.specs.Confirms.{IsInOrder}
use Rattle.fx_checker.specs.Outputs.{Prints}
use Rattle.fx_audit.specs.Replay.{complete_line}
use Rattle.fx_audit.proofs.replaying.put_totals.Goals as goal

pub returns-clause-ok : goal.returns-clause-ok
returns-clause-ok g c =
    let before = c.args.totals.now in
    let sorted = c.sort.new.self in
    let line = complete_line c.args.complete in
    let text : List ℕ = totals_text sorted ++ line in
    let in_order : IsInOrder before sorted = record {
      entries = c.in_ok-sort.ensures.same.0;
      ascending = c.in_ok-sort.ensures.sorted;
      layout_is = c.in_ok-sort.ensures.same.1;
      unassigned = c.in_ok-sort.ensures.same.2;
    } in
    OnOk-map _ _ _ (λ h. let all : Prints (λ text. (sorted : Totals) × IsInOrder before sorted
    × (text ≡ totals_text sorted ++ line)) (g.S.Sink.taken c.args.sink.now)
    (g.S.Sink.taken c.put_complete.new.sink) =
    (text, (sorted, in_order, refl), writes_both _ _ _ _ _ _ c.in_ok-put_report.ensures.ok h refl) in all)
    c.put_complete.ensures.0
