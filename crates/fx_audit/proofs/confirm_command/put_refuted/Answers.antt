use Rattle.std.proofs.Common.{codes, refl, rules}
use Rattle.fx_collect.specs.Report.{totals_text}
use Rattle.fx_base.proofs.Writing.{writes_4}
use Rattle.fx_audit.proofs.confirm_command.put_refuted.Goals as goal

pub returns : goal.returns
returns g c =
    let taken = g.S.Sink.taken in (
      writes_4 c.put_report-2.result (taken c.args.sink.now) (taken c.put_text.new.sink) (taken c.put_report.new.sink)
          (taken c.put_text-2.new.sink) (taken c.put_report-2.new.sink) (codes "refuted\nrun\n")
          (totals_text c.args.ran.now) (codes "plain\n") (totals_text c.args.plain.now) _ c.in_ok-put_text.ensures.ok
          c.in_ok-put_report.ensures.ok c.in_ok-put_text-2.ensures.ok c.put_report-2.ensures.ok refl,
      search rules,
    )
