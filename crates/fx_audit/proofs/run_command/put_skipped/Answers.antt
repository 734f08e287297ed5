use Rattle.std.proofs.Common.{◌++◌, codes, refl, rules}
use Rattle.std.specs.Fmt.{decimal}
use Rattle.fx_collect.specs.Report.{number_line}
use Rattle.fx_base.proofs.Writing.{writes_2}
use Rattle.fx_audit.specs.Metering.{skipped_line}
use Rattle.fx_audit.proofs.run_command.put_skipped.Goals as goal

pub returns : goal.returns
returns g c =
    let taken = g.S.Sink.taken in
    let other = decimal c.args.skipped.other in
    let behind = number_line (codes " malformed ") c.args.skipped.malformed in (
      writes_2 c.put_number_line.result (taken c.args.sink.now) (taken c.put_text.new.sink)
          (taken c.put_number_line.new.sink) (codes "skipped other ") (other ++ behind)
          (skipped_line c.args.skipped.other c.args.skipped.malformed) c.in_ok-put_text.ensures.ok
          (writes_2 c.put_number_line.result (taken c.put_text.new.sink) (taken c.put_number.new.sink)
          (taken c.put_number_line.new.sink) other behind (other ++ behind) c.in_ok-put_number.ensures.ok
          c.put_number_line.ensures.ok refl) refl,
      search rules,
    )
