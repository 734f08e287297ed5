use Rattle.std.proofs.Common.{codes, refl, rules, Some}
use Rattle.std.specs.Fmt.{decimal}
use Rattle.fx_collect.specs.Report.{number_line}
use Rattle.fx_sums.specs.SumText.{frames_text}
use Rattle.fx_base.proofs.Writing.{writes_3}
use Rattle.fx_sums.proofs.notes_put.put_skipped_frames.Goals as goal

pub returns : goal.returns
returns g c =
    let taken = g.S.Sink.taken in (
      writes_3 c.put_number_line.result (taken c.args.sink.now) (taken c.put_text.new.sink)
          (taken c.put_number.new.sink) (taken c.put_number_line.new.sink) (codes "skipped other ")
          (decimal c.args.frames.other) (number_line (codes " malformed ") c.args.frames.malformed)
          (frames_text (Some c.args.frames)) c.in_ok-put_text.ensures.ok c.in_ok-put_number.ensures.ok
          c.put_number_line.ensures.ok refl,
      search rules,
    )
