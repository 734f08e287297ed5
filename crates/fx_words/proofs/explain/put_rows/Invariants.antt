use Rattle.std.proofs.Common.{◌≡◌, map, take, false}
use Rattle.fx_base.specs.Device.{Writes}
use Rattle.fx_words.specs.Texts.{list_text}
use Rattle.fx_words.specs.Words.{words_at}
use Rattle.fx_words.proofs.explain.put_rows.Given as goal

abbrev pub invariant-loop-row : goal.invariant-loop-row
invariant-loop-row g l =
    record {
      taken : Writes (g.S.Sink.taken l.initial.sink) (g.S.Sink.taken l.sink)
          (list_text (map (λ r. words_at r.0 r.1.now r.2.now r.3.now r.4.now) (take l.row-index l.rows)));
      going : g.S.Sink.failed l.initial.sink ≡ false → g.S.Sink.failed l.sink ≡ false;
    }
