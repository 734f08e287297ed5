use Rattle.std.proofs.Common.{◌≡◌, ℕ, List, ◌∷◌, sym, subst, refl}
use Rattle.fx_base.specs.Device.{Writes}
use Rattle.fx_base.specs.declared.counts.Counts.{Counts}
use Rattle.fx_base.proofs.Writing.{writes_both}
use Rattle.fx_collect.specs.Totals.{records_of, AllHaveBits}
use Rattle.fx_collect.specs.Report.{record_lines}
use Rattle.fx_collect.proofs.MapsOfCounts.{behind_has_bits}
use Rattle.fx_collect.proofs.totals.Totals.put_lines.Goals as goal

pub loop-values-preserved : goal.loop-values-preserved
loop-values-preserved g c =
    let layout = c.self.inside.layout in
    let entry : List ℕ × Counts = (c.in-Some.values.now, c.in-Some.counts.now) in
    let left : c.loop-values.values-iterator ≡ entry ∷ c.next.new.self = c.in-Some.ensures.steps in
    record {
      whole = λ after h.
          c.loop-values.invariant.whole after (subst
          (λ (es : List (List ℕ × Counts)). Writes (g.S.Sink.taken c.loop-values.sink) after
          (record_lines (records_of layout es))) (sym left)
          (writes_both _ _ _ _ _ _ c.in_ok-put_line.ensures.ok h refl));
      bits = behind_has_bits layout entry c.next.new.self
          (subst (λ (es : List (List ℕ × Counts)). AllHaveBits layout es) left c.loop-values.invariant.bits);
      going = λ h. c.in_ok-put_line.ensures.going (c.loop-values.invariant.going h);
    }
