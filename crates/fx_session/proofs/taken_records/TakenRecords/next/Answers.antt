use Rattle.std.proofs.Common.{◌+◌, ◌∷◌, ◌∙◌, List, ap, sym, slice_range, arith}
use Rattle.fx_tables.specs.declared.record.Record.{Record}
use Rattle.fx_session.specs.DataSets.{Taken}
use Rattle.fx_session.proofs.PlacesThatWait.{first_waits}
use Rattle.fx_session.proofs.taken_records.TakenRecords.next.Goals as goal

pub returns : goal.returns
returns c =
    let s = c.self.inside in
    let waits : List Record → Taken = λ records. record { waiting = records; skipped = s.skipped; count = s.count } in
    sym c.self.view_is
    ∙ ap waits (first_waits s.records.items s.start s.end c.index.result.now
    (omega (arith, c.if-self.false, c.self.invariant.0)) (omega (arith, c.self.invariant.1)) c.index.ensures
    ∙ ap (λ (r : Record). r ∷ slice_range s.records.items (s.start + 1) s.end) (sym c.copy-record.ensures))
