use Rattle.std.proofs.Common.{◌≡◌, Some, arith, ap, sym, ◌∙◌, slice_get}
use Rattle.std.proofs.lemmas.Option.{slice_get-get_or, slice_get_past}
use Rattle.fx_tables.specs.Network.{before}
use Rattle.fx_machine.specs.Sends.{chosen_from}
use Rattle.fx_machine.proofs.sending.choose_at.Goals as goal

pub returns-in-None : goal.returns-in-None
returns-in-None c = record {
  ok = (
    omega arith,
    λ rest. ap (λ o. chosen_from c.args.links.now.items (before o rest) c.args.choices.now)
        (slice_get_past c.args.exporters.now c.args.index c.in-None.ensures.lookup.3),
  );
  err = tt;
}

pub returns-in-Some : goal.returns-in-Some
returns-in-Some c =
    let exporter = c.in-Some.exporter.now in
    let there = c.in-Some.ensures.lookup.3 in
    let found : slice_get c.args.exporters.now c.args.index ≡ Some exporter =
    slice_get-get_or c.args.exporters.now c.args.index exporter there.0 ∙ ap Some (sym (there.1 exporter)) in
    rw found (record { ok = c.choose.ensures.ok; err = c.choose.ensures.err })
