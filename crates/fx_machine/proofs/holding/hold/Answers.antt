use Rattle.std.proofs.Common.{refl, arith, inl, inr}
use Rattle.std.proofs.lemmas.Result.{err_from_is_err_and}
use Rattle.fx_machine.specs.Intakes.{key_in}
use Rattle.fx_machine.proofs.RecordsTakenIn.{hold_made, hold_past, hold_refused, same_held}
use Rattle.fx_machine.proofs.holding.hold.Goals as goal

pub returns-then-holder-len : goal.returns-then-holder-len
returns-then-holder-len c = record {
  ok = tt;
  same = refl;
  err = inr (
    c.bare.ensures,
    hold_past c.args.held.now.items c.args.counts.now
        (record { holder = c.args.holder; key = key_in c.args.intake.now }) c.args.choice
        (omega (arith, c.len.ensures, c.if-holder-len.true)),
  );
}

pub returns-in_err-joined : goal.returns-in_err-joined
returns-in_err-joined c =
    let p = err_from_is_err_and c.from_residual.result c.from_residual.ensures.1 in
    let rs = c.index_mut-records.result.now in
    record {
      ok = rw p.1 tt;
      same = rw p.1 (same_held c.args.held.now.items c.args.holder rs c.take_in.new.self
          c.index_mut-records.ensures.value c.in_err-joined.ensures.same);
      err = rw (p.1, p.2) (elim c.in_err-joined.ensures.err [
        | inl memory ↦ inl memory
        | inr wrong ↦ inr (
          wrong.0,
          hold_refused c.args.held.now.items c.args.counts.now
              (record { holder = c.args.holder; key = key_in c.args.intake.now }) c.args.choice rs
              (omega (arith, c.len.ensures, c.if-holder-len.false)) c.index_mut-records.ensures.value wrong.1,
        )
      ]);
    }

pub returns : goal.returns
returns c =
    let k = c.in_ok-joined.ensures.ok in
    record {
      ok = hold_made c.args.held.now.items c.args.counts.now
          (record { holder = c.args.holder; key = key_in c.args.intake.now }) c.args.choice
          c.index_mut-records.result.now c.take_in.new.self (key_in c.args.intake.now) c.in_ok-joined.joined
          (omega (arith, c.len.ensures, c.if-holder-len.false)) c.index_mut-records.ensures.value refl k.0 k.1;
      same = tt;
      err = tt;
    }
