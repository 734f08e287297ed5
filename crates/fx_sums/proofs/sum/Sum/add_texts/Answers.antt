use Rattle.std.proofs.Common.{ℕ, Option, inl, inr, subst}
use Rattle.std.proofs.lemmas.Result.{err_from_is_err_and}
use Rattle.fx_base.proofs.GoingOn.{goes_then}
use Rattle.fx_sums.specs.SumReading.{sum_with, GivesText}
use Rattle.fx_sums.proofs.TextsOn.{texts_first, texts_none, texts_one, texts_refused}
use Rattle.fx_sums.proofs.sum.Sum.add_texts.Goals as goal

pub returns-in_err-keys-clause-err : goal.returns-in_err-keys-clause-err
returns-in_err-keys-clause-err g c =
    let p = err_from_is_err_and c.from_residual.result c.from_residual.ensures.1 in
    rw (p.1, p.2) (inr (texts_none c.args.self.now c.args.lines.now c.read_number.new.lines _
    c.in_err-keys.ensures.err))

pub texts-init : goal.texts-init
texts-init g c = record {
  going = c.in_ok-keys.ensures.on.going;
  on = c.in_ok-keys.ensures.on.on;
  reads = texts_first c.args.self.now c.args.lines.now c.read_number.new.lines c.in_ok-keys.keys
      c.in_ok-keys.ensures.ok;
}

pub returns-in_err-next-clause-err : goal.returns-in_err-next-clause-err
returns-in_err-next-clause-err g c =
    let p = err_from_is_err_and c.from_residual-in_err-next.result c.from_residual-in_err-next.ensures.1 in
    let here = c.texts in
    rw (p.1, p.2) (elim c.in_err-next.ensures.err [
      | inl memory ↦ inl memory
      | inr refused ↦ inr (texts_refused c.args.self.now c.args.lines.now here.lines here.keys here.self
          here.invariant.reads c.add_text.new.lines _ here.invariant.going here.invariant.on refused)
    ])

pub texts-preserved : goal.texts-preserved
texts-preserved g c =
    let here = c.texts in
    let new = c.add_text.new.lines in
    let gives = subst (λ (next : Option ℕ). GivesText (sum_with here.keys here.self) here.lines new c.add_text.new.self
    next) c.in-Some.is c.in_ok-next.ensures.ok in
    record {
      going = gives.0.going;
      on = goes_then c.args.lines.now here.lines new here.invariant.on gives.0.on;
      reads = texts_one c.args.self.now c.args.lines.now here.lines here.keys here.self here.invariant.reads new
          c.in-Some.next c.add_text.new.self gives;
    }
