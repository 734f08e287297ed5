use Rattle.std.proofs.Common.{◌∙◌, ap}
use Rattle.std.proofs.lemmas.Result.{err_from_is_err_and}
use Rattle.std.specs.Prelude.{is_ok}
use Rattle.fx_wire.proofs.SetLists.{sets_of-first, sets_of-refused, sets_of-none, is_ok-before, err_before, some_octets, no_octets}
use Rattle.fx_wire.specs.Sets.{sets_of}
use Rattle.fx_wire.proofs.set.check_sets.Goals as goal

pub loop-rest-preserved : goal.loop-rest-preserved
loop-rest-preserved c =
    let f = sets_of-first c.loop-rest.rest.now _ c.in_ok-rest.ensures in
    record {
      ok = c.loop-rest.invariant.ok ∙ ap is_ok f.0 ∙ is_ok-before _ _;
      err = λ n e. c.loop-rest.invariant.err n (f.0 ∙ err_before _ _ n e);
    }

pub returns-in_err-rest : goal.returns-in_err-rest
returns-in_err-rest c =
    let p = err_from_is_err_and c.from_residual.result c.from_residual.ensures.1 in
    rw (p.1, p.2) (c.loop-rest.invariant.err _
    (sets_of-refused c.loop-rest.rest.now _ (some_octets _ _ c.is_empty.ensures c.loop-rest-test.true)
    c.in_err-rest.ensures))

pub returns : goal.returns
returns c = c.loop-rest.invariant.ok ∙ ap (λ bs. is_ok (sets_of bs))
    (no_octets _ _ c.is_empty.ensures c.loop-rest-test.false) ∙ ap is_ok sets_of-none
