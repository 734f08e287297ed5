use Rattle.std.proofs.Common.{List, ℕ, [], ◌∷◌, ◌++◌, map, take, get_or, ap, sym, subst, ◌∙◌}
use Rattle.std.proofs.lemmas.List.{map_push, take_all, take_more}
use Rattle.std.proofs.lemmas.Result.{err_from_is_err_and}
use Rattle.fx_base.proofs.Writing.{writes_both}
use Rattle.fx_base.specs.Device.{Writes}
use Rattle.fx_base.specs.Fault.{shown}
use Rattle.fx_base.proofs.put.put_shown.Goals as goal

pub loop-octet-preserved : goal.loop-octet-preserved
loop-octet-preserved g c =
    let taken = g.S.Sink.taken in
    let text = c.args.text.now in
    let n = c.loop-octet.octet-index in
    let more = ap (λ (octet : ℕ). map shown (take n text) ++ octet ∷ []) c.shown_octet.ensures
    ∙ sym (map_push shown (take n text) (get_or text n 0))
    ∙ ap (λ (octets : List ℕ). map shown octets) (sym (take_more text n 0 c.loop-octet-test.true)) in
    record {
      taken = writes_both (taken c.args.sink.now) (taken c.loop-octet.sink) (taken c.put_text.new.sink) _ _ _
          c.loop-octet.invariant.taken c.in_ok-put_text.ensures.ok more;
      going = λ going. c.in_ok-put_text.ensures.going (c.loop-octet.invariant.going going);
    }

pub returns-in_err-put_text : goal.returns-in_err-put_text
returns-in_err-put_text g c =
    let p = err_from_is_err_and c.from_residual.result c.from_residual.ensures.1 in
    rw (p.1, p.2) (record { ok = tt; going = tt; err = c.in_err-put_text.ensures.err })

pub returns : goal.returns
returns g c =
    let taken = g.S.Sink.taken in
    record {
      ok = subst (λ (octets : List ℕ). Writes (taken c.args.sink.now) (taken c.loop-octet.sink) (map shown octets))
          (take_all c.loop-octet.octet-index c.args.text.now c.loop-octet-test.false) c.loop-octet.invariant.taken;
      going = c.loop-octet.invariant.going;
      err = tt;
    }
