use Rattle.std.proofs.lemmas.Result.{err_from_is_err_and}
use Rattle.std.proofs.Common.{ℕ, ◌/◌, ◌%◌, ◌^◌, List, [], ◌∷◌, Option, Result, Ok, Err, OnOk, refl}
use Rattle.fx_base.specs.Device.{Writes}
use Rattle.fx_base.proofs.Writing.{writes_both, going_then}
use Rattle.fx_elements.specs.Groups.{group, half}
use Rattle.fx_elements.proofs.put.put_half.Goals as goal

-- four groups with colons between them, where the last is written
writes_half : {A E : Type 0} (r : Result A E) (part : ℕ) (a b c d e f g h : Option (List ℕ))
    → Writes a b (group (part / 2 ^ 48)) → Writes b c (58 ∷ []) → Writes c d (group (part / 2 ^ 32 % 65536))
    → Writes d e (58 ∷ []) → Writes e f (group (part / 2 ^ 16 % 65536)) → Writes f g (58 ∷ [])
    → OnOk r (Writes g h (group (part % 65536))) → OnOk r (Writes a h (half part))
unfolding half
writes_half (Err _) part a b c d e f g h ab bc cd de ef fg gh = tt
writes_half (Ok _) part a b c d e f g h ab bc cd de ef fg gh =
    writes_both a b h _ _ _ ab (writes_both b c h _ _ _ bc
    (writes_both c d h _ _ _ cd (writes_both d e h _ _ _ de
    (writes_both e f h _ _ _ ef (writes_both f g h _ _ _ fg gh refl) refl) refl) refl) refl) refl

pub returns-in_err-put_group : goal.returns-in_err-put_group
returns-in_err-put_group g c =
    let p = err_from_is_err_and c.from_residual.result c.from_residual.ensures.1 in
    rw (p.1, p.2) (record { ok = tt; going = tt; err = c.in_err-put_group.ensures.err })

pub returns-in_err-put_text : goal.returns-in_err-put_text
returns-in_err-put_text g c =
    let p = err_from_is_err_and c.from_residual-in_err-put_text.result c.from_residual-in_err-put_text.ensures.1 in
    rw (p.1, p.2) (record { ok = tt; going = tt; err = c.in_err-put_text.ensures.err })

pub returns-in_err-put_group-2 : goal.returns-in_err-put_group-2
returns-in_err-put_group-2 g c =
    let p = err_from_is_err_and c.from_residual-in_err-put_group-2.result c.from_residual-in_err-put_group-2.ensures.1
    in
    rw (p.1, p.2) (record { ok = tt; going = tt; err = c.in_err-put_group-2.ensures.err })

pub returns-in_err-put_text-2 : goal.returns-in_err-put_text-2
returns-in_err-put_text-2 g c =
    let p = err_from_is_err_and c.from_residual-in_err-put_text-2.result c.from_residual-in_err-put_text-2.ensures.1 in
    rw (p.1, p.2) (record { ok = tt; going = tt; err = c.in_err-put_text-2.ensures.err })

pub returns-in_err-put_group-3 : goal.returns-in_err-put_group-3
returns-in_err-put_group-3 g c =
    let p = err_from_is_err_and c.from_residual-in_err-put_group-3.result c.from_residual-in_err-put_group-3.ensures.1
    in
    rw (p.1, p.2) (record { ok = tt; going = tt; err = c.in_err-put_group-3.ensures.err })

pub returns-in_err-put_text-3 : goal.returns-in_err-put_text-3
returns-in_err-put_text-3 g c =
    let p = err_from_is_err_and c.from_residual-in_err-put_text-3.result c.from_residual-in_err-put_text-3.ensures.1 in
    rw (p.1, p.2) (record { ok = tt; going = tt; err = c.in_err-put_text-3.ensures.err })

pub returns : goal.returns
returns g c =
    let failed = g.S.Sink.failed in
    record {
      ok = writes_half c.put_group-4.result c.args.part _ _ _ _ _ _ _ _ c.in_ok-put_group.ensures.ok
          c.in_ok-put_text.ensures.ok c.in_ok-put_group-2.ensures.ok c.in_ok-put_text-2.ensures.ok
          c.in_ok-put_group-3.ensures.ok c.in_ok-put_text-3.ensures.ok c.put_group-4.ensures.ok;
      going = going_then c.put_group-4.result (failed c.args.sink.now) (failed c.put_group.new.sink)
          (failed c.put_group-4.new.sink) c.in_ok-put_group.ensures.going
          (going_then c.put_group-4.result (failed c.put_group.new.sink) (failed c.put_text.new.sink)
          (failed c.put_group-4.new.sink) c.in_ok-put_text.ensures.going
          (going_then c.put_group-4.result (failed c.put_text.new.sink) (failed c.put_group-2.new.sink)
          (failed c.put_group-4.new.sink) c.in_ok-put_group-2.ensures.going
          (going_then c.put_group-4.result (failed c.put_group-2.new.sink) (failed c.put_text-2.new.sink)
          (failed c.put_group-4.new.sink) c.in_ok-put_text-2.ensures.going
          (going_then c.put_group-4.result (failed c.put_text-2.new.sink) (failed c.put_group-3.new.sink)
          (failed c.put_group-4.new.sink) c.in_ok-put_group-3.ensures.going
          (going_then c.put_group-4.result (failed c.put_group-3.new.sink) (failed c.put_text-3.new.sink)
          (failed c.put_group-4.new.sink) c.in_ok-put_text-3.ensures.going c.put_group-4.ensures.going)))));
      err = c.put_group-4.ensures.err;
    }
