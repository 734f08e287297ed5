use Rattle.std.proofs.Common.{ℕ, ◌++◌, ap, map, sym}
use Rattle.std.proofs.lemmas.Result.{err_from_is_err_and}
use Rattle.fx_wire.specs.Sets.{set_parts}
use Rattle.fx_wire.specs.Writing.{origin_octets, sets_octets, version_octets}
use Rattle.fx_base.proofs.Writing.{going_then, writes_3}
use Rattle.fx_wire.proofs.put.put_message.Goals as goal

pub returns-in_err-put_version : goal.returns-in_err-put_version
returns-in_err-put_version g c =
    let p = err_from_is_err_and c.from_residual.result c.from_residual.ensures.1 in
    rw (p.1, p.2) (record { ok = tt; going = tt; err = c.in_err-put_version.ensures.err })

pub returns-in_err-put_origin : goal.returns-in_err-put_origin
returns-in_err-put_origin g c =
    let p = err_from_is_err_and c.from_residual-in_err-put_origin.result c.from_residual-in_err-put_origin.ensures.1 in
    rw (p.1, p.2) (record { ok = tt; going = tt; err = c.in_err-put_origin.ensures.err })

pub returns : goal.returns
returns g c =
    let taken = g.S.Sink.taken in
    let failed = g.S.Sink.failed in
    record {
      ok = writes_3 c.put_sets.result (taken c.args.sink.now) (taken c.put_version.new.sink)
          (taken c.put_origin.new.sink) (taken c.put_sets.new.sink) (version_octets c.in-Some.length)
          (origin_octets c.args.header.now) (sets_octets (map set_parts c.args.sets.now)) _
          c.in_ok-put_version.ensures.ok c.in_ok-put_origin.ensures.ok c.put_sets.ensures.ok
          (ap (λ (n : ℕ). version_octets n ++ (origin_octets c.args.header.now
          ++ sets_octets (map set_parts c.args.sets.now))) (sym c.in-Some.ensures.some));
      going = going_then c.put_sets.result (failed c.args.sink.now) (failed c.put_version.new.sink)
          (failed c.put_sets.new.sink) c.in_ok-put_version.ensures.going
          (going_then c.put_sets.result (failed c.put_version.new.sink) (failed c.put_origin.new.sink)
          (failed c.put_sets.new.sink) c.in_ok-put_origin.ensures.going c.put_sets.ensures.going);
      err = c.put_sets.ensures.err;
    }
