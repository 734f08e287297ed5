use Rattle.std.proofs.Common.{◌≡◌, ◌++◌, ◌∷◌, [], ◌∙◌, ℕ, List, ap, sym, subst, arith, inl, inr, length}
use Rattle.std.proofs.lemmas.Result.{err_from_is_err_and}
use Rattle.fx_tables.specs.Network.{Net}
use Rattle.fx_join.specs.PartChecks.{IsPartText}
use Rattle.fx_join.proofs.PartsRead.{one_longer, part_read, read_all}
use Rattle.fx_join.proofs.Stops.{joins_then, stops_at_none, stops_at_part}
use Rattle.fx_join.proofs.joining.join_all.Goals as goal

pub returns-in_err-join_part-in-Part-clause-err : goal.returns-in_err-join_part-in-Part-clause-err
returns-in_err-join_part-in-Part-clause-err g c =
    let p = err_from_is_err_and c.from_residual-in_err-join_part-in-Part.result
    c.from_residual-in_err-join_part-in-Part.ensures.1 in
    let read = c.parts.invariant.read in
    rw (p.1, p.2) (stops_at_part c.args.join.now.whole _ _ _ read.0 c.in-Part.part c.parts.number _ _ read.1
    (rw c.in-Part.is at c.in_ok-part.ensures.next) read.2 c.in_err-join_part-in-Part.ensures.err)

pub returns-in-Other-clause-err : goal.returns-in-Other-clause-err
returns-in-Other-clause-err g c =
    let read = c.parts.invariant.read in
    stops_at_none c.args.join.now.whole _ _ read.0 c.parts.number _ _ read.1
    (rw c.in-Other.is at c.in_ok-part.ensures.next) read.2 c.refusal_at_part.ensures

pub returns-in-End-clause-ok : goal.returns-in-End-clause-ok
returns-in-End-clause-ok g c =
    let read = c.parts.invariant.read in
    let all = read_all (IsPartText c.args.join.now.whole) _ _ read.0 read.1
    (rw c.in-End.is at c.in_ok-part.ensures.next) in
    (all.0, all.1, (read.0, all.2))

pub parts-preserved : goal.parts-preserved
parts-preserved g c =
    let read = c.parts.invariant.read in
    let part = c.in-Part.part in
    let joined = c.in_ok-join_part-in-Part.ensures in
    let own = subst (λ (whole : Net). IsPartText whole part) c.parts.invariant.more.whole joined.part in
    record {
      read = (
        read.0 ++ part ∷ [],
        part_read (IsPartText c.args.join.now.whole) _ _ _ read.0 part read.1
            (rw c.in-Part.is at c.in_ok-part.ensures.next) own,
        omega (arith, read.2, one_longer read.0 part),
      );
      more = joins_then _ _ _ c.parts.invariant.more joined.more;
      few = omega (arith, c.parts.invariant.few, c.in_ok-part.ensures.smaller part c.in-Part.is);
      from = c.in_ok-part.ensures.on part c.in-Part.is _ _ c.parts.invariant.from;
    }
