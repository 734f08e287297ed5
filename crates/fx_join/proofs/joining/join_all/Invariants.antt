use Rattle.std.proofs.Common.{◌≡◌, ◌≤◌, ◌+◌, ◌*◌, ◌^◌, List, ℕ, suc, length}
use Rattle.fx_join.specs.Joins.{JoinsMore}
use Rattle.fx_join.specs.PartChecks.{IsPartText}
use Rattle.fx_join.specs.PartTexts.{PartText}
use Rattle.fx_join.specs.Streams.{IsReadFrom, octet_budget, octets_of}
use Rattle.fx_join.proofs.PartsRead.{HasRead}
use Rattle.fx_join.proofs.joining.join_all.Given as goal

abbrev pub invariant-parts : goal.invariant-parts
invariant-parts g l =
    let left = g.P.Source.left in
    let asked = g.P.Source.calls in
    record {
      read : (texts : List PartText)
          × HasRead (IsPartText l.initial.join.whole) (left l.initial.parts) (octets_of l.stream (left l.parts)) texts
          × (l.number ≡ suc (length texts));
      more : JoinsMore l.initial.join l.join;
      few : l.number + octet_budget l.stream ≤ 2 ^ 32 * 4097 + 1;
      from : IsReadFrom (left l.initial.parts) (asked l.initial.parts) l.stream.calls (left l.parts) (asked l.parts);
    }

abbrev pub decreases-parts : goal.decreases-parts
decreases-parts g l = octet_budget l.stream
