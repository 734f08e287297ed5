use Rattle.std.proofs.Common.{◌≡◌, length, Err}
use Rattle.std.specs.Prelude.{is_ok}
use Rattle.fx_wire.specs.Sets.{sets_of}
use Rattle.fx_wire.specs.declared.malformed.Malformed.{Malformed}
use Rattle.fx_wire.proofs.set.check_sets.Given as goal

-- what is left is as well formed as all of it
abbrev pub invariant-loop-rest : goal.invariant-loop-rest
invariant-loop-rest l = record {
  ok : is_ok (sets_of l.octets) ≡ is_ok (sets_of l.rest);
  err : (why : Malformed) → sets_of l.rest ≡ Err why → sets_of l.octets ≡ Err why;
}

abbrev pub decreases-loop-rest : goal.decreases-loop-rest
decreases-loop-rest l = length l.rest
