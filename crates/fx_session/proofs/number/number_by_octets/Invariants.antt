use Rattle.std.proofs.Common.{◌≡◌, ◌+◌, ◌*◌, ◌%◌, ◌^◌, take, fold}
use Rattle.fx_session.proofs.number.number_by_octets.Given as goal

abbrev pub invariant-loop-octet : goal.invariant-loop-octet
invariant-loop-octet l = l.number ≡ fold (λ n b. n * 256 + b) 0 (take l.octet-index l.octets) % 2 ^ 128
