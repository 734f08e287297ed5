use Rattle.std.proofs.Common.{◌≡◌, ℕ, ◌<◌, List, length, get_or, None}
use Rattle.fx_elements.specs.declared.axis.Axis.TheVariants.{Source}
use Rattle.fx_elements.specs.Axes.{axes, axis_count}
use Rattle.fx_session.specs.Parts.{bits_of}
use Rattle.fx_session.specs.Places.{found_at}
use Rattle.fx_session.proofs.places.bits_of_places.Given as goal

-- the bits of the axes so far
abbrev pub invariant-loop-k : goal.invariant-loop-k
invariant-loop-k l = record {
  count : length l.bits ≡ axis_count;
  reported : (k : ℕ) → k < l.k → (octets : List ℕ) → get_or l.bits k 0
      ≡ bits_of (found_at octets (get_or axes k Source) (get_or l.places k None));
}
