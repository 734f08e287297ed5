use Rattle.std.proofs.Common.{◌≡◌, ℕ, ◌<◌, length, get_or, None}
use Rattle.fx_elements.specs.declared.axis.Axis.TheVariants.{Source}
use Rattle.fx_elements.specs.Axes.{axes, axis_count}
use Rattle.fx_session.specs.Flows.{is_value}
use Rattle.fx_session.specs.Places.{place_where}
use Rattle.fx_session.proofs.places.places_of.Given as goal

-- the places of the axes so far
abbrev pub invariant-loop-k : goal.invariant-loop-k
invariant-loop-k l = record {
  count : length l.places ≡ axis_count;
  placed : (k : ℕ) → k < l.k → get_or l.places k None ≡ place_where (is_value (get_or axes k Source)) 0 l.fields;
}
