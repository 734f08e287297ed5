use Rattle.std.proofs.Common.{◌≡◌, ℕ, ◌<◌, false, get_or, nat_lt}
use Rattle.fx_elements.specs.Axes.{axis_index}
use Rattle.fx_layout.specs.declared.layout.Part.{Part}
use Rattle.fx_layout.proofs.layout.place_for.Given as goal

-- none of the parts so far is of a later axis
abbrev pub invariant-loop-place : goal.invariant-loop-place
invariant-loop-place l = (d : Part) (k : ℕ) → k < l.place
    → nat_lt (axis_index l.axis) (axis_index (get_or l.parts k d).axis) ≡ false
