-- Each holder before the place has a layout.
use Rattle.std.proofs.Common.{ℕ, ◌<◌, slice_get}
use Rattle.fx_layout.specs.Keys.{IsLayout}
use Rattle.fx_tables.specs.Network.{layout_of}
use Rattle.fx_conform.proofs.networks.have_layouts.Given as goal

abbrev pub invariant-loop-holder : goal.invariant-loop-holder
invariant-loop-holder l = (n : ℕ) → n < l.holder-index → IsLayout (layout_of (slice_get l.holders n))
