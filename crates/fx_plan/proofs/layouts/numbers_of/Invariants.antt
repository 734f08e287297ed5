use Rattle.std.proofs.Common.{◌≡◌, ◌<◌, ◌≤◌, ℕ, take, drop, length, slice_get}
use Rattle.fx_layout.specs.Keys.{Fits}
use Rattle.fx_tables.specs.Network.{layout_of}
use Rattle.fx_plan.specs.Layouts.{AreNumbers, held_layouts, with_layouts}
use Rattle.fx_tables.specs.Limits.{layout_limit}
use Rattle.fx_plan.proofs.layouts.numbers_of.Given as goal

abbrev pub invariant-loop-holder : goal.invariant-loop-holder
invariant-loop-holder l =
    record {
      known : with_layouts l.known.items (held_layouts (drop l.holder-index l.holders))
          ≡ with_layouts l.initial.known.items (held_layouts l.holders);
      numbers : AreNumbers l.known.items (take l.holder-index l.holders) l.numbers.items;
      fits : (k : ℕ) → k < l.holder-index → Fits (layout_of (slice_get l.holders k));
      few : length l.known.items ≤ layout_limit;
    }
