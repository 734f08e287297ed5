use Rattle.std.proofs.Common.{◌≡◌, take}
use Rattle.fx_config.specs.CacheLayouts.{layout_of}
use Rattle.fx_config.proofs.cache_layout.layout_of.Given as goal

abbrev pub invariant-loop-field : goal.invariant-loop-field
invariant-loop-field l = l.layout ≡ layout_of (take l.field-index l.fields)
