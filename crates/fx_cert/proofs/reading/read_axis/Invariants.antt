use Rattle.std.proofs.Common.{◌≡◌, drop}
use Rattle.std.specs.List.{find}
use Rattle.std.specs.Str.{bytes_eq}
use Rattle.fx_elements.specs.Axes.{axes}
use Rattle.fx_cert.specs.ItemText.{axis_word}
use Rattle.fx_cert.specs.ItemReading.{axis_of}
use Rattle.fx_cert.proofs.reading.read_axis.Given as goal

-- none of the axes so far has the word
abbrev pub invariant-loop-axis : goal.invariant-loop-axis
invariant-loop-axis l = axis_of l.text ≡ find (λ axis. bytes_eq l.text (axis_word axis)) (drop l.axis-index axes)
