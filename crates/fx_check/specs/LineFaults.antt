-- The numbers of the faults of a certificate's lines.
use Rattle.std.specs.Prelude.{ℕ}
use Rattle.fx_check.specs.declared.line_fault.LineFault.{LineFault}
use Rattle.fx_check.specs.declared.line_fault.LineFault.TheVariants as faults
use Rattle.fx_base.specs.Refusals.{certificate_cut, certificate_header, certificate_line, certificate_order, line_behind_end, split_not_inside, split_too_deep, too_many_lines}

abbrev pub number_of : LineFault → ℕ
number_of faults.Header = certificate_header
number_of faults.Form = certificate_line
number_of faults.Place = certificate_order
number_of faults.SplitPlace = split_not_inside
number_of faults.Cut = certificate_cut
number_of faults.BehindEnd = line_behind_end
number_of faults.SplitDepth = split_too_deep
number_of faults.LineCount = too_many_lines
number_of (faults.Leaf number) = number
