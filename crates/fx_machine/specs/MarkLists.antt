-- The marks of a list, whichever way the list stores them.
use Rattle.std.specs.Prelude.{Bool, List}
use Rattle.fx_machine.specs.declared.coming.MarkList.{MarkList}
use Rattle.fx_machine.specs.declared.coming.MarkList.TheVariants.{Few, Many}

abbrev pub marks_in : MarkList → List Bool
marks_in (Few few) = few
marks_in (Many many) = many.value.items
