use Rattle.std.proofs.Common.{true}
use Rattle.std.proofs.lemmas.List.{take-replicate}
use Rattle.fx_machine.proofs.coming.FewMarks.new.Goals as goal

pub returns : goal.returns
returns c = take-replicate c.args.count 14 true c.requires
