use Rattle.std.proofs.lemmas.Slice.Eq.{bytes_eq-Decides}
use Rattle.fx_base.proofs.name.Name.same.Goals as goal

pub returns : goal.returns
returns c = rw c.eq.ensures (bytes_eq-Decides c.args.self.now c.args.other.now)
