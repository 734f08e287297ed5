use Rattle.fx_leaf.proofs.path.PathReader.bound_at.Goals as goal

pub unreachable-requires : goal.unreachable-requires
unreachable-requires c = c.in-None.ensures.none 0 0 0 (c.requires.cut 0 0 0)

pub returns : goal.returns
returns c = c.in-Some.ensures.some
