use Rattle.std.proofs.Common.{refl}
use Rattle.fx_words.specs.Table.{devices, networks, traffic, certificates, refutations, streams, captures, runs, machine}
use Rattle.fx_words.proofs.laws.each_number_has_its_words.Goals as goal

pub returns : goal.returns
unfolding devices networks traffic certificates refutations streams captures runs machine
returns c = refl
