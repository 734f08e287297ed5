use Rattle.fx_tables.specs.NamedAxes.{HasSixValues, HasZerosElsewhere, is_of_six}
use Rattle.fx_machine.proofs.AlikeClaims.{modulo_iff, once_iff, six_cover, zeros_are, zeros_cover}
use Rattle.fx_machine.proofs.laws.six_axes_suffice.Goals as goal

pub returns-clause-once : goal.returns-clause-once
returns-clause-once c net classes only classes_only =
    once_iff is_of_six (HasZerosElsewhere is_of_six) (zeros_cover is_of_six) net classes only classes_only

pub returns-clause-modulo : goal.returns-clause-modulo
returns-clause-modulo c net classes only classes_only =
    modulo_iff is_of_six (HasZerosElsewhere is_of_six) (zeros_cover is_of_six) net classes only classes_only

pub returns-clause-zeros : goal.returns-clause-zeros
returns-clause-zeros c p = zeros_are p

pub returns-clause-once_of_six_values : goal.returns-clause-once_of_six_values
returns-clause-once_of_six_values c net classes only classes_only =
    once_iff is_of_six HasSixValues six_cover net classes only classes_only

pub returns-clause-modulo_of_six_values : goal.returns-clause-modulo_of_six_values
returns-clause-modulo_of_six_values c net classes only classes_only =
    modulo_iff is_of_six HasSixValues six_cover net classes only classes_only
