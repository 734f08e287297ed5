use Rattle.fx_tables.specs.NamedAxes.{HasSixValues, is_of_six}
use Rattle.fx_machine.proofs.AlikeClaims.{modulo_iff, once_iff, six_cover}
use Rattle.fx_plan.specs.Tables.{net_of}
use Rattle.fx_plan.proofs.NamedNets.{net_names}
use Rattle.fx_plan.proofs.laws.documents_name_axes.Goals as goal

pub returns-clause-names : goal.returns-clause-names
returns-clause-names c named network only = net_names named network only

pub returns-clause-once : goal.returns-clause-once
returns-clause-once c network classes only classes_only =
    once_iff is_of_six HasSixValues six_cover (net_of network) classes (net_names is_of_six network only) classes_only

pub returns-clause-modulo : goal.returns-clause-modulo
returns-clause-modulo c network classes only classes_only =
    modulo_iff is_of_six HasSixValues six_cover (net_of network) classes (net_names is_of_six network only) classes_only
