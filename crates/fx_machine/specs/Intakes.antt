-- The keys under which holders add records.
use Rattle.fx_layout.specs.Keys.{Key}
use Rattle.fx_tables.specs.Holdings.{holding_of}
use Rattle.fx_machine.specs.declared.intake.Intake.{Intake}
use Rattle.fx_machine.specs.declared.intake.Intake.TheVariants.{Keyed, Met}

abbrev pub key_in : Intake → Key
key_in (Keyed key) = key.now
key_in (Met net occurrence fields) = (holding_of net.now.holders fields.now occurrence.now).key
