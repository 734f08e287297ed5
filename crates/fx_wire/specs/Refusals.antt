-- The refusal numbers of malformed octets.
use Rattle.std.specs.Prelude.{ℕ}
use Rattle.fx_wire.specs.declared.malformed.Malformed.{Malformed}
use Rattle.fx_wire.specs.declared.malformed.Malformed.TheVariants as malformed
use Rattle.fx_base.specs.Refusals.{message_length, message_version, reserved_set, set_length, template_form}

abbrev pub number_of : Malformed → ℕ
number_of malformed.Version = message_version
number_of malformed.MessageLength = message_length
number_of malformed.SetLength = set_length
number_of malformed.Template = template_form
number_of malformed.SetId = reserved_set
