-- The refusal numbers of stream faults.
use Rattle.std.specs.Prelude.{ℕ}
use Rattle.fx_session.specs.declared.stream_fault.StreamFault.{StreamFault}
use Rattle.fx_session.specs.declared.stream_fault.StreamFault.TheVariants as faults
use Rattle.fx_wire.specs.Refusals as wire
use Rattle.fx_base.specs.Refusals.{no_template, prefix_length, record_past_set, template_changed, template_counter_length, want_of_memory}

abbrev pub number_of : StreamFault → ℕ
number_of (faults.Malformed why) = wire.number_of why
number_of faults.TemplateIdInUse = template_changed
number_of faults.NoTemplate = no_template
number_of faults.CounterLength = template_counter_length
number_of faults.CutRecord = record_past_set
number_of faults.PrefixLength = prefix_length
number_of faults.OutOfMemory = want_of_memory
