-- The answers of the reader of messages.
use Rattle.fx_wire.specs.Messages.{Front, needs_more, complete, refusal}
use Rattle.fx_wire.specs.declared.message.Parsed.{Parsed}
use Rattle.fx_wire.specs.declared.message.Parsed.TheVariants as parsed

-- the front that a parser's answer stands for
abbrev pub front_of : Parsed → Front
front_of parsed.NeedsMore = needs_more
front_of (parsed.Message m) = complete m
front_of (parsed.Refused why) = refusal why
