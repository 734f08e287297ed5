-- The limits of a network document.
use Rattle.std.specs.Prelude.{ℕ}
use Rattle.fx_topology.specs.declared.limits.Sizes.{Sizes}

-- The most devices.
abbrev pub device_limit : ℕ
device_limit = 64

-- The most links.
abbrev pub link_limit : ℕ
link_limit = 1024

-- The most collecting processes, of all devices together.
abbrev pub process_limit : ℕ
process_limit = 256

-- the sizes of the documents of commands
abbrev pub command_sizes : Sizes
command_sizes = record { devices = device_limit; links = link_limit; processes = process_limit }

-- The most fields of the report's key.
abbrev pub key_field_limit : ℕ
key_field_limit = 32
