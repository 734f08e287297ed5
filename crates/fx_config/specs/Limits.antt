-- The largest number of entries in the lists of a device's document (RFC 7950, section 7.7.5, `max-elements`).
use Rattle.std.specs.Prelude.{ℕ}

-- The largest number of entries of a list for which no other limit is named.
abbrev pub entry_limit : ℕ
entry_limit = 256

-- The largest number of selectors of a selection process.
abbrev pub selector_limit : ℕ
selector_limit = 16

-- The largest number of fields of a layout: a cache's, or the key of an aggregation.
abbrev pub field_limit : ℕ
field_limit = 32
