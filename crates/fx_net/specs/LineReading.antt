-- How the lines of a schedule are read.
use Rattle.std.specs.Prelude.{ℕ, if◌then◌else◌, List, codes, Option, Some, None}
use Rattle.std.specs.Str.{bytes_eq}
use Rattle.fx_elements.specs.Spelling.{◌>>=◌}
use Rattle.fx_elements.specs.Words.{Words, words, first_word, number_first}
use Rattle.fx_run_text.specs.RunReading.{at_end}
use Rattle.fx_net.specs.declared.action.Action.{Action}
use Rattle.fx_net.specs.declared.action.Action.TheVariants.{Next, NextOf, Expire, Emit, Carry, Use}
use Rattle.fx_net.specs.Schedule.{is_piece}

unfoldable pub next_of : Words → Option Action
next_of ws = do
  class ← number_first ws
  path ← number_first class.1
  at_end (NextOf class.0 path.0) path.1

unfoldable pub expire_of : Words → Option Action
expire_of ws = do
  device ← number_first ws
  cache ← number_first device.1
  at_end (Expire device.0 cache.0) cache.1

unfoldable pub emit_of : Words → Option Action
emit_of ws = do
  device ← number_first ws
  process ← number_first device.1
  aggregation ← number_first process.1
  at_end (Emit device.0 process.0 aggregation.0) aggregation.1

unfoldable pub carry_of : Words → Option Action
carry_of ws = do
  link ← number_first ws
  octets ← number_first link.1
  if is_piece octets.0 then at_end (Carry link.0 octets.0) octets.1 else None

unfoldable pub use_of : Words → Option Action
use_of ws = do
  device ← number_first ws
  exporter ← number_first device.1
  destination ← number_first exporter.1
  at_end (Use device.0 exporter.0 destination.0) destination.1

-- the action of this kind that consists of all of these words
unfoldable pub kind_of : List ℕ → Words → Option Action
kind_of kind ws =
    if bytes_eq kind (codes "next") then next_of ws
    else if bytes_eq kind (codes "expire") then expire_of ws
    else if bytes_eq kind (codes "emit") then emit_of ws
    else if bytes_eq kind (codes "carry") then carry_of ws
    else if bytes_eq kind (codes "use") then use_of ws
    else None

unfoldable pub words_of : Words → Option Action
words_of ws = do
  kind ← first_word ws
  kind_of kind.0 kind.1

-- the action that a line requests, if it requests one
abbrev pub action_of : List ℕ → Option Action
action_of line = if bytes_eq line (codes "next") then Some Next else words_of (words line)
