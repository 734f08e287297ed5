-- The text of a line of a run after the first line, without its line feed.
use Rattle.std.specs.Prelude.{◌≢◌, ℕ, true, List, ◌∷◌, flat_map}
use Rattle.std.specs.List.{AllByRecursion, join_with_byte}
use Rattle.fx_run_text.specs.declared.run_line.RunLine.{RunLine}
use Rattle.fx_run_text.specs.declared.run_line.RunLine.TheVariants.{Packet, Step, End}
use Rattle.fx_run_text.specs.declared.text_version.TextVersion.{TextVersion}
use Rattle.fx_run_text.specs.RunText.{packet_words, step_words, last_words, IsPacket, CanSay, IsStep}
use Rattle.fx_run_text.specs.RunReading.{TextLine}

abbrev pub line_words : TextVersion → RunLine → List (List ℕ)
line_words version (Packet p) = packet_words version p
line_words version (Step s) = step_words s
line_words version End = last_words

abbrev pub run_line_text : TextVersion → RunLine → List ℕ
run_line_text version x = join_with_byte 32 (line_words version x)

-- the lines that have a text: values on their axes that the version can express, and numbers below 2 to the 64
abbrev pub IsRunLine : TextVersion → RunLine → Type 0
IsRunLine version (Packet p) = IsPacket p × CanSay version p.fields
IsRunLine version (Step s) = IsStep s
IsRunLine version End = Unit {0}

-- no line feed is in a line, and one ends it
abbrev pub IsOneLine : List ℕ → Type 0
IsOneLine line = AllByRecursion (λ b. b ≢ 10) line

abbrev pub ended_line : List ℕ → TextLine
ended_line line = (line, true)

-- each of these words, preceded by a space
abbrev pub spaced_words : List (List ℕ) → List ℕ
spaced_words ws = flat_map (λ w. 32 ∷ w) ws
