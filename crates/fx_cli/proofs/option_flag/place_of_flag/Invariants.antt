use Rattle.std.proofs.Common.{◌≤◌, string_bytes}
use Rattle.fx_cli.specs.OptionFlag.{IsUnmarked}
use Rattle.fx_cli.proofs.option_flag.place_of_flag.Given as goal

-- no word up to here is marked
abbrev pub invariant-loop-index : goal.invariant-loop-index
invariant-loop-index l = record {
  unmarked : IsUnmarked l.flag string_bytes l.words l.index;
  from : 1 ≤ l.index;
}
