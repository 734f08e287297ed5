use Rattle.std.proofs.Common.{◌≡◌, ◌∙◌, Bool, arith, false, rules, string_bytes, sym}
use Rattle.fx_checker.specs.Arguments.{is_help_request}
use Rattle.fx_checker.proofs.running.put_usage.Goals as goal

pub returns-else-asks_for_help-clause-ended : goal.returns-else-asks_for_help-clause-ended
returns-else-asks_for_help-clause-ended g c =
    let no : is_help_request string_bytes c.args.arguments.now ≡ false = sym c.asks_for_help.ensures
    ∙ c.if-asks_for_help.false in
    rw no (first_of (grind arith, search rules))
