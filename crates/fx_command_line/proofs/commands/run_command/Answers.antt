use Rattle.std.proofs.Common.{◌∙◌, ap, codes}
use Rattle.clap.specs.Words.{App, with_rule}
use Rattle.fx_command_line.specs.CommandLine.{file_rule, links_rule, over_capture}
use Rattle.fx_command_line.proofs.BuiltCommands.{with_arg}
use Rattle.fx_command_line.proofs.commands.run_command.Goals as goal

pub returns-clause-app : goal.returns-clause-app
returns-clause-app c =
    let four = c.in_ok-command-2.ensures.app
    ∙ ap (λ (a : App). with_rule a (file_rule (codes "SCHEDULE"))) c.in_ok-command.ensures.app in
    with_arg c.in_ok-command-2.command c.links.result c.arg.result (over_capture (codes "run")) links_rule c.arg.ensures
    four c.links.ensures.rule c.links.ensures.local
