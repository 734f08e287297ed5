use Rattle.std.proofs.Common.{◌∙◌, ap, codes}
use Rattle.clap.specs.Words.{App, new_rule, with_rule}
use Rattle.fx_command_line.specs.CommandLine.{class_rule, over_answer}
use Rattle.fx_command_line.proofs.BuiltCommands.{with_arg}
use Rattle.fx_command_line.proofs.commands.draw_command.Goals as goal

pub returns-clause-app : goal.returns-clause-app
returns-clause-app c =
    let three = c.in_ok-command-2.ensures.app
    ∙ ap (λ (a : App). with_rule a (new_rule (codes "ANSWER"))) c.in_ok-command.ensures.app in
    with_arg c.in_ok-command-2.command c.class.result c.arg.result (over_answer (codes "draw")) class_rule c.arg.ensures
    three c.class.ensures.rule c.class.ensures.local
