use Rattle.std.proofs.Common.{◌≡◌, ◌∙◌, ap, List, [], ◌∷◌, ◌++◌, rules}
use Rattle.clap.specs.declared.builder.command.Command.{Command}
use Rattle.fx_command_line.proofs.BuiltCommands.{all_commands, is_built}
use Rattle.fx_command_line.proofs.commands.command_line.Goals as goal

pub returns : goal.returns
returns c =
    let behind = λ (x : Command) (xs : List Command). xs ++ x ∷ [] in
    let none : c.new-commands.result.items ≡ [] = search (rules, c.new-commands.ensures) in
    let replay = c.in_ok-add.ensures in
    let collect = c.in_ok-add-2.ensures in
    let check = c.in_ok-add-3.ensures in
    let confirm = c.in_ok-add-4.ensures in
    let audit = c.in_ok-add-5.ensures in
    let run = c.in_ok-add-6.ensures in
    let lint = c.in_ok-add-7.ensures in
    let draw = c.in_ok-add-8.ensures in
    let sum = c.in_ok-add-9.ensures in
    let join = c.in_ok-add-10.ensures in
    let explain = c.in_ok-add-11.ensures in
    let all = explain.2 ∙ ap (behind explain.0) (join.2 ∙ ap (behind join.0)
    (sum.2 ∙ ap (behind sum.0) (draw.2 ∙ ap (behind draw.0)
    (lint.2 ∙ ap (behind lint.0) (run.2 ∙ ap (behind run.0)
    (audit.2 ∙ ap (behind audit.0) (confirm.2
    ∙ ap (behind confirm.0) (check.2 ∙ ap (behind check.0)
    (collect.2 ∙ ap (behind collect.0) (replay.2 ∙ ap (behind replay.0) none)))))))))) in
    all_commands c.program.result replay.0 collect.0 check.0 confirm.0 audit.0 run.0 lint.0 draw.0 sum.0 join.0
    explain.0 _ c.subcommands.result c.subcommands.ensures all c.program.ensures (
      is_built c.replay_command.result replay.0 _ replay.1 c.replay_command.ensures.app c.replay_command.ensures.local,
      is_built c.collect_command.result collect.0 _ collect.1 c.collect_command.ensures.app
          c.collect_command.ensures.local,
      is_built c.check_command.result check.0 _ check.1 c.check_command.ensures.app c.check_command.ensures.local,
      is_built c.confirm_command.result confirm.0 _ confirm.1 c.confirm_command.ensures.app
          c.confirm_command.ensures.local,
      is_built c.audit_command.result audit.0 _ audit.1 c.audit_command.ensures.app c.audit_command.ensures.local,
      is_built c.run_command.result run.0 _ run.1 c.run_command.ensures.app c.run_command.ensures.local,
      is_built c.lint_command.result lint.0 _ lint.1 c.lint_command.ensures.app c.lint_command.ensures.local,
      is_built c.draw_command.result draw.0 _ draw.1 c.draw_command.ensures.app c.draw_command.ensures.local,
      is_built c.sum_command.result sum.0 _ sum.1 c.sum_command.ensures.app c.sum_command.ensures.local,
      is_built c.join_command.result join.0 _ join.1 c.join_command.ensures.app c.join_command.ensures.local,
      is_built c.explain_command.result explain.0 _ explain.1 c.explain_command.ensures.app
          c.explain_command.ensures.local,
    )
