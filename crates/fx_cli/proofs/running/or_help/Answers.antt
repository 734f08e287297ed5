use Rattle.std.proofs.Common.{◌≡◌, arith, length, string_bytes}
use Rattle.fx_cli.proofs.AnswersGiven.{helped}
use Rattle.fx_cli.proofs.running.or_help.Goals as goal

pub returns-then-len-eq1 : goal.returns-then-len-eq1
returns-then-len-eq1 c =
    let one : length c.args.arguments.items ≡ 1 = omega (arith, c.len.ensures, c.if-len-eq1.true) in
    helped string_bytes c.args.arguments.items c.push.new.self.items c.args.on_terminal c.in_ok-from_str.field-0
    c.if-on_terminal.true one c.in_ok-from_str.ensures.ok c.in_ok-push.ensures.items
