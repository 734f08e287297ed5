-- The program is built of its commands, each as its function says.
use Rattle.std.proofs.Common.{◌≡◌, ◌∙◌, false, sym, ap, ap₂, subst, List, [], ◌∷◌, codes}
use Rattle.std.specs.Prelude.{IfOk, Result, Ok, Err}
use Rattle.clap.specs.Words.{AddsArg, AddsInTurn, AddsSubcommand, app_of}
use Rattle.clap.specs.Walk.{Rule, rule_of}
use Rattle.clap.specs.Simple.{new_app, on_top, with_rule, with_subcommand, App, new_rule}
use Rattle.clap.specs.declared.builder.arg.Arg.{Arg}
use Rattle.clap.specs.declared.builder.command.Command.{Command}
use Rattle.clap.specs.declared.builder.command.Command.TheViews.{out-Command}
use Rattle.fx_command_line.specs.CommandLine.{class_rule, file_rule, limit_rule, links_rule, number_alone, once_app, over_answer, over_capture, over_documents, over_network, wants_command}

-- this command is built as this one, and has no flag that holds below it too
pub record IsBuilt (c : Command) (a : App) : Type 0 where
  pub app : app_of c ≡ a
  pub local : (out-Command c).has_globals ≡ false

-- what was made is built as its function says
pub is_built : {Z : Type 0} (r : Result Command Z) (c : Command) (a : App) → r ≡ Ok c → IfOk r (λ x. app_of x ≡ a)
    → IfOk r (λ x. (out-Command x).has_globals ≡ false) → IsBuilt c a
is_built {Z} r c a is app local = record {
  app = subst (λ (v : Result Command Z). IfOk v (λ x. app_of x ≡ a)) is app;
  local = subst (λ (v : Result Command Z). IfOk v (λ x. (out-Command x).has_globals ≡ false)) is local;
}

-- a command with one more argument
pub with_arg : {Z : Type 0} (command : Command) (arg : Arg) (r : Result Command Z) (a : App) (rule : Rule)
    → IfOk r (λ x. AddsArg command arg x)
    → app_of command ≡ a → rule_of arg ≡ rule → arg.global ≡ false → IfOk r (λ x. app_of x ≡ with_rule a rule)
with_arg command arg (Ok x) a rule adds is by local = adds.shape local ∙ ap₂ with_rule is by
with_arg command arg (Err error) a rule adds is by local = tt

abbrev AreBuilt : Command → Command → Command → Command → Command → Command → Command → Command → Command → Command
    → Command → Type 0
AreBuilt replaying collecting checking confirming auditing running linting drawing summing joining explaining =
    IsBuilt replaying (over_documents (codes "replay") (file_rule (codes "RUN")))
    × IsBuilt collecting (over_network (codes "collect") (file_rule (codes "STREAM")))
    × IsBuilt checking (over_documents (codes "check") (file_rule (codes "CERTIFICATE")))
    × IsBuilt confirming (over_documents (codes "confirm") (file_rule (codes "REFUTATION")))
    × IsBuilt auditing (with_rule (over_network (codes "audit") (file_rule (codes "TRAFFIC"))) limit_rule)
    × IsBuilt running (with_rule (over_capture (codes "run")) links_rule)
    × IsBuilt linting (over_network (codes "lint") (new_rule (codes "TRAFFIC")))
    × IsBuilt drawing (with_rule (over_answer (codes "draw")) class_rule)
    × IsBuilt summing (over_network (codes "sum") (file_rule (codes "TOTALS")))
    × IsBuilt joining (over_documents (codes "join") (file_rule (codes "PARTS")))
    × IsBuilt explaining (number_alone (codes "explain"))

with_each : (once replaying collecting checking confirming auditing running linting drawing summing joining explaining
    whole : Command) → AddsInTurn AddsSubcommand once
    (replaying ∷ collecting ∷ checking ∷ confirming ∷ auditing ∷ running ∷ linting ∷ drawing ∷ summing ∷ joining
    ∷ explaining ∷ []) whole
    → app_of once ≡ on_top wants_command (new_app (codes "once"))
    → AreBuilt replaying collecting checking confirming auditing running linting drawing summing joining explaining
    → app_of whole ≡ once_app
with_each once replaying collecting checking confirming auditing running linting drawing summing joining explaining
    whole (
      one,
      first,
      (
        two,
        second,
        (
          three,
          third,
          (
            four,
            fourth,
            (
              five,
              fifth,
              (
                six,
                sixth,
                (
                  seven,
                  seventh,
                  (eight, eighth, (nine, ninth, (ten, tenth, (eleven, eleventh, is)))),
                ),
              ),
            ),
          ),
        ),
      ),
    ) o
    (r, l, k, c, a, u, n, d, s, j, x) =
    let step = λ (x y : App). with_subcommand x y.top in
    let to_one = first.shape r.local ∙ ap₂ step o r.app in
    let to_two = second.shape l.local ∙ ap₂ step to_one l.app in
    let to_three = third.shape k.local ∙ ap₂ step to_two k.app in
    let to_four = fourth.shape c.local ∙ ap₂ step to_three c.app in
    let to_five = fifth.shape a.local ∙ ap₂ step to_four a.app in
    let to_six = sixth.shape u.local ∙ ap₂ step to_five u.app in
    let to_seven = seventh.shape n.local ∙ ap₂ step to_six n.app in
    let to_eight = eighth.shape d.local ∙ ap₂ step to_seven d.app in
    let to_nine = ninth.shape s.local ∙ ap₂ step to_eight s.app in
    let to_ten = tenth.shape j.local ∙ ap₂ step to_nine j.app in
    ap app_of (sym is) ∙ eleventh.shape x.local ∙ ap₂ step to_ten x.app

pub all_commands : {Z : Type 0} (once replaying collecting checking confirming auditing running linting drawing summing
    joining explaining : Command) (items : List Command) (r : Result Command Z)
    → IfOk r (λ whole. AddsInTurn AddsSubcommand once items whole)
    → items ≡ replaying ∷ collecting ∷ checking ∷ confirming ∷ auditing ∷ running ∷ linting ∷ drawing ∷ summing
    ∷ joining ∷ explaining ∷ [] → app_of once ≡ on_top wants_command (new_app (codes "once"))
    → AreBuilt replaying collecting checking confirming auditing running linting drawing summing joining explaining
    → IfOk r (λ whole. app_of whole ≡ once_app)
all_commands once replaying collecting checking confirming auditing running linting drawing summing joining explaining
    items (Ok whole) adds are o built =
    with_each once replaying collecting checking confirming auditing running linting drawing summing joining explaining
    whole (subst (λ (xs : List Command). AddsInTurn AddsSubcommand once xs whole) are adds) o built
all_commands once replaying collecting checking confirming auditing running linting drawing summing joining explaining
    items (Err error) adds are o built = tt
