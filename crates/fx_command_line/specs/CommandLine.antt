-- The command line as the crate that parses it sees it.
use Rattle.std.specs.Prelude.{◌≡◌, true, List, [], ◌∷◌, Some, codes}
use Rattle.clap.specs.Words.{App, HasMatchesOf, Rule, Shape, Text, fault_of, new_app, new_rule, with_rule, with_subcommand}
use Rattle.clap.specs.Simple.{on_top}
use Rattle.clap.specs.declared.builder.value_parser.ValueParser.TheVariants as parsers
use Rattle.clap.specs.declared.parser.matches.ArgMatches.{ArgMatches}

abbrev pub file_rule : Text → Rule
file_rule name = record (new_rule name) { required = true }

-- a command with a network and nothing else
abbrev pub network_alone : Text → App
network_alone command = with_rule (new_app command) (file_rule (codes "NETWORK"))

-- a command with a number and nothing else
abbrev pub number_alone : Text → App
number_alone command = with_rule (new_app command) (file_rule (codes "NUMBER"))

-- a command with a network, traffic and a third file
abbrev pub over_documents : Text → Rule → App
over_documents command third = with_rule (with_rule (network_alone command) (file_rule (codes "TRAFFIC"))) third

-- a command with a network and another file, which is required or optional
abbrev pub over_network : Text → Rule → App
over_network command file = with_rule (network_alone command) file

-- the option of a limit, from 1 to 1,000,000
abbrev pub limit_rule : Rule
limit_rule = record (new_rule (codes "limit")) {
  long = Some (codes "limit");
  value_names = 1;
  defaults = codes "1000000" ∷ [];
  parser = Some (parsers.Unsigned 1 1000000);
}

-- a command with a network, traffic, a capture and a schedule
abbrev pub over_capture : Text → App
over_capture command = with_rule (over_documents command (file_rule (codes "CAPTURE"))) (file_rule (codes "SCHEDULE"))

-- the option for the prefix of the names of the links' files
abbrev pub links_rule : Rule
links_rule = record (new_rule (codes "links")) { long = Some (codes "links"); value_names = 1 }

-- a command with a network, and with traffic and an answer if they are given
abbrev pub over_answer : Text → App
over_answer command = with_rule (over_network command (new_rule (codes "TRAFFIC"))) (new_rule (codes "ANSWER"))

-- the option for the name of the class whose paths are drawn
abbrev pub class_rule : Rule
class_rule = record (new_rule (codes "class")) { long = Some (codes "class"); value_names = 1 }

-- the program requires one of its commands, and reports its version
abbrev pub wants_command : Shape → Shape
wants_command s = record s { subcommand_required = true; has_version = true }

abbrev pub once_app : App
once_app =
    let replay = over_documents (codes "replay") (file_rule (codes "RUN")) in
    let collect = over_network (codes "collect") (file_rule (codes "STREAM")) in
    let check = over_documents (codes "check") (file_rule (codes "CERTIFICATE")) in
    let confirm = over_documents (codes "confirm") (file_rule (codes "REFUTATION")) in
    let audit = with_rule (over_network (codes "audit") (file_rule (codes "TRAFFIC"))) limit_rule in
    let three = with_subcommand (with_subcommand
    (with_subcommand (on_top wants_command (new_app (codes "once"))) replay.top) collect.top) check.top in
    let run = with_rule (over_capture (codes "run")) links_rule in
    let lint = over_network (codes "lint") (new_rule (codes "TRAFFIC")) in
    let draw = with_rule (over_answer (codes "draw")) class_rule in
    let sum = over_network (codes "sum") (file_rule (codes "TOTALS")) in
    let join = over_documents (codes "join") (file_rule (codes "PARTS")) in
    let explain = number_alone (codes "explain") in
    let seven = with_subcommand (with_subcommand (with_subcommand (with_subcommand three confirm.top) audit.top)
    run.top) lint.top in
    with_subcommand (with_subcommand (with_subcommand (with_subcommand seven draw.top) sum.top) join.top) explain.top

-- the matches of these arguments on the program's command line, without a fault
pub record AreMatchesOf (words : List Text) (m : ArgMatches) : Type 0 where
  pub matches : HasMatchesOf once_app words m
  pub fine : fault_of once_app words ≡ []
