use Rattle.std.proofs.Common.{map, string_bytes}
use Rattle.fx_command_line.proofs.ParsedWords.{are_matches, its_kind, passed_kinds, passed_on, refused}
use Rattle.fx_command_line.proofs.words.read_words.Goals as goal

pub returns-in_err-matches-clause-call : goal.returns-in_err-matches-clause-call
returns-in_err-matches-clause-call c =
    passed_on c.from_residual-in_err-matches.result c.in_err-matches.field-0.0 _ _
    c.from_residual-in_err-matches.ensures.1
    (refused _ (map string_bytes c.args.words.now) c.in_err-matches.field-0.0 c.in_ok-command_line.ensures
    c.in_err-matches.ensures.kinds)

pub call_of-call-requires : goal.call_of-call-requires
call_of-call-requires c =
    let words = map string_bytes c.args.words.now in (
      words,
      are_matches _ words c.in_ok-matches.matches c.in_ok-command_line.ensures c.in_ok-matches.ensures.matches
          c.in_ok-matches.ensures.kinds,
    )

pub returns-clause-call : goal.returns-clause-call
returns-clause-call c =
    let words = map string_bytes c.args.words.now in
    let are = are_matches _ words c.in_ok-matches.matches c.in_ok-command_line.ensures c.in_ok-matches.ensures.matches
    c.in_ok-matches.ensures.kinds in
    c.in_ok-call.ensures words are

pub returns-in_err-matches-clause-kinds : goal.returns-in_err-matches-clause-kinds
returns-in_err-matches-clause-kinds c =
    passed_kinds c.from_residual-in_err-matches.result c.in_err-matches.field-0.0 _
    c.from_residual-in_err-matches.ensures.1
    (its_kind _ (map string_bytes c.args.words.now) c.in_err-matches.field-0.0 c.in_ok-command_line.ensures
    c.in_err-matches.ensures.kinds)
