use Rattle.std.proofs.Common.{arith, refl}
use Rattle.clap.specs.Words.{found_of}
use Rattle.fx_command_line.proofs.CommandTable.{audit, check, collect, confirm, draw, explain, join, lint, replay, run, sum}
use Rattle.fx_command_line.proofs.ParsedWords.{all_found, drawn_found, if_some, limit_found, names_call, network_found, ok_as, taken_replay, words_of}
use Rattle.fx_command_line.proofs.words.call_of.Goals as goal

-- ---- where the command is `collect`

pub collect_call-requires : goal.collect_call-requires
collect_call-requires c =
    let some = c.in-Some in
    let found = found_of some.collect.now in
    let f = words_of collect c.requires.0 c.args.matches.now found c.requires.1 (some.ensures.found.0 refl)
    some.ensures.rows in
    let h = all_found found f (omega arith) in
    (h.0, h.1.0)

pub returns-in-Some : goal.returns-in-Some
returns-in-Some c = λ words are.
    let some = c.in-Some in
    let found = found_of some.collect.now in
    ok_as c.collect_call.result _ _ (names_call collect words found
    (words_of collect words c.args.matches.now found are (some.ensures.found.0 refl) some.ensures.rows))
    c.collect_call.ensures

-- ---- where the command is `check`

pub check_call-requires : goal.check_call-requires
check_call-requires c =
    let some = c.in-Some-subcommand_matches in
    let found = found_of some.check.now in
    let f = words_of check c.requires.0 c.args.matches.now found c.requires.1 (some.ensures.found.0 refl)
    some.ensures.rows in
    let h = all_found found f (omega arith) in
    (h.0, h.1.0, h.1.1.0)

pub returns-in-Some-subcommand_matches : goal.returns-in-Some-subcommand_matches
returns-in-Some-subcommand_matches c = λ words are.
    let some = c.in-Some-subcommand_matches in
    let found = found_of some.check.now in
    ok_as c.check_call.result _ _ (names_call check words found
    (words_of check words c.args.matches.now found are (some.ensures.found.0 refl) some.ensures.rows))
    c.check_call.ensures

-- ---- where the command is `confirm`

pub confirm_call-requires : goal.confirm_call-requires
confirm_call-requires c =
    let some = c.in-Some-subcommand_matches-2 in
    let found = found_of some.confirm.now in
    let f = words_of confirm c.requires.0 c.args.matches.now found c.requires.1 (some.ensures.found.0 refl)
    some.ensures.rows in
    let h = all_found found f (omega arith) in
    (h.0, h.1.0, h.1.1.0)

pub returns-in-Some-subcommand_matches-2 : goal.returns-in-Some-subcommand_matches-2
returns-in-Some-subcommand_matches-2 c = λ words are.
    let some = c.in-Some-subcommand_matches-2 in
    let found = found_of some.confirm.now in
    ok_as c.confirm_call.result _ _ (names_call confirm words found
    (words_of confirm words c.args.matches.now found are (some.ensures.found.0 refl) some.ensures.rows))
    c.confirm_call.ensures

-- ---- where the command is `audit`

pub audit_call-requires : goal.audit_call-requires
audit_call-requires c =
    let some = c.in-Some-subcommand_matches-3 in
    let found = found_of some.audit.now in
    let f = words_of audit c.requires.0 c.args.matches.now found c.requires.1 (some.ensures.found.0 refl)
    some.ensures.rows in
    let h = all_found found f (omega arith) in
    (h.0, h.1.0, limit_found found f)

pub returns-in-Some-subcommand_matches-3 : goal.returns-in-Some-subcommand_matches-3
returns-in-Some-subcommand_matches-3 c = λ words are.
    let some = c.in-Some-subcommand_matches-3 in
    let found = found_of some.audit.now in
    ok_as c.audit_call.result _ _ (names_call audit words found
    (words_of audit words c.args.matches.now found are (some.ensures.found.0 refl) some.ensures.rows))
    c.audit_call.ensures

-- ---- where the command is `run`

pub run_call-requires : goal.run_call-requires
run_call-requires c =
    let some = c.in-Some-subcommand_matches-4 in
    let found = found_of some.run'.now in
    let f = words_of run c.requires.0 c.args.matches.now found c.requires.1 (some.ensures.found.0 refl)
    some.ensures.rows in
    let h = all_found found f (omega arith) in
    (h.0, h.1.0, h.1.1.0, h.1.1.1.0)

pub returns-in-Some-subcommand_matches-4 : goal.returns-in-Some-subcommand_matches-4
returns-in-Some-subcommand_matches-4 c = λ words are.
    let some = c.in-Some-subcommand_matches-4 in
    let found = found_of some.run'.now in
    ok_as c.run_call.result _ _ (names_call run words found
    (words_of run words c.args.matches.now found are (some.ensures.found.0 refl) some.ensures.rows))
    c.run_call.ensures

-- ---- where the command is `lint`

pub lint_call-requires : goal.lint_call-requires
lint_call-requires c =
    let some = c.in-Some-subcommand_matches-5 in
    let found = found_of some.lint.now in
    let f = words_of lint c.requires.0 c.args.matches.now found c.requires.1 (some.ensures.found.0 refl)
    some.ensures.rows in
    network_found found f

pub returns-in-Some-subcommand_matches-5 : goal.returns-in-Some-subcommand_matches-5
returns-in-Some-subcommand_matches-5 c = λ words are.
    let some = c.in-Some-subcommand_matches-5 in
    let found = found_of some.lint.now in
    ok_as c.lint_call.result _ _ (names_call lint words found
    (words_of lint words c.args.matches.now found are (some.ensures.found.0 refl) some.ensures.rows))
    c.lint_call.ensures

-- ---- where the command is `draw`

pub draw_call-requires : goal.draw_call-requires
draw_call-requires c =
    let some = c.in-Some-subcommand_matches-6 in
    let found = found_of some.draw.now in
    let f = words_of draw c.requires.0 c.args.matches.now found c.requires.1 (some.ensures.found.0 refl)
    some.ensures.rows in
    drawn_found found f

pub returns-in-Some-subcommand_matches-6 : goal.returns-in-Some-subcommand_matches-6
returns-in-Some-subcommand_matches-6 c = λ words are.
    let some = c.in-Some-subcommand_matches-6 in
    let found = found_of some.draw.now in
    ok_as c.draw_call.result _ _ (names_call draw words found
    (words_of draw words c.args.matches.now found are (some.ensures.found.0 refl) some.ensures.rows))
    c.draw_call.ensures

-- ---- where the command is `sum`

pub sum_call-requires : goal.sum_call-requires
sum_call-requires c =
    let some = c.in-Some-subcommand_matches-7 in
    let found = found_of some.sum.now in
    let f = words_of sum c.requires.0 c.args.matches.now found c.requires.1 (some.ensures.found.0 refl)
    some.ensures.rows in
    let h = all_found found f (omega arith) in
    (h.0, h.1.0)

pub returns-in-Some-subcommand_matches-7 : goal.returns-in-Some-subcommand_matches-7
returns-in-Some-subcommand_matches-7 c = λ words are.
    let some = c.in-Some-subcommand_matches-7 in
    let found = found_of some.sum.now in
    ok_as c.sum_call.result _ _ (names_call sum words found
    (words_of sum words c.args.matches.now found are (some.ensures.found.0 refl) some.ensures.rows))
    c.sum_call.ensures

-- ---- where the command is `join`

pub join_call-requires : goal.join_call-requires
join_call-requires c =
    let some = c.in-Some-subcommand_matches-8 in
    let found = found_of some.join.now in
    let f = words_of join c.requires.0 c.args.matches.now found c.requires.1 (some.ensures.found.0 refl)
    some.ensures.rows in
    let h = all_found found f (omega arith) in
    (h.0, h.1.0, h.1.1.0)

pub returns-in-Some-subcommand_matches-8 : goal.returns-in-Some-subcommand_matches-8
returns-in-Some-subcommand_matches-8 c = λ words are.
    let some = c.in-Some-subcommand_matches-8 in
    let found = found_of some.join.now in
    ok_as c.join_call.result _ _ (names_call join words found
    (words_of join words c.args.matches.now found are (some.ensures.found.0 refl) some.ensures.rows))
    c.join_call.ensures

-- ---- where the command is `explain`

pub explain_call-requires : goal.explain_call-requires
explain_call-requires c =
    let some = c.in-Some-subcommand_matches-9 in
    let found = found_of some.explain.now in
    let f = words_of explain c.requires.0 c.args.matches.now found c.requires.1 (some.ensures.found.0 refl)
    some.ensures.rows in
    let h = all_found found f (omega arith) in
    h.0

pub returns-in-Some-subcommand_matches-9 : goal.returns-in-Some-subcommand_matches-9
returns-in-Some-subcommand_matches-9 c = λ words are.
    let some = c.in-Some-subcommand_matches-9 in
    let found = found_of some.explain.now in
    ok_as c.explain_call.result _ _ (names_call explain words found
    (words_of explain words c.args.matches.now found are (some.ensures.found.0 refl) some.ensures.rows))
    c.explain_call.ensures

-- ---- where it is another

pub unwrap-requires : goal.unwrap-requires
unwrap-requires c =
    c.subcommand_matches-11.ensures.found.1
    (taken_replay c.requires.0 c.args.matches.now c.requires.1 c.in_default.ensures.found.1
    c.in_default-subcommand_matches.ensures.found.1 c.in_default-subcommand_matches-2.ensures.found.1
    c.in_default-subcommand_matches-3.ensures.found.1 c.in_default-subcommand_matches-4.ensures.found.1
    c.in_default-subcommand_matches-5.ensures.found.1 c.in_default-subcommand_matches-6.ensures.found.1
    c.in_default-subcommand_matches-7.ensures.found.1 c.in_default-subcommand_matches-8.ensures.found.1
    c.in_default-subcommand_matches-9.ensures.found.1)

pub replay_call-requires : goal.replay_call-requires
replay_call-requires c =
    let found = found_of c.unwrap.result.now in
    let name = taken_replay c.requires.0 c.args.matches.now c.requires.1 c.in_default.ensures.found.1
    c.in_default-subcommand_matches.ensures.found.1 c.in_default-subcommand_matches-2.ensures.found.1
    c.in_default-subcommand_matches-3.ensures.found.1 c.in_default-subcommand_matches-4.ensures.found.1
    c.in_default-subcommand_matches-5.ensures.found.1 c.in_default-subcommand_matches-6.ensures.found.1
    c.in_default-subcommand_matches-7.ensures.found.1 c.in_default-subcommand_matches-8.ensures.found.1
    c.in_default-subcommand_matches-9.ensures.found.1 in
    let rows = if_some c.subcommand_matches-11.result c.unwrap.result _ c.unwrap.ensures
    c.subcommand_matches-11.ensures.rows in
    let f = words_of replay c.requires.0 c.args.matches.now found c.requires.1 name rows in
    let h = all_found found f (omega arith) in
    (h.0, h.1.0, h.1.1.0)

pub returns : goal.returns
returns c = λ words are.
    let found = found_of c.unwrap.result.now in
    let name = taken_replay words c.args.matches.now are c.in_default.ensures.found.1
    c.in_default-subcommand_matches.ensures.found.1 c.in_default-subcommand_matches-2.ensures.found.1
    c.in_default-subcommand_matches-3.ensures.found.1 c.in_default-subcommand_matches-4.ensures.found.1
    c.in_default-subcommand_matches-5.ensures.found.1 c.in_default-subcommand_matches-6.ensures.found.1
    c.in_default-subcommand_matches-7.ensures.found.1 c.in_default-subcommand_matches-8.ensures.found.1
    c.in_default-subcommand_matches-9.ensures.found.1 in
    let rows = if_some c.subcommand_matches-11.result c.unwrap.result _ c.unwrap.ensures
    c.subcommand_matches-11.ensures.rows in
    ok_as c.replay_call.result _ _ (names_call replay words found
    (words_of replay words c.args.matches.now found are name rows)) c.replay_call.ensures
