-- The definitions at words that are written out.
use Rattle.std.proofs.Common.{◌≡◌, refl, [], ◌∷◌, Some, None, codes, inl, inr}
use Rattle.std.specs.Str.{chars}
use Rattle.clap.specs.Faults.{fault_of}
use Rattle.clap.specs.declared.error.kind.ErrorKind.TheVariants.{ArgumentConflict, DisplayHelp, DisplayVersion, InvalidValue, ValueValidation, MissingRequiredArgument, MissingSubcommand, InvalidSubcommand, UnknownArgument}
use Rattle.clap.proofs.OnLiterals.{clap_on_literals}
use Rattle.fx_command_line.specs.CommandLine.{once_app}
use Rattle.fx_command_line.specs.Words.{IsLimitSet, NamesWith, file_names}
use Rattle.fx_command_line.proofs.LimitWords.{limit_read}

three_files_are_named : file_names (codes "net.json" ∷ codes "-" ∷ codes "run" ∷ [])
    ≡ Some (codes "net.json" ∷ codes "-" ∷ codes "run" ∷ [])
unfolding chars
three_files_are_named = refl

a_flag_is_no_file : file_names (codes "net.json" ∷ codes "-x" ∷ codes "run" ∷ []) ≡ None
unfolding chars
a_flag_is_no_file = refl

behind_a_double_hyphen : file_names (codes "net.json" ∷ codes "--" ∷ codes "-x" ∷ codes "--" ∷ [])
    ≡ Some (codes "net.json" ∷ codes "-x" ∷ codes "--" ∷ [])
unfolding chars
behind_a_double_hyphen = refl

a_call_has_no_fault : fault_of once_app (codes "once" ∷ codes "replay" ∷ codes "a" ∷ codes "b" ∷ codes "c" ∷ []) ≡ []
unfolding clap_on_literals
a_call_has_no_fault = refl

a_stream_call_has_no_fault : fault_of once_app (codes "once" ∷ codes "collect" ∷ codes "a" ∷ codes "b" ∷ []) ≡ []
unfolding clap_on_literals
a_stream_call_has_no_fault = refl

a_certificate_call_has_no_fault : fault_of once_app
    (codes "once" ∷ codes "check" ∷ codes "a" ∷ codes "b" ∷ codes "c" ∷ []) ≡ []
unfolding clap_on_literals
a_certificate_call_has_no_fault = refl

a_refutation_call_has_no_fault : fault_of once_app
    (codes "once" ∷ codes "confirm" ∷ codes "a" ∷ codes "b" ∷ codes "c" ∷ []) ≡ []
unfolding clap_on_literals
a_refutation_call_has_no_fault = refl

an_audit_call_has_no_fault : fault_of once_app (codes "once" ∷ codes "audit" ∷ codes "a" ∷ codes "b" ∷ []) ≡ []
unfolding clap_on_literals
an_audit_call_has_no_fault = refl

-- with a limit, in a word of its own or behind `=`, among the files or behind them
an_audit_with_a_limit_has_no_fault : fault_of once_app
    (codes "once" ∷ codes "audit" ∷ codes "a" ∷ codes "--limit" ∷ codes "7" ∷ codes "b" ∷ []) ≡ []
unfolding clap_on_literals
an_audit_with_a_limit_has_no_fault = refl

a_limit_in_one_word_has_no_fault : fault_of once_app
    (codes "once" ∷ codes "audit" ∷ codes "a" ∷ codes "b" ∷ codes "--limit=1000000" ∷ []) ≡ []
unfolding clap_on_literals
a_limit_in_one_word_has_no_fault = refl

files_alone_have_the_longest_limit : IsLimitSet None 1000000
files_alone_have_the_longest_limit = refl

a_limit_may_have_a_plus_and_zeros : IsLimitSet (Some (codes "+07")) 7
a_limit_may_have_a_plus_and_zeros = limit_read (codes "+07") refl

a_limit_stands_among_the_files : NamesWith (codes "limit") (codes "a" ∷ codes "--limit" ∷ codes "+07" ∷ codes "b" ∷ [])
    (codes "a" ∷ codes "b" ∷ []) (Some (codes "+07"))
unfolding chars
a_limit_stands_among_the_files = record {
  before = codes "a" ∷ [];
  option = codes "--limit" ∷ codes "+07" ∷ [];
  after = codes "b" ∷ [];
  others = codes "b" ∷ [];
  words_are = refl;
  before_are = refl;
  option_is = inl (refl, refl);
  after_are = refl;
  files_are = refl;
}

a_limit_stands_behind_the_files : NamesWith (codes "limit") (codes "a" ∷ codes "b" ∷ codes "--limit=7" ∷ [])
    (codes "a" ∷ codes "b" ∷ []) (Some (codes "7"))
unfolding chars
a_limit_stands_behind_the_files = record {
  before = codes "a" ∷ codes "b" ∷ [];
  option = codes "--limit=7" ∷ [];
  after = [];
  others = [];
  words_are = refl;
  before_are = refl;
  option_is = inr refl;
  after_are = refl;
  files_are = refl;
}

no_limit_behind_a_double_hyphen : NamesWith (codes "limit") (codes "--" ∷ codes "--limit" ∷ codes "7" ∷ [])
    (codes "--limit" ∷ codes "7" ∷ []) None
no_limit_behind_a_double_hyphen = refl

a_limit_of_0_is_refused : fault_of once_app
    (codes "once" ∷ codes "audit" ∷ codes "a" ∷ codes "b" ∷ codes "--limit" ∷ codes "0" ∷ []) ≡ ValueValidation ∷ []
unfolding clap_on_literals
a_limit_of_0_is_refused = refl

a_limit_of_1000001_is_refused : fault_of once_app
    (codes "once" ∷ codes "audit" ∷ codes "--limit=1000001" ∷ codes "a" ∷ codes "b" ∷ []) ≡ ValueValidation ∷ []
unfolding clap_on_literals
a_limit_of_1000001_is_refused = refl

a_word_is_no_limit : fault_of once_app (codes "once" ∷ codes "audit" ∷ codes "a" ∷ codes "b" ∷ codes "--limit"
    ∷ codes "many" ∷ []) ≡ ValueValidation ∷ []
unfolding clap_on_literals
a_word_is_no_limit = refl

no_number_is_no_limit : fault_of once_app (codes "once" ∷ codes "audit" ∷ codes "a" ∷ codes "b" ∷ codes "--limit" ∷ [])
    ≡ InvalidValue ∷ []
unfolding clap_on_literals
no_number_is_no_limit = refl

two_limits_are_too_many : fault_of once_app
    (codes "once" ∷ codes "audit" ∷ codes "--limit" ∷ codes "7" ∷ codes "a" ∷ codes "b" ∷ codes "--limit=7" ∷ [])
    ≡ ArgumentConflict ∷ []
unfolding clap_on_literals
two_limits_are_too_many = refl

-- a run keeps no links where no prefix is set, and else in files of that prefix
a_run_has_no_fault : fault_of once_app (codes "once" ∷ codes "run" ∷ codes "a" ∷ codes "b" ∷ codes "c" ∷ codes "d" ∷ [])
    ≡ []
unfolding clap_on_literals
a_run_has_no_fault = refl

a_run_that_keeps_its_links_has_no_fault : fault_of once_app
    (codes "once" ∷ codes "run" ∷ codes "a" ∷ codes "b" ∷ codes "--links" ∷ codes "e" ∷ codes "c" ∷ codes "d" ∷ []) ≡ []
unfolding clap_on_literals
a_run_that_keeps_its_links_has_no_fault = refl

files_alone_keep_no_links : NamesWith (codes "links") (codes "a" ∷ codes "b" ∷ codes "c" ∷ codes "d" ∷ [])
    (codes "a" ∷ codes "b" ∷ codes "c" ∷ codes "d" ∷ []) None
unfolding chars
files_alone_keep_no_links = refl

links_stand_before_the_files : NamesWith (codes "links")
    (codes "--links" ∷ codes "e" ∷ codes "a" ∷ codes "b" ∷ codes "c" ∷ codes "d" ∷ [])
    (codes "a" ∷ codes "b" ∷ codes "c" ∷ codes "d" ∷ []) (Some (codes "e"))
unfolding chars
links_stand_before_the_files = record {
  before = [];
  option = codes "--links" ∷ codes "e" ∷ [];
  after = codes "a" ∷ codes "b" ∷ codes "c" ∷ codes "d" ∷ [];
  others = codes "a" ∷ codes "b" ∷ codes "c" ∷ codes "d" ∷ [];
  words_are = refl;
  before_are = refl;
  option_is = inl (refl, refl);
  after_are = refl;
  files_are = refl;
}

links_stand_between_the_files : NamesWith (codes "links")
    (codes "a" ∷ codes "b" ∷ codes "--links=-e" ∷ codes "c" ∷ codes "d" ∷ [])
    (codes "a" ∷ codes "b" ∷ codes "c" ∷ codes "d" ∷ []) (Some (codes "-e"))
unfolding chars
links_stand_between_the_files = record {
  before = codes "a" ∷ codes "b" ∷ [];
  option = codes "--links=-e" ∷ [];
  after = codes "c" ∷ codes "d" ∷ [];
  others = codes "c" ∷ codes "d" ∷ [];
  words_are = refl;
  before_are = refl;
  option_is = inr refl;
  after_are = refl;
  files_are = refl;
}

links_stand_behind_the_files : NamesWith (codes "links")
    (codes "a" ∷ codes "b" ∷ codes "c" ∷ codes "d" ∷ codes "--links" ∷ codes "e" ∷ [])
    (codes "a" ∷ codes "b" ∷ codes "c" ∷ codes "d" ∷ []) (Some (codes "e"))
unfolding chars
links_stand_behind_the_files = record {
  before = codes "a" ∷ codes "b" ∷ codes "c" ∷ codes "d" ∷ [];
  option = codes "--links" ∷ codes "e" ∷ [];
  after = [];
  others = [];
  words_are = refl;
  before_are = refl;
  option_is = inl (refl, refl);
  after_are = refl;
  files_are = refl;
}

no_prefix_is_no_option : fault_of once_app
    (codes "once" ∷ codes "run" ∷ codes "a" ∷ codes "b" ∷ codes "c" ∷ codes "d" ∷ codes "--links" ∷ []) ≡ InvalidValue
    ∷ []
unfolding clap_on_literals
no_prefix_is_no_option = refl

two_prefixes_are_too_many : fault_of once_app
    (codes "once" ∷ codes "run" ∷ codes "--links=e" ∷ codes "a" ∷ codes "b" ∷ codes "c" ∷ codes "d" ∷ codes "--links=e"
    ∷ []) ≡ ArgumentConflict ∷ []
unfolding clap_on_literals
two_prefixes_are_too_many = refl

three_files_are_too_few_for_a_run : fault_of once_app
    (codes "once" ∷ codes "run" ∷ codes "a" ∷ codes "b" ∷ codes "c" ∷ []) ≡ MissingRequiredArgument ∷ []
unfolding clap_on_literals
three_files_are_too_few_for_a_run = refl

a_lint_has_no_fault : fault_of once_app (codes "once" ∷ codes "lint" ∷ codes "a" ∷ []) ≡ []
unfolding clap_on_literals
a_lint_has_no_fault = refl

a_lint_of_two_files_has_no_fault : fault_of once_app (codes "once" ∷ codes "lint" ∷ codes "a" ∷ codes "b" ∷ []) ≡ []
unfolding clap_on_literals
a_lint_of_two_files_has_no_fault = refl

three_files_are_too_many_for_a_lint : fault_of once_app
    (codes "once" ∷ codes "lint" ∷ codes "a" ∷ codes "b" ∷ codes "c" ∷ []) ≡ UnknownArgument ∷ []
unfolding clap_on_literals
three_files_are_too_many_for_a_lint = refl

a_lint_wants_a_file : fault_of once_app (codes "once" ∷ codes "lint" ∷ []) ≡ MissingRequiredArgument ∷ []
unfolding clap_on_literals
a_lint_wants_a_file = refl

a_join_has_no_fault : fault_of once_app (codes "once" ∷ codes "join" ∷ codes "a" ∷ codes "b" ∷ codes "c" ∷ []) ≡ []
unfolding clap_on_literals
a_join_has_no_fault = refl

two_files_are_too_few_for_a_join : fault_of once_app (codes "once" ∷ codes "join" ∷ codes "a" ∷ codes "b" ∷ [])
    ≡ MissingRequiredArgument ∷ []
unfolding clap_on_literals
two_files_are_too_few_for_a_join = refl

four_files_are_too_many_for_a_join : fault_of once_app
    (codes "once" ∷ codes "join" ∷ codes "a" ∷ codes "b" ∷ codes "c" ∷ codes "d" ∷ []) ≡ UnknownArgument ∷ []
unfolding clap_on_literals
four_files_are_too_many_for_a_join = refl

-- help is asked for by a flag or as a command
help_flag : fault_of once_app (codes "once" ∷ codes "--help" ∷ []) ≡ DisplayHelp ∷ []
unfolding clap_on_literals
help_flag = refl

short_help_flag : fault_of once_app (codes "once" ∷ codes "replay" ∷ codes "-h" ∷ []) ≡ DisplayHelp ∷ []
unfolding clap_on_literals
short_help_flag = refl

two_files_are_too_few : fault_of once_app (codes "once" ∷ codes "replay" ∷ codes "a" ∷ codes "b" ∷ [])
    ≡ MissingRequiredArgument ∷ []
unfolding clap_on_literals
two_files_are_too_few = refl

four_files_are_too_many : fault_of once_app
    (codes "once" ∷ codes "replay" ∷ codes "a" ∷ codes "b" ∷ codes "c" ∷ codes "d" ∷ []) ≡ UnknownArgument ∷ []
unfolding clap_on_literals
four_files_are_too_many = refl

no_such_command : fault_of once_app (codes "once" ∷ codes "repaly" ∷ codes "a" ∷ []) ≡ UnknownArgument
    ∷ InvalidSubcommand ∷ []
unfolding clap_on_literals
no_such_command = refl

no_command : fault_of once_app (codes "once" ∷ []) ≡ MissingSubcommand ∷ []
unfolding clap_on_literals
no_command = refl

an_explanation_has_no_fault : fault_of once_app (codes "once" ∷ codes "explain" ∷ codes "409" ∷ []) ≡ []
unfolding clap_on_literals
an_explanation_has_no_fault = refl

the_version_is_reported : fault_of once_app (codes "once" ∷ codes "--version" ∷ []) ≡ DisplayVersion ∷ []
unfolding clap_on_literals
the_version_is_reported = refl

the_version_is_reported_by_a_letter : fault_of once_app (codes "once" ∷ codes "-V" ∷ []) ≡ DisplayVersion ∷ []
unfolding clap_on_literals
the_version_is_reported_by_a_letter = refl
