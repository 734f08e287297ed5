-- The commands that the program knows, with their files and options.
use Rattle.std.proofs.Common.{◌≡◌, ◌∙◌, Bool, true, false, refl, sym, ap, subst, arith, List, [], ◌∷◌, Option, Some, None, inl, inr, codes, true≢false}
use Rattle.std.specs.Prelude.{⊤, find, unwrap_or}
use Rattle.std.specs.Str.{bytes_eq}
use Rattle.std.proofs.lemmas.Slice.Eq.{bytes_eq-Decides}
use Rattle.clap.specs.Words.{Text}
use Rattle.clap.specs.declared.builder.value_parser.ValueParser.TheVariants as parsers
use Rattle.fx_command_line.proofs.SingleWords.{bool_cases}
use Rattle.fx_command_line.proofs.OptionNames.{IsName}
use Rattle.fx_command_line.proofs.OptionCommand.{IsTaking, Taking, files_alone, some_files, takes_files_alone, takes_some_files}

pub data Kind : Type 0 where
  replay : Kind
  collect : Kind
  check : Kind
  confirm : Kind
  audit : Kind
  run : Kind
  lint : Kind
  draw : Kind
  sum : Kind
  join : Kind
  explain : Kind

abbrev pub documents_and : Text → List Text
documents_and third = codes "NETWORK" ∷ codes "TRAFFIC" ∷ third ∷ []

abbrev pub taking_of : Kind → Taking
taking_of replay = files_alone (codes "replay") (documents_and (codes "RUN"))
taking_of collect = files_alone (codes "collect") (codes "NETWORK" ∷ codes "STREAM" ∷ [])
taking_of check = files_alone (codes "check") (documents_and (codes "CERTIFICATE"))
taking_of confirm = files_alone (codes "confirm") (documents_and (codes "REFUTATION"))
taking_of audit = record {
  command = codes "audit";
  ids = codes "NETWORK" ∷ codes "TRAFFIC" ∷ [];
  fewest = 2;
  has_option = true;
  option = codes "limit";
  parser = parsers.Unsigned 1 1000000;
  default = codes "1000000" ∷ [];
}
taking_of run = record {
  command = codes "run";
  ids = codes "NETWORK" ∷ codes "TRAFFIC" ∷ codes "CAPTURE" ∷ codes "SCHEDULE" ∷ [];
  fewest = 4;
  has_option = true;
  option = codes "links";
  parser = parsers.String;
  default = [];
}
taking_of lint = some_files (codes "lint") 1 (codes "NETWORK" ∷ codes "TRAFFIC" ∷ [])
taking_of draw = record {
  command = codes "draw";
  ids = documents_and (codes "ANSWER");
  fewest = 1;
  has_option = true;
  option = codes "class";
  parser = parsers.String;
  default = [];
}
taking_of sum = files_alone (codes "sum") (codes "NETWORK" ∷ codes "TOTALS" ∷ [])
taking_of join = files_alone (codes "join") (documents_and (codes "PARTS"))
taking_of explain = files_alone (codes "explain") (codes "NUMBER" ∷ [])

pub limit_name : IsName (codes "limit")
limit_name = record { alone = refl; with_value = λ value. refl; single = refl; single_with_value = λ value. refl }

links_name : IsName (codes "links")
links_name = record { alone = refl; with_value = λ value. refl; single = refl; single_with_value = λ value. refl }

class_name : IsName (codes "class")
class_name = record { alone = refl; with_value = λ value. refl; single = refl; single_with_value = λ value. refl }

pub is_taking : (k : Kind) → IsTaking (taking_of k)
is_taking replay = takes_files_alone (codes "replay") (documents_and (codes "RUN")) (omega arith)
    ((refl, (refl, (refl, tt))), ((refl, (refl, tt)), ((refl, tt), (tt, tt))))
is_taking collect = takes_files_alone (codes "collect") (codes "NETWORK" ∷ codes "STREAM" ∷ []) (omega arith)
    ((refl, (refl, tt)), ((refl, tt), (tt, tt)))
is_taking check = takes_files_alone (codes "check") (documents_and (codes "CERTIFICATE")) (omega arith)
    ((refl, (refl, (refl, tt))), ((refl, (refl, tt)), ((refl, tt), (tt, tt))))
is_taking confirm = takes_files_alone (codes "confirm") (documents_and (codes "REFUTATION")) (omega arith)
    ((refl, (refl, (refl, tt))), ((refl, (refl, tt)), ((refl, tt), (tt, tt))))
is_taking audit = record {
  few = omega arith;
  fits = omega arith;
  apart = ((refl, (refl, tt)), ((refl, tt), (tt, tt)));
  name = λ _. limit_name;
  reading = refl;
  default_fine = refl;
  no_default = λ none. absurd (true≢false none);
}
is_taking run = record {
  few = omega arith;
  fits = omega arith;
  apart = (
    (refl, (refl, (refl, (refl, tt)))),
    ((refl, (refl, (refl, tt))), ((refl, (refl, tt)), ((refl, tt), (tt, tt)))),
  );
  name = λ _. links_name;
  reading = refl;
  default_fine = refl;
  no_default = λ none. absurd (true≢false none);
}
is_taking lint = takes_some_files (codes "lint") 1 (codes "NETWORK" ∷ codes "TRAFFIC" ∷ []) (omega arith) (omega arith)
    ((refl, (refl, tt)), ((refl, tt), (tt, tt)))
is_taking draw = record {
  few = omega arith;
  fits = omega arith;
  apart = ((refl, (refl, (refl, tt))), ((refl, (refl, tt)), ((refl, tt), (tt, tt))));
  name = λ _. class_name;
  reading = refl;
  default_fine = refl;
  no_default = λ none. absurd (true≢false none);
}
is_taking sum = takes_files_alone (codes "sum") (codes "NETWORK" ∷ codes "TOTALS" ∷ []) (omega arith)
    ((refl, (refl, tt)), ((refl, tt), (tt, tt)))
is_taking join = takes_files_alone (codes "join") (documents_and (codes "PARTS")) (omega arith)
    ((refl, (refl, (refl, tt))), ((refl, (refl, tt)), ((refl, tt), (tt, tt))))
is_taking explain = takes_files_alone (codes "explain") (codes "NUMBER" ∷ []) (omega arith) ((refl, tt), (tt, tt))

-- ---- a command by its name

abbrev pub name_of : Kind → Text
name_of k = (taking_of k).command

abbrev pub has_name : Text → Kind → Bool
has_name word k = bytes_eq (name_of k) word

abbrev pub kinds : List Kind
kinds = replay ∷ collect ∷ check ∷ confirm ∷ audit ∷ run ∷ lint ∷ draw ∷ sum ∷ join ∷ explain ∷ []

abbrev pub kind_named : Text → Option Kind
kind_named word = find (has_name word) kinds

kind_of_name : (k : Kind) → kind_named (name_of k) ≡ Some k
kind_of_name replay = refl
kind_of_name collect = refl
kind_of_name check = refl
kind_of_name confirm = refl
kind_of_name audit = refl
kind_of_name run = refl
kind_of_name lint = refl
kind_of_name draw = refl
kind_of_name sum = refl
kind_of_name join = refl
kind_of_name explain = refl

-- two commands have two names
pub one_kind : (k other : Kind) → name_of k ≡ name_of other → k ≡ other
one_kind k other same =
    ap (λ (o : Option Kind). unwrap_or o k) (sym (kind_of_name k) ∙ ap kind_named same ∙ kind_of_name other)

found_true : (p : Kind → Bool) (ks : List Kind) (k : Kind) → find p ks ≡ Some k → p k ≡ true
found_true p [] k e = absurd cc
found_true p (x ∷ xs) k e = elim (bool_cases (p x)) [
  | inl is ↦ let there : Some x ≡ Some k = rw is at e in
      subst (λ (y : Kind). p y ≡ true) (ap (λ (o : Option Kind). unwrap_or o x) there) is
  | inr other ↦ found_true p xs k (rw other at e)
]

pub named_kind : (word : Text) (k : Kind) → kind_named word ≡ Some k → name_of k ≡ word
named_kind word k e = (bytes_eq-Decides (name_of k) word).0 (found_true (has_name word) kinds k e)

abbrev pub NoneOf : Text → List Kind → Type 0
NoneOf word [] = ⊤
NoneOf word (k ∷ ks) = (has_name word k ≡ false) × NoneOf word ks

pub none_named : (word : Text) (ks : List Kind) → find (has_name word) ks ≡ None → NoneOf word ks
none_named word [] e = tt
none_named word (x ∷ xs) e = elim (bool_cases (has_name word x)) [
  | inl is ↦ let there : Some x ≡ None = rw is at e in absurd cc
  | inr other ↦ (other, none_named word xs (rw other at e))
]

-- no command has a name that none is found by
pub nameless : (word : Text) (k : Kind) → kind_named word ≡ None → name_of k ≡ word → ⊥
nameless word k none is = let both : Some k ≡ None = sym (kind_of_name k) ∙ ap kind_named is ∙ none in absurd cc
