-- What a parse of the program's words gives, and which values its matches hold.
use Rattle.std.proofs.Common.{◌≡◌, ◌≤◌, ◌∙◌, ◌⊎◌, ℕ, arith, length, true, false, refl, sym, ap, ap₂, subst, List, [], ◌∷◌, Option, Some, None, inl, inr, true≢false, codes}
use Rattle.std.specs.Str.Parse.{digits_value, without_leading_plus}
use Rattle.std.specs.Prelude.{⊤, unwrap_or, option_and_then, option_map, slice_get}
use Rattle.clap.specs.Words.{first_value, one_text, rows_of, HasMatchesOf, is_simple, is_simple_and_free, subcommand_rows_of, HasKind, kind_of, subcommand_name_of}
use Rattle.clap.specs.Walk.{Row, Text, row_text}
use Rattle.clap.specs.Simple.{subcommand_rows, App}
use Rattle.clap.specs.Kinds.{Kinds}
use Rattle.clap.specs.Faults.{fault_of}
use Rattle.clap.specs.declared.parser.matches.ArgMatches.{ArgMatches}
use Rattle.clap.specs.declared.parser.matches.ArgMatches.TheViews.{out-ArgMatches, out-SubCommand}
use Rattle.clap.specs.declared.parser.matches.SubCommand.{SubCommand}
use Rattle.clap.specs.declared.parser.matches.Found.{Found}
use Rattle.clap.specs.declared.error.Error.{Error}
use Rattle.clap.specs.declared.error.kind.ErrorKind.TheVariants.{OutOfMemory}
use Rattle.std.specs.Prelude.{Box, IfErr, IfOk, IfSome, IsSome, Result, Ok, Err, MatchResult, IsErrAnd, string_bytes}
use Rattle.std.specs.Box.{box_value}
use Rattle.fx_command_line.specs.declared.words.Call.{Call}
use Rattle.fx_command_line.specs.declared.words.Call.TheVariants.{Audit, Check, Collect, Confirm, Draw, Explain, Join, Lint, Replay, Run, Sum}
use Rattle.clap.proofs.WalkLemmas.{first_value-rows, one_text-rows}
use Rattle.fx_command_line.specs.Words.{IsLimitSet, Names, NamesDraw, NamesDrawing, NamesFiles, file_given, NamesNoCall, NamesWith}
use Rattle.fx_command_line.specs.CommandLine.{AreMatchesOf, once_app}
use Rattle.fx_command_line.specs.Matches.{HoldsFile, HoldsLimit, HasFile, IsAuditOf, IsCheckOf, IsCollectOf, IsConfirmOf, IsDrawOf, IsExplainOf, IsJoinOf, IsLintOf, IsReplayOf, IsRunCall, IsSumOf}
use Rattle.fx_command_line.proofs.SingleWords.{Fails}
use Rattle.fx_command_line.proofs.AcceptedWords.{NamesBy, Refuses, Takes, decide_words}
use Rattle.fx_command_line.proofs.CommandTable.{Kind, audit, check, collect, confirm, draw, explain, join, lint, name_of, one_kind, replay, run, sum, taking_of}
use Rattle.fx_command_line.proofs.LimitWords.{limit_read, limit_taken}
use Rattle.fx_command_line.proofs.OptionCommand.{IsCount, Taking, files_alone, some_files}
use Rattle.fx_command_line.proofs.OptionRows.{HasAll, HoldsFirst, Lacks, all_first, first_held, one_held}
use Rattle.fx_command_line.proofs.OptionSaid.{HoldsAtEnd, IsFine}

-- ---- what a parse gives

once_is_simple : is_simple once_app ≡ true
once_is_simple = refl

once_is_free : is_simple_and_free once_app ≡ true
once_is_free = refl

-- the matches of a command line that was taken, by this command
pub record IsTakenBy (c : Taking) (words : List Text) (m : ArgMatches) : Type 0 where
  pub takes : Takes c words
  pub entered : subcommand_rows_of m ≡ Some (c.command, takes.rows)

not_both : (k : Kinds) → k ≡ [] → Fails k → ⊥
not_both k none fails = subst Fails none fails

-- by one of the commands
taken : (words : List Text) (m : ArgMatches) → AreMatchesOf words m → (k : Kind) × IsTakenBy (taking_of k) words m
taken words m are = elim (decide_words words) [
  | inl (k, t) ↦ (k, record { takes = t; entered = (are.matches once_is_simple).1 ∙ t.entered })
  | inr r ↦ absurd (not_both (fault_of once_app words) are.fine r.fails)
]

-- ---- words that name no call

-- files alone
named_alone : {command : Text} {fewest : ℕ} {ids words files : List Text} → NamesFiles words command files
    → NamesBy (some_files command fewest ids) words files None
named_alone n = record { program = n.program; rest = n.rest; words_are = n.words_are; named = n.files_are }

-- the text of a limit is taken
limit_fine : (option : Option Text) (n : ℕ) → IsLimitSet option n → IsFine (taking_of audit) option
limit_fine None n is = tt
limit_fine (Some text) n is = (refl, limit_taken text n is)

-- any prefix is
any_fine : (links : Option Text) → IsFine (taking_of run) links
any_fine None = tt
any_fine (Some text) = (refl, refl)

-- and any name of a class
class_fine : (class : Option Text) → IsFine (taking_of draw) class
class_fine None = tt
class_fine (Some text) = (refl, refl)

drawn_by : {words files : List Text} {class : Option Text} → NamesDraw words files class
    → NamesBy (taking_of draw) words files class
drawn_by n = record { program = n.program; rest = n.rest; words_are = n.words_are; named = n.named }

no_call : (words : List Text) → Refuses words → NamesNoCall words
no_call words r (Replay a b c) n = r.unnamed replay (string_bytes a ∷ string_bytes b ∷ string_bytes c ∷ []) None
    (omega arith, omega arith) tt (named_alone n)
no_call words r (Collect a b) n = r.unnamed collect (string_bytes a ∷ string_bytes b ∷ []) None
    (omega arith, omega arith) tt (named_alone n)
no_call words r (Check a b c) n = r.unnamed check (string_bytes a ∷ string_bytes b ∷ string_bytes c ∷ []) None
    (omega arith, omega arith) tt (named_alone n)
no_call words r (Confirm a b c) n = r.unnamed confirm (string_bytes a ∷ string_bytes b ∷ string_bytes c ∷ []) None
    (omega arith, omega arith) tt (named_alone n)
no_call words r (Lint a None) n = r.unnamed lint (string_bytes a ∷ []) None (omega arith, omega arith) tt
    (named_alone n)
no_call words r (Lint a (Some b)) n = r.unnamed lint (string_bytes a ∷ string_bytes b ∷ []) None
    (omega arith, omega arith) tt (named_alone n)
no_call words r (Draw a None None d) n =
    r.unnamed draw (string_bytes a ∷ []) (option_map string_bytes d) (omega arith, omega arith)
    (class_fine (option_map string_bytes d)) (drawn_by n)
no_call words r (Draw a (Some b) None d) n =
    r.unnamed draw (string_bytes a ∷ string_bytes b ∷ []) (option_map string_bytes d) (omega arith, omega arith)
    (class_fine (option_map string_bytes d)) (drawn_by n)
no_call words r (Draw a (Some b) (Some c) d) n =
    r.unnamed draw (string_bytes a ∷ string_bytes b ∷ string_bytes c ∷ []) (option_map string_bytes d)
    (omega arith, omega arith) (class_fine (option_map string_bytes d)) (drawn_by n)
no_call words r (Draw a None (Some c) d) n = absurd n
no_call words r (Sum a b) n = r.unnamed sum (string_bytes a ∷ string_bytes b ∷ []) None (omega arith, omega arith) tt
    (named_alone n)
no_call words r (Join a b c) n = r.unnamed join (string_bytes a ∷ string_bytes b ∷ string_bytes c ∷ []) None
    (omega arith, omega arith) tt (named_alone n)
no_call words r (Explain a) n = r.unnamed explain (string_bytes a ∷ []) None (omega arith, omega arith) tt
    (named_alone n)
no_call words r (Audit a b limit) n =
    r.unnamed audit (string_bytes a ∷ string_bytes b ∷ []) n.option (omega arith, omega arith)
    (limit_fine n.option limit n.limit_is) (record
    { program = n.program; rest = n.rest; words_are = n.words_are; named = n.named })
no_call words r (Run a b c d links) n =
    r.unnamed run (string_bytes a ∷ string_bytes b ∷ string_bytes c ∷ string_bytes d ∷ [])
    (option_map string_bytes links) (omega arith, omega arith) (any_fine (option_map string_bytes links))
    (record { program = n.program; rest = n.rest; words_are = n.words_are; named = n.named })

memory_alone : (a : App) (words : List Text) (e : Error) → a ≡ once_app
    → (is_simple_and_free a ≡ true → HasKind (fault_of a words) e) → fault_of once_app words ≡ [] → kind_of e
    ≡ OutOfMemory
memory_alone a words e same kinds takes =
    let none : fault_of a words ≡ [] = ap (λ (x : App). fault_of x words) same ∙ takes in
    let there : HasKind [] e = subst (λ k. HasKind k e) none (kinds (ap is_simple_and_free same ∙ once_is_free)) in
    elim there [ inl memory ↦ memory | inr nothing ↦ absurd nothing ]

pub refused : (a : App) (words : List Text) (e : Error) → a ≡ once_app
    → (is_simple_and_free a ≡ true → HasKind (fault_of a words) e)
    → (kind_of e ≡ OutOfMemory) ⊎ NamesNoCall words
refused a words e same kinds = elim (decide_words words) [
  | inl (k, t) ↦ inl (memory_alone a words e same kinds t.takes)
  | inr r ↦ inr (no_call words r)
]

pub passed_on : {T : Type 0} (r : Result T Error) (e : Error) (P : T → Type 0) (Q : Error → Type 0)
    → IsErrAnd r (λ y. y ≡ e) → Q e → MatchResult r P Q
passed_on (Ok x) e P Q is h = absurd is
passed_on (Err y) e P Q is h = subst Q (sym is) h

pub passed_kinds : {T : Type 0} (r : Result T Error) (e : Error) (Q : Error → Type 0) → IsErrAnd r (λ y. y ≡ e) → Q e
    → IfErr r Q
passed_kinds (Ok x) e Q is h = absurd is
passed_kinds (Err y) e Q is h = subst Q (sym is) h

pub its_kind : (a : App) (words : List Text) (e : Error) → a ≡ once_app
    → (is_simple_and_free a ≡ true → HasKind (fault_of a words) e) → HasKind (fault_of once_app words) e
its_kind a words e same kinds = subst (λ (x : App). is_simple_and_free x ≡ true → HasKind (fault_of x words) e) same
    kinds once_is_free

name_of_rows : (m : ArgMatches) → subcommand_name_of m ≡ option_map (λ p. p.0) (subcommand_rows_of m)
name_of_rows m = go (out-ArgMatches m).subcommand
  where
    go : {Z : Type 0} (o : Option (Box SubCommand Z)) → option_map (λ b. (out-SubCommand (box_value b)).name.now) o
        ≡ option_map (λ p. p.0) (subcommand_rows o)
    go None = refl
    go (Some b) = refl

-- ---- the command that was met

taken_name : (c : Taking) (words : List Text) (m : ArgMatches) → IsTakenBy c words m → subcommand_name_of m
    ≡ Some c.command
taken_name c words m t = name_of_rows m ∙ ap (option_map (λ p. p.0)) t.entered

some_same : (a b : Text) (o : Option Text) → o ≡ Some a → o ≡ Some b → a ≡ b
some_same a b o x y = ap (λ (v : Option Text). unwrap_or v a) (sym x ∙ y)

pub taken_by : (k : Kind) (words : List Text) (m : ArgMatches) → AreMatchesOf words m → subcommand_name_of m
    ≡ Some (name_of k) → IsTakenBy (taking_of k) words m
taken_by k words m are name =
    let t = taken words m are in
    let same : t.0 ≡ k = one_kind t.0 k (some_same (name_of t.0) (name_of k) (subcommand_name_of m)
    (taken_name (taking_of t.0) words m t.1) name) in
    subst (λ (x : Kind). IsTakenBy (taking_of x) words m) same t.1

-- where none of the others was found
abbrev IsNotFound : Text → ArgMatches → Type 0
IsNotFound name m = subcommand_name_of m ≡ Some name → false ≡ true

pub taken_replay : (words : List Text) (m : ArgMatches) → AreMatchesOf words m → IsNotFound (codes "collect") m
    → IsNotFound (codes "check") m → IsNotFound (codes "confirm") m
    → IsNotFound (codes "audit") m → IsNotFound (codes "run") m → IsNotFound (codes "lint") m
    → IsNotFound (codes "draw") m → IsNotFound (codes "sum") m → IsNotFound (codes "join") m
    → IsNotFound (codes "explain") m → subcommand_name_of m ≡ Some (codes "replay")
taken_replay words m are not_collect not_check not_confirm not_audit not_run not_lint not_draw not_sum not_join
    not_explain =
    let t = taken words m are in go t.0 (taken_name (taking_of t.0) words m t.1)
  where
    go : (k : Kind) → subcommand_name_of m ≡ Some (name_of k) → subcommand_name_of m ≡ Some (codes "replay")
    go replay name = name
    go collect name = absurd (true≢false (sym (not_collect name)))
    go check name = absurd (true≢false (sym (not_check name)))
    go confirm name = absurd (true≢false (sym (not_confirm name)))
    go audit name = absurd (true≢false (sym (not_audit name)))
    go run name = absurd (true≢false (sym (not_run name)))
    go lint name = absurd (true≢false (sym (not_lint name)))
    go draw name = absurd (true≢false (sym (not_draw name)))
    go sum name = absurd (true≢false (sym (not_sum name)))
    go join name = absurd (true≢false (sym (not_join name)))
    go explain name = absurd (true≢false (sym (not_explain name)))

-- ---- the values that are found

pub are_matches : (a : App) (words : List Text) (m : ArgMatches) → a ≡ once_app → HasMatchesOf a words m
    → (is_simple_and_free a ≡ true → fault_of a words ≡ []) → AreMatchesOf words m
are_matches a words m same matches kinds = record {
  matches = subst (λ (x : App). HasMatchesOf x words m) same matches;
  fine = subst (λ (x : App). is_simple_and_free x ≡ true → fault_of x words ≡ []) same kinds once_is_free;
}

-- the rows of this command's matches are those that were found
abbrev HasRows : ArgMatches → Found → Type 0
HasRows m found = option_map (λ p. p.1) (subcommand_rows_of m) ≡ Some (rows_of found)

-- the values of a command's words
pub record HasWords (c : Taking) (words : List Text) (found : Found) : Type 0 where
  pub files : List Text
  pub option : Option Text
  pub accepted : IsFine c option
  pub named : NamesBy c words files option
  pub count_is : IsCount c (length files)
  pub files_are : HoldsFirst (rows_of found) c.ids files
  pub option_is : HoldsAtEnd c option (rows_of found)

pub words_of : (k : Kind) (words : List Text) (m : ArgMatches) (found : Found) → AreMatchesOf words m
    → subcommand_name_of m ≡ Some (name_of k) → HasRows m found → HasWords (taking_of k) words found
words_of k words m found are name e =
    let t = taken_by k words m are name in
    let same : t.takes.rows ≡ rows_of found =
    sym (ap (λ (o : Option (List Row)). unwrap_or o t.takes.rows) (sym e ∙ ap (option_map (λ p. p.1)) t.entered)) in
    record {
      files = t.takes.files;
      option = t.takes.option;
      accepted = t.takes.accepted;
      named = t.takes.named;
      count_is = t.takes.count_is;
      files_are = subst (λ (rows : List Row). HoldsFirst rows (taking_of k).ids t.takes.files) same t.takes.files_are;
      option_is = subst (HoldsAtEnd (taking_of k) t.takes.option) same t.takes.option_is;
    }

pub if_some : {X : Type 0} (o : Option X) (x : X) (P : X → Type 0) → o ≡ Some x → IfSome o P → P x
if_some o x P is h = subst (λ v. IfSome v P) is h

abbrev pub HasFiles : Found → List Text → Type 0
HasFiles found [] = ⊤
HasFiles found (id ∷ ids) = HasFile found id × HasFiles found ids

every_found : (found : Found) (ids files : List Text) → HasAll (rows_of found) ids files → HasFiles found ids
every_found found [] files has = tt
every_found found (id ∷ ids) (file ∷ files) has = (
  subst (λ (o : Option Text). IsSome o) (sym (first_value-rows found id ∙ first_held (rows_of found) id file has.0))
      refl,
  every_found found ids files has.1,
)
every_found found (id ∷ ids) [] has = absurd has

-- all files are there, where all must be
every_there : {c : Taking} {words : List Text} (found : Found) (f : HasWords c words found) → length c.ids ≤ c.fewest
    → HasAll (rows_of found) c.ids f.files
every_there {c} found f all = all_first (rows_of found) c.ids f.files f.files_are (omega (arith, all, f.count_is.0))

pub all_found : {c : Taking} {words : List Text} (found : Found) → HasWords c words found → length c.ids ≤ c.fewest
    → HasFiles found c.ids
all_found {c} found f all = every_found found c.ids f.files (every_there found f all)

-- a network is there, where nothing else must be
first_found : (found : Found) (ids files : List Text) → 1 ≤ length files
    → HoldsFirst (rows_of found) (codes "NETWORK" ∷ ids) files → HasFile found (codes "NETWORK")
first_found found ids [] many has = absurd (omega (arith, many))
first_found found ids (file ∷ files) many has =
    subst (λ (o : Option Text). IsSome o) (sym
    (first_value-rows found (codes "NETWORK") ∙ first_held (rows_of found) (codes "NETWORK") file has.0)) refl

pub network_found : {words : List Text} (found : Found) → HasWords (taking_of lint) words found
    → HasFile found (codes "NETWORK")
network_found found f = first_found found (codes "TRAFFIC" ∷ []) f.files f.count_is.0 f.files_are

pub drawn_found : {words : List Text} (found : Found) → HasWords (taking_of draw) words found
    → HasFile found (codes "NETWORK")
drawn_found found f = first_found found (codes "TRAFFIC" ∷ codes "ANSWER" ∷ []) f.files f.count_is.0 f.files_are

-- the files under these names are these
abbrev pub HoldsFiles : Found → List Text → List Text → Type 0
HoldsFiles found [] [] = ⊤
HoldsFiles found (id ∷ ids) (file ∷ files) = HoldsFile found id file × HoldsFiles found ids files
HoldsFiles found _ _ = ⊥

same_files : (found : Found) (ids files names : List Text) → HasAll (rows_of found) ids files
    → HoldsFiles found ids names → files ≡ names
same_files found [] [] [] has holds = refl
same_files found (id ∷ ids) (file ∷ files) (name ∷ names) has holds =
    let one : file ≡ name = some_same file name (first_value found id)
    (first_value-rows found id ∙ first_held (rows_of found) id file has.0) holds.0 in
    ap₂ (λ (x : Text) (xs : List Text). x ∷ xs) one (same_files found ids files names has.1 holds.1)
same_files found [] (file ∷ files) names has holds = absurd has
same_files found [] [] (name ∷ names) has holds = absurd holds
same_files found (id ∷ ids) [] names has holds = absurd has
same_files found (id ∷ ids) (file ∷ files) [] has holds = absurd holds

-- the words name the values that are there
named_there : (c : Taking) (words names : List Text) (found : Found) (f : HasWords c words found) → length c.ids
    ≤ c.fewest → HoldsFiles found c.ids names → NamesBy c words names f.option
named_there c words names found f all holds =
    subst (λ (files : List Text). NamesBy c words files f.option)
    (same_files found c.ids f.files names (every_there found f all) holds) f.named

-- those of a command of files alone
alone_named : {command : Text} {fewest : ℕ} {ids words names : List Text} (o : Option Text)
    → IsFine (some_files command fewest ids) o → NamesBy (some_files command fewest ids) words names o
    → NamesFiles words command names
alone_named None fine n = record { program = n.program; rest = n.rest; words_are = n.words_are; files_are = n.named }
alone_named (Some text) fine n = absurd (true≢false (sym fine.0))

files_there : (command : Text) (ids words names : List Text) (found : Found)
    → HasWords (files_alone command ids) words found → HoldsFiles found ids names → NamesFiles words command names
files_there command ids words names found f holds =
    alone_named f.option f.accepted (named_there (files_alone command ids) words names found f (omega arith) holds)

-- the text that is read where none is held
none_held : (found : Found) (id : Text) → Lacks (rows_of found) id → first_value found id ≡ None
none_held found id lacks = first_value-rows found id
    ∙ ap (λ (o : Option Row). option_and_then (λ r. slice_get r.values 0) o) lacks

-- the value that is read where a file is held, and where none is
file_held : (found : Found) (id file name : Text) → first_value found id ≡ Some name
    → HoldsFirst (rows_of found) (id ∷ []) (file ∷ []) → file ≡ name
file_held found id file name holds first =
    some_same file name (first_value found id) (first_value-rows found id ∙ first_held (rows_of found) id file first.0)
    holds

given_held : (found : Found) (id file : Text) (o : Option Text) → first_value found id ≡ o
    → HoldsFirst (rows_of found) (id ∷ []) (file ∷ []) → Some file ≡ o
given_held found id file o given first = sym (first_value-rows found id ∙ first_held (rows_of found) id file first.0)
    ∙ given

-- a network, and a declaration of traffic where one is given
linted_files : (found : Found) (files : List Text) (network : Text) (traffic : Option Text) → 1 ≤ length files
    → HoldsFirst (rows_of found) (codes "NETWORK" ∷ codes "TRAFFIC" ∷ []) files
    → HoldsFile found (codes "NETWORK") network → first_value found (codes "TRAFFIC") ≡ traffic → files ≡ network
    ∷ file_given traffic
linted_files found [] network traffic many first holds given = absurd (omega (arith, many))
linted_files found (a ∷ []) network traffic many first holds given =
    ap₂ (λ (x : Text) (o : Option Text). x ∷ file_given o)
    (some_same a network (first_value found (codes "NETWORK"))
    (first_value-rows found (codes "NETWORK") ∙ first_held (rows_of found) (codes "NETWORK") a first.0) holds)
    (sym (none_held found (codes "TRAFFIC") first.1.0) ∙ given)
linted_files found (a ∷ b ∷ []) network traffic many first holds given =
    ap₂ (λ (x : Text) (o : Option Text). x ∷ file_given o)
    (some_same a network (first_value found (codes "NETWORK"))
    (first_value-rows found (codes "NETWORK") ∙ first_held (rows_of found) (codes "NETWORK") a first.0) holds)
    (sym (first_value-rows found (codes "TRAFFIC") ∙ first_held (rows_of found) (codes "TRAFFIC") b first.1.0) ∙ given)
linted_files found (a ∷ b ∷ c ∷ files) network traffic many first holds given = absurd first.1.1

-- a network, a declaration of traffic where one is given, and an answer where one is given too
drawn_files : (words : List Text) (found : Found) (files : List Text) (network : Text)
    (traffic answer class : Option Text) → 1 ≤ length files
    → HoldsFirst (rows_of found) (codes "NETWORK" ∷ codes "TRAFFIC" ∷ codes "ANSWER" ∷ []) files
    → HoldsFile found (codes "NETWORK") network → first_value found (codes "TRAFFIC") ≡ traffic
    → first_value found (codes "ANSWER") ≡ answer → NamesDraw words files class
    → NamesDrawing words network traffic answer class
drawn_files words found [] network traffic answer class many first holds given said named = absurd (omega (arith, many))
drawn_files words found (a ∷ []) network traffic answer class many first holds given said named =
    let no_traffic : None ≡ traffic = sym (none_held found (codes "TRAFFIC") first.1.0) ∙ given in
    let no_answer : None ≡ answer = sym (none_held found (codes "ANSWER") first.1.1.0) ∙ said in
    let same : a ≡ network = file_held found (codes "NETWORK") a network holds (first.0, tt) in
    subst (λ (o : Option Text). NamesDrawing words network o answer class) no_traffic
    (subst (λ (o : Option Text). NamesDrawing words network None o class) no_answer
    (subst (λ (x : Text). NamesDrawing words x None None class) same named))
drawn_files words found (a ∷ b ∷ []) network traffic answer class many first holds given said named =
    let is_traffic : Some b ≡ traffic = given_held found (codes "TRAFFIC") b traffic given (first.1.0, tt) in
    let no_answer : None ≡ answer = sym (none_held found (codes "ANSWER") first.1.1.0) ∙ said in
    let same : a ≡ network = file_held found (codes "NETWORK") a network holds (first.0, tt) in
    subst (λ (o : Option Text). NamesDrawing words network o answer class) is_traffic
    (subst (λ (o : Option Text). NamesDrawing words network (Some b) o class) no_answer
    (subst (λ (x : Text). NamesDrawing words x (Some b) None class) same named))
drawn_files words found (a ∷ b ∷ c ∷ []) network traffic answer class many first holds given said named =
    let is_traffic : Some b ≡ traffic = given_held found (codes "TRAFFIC") b traffic given (first.1.0, tt) in
    let is_answer : Some c ≡ answer = given_held found (codes "ANSWER") c answer said (first.1.1.0, tt) in
    let same : a ≡ network = file_held found (codes "NETWORK") a network holds (first.0, tt) in
    subst (λ (o : Option Text). NamesDrawing words network o answer class) is_traffic
    (subst (λ (o : Option Text). NamesDrawing words network (Some b) o class) is_answer
    (subst (λ (x : Text). NamesDrawing words x (Some b) (Some c) class) same named))
drawn_files words found (a ∷ b ∷ c ∷ d ∷ files) network traffic answer class many first holds given said named =
    absurd first.1.1.1

-- ---- the option

-- what is read of a limit: its text, or the one that stands where it is left out
limit_there : (found : Found) (o : Option Text) → IsFine (taking_of audit) o
    → HoldsAtEnd (taking_of audit) o (rows_of found) → (n : ℕ) × HoldsLimit found n × IsLimitSet o n
limit_there found None fine set =
    let text = codes "1000000" in (
      1000000,
      (
        text,
        one_text-rows found (codes "limit")
            ∙ ap (λ (o : Option Row). option_and_then row_text o) set,
        limit_read text refl,
      ),
      refl,
    )
limit_there found (Some text) fine set = (
  digits_value 10 (without_leading_plus text),
  (
    text,
    one_text-rows found (codes "limit")
        ∙ one_held (rows_of found) (codes "limit") text set,
    limit_read text fine.1,
  ),
  limit_read text fine.1,
)

pub limit_found : {words : List Text} (found : Found) → HasWords (taking_of audit) words found → (n : ℕ)
    × HoldsLimit found n
limit_found found f = let l = limit_there found f.option f.accepted f.option_is in (l.0, l.1)

-- one limit alone is held
one_limit : (found : Found) (n other : ℕ) → HoldsLimit found n → HoldsLimit found other → n ≡ other
one_limit found n other (text, there, is) (text', there', is') =
    sym is.1 ∙ ap (λ (t : Text). digits_value 10 (without_leading_plus t))
    (some_same text text' (one_text found (codes "limit")) there there') ∙ is'.1

-- what is read of a prefix
prefix_there : (found : Found) (links : Option Text) → HoldsAtEnd (taking_of run) links (rows_of found)
    → first_value found (codes "links") ≡ links
prefix_there found None set = first_value-rows found (codes "links")
    ∙ ap (λ (o : Option Row). option_and_then (λ r. slice_get r.values 0) o) set
prefix_there found (Some text) set = first_value-rows found (codes "links")
    ∙ first_held (rows_of found) (codes "links") text set

-- what is read of the name of a class
class_there : (found : Found) (class : Option Text) → HoldsAtEnd (taking_of draw) class (rows_of found)
    → first_value found (codes "class") ≡ class
class_there found None set = first_value-rows found (codes "class")
    ∙ ap (λ (o : Option Row). option_and_then (λ r. slice_get r.values 0) o) set
class_there found (Some text) set = first_value-rows found (codes "class")
    ∙ first_held (rows_of found) (codes "class") text set

-- ---- the call that the words name

pub ok_as : {T E : Type 0} (r : Result T E) (P Q : T → Type 0) → ((x : T) → P x → Q x) → IfOk r P → IfOk r Q
ok_as (Ok x) P Q f h = f x h
ok_as (Err e) P Q f h = tt

-- the call that the matches of a command's words hold
abbrev pub IsCallOf : Kind → Found → Call → Type 0
IsCallOf replay found call = IsReplayOf found call
IsCallOf collect found call = IsCollectOf found call
IsCallOf check found call = IsCheckOf found call
IsCallOf confirm found call = IsConfirmOf found call
IsCallOf audit found call = IsAuditOf found call
IsCallOf run found call = IsRunCall found call
IsCallOf lint found call = IsLintOf found call
IsCallOf draw found call = IsDrawOf found call
IsCallOf sum found call = IsSumOf found call
IsCallOf join found call = IsJoinOf found call
IsCallOf explain found call = IsExplainOf found call

pub names_call : (k : Kind) (words : List Text) (found : Found) → HasWords (taking_of k) words found → (call : Call)
    → IsCallOf k found call → Names words call
names_call replay words found f (Replay a b c) h =
    files_there (codes "replay") (taking_of replay).ids words (string_bytes a ∷ string_bytes b ∷ string_bytes c ∷ [])
    found f (h.0, (h.1, (h.2, tt)))
names_call collect words found f (Collect a b) h =
    files_there (codes "collect") (taking_of collect).ids words (string_bytes a ∷ string_bytes b ∷ []) found f
    (h.0, (h.1, tt))
names_call check words found f (Check a b c) h =
    files_there (codes "check") (taking_of check).ids words (string_bytes a ∷ string_bytes b ∷ string_bytes c ∷ [])
    found f (h.0, (h.1, (h.2, tt)))
names_call confirm words found f (Confirm a b c) h =
    files_there (codes "confirm") (taking_of confirm).ids words (string_bytes a ∷ string_bytes b ∷ string_bytes c ∷ [])
    found f (h.0, (h.1, (h.2, tt)))
names_call lint words found f (Lint a o) h =
    alone_named f.option f.accepted
    (subst (λ (files : List Text). NamesBy (taking_of lint) words files f.option)
    (linted_files found f.files (string_bytes a) (option_map string_bytes o) f.count_is.0 f.files_are h.0 h.1)
    f.named)
names_call draw words found f (Draw a o p q) h =
    let same : f.option ≡ option_map string_bytes q = sym (class_there found f.option f.option_is) ∙ h.3 in
    let class : NamesDraw words f.files (option_map string_bytes q) = record {
      program = f.named.program;
      rest = f.named.rest;
      words_are = f.named.words_are;
      named = subst (NamesWith (codes "class") f.named.rest f.files) same f.named.named;
    } in drawn_files words found f.files (string_bytes a) (option_map string_bytes o) (option_map string_bytes p)
    (option_map string_bytes q) f.count_is.0 f.files_are h.0 h.1 h.2 class
names_call sum words found f (Sum a b) h =
    files_there (codes "sum") (taking_of sum).ids words (string_bytes a ∷ string_bytes b ∷ []) found f (h.0, (h.1, tt))
names_call join words found f (Join a b c) h =
    files_there (codes "join") (taking_of join).ids words (string_bytes a ∷ string_bytes b ∷ string_bytes c ∷ [])
    found f (h.0, (h.1, (h.2, tt)))
names_call explain words found f (Explain a) h =
    files_there (codes "explain") (taking_of explain).ids words (string_bytes a ∷ []) found f (h, tt)
names_call audit words found f (Audit a b limit) h =
    let n = named_there (taking_of audit) words (string_bytes a ∷ string_bytes b ∷ []) found f (omega arith)
    (h.0, (h.1, tt)) in
    let l = limit_there found f.option f.accepted f.option_is in
    record {
      program = n.program;
      rest = n.rest;
      option = f.option;
      words_are = n.words_are;
      named = n.named;
      limit_is =
          subst (IsLimitSet f.option) (one_limit found l.0 limit l.1 h.2) l.2;
    }
names_call run words found f (Run a b c d links) h =
    let n = named_there (taking_of run) words (string_bytes a ∷ string_bytes b ∷ string_bytes c ∷ string_bytes d ∷ [])
    found f (omega arith) (h.0, (h.1, (h.2, (h.3, tt)))) in
    let same : f.option ≡ option_map string_bytes links = sym (prefix_there found f.option f.option_is) ∙ h.4 in
    record {
      program = n.program;
      rest = n.rest;
      words_are = n.words_are;
      named =
          subst (NamesWith (codes "links") n.rest
          (string_bytes a ∷ string_bytes b ∷ string_bytes c ∷ string_bytes d ∷ [])) same n.named;
    }
names_call k words found f call h = absurd h
