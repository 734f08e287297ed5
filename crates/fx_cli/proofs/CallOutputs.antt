-- What the words' call prints, whichever call they are read as.
use Rattle.std.proofs.Common.{◌≡◌, ◌⊎◌, ◌∙◌, ◌<◌, ℕ, Bool, false, refl, sym, ap, subst, arith, List, [], ◌∷◌, ◌++◌, length, map, true, Option, Some, None, inl, inr, true≢false, codes}
use Rattle.std.specs.Prelude.{IfErr, IfOk, Result, Ok, Err, is_some, option_map, string_bytes, unwrap_or}
use Rattle.std.specs.Str.{bytes_eq}
use Rattle.std.proofs.lemmas.Slice.Eq.{bytes_eq-Decides}
use Rattle.clap.specs.Words.{Text}
use Rattle.fx_base.proofs.Writing.{writes_both}
use Rattle.fx_base.specs.Device.{IsWriteFault, MayHaveLeft, Writes}
use Rattle.fx_base.specs.Fault.{fault_at}
use Rattle.fx_base.specs.declared.fault.Fault.{Fault}
use Rattle.fx_base.specs.declared.fault.Place.TheVariants as places
use Rattle.fx_cli.specs.Explaining.{IsExplainText}
use Rattle.fx_checker.specs.Ending.{EndsWith, refusal_line, refusal_status, status}
use Rattle.fx_checker.specs.Documents.{BothMayHaveLeft}
use Rattle.fx_checker.specs.declared.answer.Answer.TheVariants.{Yes}
use Rattle.fx_base.specs.Lines.{Lines}
use Rattle.fx_link.specs.Links.{Put}
use Rattle.fx_audit.specs.Metering.{IsMetered}
use Rattle.fx_checker.specs.Outputs.{AnswersWith, Prints}
use Rattle.fx_checker.specs.declared.answer.Answer.{Answer}
use Rattle.fx_cli.specs.Running.{EndsExplained, HasFailedExplained, IsCallRefusal, IsCallText, IsLintRefusal, IsLintOutput, IsRunOutput, IsRunRefusal, IsAuditOutput, ForSomeNetwork, ForSomeDocuments, ForSomeFiles}
use Rattle.fx_command_line.specs.Words.{Names, NamesAudit, NamesFiles, NamesRun, NamesWith, IsLimit, IsLimitSet, file_given, file_names}
use Rattle.fx_command_line.specs.declared.words.Call.{Call}
use Rattle.fx_command_line.specs.declared.words.Call.TheVariants.{Audit, Check, Collect, Confirm, Draw, Explain, Join, Lint, Replay, Run, Sum}
use Rattle.fx_command_line.proofs.CommandTable.{Kind, audit, check, collect, confirm, draw, explain, join, limit_name, lint, name_of, nameless, replay, run, sum}
use Rattle.fx_command_line.proofs.AcceptedWords.{behind, second}
use Rattle.fx_command_line.proofs.OptionNames.{IsName, option_alone}
use Rattle.fx_checker.specs.Running.{EndsAs, IsAtBeginning, IsRefusal, ForSomeTexts}
use Rattle.fx_checker.proofs.Outputs.{ended}

-- the command of a call
abbrev kind_of : Call → Kind
kind_of (Replay a b c) = replay
kind_of (Collect a b) = collect
kind_of (Check a b c) = check
kind_of (Confirm a b c) = confirm
kind_of (Audit a b limit) = audit
kind_of (Run a b c d links) = run
kind_of (Lint a b) = lint
kind_of (Draw a b c d) = draw
kind_of (Sum a b) = sum
kind_of (Join a b c) = join
kind_of (Explain a) = explain

command_word : (words : List Text) (call : Call) → Names words call → second words ≡ name_of (kind_of call)
command_word words (Replay a b c) n = ap second n.words_are
command_word words (Collect a b) n = ap second n.words_are
command_word words (Check a b c) n = ap second n.words_are
command_word words (Confirm a b c) n = ap second n.words_are
command_word words (Audit a b limit) n = ap second n.words_are
command_word words (Run a b c d links) n = ap second n.words_are
command_word words (Lint a b) n = ap second n.words_are
command_word words (Draw a None None d) n = ap second n.words_are
command_word words (Draw a (Some b) None d) n = ap second n.words_are
command_word words (Draw a (Some b) (Some c) d) n = ap second n.words_are
command_word words (Draw a None (Some c) d) n = absurd n
command_word words (Sum a b) n = ap second n.words_are
command_word words (Join a b c) n = ap second n.words_are
command_word words (Explain a) n = ap second n.words_are

-- the program's own name alone names no call
pub too_short : {A : Type 0} (text_of : A → Text) (words : List A) (call : Call) → length words < 2
    → Names (map text_of words) call → ⊥
too_short text_of [] call few n = nameless [] (kind_of call) refl (sym (command_word [] call n))
too_short text_of (program ∷ []) call few n =
    nameless [] (kind_of call) refl (sym (command_word (text_of program ∷ []) call n))
too_short text_of (program ∷ command ∷ rest) call few n = absurd (omega (arith, few))

-- words name calls of one command alone
apart : (words : List Text) (one other : Call) → Names words one → Names words other
    → bytes_eq (name_of (kind_of one)) (name_of (kind_of other)) ≡ false → ⊥
apart words one other n m differ =
    let same : name_of (kind_of one) ≡ name_of (kind_of other) = sym (command_word words one n)
    ∙ command_word words other m in
    true≢false (sym ((bytes_eq-Decides (name_of (kind_of one)) (name_of (kind_of other))).1 same) ∙ differ)

-- an option sets one limit alone
limit_alone : (o p : Option Text) (limit other : ℕ) → o ≡ p → IsLimitSet o limit → IsLimitSet p other → limit ≡ other
limit_alone o None limit other same a b = let none : limit ≡ 1000000 =
    subst (λ (x : Option Text). IsLimitSet x limit) same a in none ∙ sym b
limit_alone o (Some text) limit other same a b = let set : IsLimit text limit =
    subst (λ (x : Option Text). IsLimitSet x limit) same a in sym set.1 ∙ b.1

-- words set one limit alone
one_limit : {words files others : List Text} {limit other : ℕ} → NamesAudit words files limit
    → NamesAudit words others other → limit ≡ other
one_limit {words} {files} {others} {limit} {other} n m =
    let same : n.rest ≡ m.rest = sym (ap behind n.words_are) ∙ ap behind m.words_are in
    let named : NamesWith (codes "limit") m.rest files n.option =
    subst (λ (rest : List Text). NamesWith (codes "limit") rest files n.option) same n.named in
    limit_alone n.option m.option limit other
    (option_alone (codes "limit") m.rest files others n.option m.option limit_name named m.named) n.limit_is
    m.limit_is

-- words name one number alone
one_number : {words : List Text} {one other : Text} → NamesFiles words (codes "explain") (one ∷ [])
    → NamesFiles words (codes "explain") (other ∷ []) → one ≡ other
one_number {words} {one} {other} n m =
    let same : n.rest ≡ m.rest = sym (ap behind n.words_are) ∙ ap behind m.words_are in
    let files : Some (one ∷ []) ≡ Some (other ∷ []) = sym n.files_are ∙ ap file_names same ∙ m.files_are in
    ap (λ (o : Option (List Text)). first_or one o) files
  where
    first_or : Text → Option (List Text) → Text
    first_or word None = word
    first_or word (Some []) = word
    first_or word (Some (file ∷ files)) = file

explained_alike : (words : List Text) (a d : Text) → NamesFiles words (codes "explain") (a ∷ [])
    → NamesFiles words (codes "explain") (d ∷ []) → (answer : Answer) (text : List ℕ)
    → IsExplainText a answer text → IsExplainText d answer text
explained_alike words a d n m answer text is =
    subst (λ (word : Text). IsExplainText word answer text) (one_number n m) is

-- words name one list of files alone
one_list : {words files others : List Text} {command : Text} → NamesFiles words command files
    → NamesFiles words command others → files ≡ others
one_list {words} {files} {others} {command} n m =
    let same : n.rest ≡ m.rest = sym (ap behind n.words_are) ∙ ap behind m.words_are in
    let listed : Some files ≡ Some others = sym n.files_are ∙ ap file_names same ∙ m.files_are in
    ap (λ (o : Option (List Text)). unwrap_or o files) listed

abbrev has_second : List Text → Bool
has_second (one ∷ two ∷ rest) = true
has_second files = false

second_given : {A : Type 0} (text_of : A → Text) (first : Text) (file : Option A)
    → has_second (first ∷ file_given (option_map text_of file)) ≡ is_some file
second_given text_of first None = refl
second_given text_of first (Some file) = refl

given_alike : (words : List Text) (a d : _) (b e : Option _) → Names words (Lint a b) → Names words (Lint d e)
    → is_some b ≡ is_some e
given_alike words a d b e n m = sym (second_given string_bytes (string_bytes a) b) ∙ ap has_second (one_list n m)
    ∙ second_given string_bytes (string_bytes d) e

-- so the calls that they name print the same texts
pub same_text : (words : List Text) (one other : Call) → Names words one → Names words other
    → (answer : Answer) (text : List ℕ) → IsCallText one answer text → IsCallText other answer text
same_text words (Replay a b c) (Replay d e f) n m answer text is = is
same_text words (Collect a b) (Collect d e) n m answer text is = is
same_text words (Check a b c) (Check d e f) n m answer text is = is
same_text words (Confirm a b c) (Confirm d e f) n m answer text is = is
same_text words (Audit a b k) (Audit d e l) n m answer text is =
    subst (λ (limit : ℕ). IsAuditOutput limit answer text) (one_limit n m) is
same_text words (Run a b c h k) (Run d e f g l) n m answer text is = is
same_text words (Lint a b) (Lint d e) n m answer text is =
    subst (λ (given : Bool). IsLintOutput given answer text) (given_alike words a d b e n m) is
same_text words (Draw a b c k) (Draw d e f l) n m answer text is = is
same_text words (Sum a b) (Sum d e) n m answer text is = is
same_text words (Join a b c) (Join d e f) n m answer text is = is
same_text words (Explain a) (Explain d) n m answer text is =
    explained_alike words (string_bytes a) (string_bytes d) n m answer text is
same_text words one other n m answer text is = absurd (apart words one other n m refl)

-- words name the same files of links, or none
links_alike : {words files others : List Text} {one other : Option Text} → NamesRun words files one
    → NamesRun words others other → one ≡ other
links_alike {words} {files} {others} {one} {other} n m =
    let same : n.rest ≡ m.rest = sym (ap behind n.words_are) ∙ ap behind m.words_are in
    let named : NamesWith (codes "links") m.rest files one =
    subst (λ (rest : List Text). NamesWith (codes "links") rest files one) same n.named in
    option_alone (codes "links") m.rest files others one other links_name named m.named
  where
    links_name : IsName (codes "links")
    links_name = record { alone = refl; with_value = λ value. refl; single = refl; single_with_value = λ value. refl }

mapped_given : {A B : Type 0} (f : A → B) (o : Option A) → is_some (option_map f o) ≡ is_some o
mapped_given f None = refl
mapped_given f (Some x) = refl

links_given_alike : (words : List Text) (a b c h d e f g : _) (k l : Option _) → Names words (Run a b c h k)
    → Names words (Run d e f g l) → is_some k ≡ is_some l
links_given_alike words a b c h d e f g k l n m = sym (mapped_given string_bytes k)
    ∙ ap (λ (o : Option Text). is_some o) (links_alike n m) ∙ mapped_given string_bytes l

-- and they have the same refusals
pub same_refusal : (words : List Text) (one other : Call) → Names words one → Names words other → (e : Fault)
    → IsCallRefusal one e → IsCallRefusal other e
same_refusal words (Replay a b c) (Replay d e f) n m fault is = is
same_refusal words (Collect a b) (Collect d e) n m fault is = is
same_refusal words (Check a b c) (Check d e f) n m fault is = is
same_refusal words (Confirm a b c) (Confirm d e f) n m fault is = is
same_refusal words (Audit a b k) (Audit d e l) n m fault is = is
same_refusal words (Run a b c h k) (Run d e f g l) n m fault is =
    subst (λ (given : Bool). IsRefusal (IsRunRefusal given) fault) (links_given_alike words a b c h d e f g k l n m) is
same_refusal words (Lint a b) (Lint d e) n m fault is =
    subst (λ (given : Bool). IsRefusal (IsLintRefusal given) fault) (given_alike words a d b e n m) is
same_refusal words (Draw a b c k) (Draw d e f l) n m fault is = is
same_refusal words (Sum a b) (Sum d e) n m fault is = is
same_refusal words (Join a b c) (Join d e f) n m fault is = is
same_refusal words (Explain a) (Explain d) n m fault is = is
same_refusal words one other n m fault is = absurd (apart words one other n m refl)

-- each call may run out of memory
pub memory_refusal : (call : Call) → IsCallRefusal call (fault_at 900 places.None)
memory_refusal (Replay a b c) = inl refl
memory_refusal (Collect a b) = inl refl
memory_refusal (Check a b c) = inl refl
memory_refusal (Confirm a b c) = inl refl
memory_refusal (Audit a b limit) = inl refl
memory_refusal (Run a b c d links) = inl refl
memory_refusal (Lint a b) = inl refl
memory_refusal (Draw a b c d) = tt
memory_refusal (Sum a b) = inl refl
memory_refusal (Join a b c) = inl refl
memory_refusal (Explain a) = refl

-- a program that ends as one call of the words does ends as any does
pub ends_as : (words : List Text) (one other : Call) → Names words one → Names words other
    → (old new : Option (List ℕ)) (Going Failed : Type 0) (code : ℕ)
    → EndsAs (IsCallText one) (IsCallRefusal one) old new Going Failed code
    → EndsAs (IsCallText other) (IsCallRefusal other) old new Going Failed code
ends_as words one other n m old new Going Failed code ends = elim ends [
  | inl (going, (answer, text, is, reported, ended)) ↦
      inl (going, (answer, text, same_text words one other n m answer text is, reported, ended))
  | inr (inl (going, (e, is, reported, ended))) ↦
      inr (inl (going, (e, same_refusal words one other n m e is, reported, ended)))
  | inr (inr failed) ↦ inr (inr failed)
]

-- an answer for octets that may have been left is one for some octets
pub of_documents : {E : Type 0} (P : Answer → List ℕ → List ℕ → List ℕ → Type 0) (r : Result Answer E)
    (network traffic old new : Option (List ℕ))
    → IfOk r (λ answer. BothMayHaveLeft network traffic (λ n t. Prints (P answer n t) old new))
    → IfOk r (λ answer. Prints (λ text. ForSomeDocuments (λ n t. P answer n t text)) old new)
of_documents P (Ok answer) network traffic old new (n, left, (t, also, (text, is, written))) =
    (text, (n, t, is), written)
of_documents P (Err e) network traffic old new reported = tt

pub of_files : {E : Type 0} (P : Answer → List ℕ → List ℕ → List ℕ → List ℕ → Type 0) (r : Result Answer E)
    (network traffic third old new : Option (List ℕ))
    → IfOk r (λ answer. BothMayHaveLeft network traffic (λ n t. MayHaveLeft third
    (λ p. Prints (P answer n t p) old new)))
    → IfOk r (λ answer. Prints (λ text. ForSomeFiles (λ n t p. P answer n t p text)) old new)
of_files P (Ok answer) network traffic third old new (n, left, (t, also, (p, too, (text, is, written)))) =
    (text, (n, t, p, is), written)
of_files P (Err e) network traffic third old new reported = tt

pub yes_of_documents : {E : Type 0} (P : List ℕ → List ℕ → List ℕ → Type 0) (r : Result Answer E)
    (network traffic old new : Option (List ℕ))
    → IfOk r (λ answer. (answer ≡ Yes) × BothMayHaveLeft network traffic (λ n t. Prints (P n t) old new))
    → IfOk r (λ answer. Prints (λ text. (answer ≡ Yes) × ForSomeDocuments (λ n t. P n t text)) old new)
yes_of_documents P (Ok answer) network traffic old new (said, (n, left, (t, also, (text, is, written)))) =
    (text, (said, (n, t, is)), written)
yes_of_documents P (Err e) network traffic old new reported = tt

pub yes_of_document : {E : Type 0} (P : List ℕ → List ℕ → Type 0) (r : Result Answer E)
    (network old new : Option (List ℕ))
    → IfOk r (λ answer. (answer ≡ Yes) × MayHaveLeft network (λ n. Prints (P n) old new))
    → IfOk r (λ answer. Prints (λ text. (answer ≡ Yes) × ForSomeNetwork (λ n. P n text)) old new)
yes_of_document P (Ok answer) network old new (said, (n, left, (text, is, written))) = (text, (said, (n, is)), written)
yes_of_document P (Err e) network old new reported = tt

pub ran_over : {E : Type 0} (r : Result Answer E) (network traffic left old new : Option (List ℕ)) (asked : ℕ)
    (from last : Lines) (before after : Put) → IsAtBeginning from
    → IfOk r (λ answer. (answer ≡ Yes) × BothMayHaveLeft network traffic
    (λ n t. Prints (IsMetered n t left asked from last before after) old new))
    → IfOk r (λ answer. Prints (IsRunOutput answer) old new)
ran_over (Ok answer) network traffic left old new asked from last before after begins
    (said, (n, l, (t, also, (text, is, written)))) = (
      text,
      (
        said,
        (
          n,
          t,
          from,
          begins,
          record {
            left = left;
            asked = asked;
            last = last;
            before = before;
            after =
                after;
            metered = is;
          },
        ),
      ),
      written,
    )
ran_over (Err e) network traffic left old new asked from last before after begins reported = tt

pub yes_of_lines : {E : Type 0} (P : List ℕ → Lines → List ℕ → Type 0) (lines : Lines) (r : Result Answer E)
    (network old new : Option (List ℕ)) → IsAtBeginning lines
    → IfOk r (λ answer. (answer ≡ Yes) × MayHaveLeft network (λ n. Prints (P n lines) old new))
    → IfOk r (λ answer. Prints (λ text. (answer ≡ Yes)
    × ForSomeNetwork (λ n. ((lines : Lines) × IsAtBeginning lines × P n lines text))) old new)
yes_of_lines P lines (Ok answer) network old new begins (said, (n, left, (text, is, written))) =
    (text, (said, (n, (lines, begins, is))), written)
yes_of_lines P lines (Err e) network old new begins reported = tt

pub yes_of_texts : {E : Type 0} (P : List ℕ → List ℕ → Lines → List ℕ → Type 0) (lines : Lines) (r : Result Answer E)
    (network traffic old new : Option (List ℕ)) → IsAtBeginning lines
    → IfOk r (λ answer. (answer ≡ Yes) × BothMayHaveLeft network traffic (λ n t. Prints (P n t lines) old new))
    → IfOk r (λ answer. Prints (λ text. (answer ≡ Yes) × ForSomeTexts (λ n t lines. P n t lines text)) old new)
yes_of_texts P lines (Ok answer) network traffic old new begins (said, (n, left, (t, also, (text, is, written)))) =
    (text, (said, (n, t, lines, begins, is)), written)
yes_of_texts P lines (Err e) network traffic old new begins reported = tt

pub ends_explained_as : (words : List Text) (one other : Call) → Names words one → Names words other
    → (old new : Option (List ℕ)) (Going Failed : Type 0) (code : ℕ)
    → EndsExplained (IsCallText one) (IsCallRefusal one) old new Going Failed code
    → EndsExplained (IsCallText other) (IsCallRefusal other) old new Going Failed code
ends_explained_as words one other n m old new Going Failed code ends = elim ends [
  | inl (going, (answer, text, more, is, reported, ended)) ↦
      inl (going, (answer, text, more, same_text words one other n m answer text is, reported, ended))
  | inr (inl (going, (e, more, is, reported, ended))) ↦
      inr (inl (going, (e, more, same_refusal words one other n m e is, reported, ended)))
  | inr (inr failed) ↦ inr (inr failed)
]

-- an answer that was reported, or a refusal that came with nothing written or with a failed write and then its line,
-- and words behind it
pub ended_explained : {S : Type 0} (taken : S → Option (List ℕ)) (failed : S → Bool) (IsText : Answer → List ℕ → Type 0)
    (IsRefused : Fault → Type 0) (r : Result Answer Fault) (more : List ℕ) (first then last : S) (code : ℕ)
    → AnswersWith taken failed IsText first then r
    → IfErr r (λ e. IsWriteFault (failed then) e ⊎ IsRefused e)
    → IfOk r (λ _. EndsWith taken failed more (status r) then last code)
    → IfErr r (λ e. EndsWith taken failed (refusal_line e ++ more) (refusal_status e) then last code)
    → EndsExplained IsText IsRefused (taken first) (taken last) (failed first ≡ false → failed last ≡ false)
    (HasFailedExplained taken failed last) code
ended_explained {S} taken failed IsText IsRefused (Ok answer) more first then last code
    ((text, is, reported), (going, quiet)) why (inl (code_is, line, keeps)) refused =
    inl (
      λ fine. keeps (going fine),
      (
        answer,
        text,
        more,
        is,
        writes_both (taken first) (taken then) (taken last) text
            more (text ++ more) reported line refl,
        code_is,
      ),
    )
ended_explained {S} taken failed IsText IsRefused (Ok answer) more first then last code answers why (inr (five, fails))
    refused = inr (inr (five, inl fails))
ended_explained {S} taken failed IsText IsRefused (Err e) more first then last code answers (inl (is, fails)) answered
    (inl (code_is, line, keeps)) =
    inr (inr (
      code_is ∙ ap refusal_status is,
      inr
          (then, more, fails, subst (λ (x : Fault). Writes (taken then) (taken last) (refusal_line x ++ more)) is line),
    ))
ended_explained {S} taken failed IsText IsRefused (Err e) more first then last code (reported, (going, inl (is, fails)))
    (inr why) answered (inl (code_is, line, keeps)) =
    inr (inr (
      code_is ∙ ap refusal_status is,
      inr
          (then, more, fails, subst (λ (x : Fault). Writes (taken then) (taken last) (refusal_line x ++ more)) is line),
    ))
ended_explained {S} taken failed IsText IsRefused (Err e) more first then last code (reported, (going, inr same))
    (inr why) answered (inl (code_is, line, keeps)) =
    inr (inl (
      λ fine. keeps (subst (λ (s : S). failed s ≡ false) (sym same) fine),
      (e, more, why, subst (λ (s : S). Writes (taken s) (taken last) (refusal_line e ++ more)) same line, code_is),
    ))
ended_explained {S} taken failed IsText IsRefused (Err e) more first then last code answers why answered
    (inr (five, fails)) = inr (inr (five, inl fails))

-- a command answers as the one of its branches does that was taken
pub answers_as : {S : Type 0} (taken : S → Option (List ℕ)) (failed : S → Bool) (IsText : Answer → List ℕ → Type 0)
    (first last then : S) (r s : Result Answer Fault)
    → last ≡ then → r ≡ s → AnswersWith taken failed IsText first then s → AnswersWith taken failed IsText first last r
answers_as {S} taken failed IsText first last then r s same is answers =
    subst (λ (x : S). AnswersWith taken failed IsText first x r) (sym same)
    (subst (λ (x : Result Answer Fault). AnswersWith taken failed IsText first then x) (sym is) answers)
