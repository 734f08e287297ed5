-- What the program answers: the text that it prints with an answer, and the status with which it ends.
use Rattle.std.specs.Prelude.{◌≡◌, ◌⊎◌, true, false, ℕ, Bool, List, ◌++◌, Ok, None, Option, is_some, string_bytes}
use Rattle.fx_base.specs.Device.{Writes}
use Rattle.fx_base.specs.Fault.{fault_at, IsMemory}
use Rattle.fx_base.specs.declared.fault.Fault.{Fault}
use Rattle.fx_base.specs.declared.fault.Place.TheVariants as places
use Rattle.fx_base.specs.Lines.{Lines, lines_in}
use Rattle.fx_base.specs.Refusals.{failed_write}
use Rattle.fx_link.specs.Links.{Put}
use Rattle.fx_checker.specs.declared.answer.Answer.{Answer}
use Rattle.fx_checker.specs.declared.answer.Answer.TheVariants.{Yes}
use Rattle.fx_audit.specs.declared.bundle.Command.{Command}
use Rattle.fx_audit.specs.Bundle.{IsBundle}
use Rattle.fx_audit.specs.Commands.{AreLinted, IsAudited, IsCollected, IsConfirmed, IsDone, IsLinted, IsRefusedBundle, IsRefusedCollect, IsRefusedConfirm, IsRefusedReplay, IsReplayed}
use Rattle.fx_checker.specs.Documents.{IsRefusedByDocuments, IsRefusedNetwork}
use Rattle.fx_audit.specs.Metering.{IsMetered, IsRefusedMetering}
use Rattle.fx_audit.specs.Sums.{IsRefusedSum, IsSummed}
use Rattle.fx_join.specs.Joins.{IsJoined, IsRefusedJoin}
use Rattle.fx_cli.specs.Drawing.{IsDrawingText}
use Rattle.fx_cli.specs.Explaining.{IsExplainText}
use Rattle.fx_checker.specs.Ending.{refusal_line, refusal_status, status}
use Rattle.fx_command_line.specs.declared.words.Call.{Call}
use Rattle.fx_command_line.specs.declared.words.Call.TheVariants.{Audit, Check, Collect, Confirm, Draw, Explain, Join, Lint, Replay, Run, Sum}
use Rattle.fx_checker.specs.Running.{IsAtBeginning, ForSomeTexts, IsCheckOutput, IsCheckRefusal, IsRefusal}

-- ---- the possible contents of a command's files

-- some octets, possible contents of a network's document, satisfy the predicate
abbrev pub ForSomeNetwork : (List ℕ → Type 0) → Type 0
ForSomeNetwork P = (network : List ℕ) × P network

-- some octets, possible contents of two files, satisfy the predicate
abbrev pub ForSomeDocuments : (List ℕ → List ℕ → Type 0) → Type 0
ForSomeDocuments P = (network : List ℕ) × (traffic : List ℕ) × P network traffic

-- some octets, possible contents of three files, satisfy the predicate
abbrev pub ForSomeFiles : (List ℕ → List ℕ → List ℕ → Type 0) → Type 0
ForSomeFiles P = (network : List ℕ) × (traffic : List ℕ) × (third : List ℕ) × P network traffic third

-- ---- what a command prints: the true answer for possible contents of its files

abbrev pub IsReplayOutput : Answer → List ℕ → Type 0
IsReplayOutput answer text = (answer ≡ Yes)
    × ForSomeTexts (λ network traffic lines. IsReplayed network traffic lines text)

abbrev pub IsCollectOutput : Answer → List ℕ → Type 0
IsCollectOutput answer text = (answer ≡ Yes) × ForSomeDocuments (λ network stream. IsCollected network stream text)

abbrev pub IsConfirmOutput : Answer → List ℕ → Type 0
IsConfirmOutput answer text = ForSomeTexts (λ network traffic lines. IsConfirmed network traffic lines answer text)

-- an audit with a limit on the split and leaf lines of a certificate
abbrev pub IsAuditOutput : ℕ → Answer → List ℕ → Type 0
IsAuditOutput limit answer text = ForSomeDocuments (λ network traffic. IsAudited network traffic limit answer text)

-- a run over some capture, from some state of the links to another
pub record IsMeteredCapture (network traffic : List ℕ) (from : Lines) (text : List ℕ) : Type 0 where
  pub left : Option (List ℕ)
  pub asked : ℕ
  pub last : Lines
  pub before : Put
  pub after : Put
  pub metered : IsMetered network traffic left asked from last before after text

abbrev pub IsRunOutput : Answer → List ℕ → Type 0
IsRunOutput answer text = (answer ≡ Yes)
    × ForSomeTexts (λ network traffic lines. IsMeteredCapture network traffic lines text)

-- for a network's document alone (`false`), or also for the document of its traffic (`true`)
abbrev pub IsLintOutput : Bool → Answer → List ℕ → Type 0
IsLintOutput false answer text = (answer ≡ Yes) × ForSomeNetwork (λ network. IsLinted network text)
IsLintOutput true answer text = (answer ≡ Yes) × ForSomeDocuments (λ network traffic. AreLinted network traffic text)

abbrev pub IsSumOutput : Answer → List ℕ → Type 0
IsSumOutput answer text = (answer ≡ Yes)
    × ForSomeNetwork (λ network. ((lines : Lines) × IsAtBeginning lines × IsSummed network lines text))

abbrev pub IsJoinOutput : Answer → List ℕ → Type 0
IsJoinOutput answer text = ForSomeFiles (λ network traffic parts. IsJoined network traffic parts answer text)

-- what the command of a bundle prints, for possible octets of standard input
abbrev pub IsBundleOutput : Answer → List ℕ → Type 0
IsBundleOutput answer text =
    (octets : List ℕ) × (command : Command) × (network : List ℕ) × (traffic : List ℕ) × (third : List ℕ)
    × IsBundle octets command network traffic third × IsDone command network traffic (lines_in third) answer text

-- the text that a call prints with its answer
abbrev pub IsCallText : Call → Answer → List ℕ → Type 0
IsCallText (Replay network traffic run) answer text = IsReplayOutput answer text
IsCallText (Collect network stream) answer text = IsCollectOutput answer text
IsCallText (Check network traffic certificate) answer text = IsCheckOutput answer text
IsCallText (Confirm network traffic refutation) answer text = IsConfirmOutput answer text
IsCallText (Audit network traffic limit) answer text = IsAuditOutput limit answer text
IsCallText (Run network traffic capture schedule links) answer text = IsRunOutput answer text
IsCallText (Lint network traffic) answer text = IsLintOutput (is_some traffic) answer text
IsCallText (Draw network traffic said class) answer text = IsDrawingText answer text
IsCallText (Sum network totals) answer text = IsSumOutput answer text
IsCallText (Join network traffic parts) answer text = IsJoinOutput answer text
IsCallText (Explain number) answer text = IsExplainText (string_bytes number) answer text

-- ---- the refusals of a command, for possible contents of its files

abbrev pub IsReplayRefusal : Fault → Type 0
IsReplayRefusal e = ForSomeTexts (λ network traffic lines. IsRefusedReplay network traffic lines e)

abbrev pub IsCollectRefusal : Fault → Type 0
IsCollectRefusal e = ForSomeDocuments (λ network stream. IsRefusedCollect network stream e)

abbrev pub IsConfirmRefusal : Fault → Type 0
IsConfirmRefusal e = ForSomeTexts (λ network traffic lines. IsRefusedConfirm network traffic lines e)

-- the refusal of an audit, or of a lint of two documents
abbrev pub IsDocumentsRefusal : Fault → Type 0
IsDocumentsRefusal e = ForSomeDocuments (λ network traffic. IsRefusedByDocuments network traffic e)

-- the refusal of a run over some capture that can be read
pub record IsCaptureRefusal (network traffic : List ℕ) (from : Lines) (e : Fault) : Type 0 where
  pub left : Option (List ℕ)
  pub asked : ℕ
  pub last : Lines
  pub before : Put
  pub refused : IsRefusedMetering network traffic left asked ⊥ (λ _. Unit {0}) from last before e

-- if the octets of the links go to files (`true`), a write to one of these may also have failed
abbrev pub IsRunRefusal : Bool → Fault → Type 0
IsRunRefusal false e = ForSomeTexts (λ network traffic lines. IsCaptureRefusal network traffic lines e)
IsRunRefusal true e = (e ≡ fault_at failed_write places.None)
    ⊎ ForSomeTexts (λ network traffic lines. IsCaptureRefusal network traffic lines e)

-- for a network's document alone (`false`), or also for the document of its traffic (`true`)
abbrev pub IsLintRefusal : Bool → Fault → Type 0
IsLintRefusal false e = ForSomeNetwork (λ network. IsRefusedNetwork network e)
IsLintRefusal true e = IsDocumentsRefusal e

abbrev pub IsSumRefusal : Fault → Type 0
IsSumRefusal e = ForSomeNetwork (λ network. ((lines : Lines) × IsAtBeginning lines × IsRefusedSum network lines e))

abbrev pub IsJoinRefusal : Fault → Type 0
IsJoinRefusal e = ForSomeFiles (λ network traffic parts. IsRefusedJoin network traffic parts e)

abbrev pub IsBundleRefusal : Fault → Type 0
IsBundleRefusal e = (octets : List ℕ) × IsRefusedBundle octets e

-- the refusal of a call; a drawing may have any, and an explanation, which reads no input, has only out of memory
abbrev pub IsCallRefusal : Call → Fault → Type 0
IsCallRefusal (Replay network traffic run) e = IsRefusal IsReplayRefusal e
IsCallRefusal (Collect network stream) e = IsRefusal IsCollectRefusal e
IsCallRefusal (Check network traffic certificate) e = IsRefusal IsCheckRefusal e
IsCallRefusal (Confirm network traffic refutation) e = IsRefusal IsConfirmRefusal e
IsCallRefusal (Audit network traffic limit) e = IsRefusal IsDocumentsRefusal e
IsCallRefusal (Run network traffic capture schedule links) e = IsRefusal (IsRunRefusal (is_some links)) e
IsCallRefusal (Lint network traffic) e = IsRefusal (IsLintRefusal (is_some traffic)) e
IsCallRefusal (Draw network traffic said class) e = Unit {0}
IsCallRefusal (Sum network totals) e = IsRefusal IsSumRefusal e
IsCallRefusal (Join network traffic parts) e = IsRefusal IsJoinRefusal e
IsCallRefusal (Explain number) e = IsMemory e

-- ---- how the program ends

-- the same, with an explanation after that line
abbrev pub HasFailedExplained : {S : Type 0} → (S → Option (List ℕ)) → (S → Bool) → S → Type 0
HasFailedExplained {S} taken failed new =
    (failed new ≡ true) ⊎ ((then : S) × (words : List ℕ) × (failed then ≡ true)
    × Writes (taken then) (taken new) (refusal_line (fault_at failed_write places.None) ++ words))

-- The same, with an explanation after the answer's text or the line of the refusal.
abbrev pub EndsExplained : (Answer → List ℕ → Type 0) → (Fault → Type 0) → Option (List ℕ) → Option (List ℕ) → Type 0
    → Type 0 → ℕ → Type 0
EndsExplained IsText IsRefused old new Going Failed code =
    (Going × ((answer : Answer) × (text : List ℕ) × (words : List ℕ) × IsText answer text
    × Writes old new (text ++ words) × (code ≡ status (Ok answer))))
    ⊎ ((Going × ((e : Fault) × (words : List ℕ) × IsRefused e × Writes old new (refusal_line e ++ words)
    × (code ≡ refusal_status e)))
    ⊎ ((code ≡ 5) × Failed))
