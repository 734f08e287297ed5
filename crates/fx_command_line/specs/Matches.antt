-- The call that the matches of a command's arguments hold.
use Rattle.std.specs.Prelude.{◌≡◌, ℕ, IsSome, Option, Some, codes, option_map, string_bytes}
use Rattle.clap.specs.Words.{Text, first_value, one_text}
use Rattle.clap.specs.declared.parser.matches.Found.{Found}
use Rattle.fx_command_line.specs.Words.{IsLimit}
use Rattle.fx_command_line.specs.declared.words.Call.{Call}
use Rattle.fx_command_line.specs.declared.words.Call.TheVariants.{Audit, Check, Collect, Confirm, Draw, Explain, Join, Lint, Replay, Run, Sum}

-- there is a value under this name
abbrev pub HasFile : Found → Text → Type 0
HasFile found name = IsSome (first_value found name)

-- the value under this name is this file
abbrev pub HoldsFile : Found → Text → Text → Type 0
HoldsFile found name file = first_value found name ≡ Some file

-- the limit that was found, or the default, is this one
abbrev pub HoldsLimit : Found → ℕ → Type 0
HoldsLimit found limit = (text : Text) × (one_text found (codes "limit") ≡ Some text) × IsLimit text limit

abbrev pub IsReplayOf : Found → Call → Type 0
IsReplayOf found (Replay network traffic run) =
    HoldsFile found (codes "NETWORK") (string_bytes network) × HoldsFile found (codes "TRAFFIC") (string_bytes traffic)
    × HoldsFile found (codes "RUN") (string_bytes run)
IsReplayOf found _ = ⊥

abbrev pub IsCollectOf : Found → Call → Type 0
IsCollectOf found (Collect network stream) = HoldsFile found (codes "NETWORK") (string_bytes network)
    × HoldsFile found (codes "STREAM") (string_bytes stream)
IsCollectOf found _ = ⊥

abbrev pub IsCheckOf : Found → Call → Type 0
IsCheckOf found (Check network traffic certificate) =
    HoldsFile found (codes "NETWORK") (string_bytes network) × HoldsFile found (codes "TRAFFIC") (string_bytes traffic)
    × HoldsFile found (codes "CERTIFICATE") (string_bytes certificate)
IsCheckOf found _ = ⊥

abbrev pub IsConfirmOf : Found → Call → Type 0
IsConfirmOf found (Confirm network traffic refutation) =
    HoldsFile found (codes "NETWORK") (string_bytes network) × HoldsFile found (codes "TRAFFIC") (string_bytes traffic)
    × HoldsFile found (codes "REFUTATION") (string_bytes refutation)
IsConfirmOf found _ = ⊥

abbrev pub IsAuditOf : Found → Call → Type 0
IsAuditOf found (Audit network traffic limit) =
    HoldsFile found (codes "NETWORK") (string_bytes network) × HoldsFile found (codes "TRAFFIC") (string_bytes traffic)
    × HoldsLimit found limit
IsAuditOf found _ = ⊥

abbrev pub IsExplainOf : Found → Call → Type 0
IsExplainOf found (Explain number) = HoldsFile found (codes "NUMBER") (string_bytes number)
IsExplainOf found _ = ⊥

-- the text under an option's name, or under that of an optional file, is this one, if there is one
abbrev pub HoldsOption : Found → Text → Option Text → Type 0
HoldsOption found name text = first_value found name ≡ text

abbrev pub IsLintOf : Found → Call → Type 0
IsLintOf found (Lint network traffic) = HoldsFile found (codes "NETWORK") (string_bytes network)
    × HoldsOption found (codes "TRAFFIC") (option_map string_bytes traffic)
IsLintOf found _ = ⊥

abbrev pub IsDrawOf : Found → Call → Type 0
IsDrawOf found (Draw network traffic answer class) =
    HoldsFile found (codes "NETWORK") (string_bytes network)
    × HoldsOption found (codes "TRAFFIC") (option_map string_bytes traffic)
    × HoldsOption found (codes "ANSWER") (option_map string_bytes answer)
    × HoldsOption found (codes "class") (option_map string_bytes class)
IsDrawOf found _ = ⊥

abbrev pub IsSumOf : Found → Call → Type 0
IsSumOf found (Sum network totals) = HoldsFile found (codes "NETWORK") (string_bytes network)
    × HoldsFile found (codes "TOTALS") (string_bytes totals)
IsSumOf found _ = ⊥

abbrev pub IsJoinOf : Found → Call → Type 0
IsJoinOf found (Join network traffic parts) =
    HoldsFile found (codes "NETWORK") (string_bytes network) × HoldsFile found (codes "TRAFFIC") (string_bytes traffic)
    × HoldsFile found (codes "PARTS") (string_bytes parts)
IsJoinOf found _ = ⊥

abbrev pub IsRunCall : Found → Call → Type 0
IsRunCall found (Run network traffic capture schedule links) =
    HoldsFile found (codes "NETWORK") (string_bytes network) × HoldsFile found (codes "TRAFFIC") (string_bytes traffic)
    × HoldsFile found (codes "CAPTURE") (string_bytes capture)
    × HoldsFile found (codes "SCHEDULE") (string_bytes schedule)
    × HoldsOption found (codes "links") (option_map string_bytes links)
IsRunCall found _ = ⊥
