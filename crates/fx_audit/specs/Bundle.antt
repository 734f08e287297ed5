-- A bundle: the name of a command on a line, then texts, each followed by a line `%%`.
use Rattle.std.specs.Prelude.{◌≡◌, ℕ, ◌-◌, ◌||◌, ◌<◌, Bool, true, false, ◌&&◌, ◌==◌, List, [], ◌∷◌, ◌++◌, length, take, drop, bytes_eq, codes, slice_index}
use Rattle.fx_audit.specs.declared.bundle.Command.{Command}
use Rattle.fx_audit.specs.declared.bundle.Command.TheVariants.{Audit, Replay, Check, Confirm}

-- the line that ends a text
abbrev pub mark : List ℕ
mark = 37 ∷ 37 ∷ 10 ∷ []

-- a line begins at this index
abbrev pub begins_line : List ℕ → ℕ → Bool
begins_line bytes at = at == 0 || slice_index bytes (at - 1) == 10

-- there is a line `%%` at this index
abbrev pub is_mark_at : List ℕ → ℕ → Bool
is_mark_at bytes at = begins_line bytes at && bytes_eq (take 3 (drop at bytes)) mark

-- the first text of these octets, which is the lines before the first line `%%`, and the octets after that line
pub record FirstText (bytes text rest : List ℕ) : Type 0 where
  pub parts : bytes ≡ text ++ (mark ++ rest)
  pub marked : is_mark_at bytes (length text) ≡ true
  pub first : (k : ℕ) → k < length text → is_mark_at bytes k ≡ false

-- no line `%%` ends a text
abbrev pub HasNoMark : List ℕ → Type 0
HasNoMark bytes = (k : ℕ) → is_mark_at bytes k ≡ false

abbrev pub command_line : Command → List ℕ
command_line Replay = codes "replay" ++ 10 ∷ []
command_line Check = codes "check" ++ 10 ∷ []
command_line Confirm = codes "confirm" ++ 10 ∷ []
command_line Audit = codes "audit" ++ 10 ∷ []

-- the third text of a command, after the network and the traffic, and the octets after it; an audit has no third text
abbrev pub ThirdText : Command → List ℕ → List ℕ → List ℕ → Type 0
ThirdText Replay bytes text rest = FirstText bytes text rest
ThirdText Check bytes text rest = FirstText bytes text rest
ThirdText Confirm bytes text rest = FirstText bytes text rest
ThirdText Audit bytes text rest = (text ≡ []) × (rest ≡ bytes)

-- the octets are the command's line and its texts, each followed by its mark, and nothing after the last mark
pub record IsBundle (bytes : List ℕ) (command : Command) (network traffic third : List ℕ) : Type 0 where
  pub behind_command : List ℕ
  pub behind_network : List ℕ
  pub behind_traffic : List ℕ
  pub line : bytes ≡ command_line command ++ behind_command
  pub first : FirstText behind_command network behind_network
  pub second : FirstText behind_network traffic behind_traffic
  pub last : ThirdText command behind_traffic third []
