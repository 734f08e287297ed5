-- A source that is read piece by piece, with the octets that are held.
use Rattle.std.specs.Prelude.{◌≡◌, ℕ, ◌+◌, ◌-◌, ◌*◌, ◌≤◌, List, take, length, Bool, true, false, Option, None, IfSome}
use Rattle.std.specs.Io.KnownBytes.{prepend_known}
use Rattle.fx_base.specs.declared.fault.Fault.{Fault}
use Rattle.fx_base.specs.declared.fault.Place.TheVariants as places
use Rattle.fx_base.specs.declared.pieces.TheConstants.{PIECE}
use Rattle.fx_base.specs.Device.{IsAsked, IsUnread}
use Rattle.fx_base.specs.Fault.{fault_at}
use Rattle.fx_base.specs.Limits.{call_limit}
use Rattle.fx_base.specs.Lines.{line_len}
use Rattle.fx_base.specs.Refusals.{failed_read}

-- The abstract state of a reader of pieces that takes some octets of a piece at a time.
pub record Streamed : Type 0 where
  -- the octets that were read and not yet taken
  pub held : List ℕ
  -- the number of calls that it has made
  pub calls : ℕ

-- all octets not yet taken, if they are known, of a source that has these left
abbrev pub octets_of : Streamed → Option (List ℕ) → Option (List ℕ)
octets_of stream left = prepend_known stream.held left

-- a measure that decreases with each octet that is taken
abbrev pub octet_budget : Streamed → ℕ
octet_budget stream = (call_limit - stream.calls) * (PIECE + 1) + length stream.held

-- the first octets of a piece up to the first line feed and with it, or all of them
abbrev pub IsLinePart : List ℕ → ℕ → Bool → Type 0
IsLinePart piece count true = (count ≡ line_len piece + 1) × (count ≤ length piece)
IsLinePart piece count false = (count ≡ length piece) × (line_len piece ≡ length piece)

-- this number of calls was made of a source since it had these octets left, and each call returned an octet
pub record IsReadFrom (first_left : Option (List ℕ)) (first_asked calls : ℕ) (left : Option (List ℕ)) (asked : ℕ) :
    Type 0 where
  pub few : calls ≤ call_limit
  pub asked_is : IsAsked first_asked calls asked
  pub gained : IfSome first_left (λ first. IfSome left (λ now. calls + length now ≤ length first))
  pub opaque : left ≡ None → first_left ≡ None

-- whenever the source was first at, it is still read from there
abbrev pub ReadsOn : ℕ → Option (List ℕ) → ℕ → ℕ → Option (List ℕ) → ℕ → Type 0
ReadsOn calls left asked calls' left' asked' =
    (first_left : Option (List ℕ)) (first_asked : ℕ) → IsReadFrom first_left first_asked calls left asked
    → IsReadFrom first_left first_asked calls' left' asked'

-- whenever the source was first at, it can't be read to its end from there
abbrev pub StopsReading : ℕ → Option (List ℕ) → ℕ → ℕ → Bool → Fault → Type 0
StopsReading calls left asked asked' failed' e =
    (first_left : Option (List ℕ)) (first_asked : ℕ) → IsReadFrom first_left first_asked calls left asked
    → (e ≡ fault_at failed_read places.None) × IsUnread first_left first_asked asked' failed'
