-- The sets of a message (RFC 7011, section 3.3): an id, the length of the set including this header, and the records.
use Rattle.std.specs.Prelude.{ℕ, zero, suc, ◌-◌, ◌&&◌, ◌||◌, Bool, not, ◌==◌, nat_lt, if◌then◌else◌, List, [], ◌∷◌, length, take, drop, Result, Ok, Err}
use Rattle.std.specs.Int.{w16}
use Rattle.fx_wire.specs.Numbers.{number_at}
use Rattle.fx_wire.specs.declared.set.Set.{Set}
use Rattle.fx_wire.specs.declared.malformed.Malformed.{Malformed}
use Rattle.fx_wire.specs.declared.malformed.Malformed.TheVariants as malformed

-- a set is its id and the octets after its header
pub record SetParts : Type 0 where
  pub id : ℕ
  pub content : List ℕ

-- the id and the content of a borrowed set
abbrev pub set_parts : Set → SetParts
set_parts s = record { id = s.id; content = s.content.now }

-- template sets have id 2, options template sets 3, data sets the id of their template (section 3.3.2); the others are
-- reserved
abbrev pub is_reserved : ℕ → Bool
is_reserved id = nat_lt id 256 && (not (id == 2) && not (id == 3))

-- the set at the front and the octets after it, or the refusal
abbrev pub set_at : List ℕ → Result (SetParts × List ℕ) Malformed
set_at octets =
    if nat_lt (length octets) 4 then Err malformed.SetLength
    else if nat_lt (number_at w16 2 octets) 4 || nat_lt (length octets) (number_at w16 2 octets) then Err
    malformed.SetLength
    else if is_reserved (number_at w16 0 octets) then Err malformed.SetId
    else Ok (
      record { id = number_at w16 0 octets; content = take (number_at w16 2 octets - 4) (drop 4 octets) },
      drop
          (number_at w16 2 octets) octets,
    )

abbrev pub before_sets : SetParts → Result (List SetParts) Malformed → Result (List SetParts) Malformed
before_sets first (Ok others) = Ok (first ∷ others)
before_sets first (Err why) = Err why

-- The sets in order, or the first refusal. Each set has at least one octet, so the number of octets bounds the turns.
unfoldable pub sets_in : ℕ → List ℕ → Result (List SetParts) Malformed
sets_in turns [] = Ok []
sets_in zero (b ∷ bs) = Err malformed.SetLength
sets_in (suc turns) (b ∷ bs) = elim (set_at (b ∷ bs))
    [ Ok first ↦ before_sets first.0 (sets_in turns first.1) | Err why ↦ Err why ]

unfoldable pub sets_of : List ℕ → Result (List SetParts) Malformed
sets_of octets = sets_in (length octets) octets

-- the sets, none if one is refused
abbrev pub sets_or_none : Result (List SetParts) Malformed → List SetParts
sets_or_none (Ok sets) = sets
sets_or_none (Err why) = []
