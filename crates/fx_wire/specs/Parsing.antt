-- The answers of the readers of sets.
use Rattle.std.specs.Prelude.{◌≡◌, ℕ, List, Result, Ok, Err, true, is_ok}
use Rattle.std.specs.Borrow.{Bor}
use Rattle.fx_wire.specs.Sets.{set_at, set_parts, sets_of}
use Rattle.fx_wire.specs.declared.set.Set.{Set}
use Rattle.fx_wire.specs.declared.malformed.Malformed.{Malformed}

-- the answer is the set at the front and the octets after it, or its refusal
abbrev pub IsSetAt : List ℕ → Result (Set × Bor (List ℕ)) Malformed → Type 0
IsSetAt octets (Ok p) = set_at octets ≡ Ok (set_parts p.0, p.1.now)
IsSetAt octets (Err why) = set_at octets ≡ Err why

-- the octets are a sequence of sets, or this is the refusal of the first one that is malformed
abbrev pub SetsStand : List ℕ → Result (Unit {0}) Malformed → Type 0
SetsStand octets (Ok u) = is_ok (sets_of octets) ≡ true
SetsStand octets (Err why) = sets_of octets ≡ Err why
