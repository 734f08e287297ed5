-- A buffer of fixed size.
use Rattle.std.specs.Prelude.{ℕ, List, length, take}
use Rattle.fx_base.specs.declared.room.Room.{Room}

-- the octets that it holds
abbrev pub room_octets : Room → List ℕ
room_octets r = take r.len r.octets.now

-- the number of octets that it can hold
abbrev pub room_size : Room → ℕ
room_size r = length r.octets.now
