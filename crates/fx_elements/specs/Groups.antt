-- How addresses of IPv6 are written, and how the written form is read (RFC 4291, section 2.2).
use Rattle.std.specs.Prelude.{ℕ, ◌+◌, ◌-◌, ◌*◌, ◌/◌, ◌%◌, ◌^◌, ◌&&◌, nat_le, nat_lt, ◌==◌, if◌then◌else◌, List, [], ◌∷◌, ◌++◌, Option, Some, None}
use Rattle.fx_elements.specs.Spelling.{◌>>=◌, cut_at}

-- ---- the written form

-- a hexadecimal digit, in lower case
abbrev pub hex_digit : ℕ → ℕ
hex_digit d = if nat_lt d 10 then 48 + d else 87 + d

-- a group of 16 bits is its hexadecimal text, which has no leading zero
abbrev pub group : ℕ → List ℕ
group g =
    if nat_lt g 16 then hex_digit g ∷ [] else (if nat_lt g 256 then hex_digit (g / 16) ∷ hex_digit (g % 16)
    ∷ [] else (if nat_lt g 4096 then hex_digit (g / 256) ∷ hex_digit (g / 16 % 16) ∷ hex_digit (g % 16)
    ∷ [] else hex_digit (g / 4096) ∷ hex_digit (g / 256 % 16) ∷ hex_digit (g / 16 % 16) ∷ hex_digit (g % 16) ∷ []))

-- half of an address of IPv6: four groups with colons between them
unfoldable pub half : ℕ → List ℕ
half h = group (h / 2 ^ 48) ++ 58 ∷ (group (h / 2 ^ 32 % 65536) ++ 58
    ∷ (group (h / 2 ^ 16 % 65536) ++ 58 ∷ group (h % 65536)))

-- an address of IPv6 is its eight groups with colons between them
unfoldable pub groups : ℕ → List ℕ
groups v = half (v / 2 ^ 64) ++ 58 ∷ half (v % 2 ^ 64)

-- ---- reading only the written form

-- the value of a hexadecimal digit in lower case
unfoldable pub hex_of : ℕ → Option ℕ
hex_of b = if nat_le 48 b && nat_le b 57 then Some (b - 48)
    else (if nat_le 97 b && nat_le b 102 then Some (b - 87) else None)

-- the number with this hexadecimal text of one to four digits, without a leading zero
unfoldable pub group_of : List ℕ → Option ℕ
group_of (a ∷ []) = hex_of a
group_of (a ∷ b ∷ []) = if a == 48 then None else do
  x ← hex_of a
  y ← hex_of b
  Some (x * 16 + y)
group_of (a ∷ b ∷ c ∷ []) = if a == 48 then None else do
  x ← hex_of a
  y ← hex_of b
  z ← hex_of c
  Some ((x * 16 + y) * 16 + z)
group_of (a ∷ b ∷ c ∷ d ∷ []) = if a == 48 then None else do
  w ← hex_of a
  x ← hex_of b
  y ← hex_of c
  z ← hex_of d
  Some (((w * 16 + x) * 16 + y) * 16 + z)
group_of _ = None

unfoldable pub groups_of : List ℕ → Option ℕ
groups_of text = do
  a ← cut_at 58 text
  b ← cut_at 58 a.1
  c ← cut_at 58 b.1
  d ← cut_at 58 c.1
  e ← cut_at 58 d.1
  f ← cut_at 58 e.1
  g ← cut_at 58 f.1
  s ← group_of a.0
  t ← group_of b.0
  u ← group_of c.0
  v ← group_of d.0
  w ← group_of e.0
  x ← group_of f.0
  y ← group_of g.0
  z ← group_of g.1
  Some (((((((s * 65536 + t) * 65536 + u) * 65536 + v) * 65536 + w) * 65536 + x) * 65536 + y) * 65536 + z)
