-- How an address of IPv6 may be spelled (RFC 4291, section 2.2).
use Rattle.std.specs.Prelude.{◌≡◌, ◌<◌, ℕ, ◌+◌, ◌-◌, ◌*◌, ◌/◌, ◌%◌, ◌&&◌, nat_le, ◌==◌, if◌then◌else◌, Bool, true, false, List, [], ◌∷◌, ◌++◌, fold, length, get_or, drop, replicate, Option, Some, None, option_map}
use Rattle.std.specs.Option.{option_or}
use Rattle.fx_elements.specs.Spelling.{◌>>=◌, put_before, cut_at, number_of, quad_of}
use Rattle.fx_elements.specs.Groups.{hex_of}
use Rattle.fx_elements.specs.declared.address6.Side.{Side}

-- ---- a group: one to four hexadecimal digits of either case

unfoldable pub any_hex_of : ℕ → Option ℕ
any_hex_of b = if nat_le 65 b && nat_le b 70 then Some (b - 55) else hex_of b

unfoldable pub any_group_of : List ℕ → Option ℕ
any_group_of (a ∷ []) = any_hex_of a
any_group_of (a ∷ b ∷ []) = do
  x ← any_hex_of a
  y ← any_hex_of b
  Some (x * 16 + y)
any_group_of (a ∷ b ∷ c ∷ []) = do
  x ← any_hex_of a
  y ← any_hex_of b
  z ← any_hex_of c
  Some ((x * 16 + y) * 16 + z)
any_group_of (a ∷ b ∷ c ∷ d ∷ []) = do
  w ← any_hex_of a
  x ← any_hex_of b
  y ← any_hex_of c
  z ← any_hex_of d
  Some (((w * 16 + x) * 16 + y) * 16 + z)
any_group_of _ = None

-- ---- groups side by side

abbrev pub put_first : ℕ → List (List ℕ) → List (List ℕ)
put_first b [] = []
put_first b (p ∷ ps) = (b ∷ p) ∷ ps

-- the pieces of a text between its colons
unfoldable pub pieces : List ℕ → List (List ℕ)
pieces [] = [] ∷ []
pieces (b ∷ bs) = if b == 58 then [] ∷ pieces bs else put_first b (pieces bs)

-- the last piece is a group or, if it ends the address, possibly a dotted quad, which is two groups
unfoldable pub last_of : Bool → List ℕ → Option (List ℕ)
last_of ends text =
    option_or (option_map (λ g. g ∷ []) (any_group_of text))
    (if ends then option_map (λ v. v / 65536 ∷ v % 65536 ∷ []) (quad_of text) else None)

-- each piece before it is a group
unfoldable pub groups_in : Bool → List (List ℕ) → Option (List ℕ)
groups_in ends [] = Some []
groups_in ends (p ∷ []) = last_of ends p
groups_in ends (p ∷ q ∷ ps) = do
  g ← any_group_of p
  gs ← groups_in ends (q ∷ ps)
  Some (g ∷ gs)

-- the groups of one side of `::`, or of an address without `::`; an empty side has none
unfoldable pub side_of : Bool → List ℕ → Option (List ℕ)
side_of ends [] = Some []
side_of ends (b ∷ bs) = groups_in ends (pieces (b ∷ bs))

-- the number that groups make when appended to groups that make n
abbrev pub number_behind : ℕ → List ℕ → ℕ
number_behind n groups = fold (λ v g. v * 65536 + g) n groups

-- ---- an address

-- the text before and after the first `::`
unfoldable pub cut_at_zeros : List ℕ → Option (List ℕ × List ℕ)
cut_at_zeros [] = None
cut_at_zeros (b ∷ bs) = if b == 58 && get_or bs 0 0 == 58 then Some ([], drop 1 bs) else put_before b (cut_at_zeros bs)

-- the address of exactly eight groups
unfoldable pub uncompressed_of : List ℕ → Option ℕ
uncompressed_of groups = if length groups == 8 then Some (number_behind 0 groups) else None

-- `::` is one or more groups of zeros, to make eight together with the groups before and after it
unfoldable pub compressed_of : List ℕ → List ℕ → Option ℕ
compressed_of before after =
    if nat_le (length before + length after) 7 then uncompressed_of
    (before ++ (replicate (8 - (length before + length after)) 0 ++ after)) else None

-- without `::` all groups are on one side; with it there are two sides, and the second ends the address
unfoldable pub address6_of : List ℕ → Option ℕ
address6_of text = elim (cut_at_zeros text) [
  | None ↦ side_of true text >>= uncompressed_of
  | Some sides ↦ do
    before ← side_of false sides.0
    after ← side_of true sides.1
    compressed_of before after
]

-- the text is the eight groups of v
abbrev pub IsUncompressed : List ℕ → ℕ → Type 0
IsUncompressed text v = (gs : List ℕ) × (side_of true text ≡ Some gs) × (length gs ≡ 8) × (v ≡ number_behind 0 gs)

-- the text is groups of v, `::` for n groups of zeros, at least one, and the groups after them
abbrev pub IsCompressed : List ℕ → ℕ → Type 0
IsCompressed text v =
    (front back before after : List ℕ) × (n : ℕ) × (text ≡ front ++ 58 ∷ (58 ∷ back))
    × (side_of false front ≡ Some before) × (side_of true back ≡ Some after)
    × (0 < n) × (length before + n + length after ≡ 8) × (v ≡ number_behind 0 (before ++ (replicate n 0 ++ after)))

-- an address, a slash and a number of leading bits
unfoldable pub prefix6_of : List ℕ → Option (ℕ × ℕ)
prefix6_of text = do
  p ← cut_at 47 text
  v ← address6_of p.0
  bits ← number_of 128 p.1
  if bits == 0 then None else Some (v, bits)

-- ---- groups counted as they are read

abbrev pub no_groups : Side
no_groups = record { count = 0; value = 0 }

-- a side with more groups appended, if there are at most eight
unfoldable pub side_with : Side → Option (List ℕ) → Option Side
side_with side None = None
side_with side (Some gs) =
    if nat_le (side.count + length gs) 8 then Some (record
    { count = side.count + length gs; value = number_behind side.value gs }) else None
