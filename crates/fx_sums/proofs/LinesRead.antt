-- The lines of totals and notes are read as what they are the text of.
use Rattle.std.proofs.Common.{◌≡◌, ◌≢◌, ℕ, ◌+◌, ◌-◌, ◌*◌, ◌/◌, ◌%◌, ◌^◌, ◌<◌, ◌≤◌, Bool, true, false, ◌&&◌, not, cond, eqb, List, [], ◌∷◌, ◌++◌, Option, Some, None, refl, ap, sym, ◌∙◌, subst, arith, inl, ne_eqb, eq-eqb, codes, slice_index, pow-add}
use Rattle.std.specs.Prelude.{nat_lt}
use Rattle.std.specs.Fmt.{decimal}
use Rattle.std.specs.List.{AllByRecursion, join_with_byte, list_all}
use Rattle.std.specs.Str.{bytes_eq}
use Rattle.std.proofs.Math.Nat.{mul-mod_left}
use Rattle.std.proofs.lemmas.Bool.{eqb-false}
use Rattle.std.proofs.lemmas.Nat.{pow_pos, div-mul-add}
use Rattle.std.proofs.lemmas.List.{append-nil}
use Rattle.std.proofs.lemmas.Slice.Eq.{bytes_eq-Decides}
use Rattle.fx_base.specs.declared.counts.Counts.{Counts}
use Rattle.fx_elements.specs.declared.axis.Axis.{Axis}
use Rattle.fx_elements.specs.declared.axis.Axis.TheVariants as axis
use Rattle.fx_elements.specs.Axes.{axis_index, axis_width, tops}
use Rattle.fx_elements.specs.Groups.{group, half, groups}
use Rattle.fx_elements.specs.Spelling.{largest, number_of, quad, cut_at}
use Rattle.fx_elements.specs.Values.{written_on, value_text, bits_text, leading_text}
use Rattle.fx_elements.specs.Words.{Words, words}
use Rattle.fx_elements.proofs.Cuts.{cut_text}
use Rattle.fx_elements.proofs.Decimals.{number_64}
use Rattle.fx_elements.proofs.Addresses.{Avoids, avoids_both, decimal_avoids}
use Rattle.fx_elements.proofs.GroupTexts.{group_avoids}
use Rattle.fx_elements.proofs.AxisTexts.{written_text}
use Rattle.fx_elements.proofs.EveryAxis.{top_is, width_most}
use Rattle.fx_layout.specs.declared.layout.Part.{Part}
use Rattle.fx_layout.specs.Keys.{Layout, HasBits, IsLayout, can_stand, leading_bits}
use Rattle.fx_layout.proofs.Layouts.{stands_within}
use Rattle.fx_layout.proofs.Projections.{and_true}
use Rattle.fx_tables.specs.declared.record.Record.{Record}
use Rattle.fx_machine.specs.Sums.{IsBelow}
use Rattle.fx_sums.specs.declared.note.Note.{Note}
use Rattle.fx_sums.specs.declared.note.Note.TheVariants.{Complete, Frames, Gaps, Skipped}
use Rattle.fx_sums.specs.SumText.{comes_behind}
use Rattle.fx_sums.specs.SumLines.{number_behind, prefix_start, start_of, values_first, key_first, counts_of, record_of, record_behind, complete_of, frames_of, skipped_of, note_of_kind, note_of}
use Rattle.fx_sums.proofs.LinesFound.{IsNumber, IsNote, part_words, key_words, count_words, note_words}

-- ---- bytes that stand in no word

abbrev avoids : ℕ → List ℕ → Bool
avoids c [] = true
avoids c (b ∷ bs) = not (eqb b c) && avoids c bs

not_true : (t : Bool) → not t ≡ true → t ≡ false
not_true true e = absurd cc
not_true false e = refl

-- a word that is written out
pub written : (c : ℕ) (w : List ℕ) → avoids c w ≡ true → Avoids c w
written c [] e = tt
written c (b ∷ bs) e =
    let p = and_true (not (eqb b c)) (avoids c bs) e in
    (eqb-false b c (not_true (eqb b c) p.0), written c bs p.1)

-- spaces, line feeds and slashes stand in no value
record IsOutside (c : ℕ) : Type 0 where
  low : c < 48
  dot : 46 ≢ c
  colon : 58 ≢ c

quad_avoids : (c v : ℕ) → IsOutside c → v < 2 ^ 32 → Avoids c (quad v)
quad_avoids c v out lt =
    let number : (n : ℕ) → n < 256 → Avoids c (decimal n) = λ n h. decimal_avoids c n out.low (omega arith) in
    avoids_both c (decimal (v / 2 ^ 24)) _ (number (v / 2 ^ 24) (omega arith)) (
      out.dot,
      avoids_both c (decimal (v / 2 ^ 16 % 256)) _ (number (v / 2 ^ 16 % 256) (omega arith)) (
        out.dot,
        avoids_both c (decimal (v / 2 ^ 8 % 256)) _ (number (v / 2 ^ 8 % 256) (omega arith))
            (out.dot, number (v % 256) (omega arith)),
      ),
    )

half_avoids : (c h : ℕ) → IsOutside c → h < 2 ^ 64 → Avoids c (half h)
unfolding half
half_avoids c h out lt =
    let part : (g : ℕ) → g < 65536 → Avoids c (group g) = λ g k. group_avoids c g (inl out.low) k in
    avoids_both c (group (h / 2 ^ 48)) _ (part (h / 2 ^ 48) (omega (arith, lt))) (
      out.colon,
      avoids_both c (group (h / 2 ^ 32 % 65536)) _ (part (h / 2 ^ 32 % 65536) (omega arith)) (
        out.colon,
        avoids_both c (group (h / 2 ^ 16 % 65536)) _ (part (h / 2 ^ 16 % 65536) (omega arith))
            (out.colon, part (h % 65536) (omega arith)),
      ),
    )

groups_avoid : (c v : ℕ) → IsOutside c → v < 2 ^ 128 → Avoids c (groups v)
unfolding groups
groups_avoid c v out lt =
    avoids_both c (half (v / 2 ^ 64)) _ (half_avoids c (v / 2 ^ 64) out (omega (arith, lt)))
    (out.colon, half_avoids c (v % 2 ^ 64) out (omega arith))

number_avoids : (c n : ℕ) → IsOutside c → n < 2 ^ 64 → Avoids c (decimal n)
number_avoids c n out lt = decimal_avoids c n out.low (omega (arith, lt))

value_avoids : (c : ℕ) (x : Axis) (v : ℕ) → IsOutside c → v < 2 ^ axis_width x → Avoids c (value_text x v)
value_avoids c axis.Source v out lt = quad_avoids c v out lt
value_avoids c axis.Destination v out lt = quad_avoids c v out lt
value_avoids c axis.Protocol v out lt = number_avoids c v out (omega (arith, lt))
value_avoids c axis.SourcePort v out lt = number_avoids c v out (omega (arith, lt))
value_avoids c axis.DestinationPort v out lt = number_avoids c v out (omega (arith, lt))
value_avoids c axis.ClassOfService v out lt = number_avoids c v out (omega (arith, lt))
value_avoids c axis.Version v out lt = number_avoids c v out (omega (arith, lt))
value_avoids c axis.Source6 v out lt = groups_avoid c v out lt
value_avoids c axis.Destination6 v out lt = groups_avoid c v out lt

space : IsOutside 32
space = record { low = omega arith; dot = λ e. absurd cc; colon = λ e. absurd cc }

feed : IsOutside 10
feed = record { low = omega arith; dot = λ e. absurd cc; colon = λ e. absurd cc }

slash : IsOutside 47
slash = record { low = omega arith; dot = λ e. absurd cc; colon = λ e. absurd cc }

-- ---- words of a line

abbrev pub AllAvoid : ℕ → Words → Type 0
AllAvoid c ws = AllByRecursion (Avoids c) ws

all_both : (c : ℕ) (a b : Words) → AllAvoid c a → AllAvoid c b → AllAvoid c (a ++ b)
all_both c [] b h k = k
all_both c (x ∷ xs) b h k = (h.0, all_both c xs b h.1 k)

words_one : (w : List ℕ) → Avoids 32 w → words w ≡ w ∷ []
words_one [] h = refl
words_one (b ∷ bs) h = rw (ne_eqb b 32 h.0, words_one bs h.1) refl

words_before : (w rest : List ℕ) → Avoids 32 w → words (w ++ 32 ∷ rest) ≡ w ∷ words rest
words_before [] rest h = refl
words_before (b ∷ bs) rest h = rw (ne_eqb b 32 h.0, words_before bs rest h.1) refl

pub words_join : (w : List ℕ) (ws : Words) → AllAvoid 32 (w ∷ ws) → words (join_with_byte 32 (w ∷ ws)) ≡ w ∷ ws
words_join w [] h = words_one w h.0
words_join w (y ∷ ys) h = words_before w (join_with_byte 32 (y ∷ ys)) h.0
    ∙ ap (λ (x : Words). w ∷ x) (words_join y ys h.1)

line_before : (w rest : List ℕ) → Avoids 10 w → Avoids 10 rest → Avoids 10 (w ++ 32 ∷ rest)
line_before [] rest h k = (λ e. absurd cc, k)
line_before (b ∷ bs) rest h k = (h.0, line_before bs rest h.1 k)

pub line_join : (ws : Words) → AllAvoid 10 ws → Avoids 10 (join_with_byte 32 ws)
line_join [] h = tt
line_join (w ∷ []) h = h.0
line_join (w ∷ y ∷ ys) h = line_before w (join_with_byte 32 (y ∷ ys)) h.0 (line_join (y ∷ ys) h.1)

same : (w : List ℕ) → bytes_eq w w ≡ true
same w = (bytes_eq-Decides w w).1 refl

pub number_read : (word : List ℕ) (n : ℕ) → Avoids 32 word → IsNumber n → number_behind word (word ++ 32 ∷ decimal n)
    ≡ Some n
unfolding number_behind
number_read word n plain lt =
    let ws : words (word ++ 32 ∷ decimal n) ≡ word ∷ decimal n ∷ [] =
    words_join word (decimal n ∷ []) (plain, (number_avoids 32 n space lt, tt)) in
    rw (ws, same word, number_64 n (omega (arith, lt))) refl

pub number_line_plain : (word : List ℕ) (n : ℕ) → Avoids 10 word → IsNumber n → Avoids 10 (word ++ 32 ∷ decimal n)
number_line_plain word n plain lt = line_before word (decimal n) plain (number_avoids 10 n feed lt)

-- ---- values

-- the first value with these leading bits
start_below : (part : Part) (x : ℕ) → part.bits ≤ axis_width part.axis → x < 2 ^ part.bits
    → x * 2 ^ (axis_width part.axis - part.bits) < 2 ^ axis_width part.axis
start_below part x le lt =
    let size = 2 ^ (axis_width part.axis - part.bits) in
    let whole : axis_width part.axis ≡ part.bits + (axis_width part.axis - part.bits) = omega arith in
    let two : 2 ^ axis_width part.axis ≡ 2 ^ part.bits * size = ap (λ n. 2 ^ n) whole
    ∙ pow-add 2 part.bits (axis_width part.axis - part.bits) in
    subst (λ n. x * size < n) (sym two) (times x (2 ^ part.bits) size lt (pow_pos (axis_width part.axis - part.bits)))
  where
    times : (a b c : ℕ) → a < b → 0 < c → a * c < b * c
    times a b c h k = grind arith

leads : (part : Part) (x : ℕ) → leading_bits (axis_width part.axis) part.bits
    (x * 2 ^ (axis_width part.axis - part.bits)) ≡ x
leads part x =
    let size = 2 ^ (axis_width part.axis - part.bits) in
    let none : x * size + 0 ≡ x * size = omega arith in
    ap (λ n. n / size) (sym none) ∙ div-mul-add x size 0 (pow_pos (axis_width part.axis - part.bits))

on_axis : (x : Axis) (v : ℕ) → v < 2 ^ axis_width x → v ≤ slice_index tops (axis_index x)
on_axis x v lt = let top = top_is x in omega (arith, top, lt)

start_read : (part : Part) (x : ℕ) → can_stand part ≡ true → x < 2 ^ part.bits
    → start_of part (leading_text part.axis part.bits x) ≡ Some (x * 2 ^ (axis_width part.axis - part.bits))
unfolding prefix_start
start_read part x stands lt =
    let within = stands_within part stands in
    let most = width_most part.axis in
    let bits_small : part.bits ≤ 128 = omega (arith, within.1, most) in
    let small = start_below part x within.1 lt in
    let v : ℕ = x * 2 ^ (axis_width part.axis - part.bits) in
    by_fewer (nat_lt part.bits (axis_width part.axis)) refl (number_64 part.bits (omega (arith, bits_small)))
    (written_text part.axis v (on_axis part.axis v small))
    (cut_text 47 (value_text part.axis v) (decimal part.bits) (value_avoids 47 part.axis v slash small)) where
      by_fewer : (b : Bool) → nat_lt part.bits (axis_width part.axis) ≡ b → number_of largest (decimal part.bits)
          ≡ Some part.bits → written_on part.axis (value_text part.axis (x * 2 ^ (axis_width part.axis - part.bits)))
          ≡ Some (x * 2 ^ (axis_width part.axis - part.bits))
          → cut_at 47 (value_text part.axis (x * 2 ^ (axis_width part.axis - part.bits)) ++ 47 ∷ decimal part.bits)
          ≡ Some (value_text part.axis (x * 2 ^ (axis_width part.axis - part.bits)), decimal part.bits)
          → start_of part (leading_text part.axis part.bits x) ≡ Some (x * 2 ^ (axis_width part.axis - part.bits))
      by_fewer true e number value cut = rw (
        e,
        cut,
        number,
        value,
        eq-eqb part.bits part.bits refl,
        mul-mod_left x
            (2 ^ (axis_width part.axis - part.bits)),
      ) refl
      by_fewer false e number value cut = rw (
        e,
        append-nil
            (value_text part.axis (x * 2 ^ (axis_width part.axis - part.bits))),
        value,
      ) refl

pub values_read : (parts : Layout) (values : List ℕ) (ws : Words) → list_all can_stand parts ≡ true
    → HasBits parts values → values_first parts (part_words parts values ++ ws) ≡ Some (values, ws)
unfolding values_first
values_read [] [] ws stand h = refl
values_read [] (v ∷ vs) ws stand h = absurd h
values_read (part ∷ parts) [] ws stand h = absurd h
values_read (part ∷ parts) (v ∷ vs) ws stand h =
    let two = and_true (can_stand part) (list_all can_stand parts) stand in
    rw (start_read part v two.0 h.0, values_read parts vs ws two.1 h.1, leads part v) refl

key_read : (layout : Layout) (values : List ℕ) (ws : Words) → list_all can_stand layout ≡ true → HasBits layout values
    → key_first layout (key_words layout values ++ ws) ≡ Some (values, ws)
key_read [] [] ws stand h = refl
key_read [] (v ∷ vs) ws stand h = absurd h
key_read (part ∷ parts) values ws stand h = values_read (part ∷ parts) values ws stand h

counts_read : (c : Counts) → IsBelow c → counts_of (count_words c) ≡ Some c
unfolding counts_of
counts_read c h = rw (number_64 c.packets (omega (arith, h.0)), number_64 c.octets (omega (arith, h.1))) refl

-- ---- the line of a key

leading_avoids : (c : ℕ) (part : Part) (x : ℕ) → IsOutside c → 47 ≢ c → can_stand part ≡ true → x < 2 ^ part.bits
    → Avoids c (leading_text part.axis part.bits x)
leading_avoids c part x out line stands lt =
    let le = (stands_within part stands).1 in
    let most = width_most part.axis in
    avoids_both c (value_text part.axis (x * 2 ^ (axis_width part.axis - part.bits))) (bits_text part.axis part.bits)
    (value_avoids c part.axis _ out (start_below part x le lt))
    (by_fewer (nat_lt part.bits (axis_width part.axis)) (number_avoids c part.bits out (omega (arith, le, most))))
  where
    by_fewer : (b : Bool) → Avoids c (decimal part.bits) → Avoids c (cond b (47 ∷ decimal part.bits) [])
    by_fewer true h = (line, h)
    by_fewer false h = tt

parts_avoid : (c : ℕ) (parts : Layout) (values : List ℕ) → IsOutside c → 47 ≢ c → list_all can_stand parts ≡ true
    → HasBits parts values → AllAvoid c (part_words parts values)
parts_avoid c [] values out line stand h = tt
parts_avoid c (part ∷ parts) [] out line stand h = tt
parts_avoid c (part ∷ parts) (v ∷ vs) out line stand h =
    let two = and_true (can_stand part) (list_all can_stand parts) stand in
    (leading_avoids c part v out line two.0 h.0, parts_avoid c parts vs out line two.1 h.1)

key_avoids : (c : ℕ) (layout : Layout) (values : List ℕ) → IsOutside c → 47 ≢ c → avoids c (codes "all") ≡ true
    → list_all can_stand layout ≡ true → HasBits layout values → AllAvoid c (key_words layout values)
key_avoids c [] values out line all stand h = (written c (codes "all") all, tt)
key_avoids c (part ∷ parts) values out line all stand h = parts_avoid c (part ∷ parts) values out line stand h

counts_avoid : (x : Counts) (c : ℕ) → IsOutside c → IsBelow x → avoids c (codes "packets") ≡ true
    → avoids c (codes "octets") ≡ true → AllAvoid c (count_words x)
counts_avoid x c out h p o = (
  written c (codes "packets") p,
  (number_avoids c x.packets out h.0, (written c (codes "octets") o, (number_avoids c x.octets out h.1, tt))),
)

-- the line of a key, without its line feed
abbrev pub key_line : Record → List ℕ
key_line r = join_with_byte 32 (key_words r.key.layout r.key.values ++ count_words r.counts)

pub key_plain : (r : Record) → IsLayout r.key.layout → HasBits r.key.layout r.key.values → IsBelow r.counts
    → Avoids 10 (key_line r)
key_plain r is bits small =
    line_join (key_words r.key.layout r.key.values ++ count_words r.counts)
    (all_both 10 (key_words r.key.layout r.key.values) (count_words r.counts)
    (key_avoids 10 r.key.layout r.key.values feed (λ e. absurd cc) refl is.stands bits)
    (counts_avoid r.counts 10 feed small refl refl))

pub record_read : (r : Record) → IsLayout r.key.layout → HasBits r.key.layout r.key.values → IsBelow r.counts
    → record_of r.key.layout (key_line r) ≡ Some r
unfolding record_of
record_read r is bits small =
    let ws : words (key_line r) ≡ key_words r.key.layout r.key.values ++ count_words r.counts =
    line_words (key_words r.key.layout r.key.values)
    (all_both 32 (key_words r.key.layout r.key.values) (count_words r.counts)
    (key_avoids 32 r.key.layout r.key.values space (λ e. absurd cc) refl is.stands bits)
    (counts_avoid r.counts 32 space small refl refl)) in
    rw (ws, key_read r.key.layout r.key.values (count_words r.counts) is.stands bits, counts_read r.counts small) refl
  where
    line_words : (a : Words) → AllAvoid 32 (a ++ count_words r.counts)
        → words (join_with_byte 32 (a ++ count_words r.counts)) ≡ a ++ count_words r.counts
    line_words [] h = words_join _ _ h
    line_words (x ∷ xs) h = words_join x (xs ++ count_words r.counts) h

pub behind_read : (layout : Layout) (last : Option (List ℕ)) (line : List ℕ) (r : Record) → record_of layout line
    ≡ Some r → comes_behind last r.key.values ≡ true → record_behind layout last line ≡ Some r
unfolding record_behind
behind_read layout last line r is behind = rw (is, behind) refl

-- ---- the line of a note

abbrev pub note_bytes : Note → List ℕ
note_bytes note = join_with_byte 32 (note_words note)

note_avoids : (c : ℕ) (note : Note) → IsOutside c → IsNote note → avoids c (codes "complete") ≡ true
    → avoids c (codes "yes") ≡ true → avoids c (codes "no") ≡ true → avoids c (codes "skipped") ≡ true
    → avoids c (codes "other") ≡ true → avoids c (codes "malformed") ≡ true → avoids c (codes "gaps") ≡ true
    → AllAvoid c (note_words note)
note_avoids c (Complete true) out h co ye nay sk ot ma ga =
    (written c (codes "complete") co, (written c (codes "yes") ye, tt))
note_avoids c (Complete false) out h co ye nay sk ot ma ga =
    (written c (codes "complete") co, (written c (codes "no") nay, tt))
note_avoids c (Frames f) out h co ye nay sk ot ma ga = (
  written c (codes "skipped") sk,
  (
    written c (codes "other") ot,
    (number_avoids c f.other out h.0, (written c (codes "malformed") ma, (number_avoids c f.malformed out h.1, tt))),
  ),
)
note_avoids c (Gaps n) out h co ye nay sk ot ma ga = (written c (codes "gaps") ga, (number_avoids c n out h, tt))
note_avoids c (Skipped n) out h co ye nay sk ot ma ga = (written c (codes "skipped") sk, (number_avoids c n out h, tt))

pub note_plain : (note : Note) → IsNote note → Avoids 10 (note_bytes note)
note_plain note h = line_join (note_words note) (note_avoids 10 note feed h refl refl refl refl refl refl refl)

spaced : (note : Note) → IsNote note → AllAvoid 32 (note_words note)
spaced note h = note_avoids 32 note space h refl refl refl refl refl refl refl

-- no number is the word `other`
not_other : (n : ℕ) → n < 2 ^ 64 → bytes_eq (decimal n) (codes "other") ≡ false
unfolding number_of
not_other n lt = by_test (bytes_eq (decimal n) (codes "other")) refl where
  by_test : (t : Bool) → bytes_eq (decimal n) (codes "other") ≡ t → bytes_eq (decimal n) (codes "other") ≡ false
  by_test true e =
      let is : decimal n ≡ codes "other" = (bytes_eq-Decides (decimal n) (codes "other")).0 e in
      let k : number_of largest (codes "other") ≡ Some n = rw is at (number_64 n (omega (arith, lt))) in
      absurd cc
  by_test false e = e

note_of_words : (note : Note) → IsNote note → (line : List ℕ) → words line ≡ note_words note → note_of line ≡ Some note
unfolding note_of note_of_kind complete_of skipped_of frames_of
note_of_words (Complete true) h line e = rw e refl
note_of_words (Complete false) h line e = rw e refl
note_of_words (Frames f) h line e = rw (
  e,
  number_64 f.other (omega (arith, h.0)),
  number_64 f.malformed
      (omega (arith, h.1)),
) refl
note_of_words (Gaps n) h line e = rw (e, number_64 n (omega (arith, h))) refl
note_of_words (Skipped n) h line e = rw (e, not_other n h, number_64 n (omega (arith, h))) refl

-- no note is the first line of a text
no_keys_in : (note : Note) (line : List ℕ) → words line ≡ note_words note → number_behind (codes "keys") line ≡ None
unfolding number_behind
no_keys_in (Complete true) line e = rw e refl
no_keys_in (Complete false) line e = rw e refl
no_keys_in (Frames f) line e = rw e refl
no_keys_in (Gaps n) line e = rw e refl
no_keys_in (Skipped n) line e = rw e refl

pub note_no_keys : (note : Note) → IsNote note → number_behind (codes "keys") (note_bytes note) ≡ None
note_no_keys (Complete true) h = no_keys_in (Complete true) (note_bytes (Complete true))
    (words_join _ _ (spaced (Complete true) h))
note_no_keys (Complete false) h = no_keys_in (Complete false) (note_bytes (Complete false))
    (words_join _ _ (spaced (Complete false) h))
note_no_keys (Frames f) h = no_keys_in (Frames f) (note_bytes (Frames f)) (words_join _ _ (spaced (Frames f) h))
note_no_keys (Gaps n) h = no_keys_in (Gaps n) (note_bytes (Gaps n)) (words_join _ _ (spaced (Gaps n) h))
note_no_keys (Skipped n) h = no_keys_in (Skipped n) (note_bytes (Skipped n)) (words_join _ _ (spaced (Skipped n) h))

pub note_read : (note : Note) → IsNote note → note_of (note_bytes note) ≡ Some note
note_read (Complete true) h = note_of_words (Complete true) h (note_bytes (Complete true))
    (words_join _ _ (spaced (Complete true) h))
note_read (Complete false) h = note_of_words (Complete false) h (note_bytes (Complete false))
    (words_join _ _ (spaced (Complete false) h))
note_read (Frames f) h = note_of_words (Frames f) h (note_bytes (Frames f)) (words_join _ _ (spaced (Frames f) h))
note_read (Gaps n) h = note_of_words (Gaps n) h (note_bytes (Gaps n)) (words_join _ _ (spaced (Gaps n) h))
note_read (Skipped n) h = note_of_words (Skipped n) h (note_bytes (Skipped n)) (words_join _ _ (spaced (Skipped n) h))
