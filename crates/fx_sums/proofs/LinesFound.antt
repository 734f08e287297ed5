-- What is read in a line of totals: the line is its text.
use Rattle.std.proofs.Common.{◌≡◌, ℕ, ◌+◌, ◌-◌, ◌*◌, ◌/◌, ◌%◌, ◌^◌, ◌<◌, ◌≤◌, true, false, List, [], ◌∷◌, ◌++◌, Option, Some, None, refl, ap, ap₂, sym, ◌∙◌, subst, arith, inl, inr, append_assoc, codes, eqb-true, slice_index, ◌⊎◌, pow-add}
use Rattle.std.specs.Prelude.{nat_lt, ◌==◌}
use Rattle.std.specs.Fmt.{decimal}
use Rattle.std.specs.Option.{option_map}
use Rattle.std.specs.List.{join_with_byte, list_all}
use Rattle.std.specs.Str.{bytes_eq}
use Rattle.std.proofs.Math.Nat.{div-lt_iff_lt-mul, div-add-mod}
use Rattle.std.proofs.lemmas.Nat.{pow_pos}
use Rattle.std.proofs.lemmas.Bool.{ltb-true, cases_lt, lt-ltb}
use Rattle.std.proofs.lemmas.List.{append-nil}
use Rattle.std.proofs.lemmas.List.Splits.{join_with_byte-slice_split}
use Rattle.std.proofs.lemmas.Slice.Eq.{bytes_eq-Decides}
use Rattle.fx_base.specs.declared.counts.Counts.{Counts}
use Rattle.fx_elements.specs.declared.axis.Axis.{Axis}
use Rattle.fx_elements.specs.Axes.{axis_index, axis_width, tops}
use Rattle.fx_elements.specs.Spelling.{largest, number_of, cut_at}
use Rattle.fx_elements.specs.Values.{written_on, value_text, leading_text}
use Rattle.fx_elements.specs.Words.{Words, words, in_first, first_word, number_first}
use Rattle.fx_elements.proofs.Cuts.{chosen, cut_parts}
use Rattle.fx_elements.proofs.Decimals.{number_found}
use Rattle.fx_elements.proofs.Addresses.{by_some, some_is}
use Rattle.fx_elements.proofs.AxisTexts.{written_found}
use Rattle.fx_elements.proofs.EveryAxis.{top_below}
use Rattle.fx_layout.specs.declared.layout.Part.{Part}
use Rattle.fx_layout.specs.Keys.{Layout, HasBits, IsLayout, can_stand, leading_bits}
use Rattle.fx_layout.proofs.Layouts.{stands_within}
use Rattle.fx_layout.proofs.Projections.{and_true}
use Rattle.fx_tables.specs.declared.record.Record.{Record}
use Rattle.fx_machine.specs.Sums.{IsBelow}
use Rattle.fx_collect.specs.Report.{parts_text, fields_text, record_line, number_line}
use Rattle.fx_sums.specs.declared.note.Note.{Note}
use Rattle.fx_sums.specs.declared.note.Note.TheVariants.{Complete, Frames, Gaps, Skipped}
use Rattle.fx_sums.specs.SumText.{complete_text, frames_text, comes_behind, IsRecordUnder}
use Rattle.fx_sums.specs.SumLines.{at_end, word_first, last_number, number_behind, that_begins, prefix_start, start_of, values_first, key_first, counts_of, record_of, record_behind, complete_of, frames_of, skipped_of, note_of_kind, note_of}

-- ---- words

first_found : {A : Type 0} (read : List ℕ → Option A) (ws : Words) (r : A × Words) → in_first read ws ≡ Some r
    → (w : List ℕ) × (ws ≡ w ∷ r.1) × (read w ≡ Some r.0)
first_found read [] r e = absurd cc
first_found read (w ∷ ws) r e = by_read (read w) refl e where
  by_read : (o : Option _) → read w ≡ o → option_map (λ x. (x, ws)) o ≡ Some r → (v : List ℕ) × (w ∷ ws ≡ v ∷ r.1)
      × (read v ≡ Some r.0)
  by_read (Some x) p q = let k : (x, ws) ≡ r = some_is q in
      (w, ap (λ (y : _ × Words). w ∷ y.1) k, p ∙ ap (λ (y : _ × Words). Some y.0) k)
  by_read None p q = absurd cc

word_found : (ws : Words) (r : List ℕ × Words) → first_word ws ≡ Some r → ws ≡ r.0 ∷ r.1
word_found ws r e = let f = first_found (λ w. Some w) ws r e in f.1 ∙ ap (λ (w : List ℕ). w ∷ r.1) (some_is f.2)

abbrev pub IsNumber : ℕ → Type 0
IsNumber n = n < 2 ^ 64

number_word : (ws : Words) (r : ℕ × Words) → number_first ws ≡ Some r → (ws ≡ decimal r.0 ∷ r.1) × IsNumber r.0
number_word ws r e =
    let f = first_found (number_of largest) ws r e in
    let n = number_found largest r.0 f.0 (omega arith) f.2 in
    (f.1 ∙ ap (λ (w : List ℕ). w ∷ r.1) n.0, omega (arith, n.1))

same_word : (a b : List ℕ) → bytes_eq a b ≡ true → a ≡ b
same_word a b e = (bytes_eq-Decides a b).0 e

end_found : {A : Type 0} (x y : A) (ws : Words) → at_end x ws ≡ Some y → (ws ≡ []) × (x ≡ y)
end_found x y [] e = (refl, some_is e)
end_found x y (w ∷ ws) e = absurd cc

word_first_found : (word : List ℕ) (ws rest : Words) → word_first word ws ≡ Some rest → ws ≡ word ∷ rest
word_first_found word ws rest e =
    by_some (first_word ws) _ rest e (λ w pw ew.
    elim (chosen (bytes_eq w.0 word) (Some w.1) None (Some rest) ew) [
      | inl h ↦ word_found ws w pw ∙ ap₂ (λ (x : List ℕ) (xs : Words). x ∷ xs) (same_word w.0 word h.0) (some_is h.1)
      | inr h ↦ absurd cc
    ])

last_found : (ws : Words) (n : ℕ) → last_number ws ≡ Some n → (ws ≡ decimal n ∷ []) × IsNumber n
last_found ws n e =
    by_some (number_first ws) _ n e (λ m pm em.
    let w = number_word ws m pm in
    let f = end_found m.0 n m.1 em in
    parts m.0 m.1 w.0 w.1 f.0 f.1) where
      parts : (m : ℕ) (rest : Words) → ws ≡ decimal m ∷ rest → IsNumber m → rest ≡ [] → m ≡ n → (ws ≡ decimal n ∷ [])
          × IsNumber n
      parts m rest is small none same = (
        is ∙ ap₂ (λ (x : ℕ) (xs : Words). decimal x ∷ xs) same none,
        subst IsNumber
            same small,
      )

-- a line is its words with spaces between them
line_is : (line : List ℕ) (ws : Words) → words line ≡ ws → line ≡ join_with_byte 32 ws
line_is line ws e = sym (join_with_byte-slice_split 32 line) ∙ ap (λ (x : Words). join_with_byte 32 x) e

pub number_line_found : (word line : List ℕ) (n : ℕ) → number_behind word line ≡ Some n
    → (line ≡ word ++ 32 ∷ decimal n) × IsNumber n
unfolding number_behind
number_line_found word line n e =
    by_some (word_first word (words line)) _ n e (λ ws pw ew.
    let f = last_found ws n ew in (
      line_is line (word ∷ decimal n ∷ []) (word_first_found word (words line) ws pw
          ∙ ap (λ (x : Words). word ∷ x) f.0),
      f.1,
    ))

-- ---- values

leading_below : (width bits value : ℕ) → bits ≤ width → value < 2 ^ width → leading_bits width bits value < 2 ^ bits
leading_below width bits value le lt =
    let e : width ≡ bits + (width - bits) = omega arith in
    let whole : 2 ^ width ≡ 2 ^ bits * 2 ^ (width - bits) = ap (λ n. 2 ^ n) e ∙ pow-add 2 bits (width - bits) in
    (div-lt_iff_lt-mul {k = 2 ^ (width - bits)} {x = value} {y = 2 ^ bits} (pow_pos (width - bits))).1
    (subst (λ n. value < n) whole lt)

-- what leading bits begin is written with them
begun : (axis : Axis) (bits v : ℕ) → bits ≤ axis_width axis → v % 2 ^ (axis_width axis - bits) ≡ 0
    → leading_bits (axis_width axis) bits v * 2 ^ (axis_width axis - bits) ≡ v
begun axis bits v le none = whole (v / 2 ^ (axis_width axis - bits)) (2 ^ (axis_width axis - bits))
    (v % 2 ^ (axis_width axis - bits)) (div-add-mod v (2 ^ (axis_width axis - bits))) none where
      whole : (q size r : ℕ) → size * q + r ≡ v → r ≡ 0 → q * size ≡ v
      whole q size r e z = grind (arith, e, z)

abbrev StartIs : Part → List ℕ → ℕ → Type 0
StartIs part word v = (word ≡ leading_text part.axis part.bits (leading_bits (axis_width part.axis) part.bits v))
    × (leading_bits (axis_width part.axis) part.bits v < 2 ^ part.bits)

within : (axis : Axis) (v : ℕ) → v ≤ slice_index tops (axis_index axis) → v < 2 ^ axis_width axis
within axis v le = let top = top_below axis in omega (arith, le, top)

prefix_parts : (part : Part) (word : List ℕ) (p : List ℕ × List ℕ) (n value v : ℕ) → part.bits < axis_width part.axis
    → word ≡ p.0 ++ 47 ∷ p.1 → (p.1 ≡ decimal n) × (n ≤ largest) → (p.0 ≡ value_text part.axis value)
    × (value ≤ slice_index tops (axis_index part.axis)) → n ≡ part.bits → value % 2 ^ (axis_width part.axis - part.bits)
    ≡ 0 → value ≡ v → StartIs part word v
prefix_parts part word p n value v lt cut number written same none is =
    let fewer : nat_lt part.bits (axis_width part.axis) ≡ true = lt-ltb part.bits (axis_width part.axis) lt in
    let back = begun part.axis part.bits value (omega arith) none in
    subst (λ (v : ℕ). StartIs part word v) is (
      rw (back, fewer, cut, number.0, written.0, same) refl,
      leading_below (axis_width part.axis) part.bits value (omega arith) (within part.axis value written.1),
    )

begins_found : (size value v : ℕ) → that_begins size value ≡ Some v → (value % size ≡ 0) × (value ≡ v)
begins_found size value v e =
    elim (chosen (value % size == 0) (Some value) None (Some v) e) [
      | inl h ↦ (eqb-true (value % size) 0 h.0, some_is h.1)
      | inr h ↦ absurd cc
    ]

prefix_found : (part : Part) (word : List ℕ) (v : ℕ) → part.bits < axis_width part.axis → prefix_start part word
    ≡ Some v → StartIs part word v
unfolding prefix_start
prefix_found part word v lt e =
    by_some (cut_at 47 word) _ v e (λ p pp ep.
    by_some (number_of largest p.1) _ v ep (λ n pn en.
    by_some (written_on part.axis p.0) _ v en (λ value pv ev.
    elim (chosen (n == part.bits) (that_begins (2 ^ (axis_width part.axis - part.bits)) value) None (Some v) ev) [
      | inl h ↦
          let b = begins_found (2 ^ (axis_width part.axis - part.bits)) value v h.1 in
          prefix_parts part word p n value v lt (cut_parts 47 word p pp) (number_found largest n p.1 (omega arith) pn)
          (written_found part.axis p.0 value pv) (eqb-true n part.bits h.0) b.0 b.1
      | inr h ↦ absurd cc
    ])))

whole_found : (part : Part) (word : List ℕ) (v : ℕ) → part.bits ≤ axis_width part.axis
    → nat_lt part.bits (axis_width part.axis) ≡ false → written_on part.axis word ≡ Some v → StartIs part word v
whole_found part word v le all e =
    let w = written_found part.axis word v e in
    let none : axis_width part.axis - part.bits ≡ 0 = not_fewer (cases_lt part.bits (axis_width part.axis)) in
    let back : leading_bits (axis_width part.axis) part.bits v * 2 ^ (axis_width part.axis - part.bits) ≡ v =
    begun part.axis part.bits v le (ap (λ (n : ℕ). v % 2 ^ n) none ∙ omega arith) in (
      w.0 ∙ sym (append-nil (value_text part.axis v))
          ∙ rw (back, all) refl,
      leading_below (axis_width part.axis) part.bits v le (within part.axis v w.1),
    ) where
      not_fewer : (part.bits < axis_width part.axis) ⊎ (axis_width part.axis ≤ part.bits)
          → axis_width part.axis - part.bits ≡ 0
      not_fewer (inl lt) = let k : nat_lt part.bits (axis_width part.axis) ≡ true =
          lt-ltb part.bits (axis_width part.axis) lt in absurd cc
      not_fewer (inr ge) = omega arith

start_found : (part : Part) (word : List ℕ) (v : ℕ) → can_stand part ≡ true → start_of part word ≡ Some v
    → StartIs part word v
start_found part word v stands e =
    let le = (stands_within part stands).1 in
    elim (chosen (nat_lt part.bits (axis_width part.axis)) (prefix_start part word) (written_on part.axis word) (Some v)
    e) [
      | inl h ↦ prefix_found part word v (ltb-true part.bits (axis_width part.axis) h.0) h.1
      | inr h ↦ whole_found part word v le h.0 h.1
    ]

-- a word for each part
abbrev pub part_words : Layout → List ℕ → Words
part_words [] values = []
part_words (part ∷ parts) [] = []
part_words (part ∷ parts) (value ∷ values) = leading_text part.axis part.bits value ∷ part_words parts values

values_found : (parts : Layout) (ws : Words) (r : List ℕ × Words) → list_all can_stand parts ≡ true
    → values_first parts ws ≡ Some r → (ws ≡ part_words parts r.0 ++ r.1) × HasBits parts r.0
unfolding values_first
values_found [] ws r stand e =
    let k : ([], ws) ≡ r = some_is e in
    subst (λ (r : List ℕ × Words). (ws ≡ part_words [] r.0 ++ r.1) × HasBits [] r.0) k (refl, tt)
values_found (part ∷ parts) ws r stand e =
    let two = and_true (can_stand part) (list_all can_stand parts) stand in
    by_some (in_first (start_of part) ws) _ r e (λ start ps es.
    by_some (values_first parts start.1) _ r es (λ values pv ev.
    let f = first_found (start_of part) ws start ps in
    let here = start_found part f.0 start.0 two.0 f.2 in
    let behind = values_found parts start.1 values two.1 pv in
    joined f.0 start.0 start.1 values.0 values.1 f.1 here behind.0 behind.1 (some_is ev))) where
      joined : (w : List ℕ) (v : ℕ) (rest : Words) (values : List ℕ) (rest' : Words) → ws ≡ w ∷ rest → StartIs part w v
          → rest ≡ part_words parts values ++ rest' → HasBits parts values
          → (leading_bits (axis_width part.axis) part.bits v ∷ values, rest') ≡ r
          → (ws ≡ part_words (part ∷ parts) r.0 ++ r.1) × HasBits (part ∷ parts) r.0
      joined w v rest values rest' is here behind bits same =
          subst (λ (r : List ℕ × Words). (ws ≡ part_words (part ∷ parts) r.0 ++ r.1) × HasBits (part ∷ parts) r.0) same
          (is ∙ ap₂ (λ (x : List ℕ) (xs : Words). x ∷ xs) here.0 behind, (here.1, bits))

-- the words of a key
abbrev pub key_words : Layout → List ℕ → Words
key_words [] values = codes "all" ∷ []
key_words (part ∷ parts) values = part_words (part ∷ parts) values

key_found : (layout : Layout) (ws : Words) (r : List ℕ × Words) → list_all can_stand layout ≡ true → key_first layout ws
    ≡ Some r → (ws ≡ key_words layout r.0 ++ r.1) × HasBits layout r.0
key_found [] ws r stand e = by_word (word_first (codes "all") ws) refl e where
  by_word : (o : Option Words) → word_first (codes "all") ws ≡ o → option_map (λ (ws : Words). ([], ws)) o ≡ Some r
      → (ws ≡ key_words [] r.0 ++ r.1) × HasBits [] r.0
  by_word None p q = absurd cc
  by_word (Some rest) p q =
      let k : ([], rest) ≡ r = some_is q in
      subst (λ (r : List ℕ × Words). (ws ≡ key_words [] r.0 ++ r.1) × HasBits [] r.0) k
      (word_first_found (codes "all") ws rest p, tt)
key_found (part ∷ parts) ws r stand e = values_found (part ∷ parts) ws r stand e

-- the words of counts
abbrev pub count_words : Counts → Words
count_words c = codes "packets" ∷ decimal c.packets ∷ codes "octets" ∷ decimal c.octets ∷ []

counts_found : (ws : Words) (c : Counts) → counts_of ws ≡ Some c → (ws ≡ count_words c) × IsBelow c
unfolding counts_of
counts_found ws c e =
    by_some (word_first (codes "packets") ws) _ c e (λ a pa ea.
    by_some (number_first a) _ c ea (λ p pp ep.
    by_some (word_first (codes "octets") p.1) _ c ep (λ b pb eb.
    by_some (last_number b) _ c eb (λ o po eo.
    joined a p.0 p.1 b o (word_first_found (codes "packets") ws a pa) (number_word a p pp)
    (word_first_found (codes "octets") p.1 b pb) (last_found b o po) (some_is eo))))) where
      joined : (a : Words) (p : ℕ) (r b : Words) (o : ℕ) → ws ≡ codes "packets" ∷ a → (a ≡ decimal p ∷ r) × IsNumber p
          → r ≡ codes "octets" ∷ b → (b ≡ decimal o ∷ []) × IsNumber o → record { packets = p; octets = o } ≡ c
          → (ws ≡ count_words c) × IsBelow c
      joined a p r b o ha hp hb ho is =
          subst (λ (c : Counts). (ws ≡ count_words c) × IsBelow c) is (rw (ha, hp.0, hb, ho.0) refl, (hp.1, ho.1))

-- ---- the line of a key

pub join_parts : (part : Part) (parts : Layout) (values : List ℕ) (w : List ℕ) (ws : Words)
    → HasBits (part ∷ parts) values → join_with_byte 32 (part_words (part ∷ parts) values ++ w ∷ ws)
    ≡ parts_text (part ∷ parts) values ++ 32 ∷ join_with_byte 32 (w ∷ ws)
join_parts part parts [] w ws h = absurd h
join_parts part [] (v ∷ []) w ws h = ap (λ (x : List ℕ). x ++ 32 ∷ join_with_byte 32 (w ∷ ws))
    (sym (append-nil (leading_text part.axis part.bits v)))
join_parts part [] (v ∷ u ∷ vs) w ws h = absurd h.1
join_parts part (q ∷ qs) (v ∷ []) w ws h = absurd h.1
join_parts part (q ∷ qs) (v ∷ u ∷ vs) w ws h =
    let text = leading_text part.axis part.bits v in
    ap (λ (x : List ℕ). text ++ 32 ∷ x) (join_parts q qs (u ∷ vs) w ws h.1)
    ∙ sym (append_assoc text (32 ∷ parts_text (q ∷ qs) (u ∷ vs)) (32 ∷ join_with_byte 32 (w ∷ ws)))

pub join_key : (layout : Layout) (values : List ℕ) (w : List ℕ) (ws : Words) → HasBits layout values
    → join_with_byte 32 (key_words layout values ++ w ∷ ws) ≡ fields_text layout values ++ 32
    ∷ join_with_byte 32 (w ∷ ws)
join_key [] values w ws h = refl
join_key (part ∷ parts) values w ws h = join_parts part parts values w ws h

-- the line of a key, from its words
pub record_text : (r : Record) → HasBits r.key.layout r.key.values
    → join_with_byte 32 (key_words r.key.layout r.key.values ++ count_words r.counts) ++ 10 ∷ [] ≡ record_line r
record_text r bits =
    let fields = fields_text r.key.layout r.key.values in
    let packets = decimal r.counts.packets in
    let octets = decimal r.counts.octets in
    ap (λ (x : List ℕ). x ++ 10 ∷ []) (join_key r.key.layout r.key.values (codes "packets")
    (packets ∷ codes "octets" ∷ octets ∷ []) bits)
    ∙ append_assoc fields (codes " packets " ++ (packets ++ (codes " octets " ++ octets))) (10 ∷ [])
    ∙ ap (λ (x : List ℕ). fields ++ (codes " packets " ++ x))
    (append_assoc packets (codes " octets " ++ octets) (10 ∷ []))

pub record_found : (layout : Layout) (line : List ℕ) (r : Record) → IsLayout layout → record_of layout line ≡ Some r
    → (line ++ 10 ∷ [] ≡ record_line r) × IsRecordUnder layout r
unfolding record_of
record_found layout line r is e =
    by_some (key_first layout (words line)) _ r e (λ k pk ek.
    by_some (counts_of k.1) _ r ek (λ c pc ec.
    let key = key_found layout (words line) k is.stands pk in
    let counts = counts_found k.1 c pc in
    whole k.0 k.1 c key.0 key.1 counts.0 counts.1 (some_is ec))) where
      whole : (values : List ℕ) (rest : Words) (c : Counts) → words line ≡ key_words layout values ++ rest
          → HasBits layout values → rest ≡ count_words c → IsBelow c
          → record { key = record { layout = layout; values = values }; counts = c } ≡ r
          → (line ++ 10 ∷ [] ≡ record_line r) × IsRecordUnder layout r
      whole values rest c key bits counts small same =
          let own : Record = record { key = record { layout = layout; values = values }; counts = c } in
          let text = line_is line (key_words layout values ++ count_words c)
          (key ∙ ap (λ (x : Words). key_words layout values ++ x) counts) in
          subst (λ (r : Record). (line ++ 10 ∷ [] ≡ record_line r) × IsRecordUnder layout r) same
          (ap (λ (x : List ℕ). x ++ 10 ∷ []) text ∙ record_text own bits, (refl, bits, small))

pub behind_found : (layout : Layout) (last : Option (List ℕ)) (line : List ℕ) (r : Record)
    → record_behind layout last line ≡ Some r → (record_of layout line ≡ Some r)
    × (comes_behind last r.key.values ≡ true)
unfolding record_behind
behind_found layout last line r e =
    by_some (record_of layout line) _ r e (λ s ps es.
    elim (chosen (comes_behind last s.key.values) (Some s) None (Some r) es) [
      | inl h ↦ let k : s ≡ r = some_is h.1 in
          (ps ∙ ap (λ (x : Record). Some x) k, subst (λ (x : Record). comes_behind last x.key.values ≡ true) k h.0)
      | inr h ↦ absurd cc
    ])

-- ---- the line of a note

abbrev pub note_text : Note → List ℕ
note_text (Complete whole) = complete_text (Some whole)
note_text (Frames f) = frames_text (Some f)
note_text (Gaps n) = number_line (codes "gaps ") n
note_text (Skipped n) = number_line (codes "skipped ") n

abbrev pub IsNote : Note → Type 0
IsNote (Complete whole) = Unit {0}
IsNote (Frames f) = IsNumber f.other × IsNumber f.malformed
IsNote (Gaps n) = IsNumber n
IsNote (Skipped n) = IsNumber n

-- the words of a note
abbrev pub note_words : Note → Words
note_words (Complete true) = codes "complete" ∷ codes "yes" ∷ []
note_words (Complete false) = codes "complete" ∷ codes "no" ∷ []
note_words (Frames f) = codes "skipped" ∷ codes "other" ∷ decimal f.other ∷ codes "malformed" ∷ decimal f.malformed ∷ []
note_words (Gaps n) = codes "gaps" ∷ decimal n ∷ []
note_words (Skipped n) = codes "skipped" ∷ decimal n ∷ []

pub note_line : (note : Note) → join_with_byte 32 (note_words note) ++ 10 ∷ [] ≡ note_text note
note_line (Complete true) = refl
note_line (Complete false) = refl
note_line (Frames f) = ap (λ (x : List ℕ). codes "skipped other " ++ x)
    (append_assoc (decimal f.other) (codes " malformed " ++ decimal f.malformed) (10 ∷ []))
note_line (Gaps n) = refl
note_line (Skipped n) = refl

abbrev NoteIs : Words → Note → Type 0
NoteIs ws note = (ws ≡ note_words note) × IsNote note

complete_found : (ws : Words) (note : Note) → complete_of ws ≡ Some note → NoteIs (codes "complete" ∷ ws) note
unfolding complete_of
complete_found ws note e =
    by_some (first_word ws) _ note e (λ w pw ew.
    elim (chosen (bytes_eq w.0 (codes "yes")) (at_end (Complete true) w.1) _ (Some note) ew) [
      | inl h ↦ let f = end_found (Complete true) note w.1 h.1 in
          said w.0 w.1 (codes "yes") (Complete true) (word_found ws w pw) (same_word w.0 (codes "yes") h.0) f.0 refl tt
          f.1
      | inr h ↦ elim (chosen (bytes_eq w.0 (codes "no")) (at_end (Complete false) w.1) None (Some note) h.1) [
        | inl i ↦ let f = end_found (Complete false) note w.1 i.1 in
            said w.0 w.1 (codes "no") (Complete false) (word_found ws w pw) (same_word w.0 (codes "no") i.0) f.0 refl tt
            f.1
        | inr i ↦ absurd cc
      ]
    ]) where
      said : (w : List ℕ) (rest : Words) (word : List ℕ) (own : Note) → ws ≡ w ∷ rest → w ≡ word → rest ≡ []
          → codes "complete" ∷ word ∷ [] ≡ note_words own → IsNote own → own ≡ note
          → NoteIs (codes "complete" ∷ ws) note
      said w rest word own is same none words_are fine here =
          subst (λ (n : Note). NoteIs (codes "complete" ∷ ws) n) here (
            ap (λ (x : Words). codes "complete" ∷ x) (is ∙ ap₂ (λ (x : List ℕ) (xs : Words). x ∷ xs) same none)
                ∙ words_are,
            fine,
          )

frames_found : (ws : Words) (note : Note) → frames_of ws ≡ Some note
    → NoteIs (codes "skipped" ∷ codes "other" ∷ ws) note
unfolding frames_of
frames_found ws note e =
    by_some (number_first ws) _ note e (λ a pa ea.
    by_some (word_first (codes "malformed") a.1) _ note ea (λ b pb eb.
    by_some (last_number b) _ note eb (λ m pm em.
    whole a.0 a.1 b m (number_word ws a pa) (word_first_found (codes "malformed") a.1 b pb) (last_found b m pm)
    (some_is em)))) where
      whole : (o : ℕ) (r b : Words) (m : ℕ) → (ws ≡ decimal o ∷ r) × IsNumber o → r ≡ codes "malformed" ∷ b
          → (b ≡ decimal m ∷ []) × IsNumber m → Frames (record { other = o; malformed = m }) ≡ note
          → NoteIs (codes "skipped" ∷ codes "other" ∷ ws) note
      whole o r b m ho hb hm is =
          subst (λ (n : Note). NoteIs (codes "skipped" ∷ codes "other" ∷ ws) n) is
          (rw (ho.0, hb, hm.0) refl, (ho.1, hm.1))

skipped_found : (ws : Words) (note : Note) → skipped_of ws ≡ Some note → NoteIs (codes "skipped" ∷ ws) note
unfolding skipped_of
skipped_found ws note e =
    by_some (first_word ws) _ note e (λ w pw ew.
    elim (chosen (bytes_eq w.0 (codes "other")) (frames_of w.1) _ (Some note) ew) [
      | inl h ↦ subst (λ (x : Words). NoteIs (codes "skipped" ∷ x) note)
          (sym (word_found ws w pw ∙ ap (λ (x : List ℕ). x ∷ w.1) (same_word w.0 (codes "other") h.0)))
          (frames_found w.1 note h.1)
      | inr h ↦ by_some (number_of largest w.0) _ note h.1 (λ n pn en.
          let number = number_found largest n w.0 (omega arith) pn in
          let f = end_found (Skipped n) note w.1 en in
          whole w.0 w.1 n (word_found ws w pw) number.0 (omega (arith, number.1)) f.0 f.1)
    ]) where
      whole : (w : List ℕ) (rest : Words) (n : ℕ) → ws ≡ w ∷ rest → w ≡ decimal n → IsNumber n → rest ≡ [] → Skipped n
          ≡ note → NoteIs (codes "skipped" ∷ ws) note
      whole w rest n is same small none here =
          subst (λ (m : Note). NoteIs (codes "skipped" ∷ ws) m) here (rw (is, same, none) refl, small)

gaps_found : (ws : Words) (note : Note) → option_map (λ n. Gaps n) (last_number ws) ≡ Some note
    → NoteIs (codes "gaps" ∷ ws) note
gaps_found ws note e = by_number (last_number ws) refl e where
  by_number : (o : Option ℕ) → last_number ws ≡ o → option_map (λ n. Gaps n) o ≡ Some note
      → NoteIs (codes "gaps" ∷ ws) note
  by_number None p q = absurd cc
  by_number (Some n) p q =
      let f = last_found ws n p in
      subst (λ (m : Note). NoteIs (codes "gaps" ∷ ws) m) (some_is q) (ap (λ (x : Words). codes "gaps" ∷ x) f.0, f.1)

kind_found : (kind : List ℕ) (ws : Words) (note : Note) → note_of_kind kind ws ≡ Some note → NoteIs (kind ∷ ws) note
unfolding note_of_kind
kind_found kind ws note e =
    elim (chosen (bytes_eq kind (codes "complete")) (complete_of ws) _ (Some note) e) [
      | inl h ↦ rw (same_word kind (codes "complete") h.0) (complete_found ws note h.1)
      | inr h ↦ elim (chosen (bytes_eq kind (codes "skipped")) (skipped_of ws) _ (Some note) h.1) [
        | inl i ↦ rw (same_word kind (codes "skipped") i.0) (skipped_found ws note i.1)
        | inr i ↦ elim (chosen (bytes_eq kind (codes "gaps")) _ None (Some note) i.1) [
          | inl j ↦ rw (same_word kind (codes "gaps") j.0) (gaps_found ws note j.1)
          | inr j ↦ absurd cc
        ]
      ]
    ]

pub note_found : (line : List ℕ) (note : Note) → note_of line ≡ Some note → (line ++ 10 ∷ [] ≡ note_text note)
    × IsNote note
unfolding note_of
note_found line note e =
    by_some (first_word (words line)) _ note e (λ k pk ek.
    let f = kind_found k.0 k.1 note ek in (
      ap (λ (x : List ℕ). x ++ 10 ∷ []) (line_is line (note_words note) (word_found (words line) k pk ∙ f.0))
          ∙ note_line note,
      f.1,
    ))
