-- The words of a packet and of a step are read as it, and no others are.
use Rattle.std.proofs.Common.{◌≡◌, ℕ, Bool, true, false, List, [], ◌∷◌, ◌++◌, map, length, Option, Some, None, refl, ap, sym, ◌∙◌, subst, ◌≤◌, ◌<◌, ◌^◌, arith, inl, inr, append_assoc}
use Rattle.std.specs.Prelude.{slice_index, codes, IfSome}
use Rattle.std.specs.Fmt.{decimal}
use Rattle.std.specs.Option.{option_map}
use Rattle.std.specs.Str.{bytes_eq}
use Rattle.std.proofs.lemmas.Slice.Eq.{bytes_eq-Decides}
use Rattle.fx_elements.specs.declared.axis.Axis.{Axis}
use Rattle.fx_elements.specs.declared.axis.Axis.TheVariants as axis
use Rattle.fx_elements.specs.Axes.{Fields, field, axes, axis_index, axis_count, tops}
use Rattle.fx_elements.specs.Spelling.{◌>>=◌, largest, number_of, quad}
use Rattle.fx_elements.specs.Groups.{groups}
use Rattle.fx_elements.specs.Values.{written_on, value_text}
use Rattle.fx_elements.proofs.Cuts.{chosen}
use Rattle.fx_elements.proofs.Decimals.{number_64, number_found}
use Rattle.fx_elements.proofs.Addresses.{by_some, some_is}
use Rattle.fx_elements.proofs.AxisTexts.{written_text, written_found}
use Rattle.fx_elements.proofs.EveryAxis.{fields_are}
use Rattle.fx_boxes.specs.Boxes.{IsFields}
use Rattle.fx_tables.specs.declared.packet.Packet.{Packet}
use Rattle.fx_run_text.specs.declared.text_version.TextVersion.{TextVersion}
use Rattle.fx_run_text.specs.declared.text_version.TextVersion.TheVariants.{One, Two}
use Rattle.fx_run_text.specs.declared.run_line.LastFields.{LastFields}
use Rattle.fx_run_text.specs.RunText.{choice_word, field_words, packet_words, IsNumber, AreChoices, IsPacket, CanSay}
use Rattle.fx_elements.specs.Words.{Words, in_first, first_word, number_first, value_first}
use Rattle.fx_run_text.specs.RunReading.{at_end, last_first, fields_first, packet_of, choice_of, choices_behind}
use Rattle.fx_run_text.proofs.AllOnAxes.{all_on_axes}

-- ---- words

-- what was read in the first word
pub first_found : {A : Type 0} (read : List ℕ → Option A) (ws : Words) (r : A × Words) → in_first read ws ≡ Some r
    → (w : List ℕ) × (ws ≡ w ∷ r.1) × (read w ≡ Some r.0)
first_found read [] r e = absurd cc
first_found read (w ∷ ws) r e = by_read (read w) refl e where
  by_read : (o : Option _) → read w ≡ o → option_map (λ x. (x, ws)) o ≡ Some r → (v : List ℕ) × (w ∷ ws ≡ v ∷ r.1)
      × (read v ≡ Some r.0)
  by_read (Some x) p q = let k : (x, ws) ≡ r = some_is q in
      (w, ap (λ (y : _ × Words). w ∷ y.1) k, p ∙ ap (λ (y : _ × Words). Some y.0) k)
  by_read None p q = absurd cc

pub word_found : (ws : Words) (r : List ℕ × Words) → first_word ws ≡ Some r → ws ≡ r.0 ∷ r.1
word_found ws r e = let f = first_found (λ w. Some w) ws r e in f.1 ∙ ap (λ (w : List ℕ). w ∷ r.1) (some_is f.2)

pub number_word : (ws : Words) (r : ℕ × Words) → number_first ws ≡ Some r → (ws ≡ decimal r.0 ∷ r.1) × IsNumber r.0
number_word ws r e =
    let f = first_found (number_of largest) ws r e in
    let n = number_found largest r.0 f.0 (omega arith) f.2 in
    (f.1 ∙ ap (λ (w : List ℕ). w ∷ r.1) n.0, n.1)

pub value_word : (a : Axis) (ws : Words) (r : ℕ × Words) → value_first a ws ≡ Some r → (ws ≡ value_text a r.0 ∷ r.1)
    × (r.0 ≤ slice_index tops (axis_index a))
value_word a ws r e =
    let f = first_found (written_on a) ws r e in
    let is = written_found a f.0 r.0 f.2 in
    (f.1 ∙ ap (λ (w : List ℕ). w ∷ r.1) is.0, is.1)

pub same_word : (a b : List ℕ) → bytes_eq a b ≡ true → a ≡ b
same_word a b e = (bytes_eq-Decides a b).0 e

-- the end of the words
pub end_found : {A : Type 0} (x y : A) (ws : Words) → at_end x ws ≡ Some y → (ws ≡ []) × (x ≡ y)
end_found x y [] e = (refl, some_is e)
end_found x y (w ∷ ws) e = absurd cc

-- ---- packets

fields_text : (version : TextVersion) (fields : Fields) (ws : Words) → IsFields fields → CanSay version fields
    → fields_first version (field_words version fields ++ ws) ≡ Some (map (λ x. field fields x) axes, ws)
unfolding fields_first last_first
fields_text One fields ws on say =
    rw (
      written_text axis.Source _ (on 0 (omega arith)),
      written_text axis.Destination _ (on 1 (omega arith)),
      written_text axis.Protocol _ (on 2 (omega arith)),
      written_text axis.SourcePort _ (on 3 (omega arith)),
      written_text axis.DestinationPort _ (on 4 (omega arith)),
      written_text axis.ClassOfService _
          (on 5 (omega arith)),
      say.0,
      say.1,
      say.2,
    ) refl
fields_text Two fields ws on say =
    rw (
      written_text axis.Source _ (on 0 (omega arith)),
      written_text axis.Destination _ (on 1 (omega arith)),
      written_text axis.Protocol _ (on 2 (omega arith)),
      written_text axis.SourcePort _ (on 3 (omega arith)),
      written_text axis.DestinationPort _ (on 4 (omega arith)),
      written_text axis.ClassOfService _
          (on 5 (omega arith)),
      written_text axis.Version _ (on 6 (omega arith)),
      written_text axis.Source6 _
          (on 7 (omega arith)),
      written_text axis.Destination6 _ (on 8 (omega arith)),
    ) refl

packet_text_of : (version : TextVersion) (fields : Fields) (octets class path : ℕ) → length fields ≡ axis_count
    → IsFields fields → CanSay version fields → IsNumber class → IsNumber path → IsNumber octets
    → packet_of version (decimal class ∷ decimal path ∷ (field_words version fields ++ decimal octets ∷ []))
    ≡ Some (record { fields = fields; octets = octets; class = class; path = path })
unfolding packet_of
packet_text_of version fields octets class path len on say hc hp ho =
    let k : packet_of version (decimal class ∷ decimal path ∷ (field_words version fields ++ decimal octets ∷ []))
    ≡ Some (record { fields = map (λ x. field fields x) axes; octets = octets; class = class; path = path }) =
    rw (
      number_64 class hc,
      number_64 path hp,
      fields_text version fields (decimal octets ∷ []) on say,
      number_64 octets
          ho,
    ) refl in
    k ∙ ap (λ (f : Fields). Some (record { fields = f; octets = octets; class = class; path = path }))
    (fields_are fields len)

pub packet_text : (version : TextVersion) (p : Packet) (rest : Words) → IsPacket p → CanSay version p.fields
    → packet_words version p ≡ codes "packet" ∷ rest → packet_of version rest ≡ Some p
packet_text version p rest h say e =
    let k : decimal p.class ∷ decimal p.path ∷ (field_words version p.fields ++ decimal p.octets ∷ []) ≡ rest = cc in
    rw (← k) (packet_text_of version p.fields p.octets p.class p.path h.0 h.1 say h.2 h.3 h.4)

-- what was read behind the first six values
abbrev LastIs : TextVersion → Words → LastFields → Words → Type 0
LastIs One ws last rest = (ws ≡ rest) × (last.version ≡ 4) × (last.source ≡ 0) × (last.destination ≡ 0)
LastIs Two ws last rest = (ws ≡ decimal last.version ∷ groups last.source ∷ groups last.destination ∷ rest)
    × (last.version ≤ 255) × (last.source < 2 ^ 128) × (last.destination < 2 ^ 128)

last_parts : (ws w1 w2 rest : Words) (v s d : ℕ) (r : LastFields × Words) → (ws ≡ decimal v ∷ w1) × (v ≤ 255)
    → (w1 ≡ groups s ∷ w2) × (s ≤ slice_index tops 7) → (w2 ≡ groups d ∷ rest) × (d ≤ slice_index tops 8)
    → (record { version = v; source = s; destination = d }, rest) ≡ r → LastIs Two ws r.0 r.1
last_parts ws w1 w2 rest v s d r hv hs hd is =
    subst (λ (r : LastFields × Words). LastIs Two ws r.0 r.1) is
    (rw (hv.0, hs.0, hd.0) refl, hv.1, omega (arith, hs.1), omega (arith, hd.1))

last_found : (version : TextVersion) (ws : Words) (r : LastFields × Words) → last_first version ws ≡ Some r
    → LastIs version ws r.0 r.1
unfolding last_first
last_found One ws r is =
    let k : (record { version = 4; source = 0; destination = 0 }, ws) ≡ r = some_is is in
    subst (λ (r : LastFields × Words). LastIs One ws r.0 r.1) k (refl, refl, refl, refl)
last_found Two ws r is =
    by_some (value_first axis.Version ws) _ r is (λ v pv ev.
    by_some (value_first axis.Source6 v.1) _ r ev (λ s ps es.
    by_some (value_first axis.Destination6 s.1) _ r es (λ d pd ed.
    last_parts ws v.1 s.1 d.1 v.0 s.0 d.0 r (value_word axis.Version ws v pv) (value_word axis.Source6 v.1 s ps)
    (value_word axis.Destination6 s.1 d pd) (some_is ed))))

abbrev FieldsAre : TextVersion → Words → Fields × Words → Type 0
FieldsAre version ws r = (ws ≡ field_words version r.0 ++ r.1) × IsFields r.0 × (length r.0 ≡ axis_count)
    × CanSay version r.0

fields_parts : (version : TextVersion) (a b c d e f : ℕ) (last : LastFields) (ws w1 w2 w3 w4 w5 w6 rest : Words)
    (r : Fields × Words) → (ws ≡ quad a ∷ w1) × (a ≤ 4294967295) → (w1 ≡ quad b ∷ w2) × (b ≤ 4294967295)
    → (w2 ≡ decimal c ∷ w3) × (c ≤ 255) → (w3 ≡ decimal d ∷ w4) × (d ≤ 65535) → (w4 ≡ decimal e ∷ w5) × (e ≤ 65535)
    → (w5 ≡ decimal f ∷ w6) × (f ≤ 255) → LastIs version w6 last rest
    → (a ∷ b ∷ c ∷ d ∷ e ∷ f ∷ last.version ∷ last.source ∷ last.destination ∷ [], rest) ≡ r → FieldsAre version ws r
fields_parts One a b c d e f last ws w1 w2 w3 w4 w5 w6 rest r ha hb hc hd he hf hl is =
    subst (λ (r : Fields × Words). FieldsAre One ws r) is (
      rw (ha.0, hb.0, hc.0, hd.0, he.0, hf.0, hl.0) refl,
      all_on_axes a b c d e f last.version last.source
          last.destination ha.1 hb.1 hc.1 hd.1 he.1 hf.1 (omega (arith, hl.1)) (omega (arith, hl.2))
          (omega (arith, hl.3)),
      refl,
      (hl.1, hl.2, hl.3),
    )
fields_parts Two a b c d e f last ws w1 w2 w3 w4 w5 w6 rest r ha hb hc hd he hf hl is =
    subst (λ (r : Fields × Words). FieldsAre Two ws r) is (
      rw (ha.0, hb.0, hc.0, hd.0, he.0, hf.0, hl.0) refl,
      all_on_axes a b c d e f last.version last.source
          last.destination ha.1 hb.1 hc.1 hd.1 he.1 hf.1 hl.1 hl.2 hl.3,
      refl,
      tt,
    )

fields_found : (version : TextVersion) (ws : Words) (r : Fields × Words) → fields_first version ws ≡ Some r
    → FieldsAre version ws r
unfolding fields_first
fields_found version ws r is =
    by_some (value_first axis.Source ws) _ r is (λ a pa ea.
    by_some (value_first axis.Destination a.1) _ r ea (λ b pb eb.
    by_some (value_first axis.Protocol b.1) _ r eb (λ c pc ec.
    by_some (value_first axis.SourcePort c.1) _ r ec (λ d pd ed.
    by_some (value_first axis.DestinationPort d.1) _ r ed (λ e pe ee.
    by_some (value_first axis.ClassOfService e.1) _ r ee (λ f pf ef.
    by_some (last_first version f.1) _ r ef (λ l pl el.
    fields_parts version a.0 b.0 c.0 d.0 e.0 f.0 l.0 ws a.1 b.1 c.1 d.1 e.1 f.1 l.1 r (value_word axis.Source ws a pa)
    (value_word axis.Destination a.1 b pb) (value_word axis.Protocol b.1 c pc) (value_word axis.SourcePort c.1 d pd)
    (value_word axis.DestinationPort d.1 e pe) (value_word axis.ClassOfService e.1 f pf)
    (last_found version f.1 l pl) (some_is el))))))))

packet_parts : (version : TextVersion) (ws w1 w2 w3 w4 : Words) (class path octets : ℕ) (fields : Fields) (p : Packet)
    → (ws ≡ decimal class ∷ w1) × IsNumber class → (w1 ≡ decimal path ∷ w2) × IsNumber path
    → (w2 ≡ field_words version fields ++ w3) × IsFields fields × (length fields ≡ axis_count) × CanSay version fields
    → (w3 ≡ decimal octets ∷ w4) × IsNumber octets → w4 ≡ []
    → record { fields = fields; octets = octets; class = class; path = path } ≡ p
    → (codes "packet" ∷ ws ≡ packet_words version p) × IsPacket p × CanSay version p.fields
packet_parts version ws w1 w2 w3 w4 class path octets fields p hc hp hf ho end is =
    subst (λ (p : Packet). (codes "packet" ∷ ws ≡ packet_words version p) × IsPacket p × CanSay version p.fields) is
    (rw (hc.0, hp.0, hf.0, ho.0, end) refl, (hf.2, hf.1, hc.1, hp.1, ho.1), hf.3)

pub packet_found : (version : TextVersion) (ws : Words) (p : Packet) → packet_of version ws ≡ Some p
    → (codes "packet" ∷ ws ≡ packet_words version p) × IsPacket p × CanSay version p.fields
unfolding packet_of
packet_found version ws p is =
    by_some (number_first ws) _ p is (λ c pc ec.
    by_some (number_first c.1) _ p ec (λ m pm em.
    by_some (fields_first version m.1) _ p em (λ f pf ef.
    by_some (number_first f.1) _ p ef (λ o po eo.
    let end = end_found (record { fields = f.0; octets = o.0; class = c.0; path = m.0 }) p o.1 eo in
    packet_parts version ws c.1 m.1 f.1 o.1 c.0 m.0 o.0 f.0 p (number_word ws c pc) (number_word c.1 m pm)
    (fields_found version m.1 f pf) (number_word f.1 o po) end.0 end.1))))

-- ---- choices

not_n : (n : ℕ) → n ≤ largest → bytes_eq (decimal n) (codes "n") ≡ false
unfolding number_of
not_n n le = by_test (bytes_eq (decimal n) (codes "n")) refl where
  by_test : (t : Bool) → bytes_eq (decimal n) (codes "n") ≡ t → bytes_eq (decimal n) (codes "n") ≡ false
  by_test true e =
      let same : decimal n ≡ codes "n" = same_word (decimal n) (codes "n") e in
      let k : number_of largest (codes "n") ≡ Some n = rw same at (number_64 n le) in
      absurd cc
  by_test false e = e

choice_text : (c : Option ℕ) → IfSome c IsNumber → choice_of (choice_word c) ≡ Some c
choice_text None h = refl
choice_text (Some n) h = rw (not_n n h, number_64 n h) refl

pub choices_text : (done cs : List (Option ℕ)) → AreChoices cs → choices_behind done (map choice_word cs)
    ≡ Some (done ++ cs)
choices_text done [] h = ap (λ (x : List (Option ℕ)). Some x) (sym (append_nil done)) where
  append_nil : (xs : List (Option ℕ)) → xs ++ [] ≡ xs
  append_nil [] = refl
  append_nil (x ∷ xs) = ap (λ (y : List (Option ℕ)). x ∷ y) (append_nil xs)
choices_text done (c ∷ cs) h = rw (choice_text c h.0)
    (choices_text (done ++ c ∷ []) cs h.1 ∙ ap (λ (x : List (Option ℕ)). Some x) (append_assoc done (c ∷ []) cs))

choice_found : (w : List ℕ) (c : Option ℕ) → choice_of w ≡ Some c → (w ≡ choice_word c) × IfSome c IsNumber
choice_found w c e =
    elim (chosen (bytes_eq w (codes "n")) (Some None) (option_map (λ n. Some n) (number_of largest w)) (Some c) e) [
      | inl h ↦ subst (λ (c : Option ℕ). (w ≡ choice_word c) × IfSome c IsNumber) (some_is h.1)
          (same_word w (codes "n") h.0, tt)
      | inr h ↦ by_number (number_of largest w) refl h.1
    ] where
      by_number : (o : Option ℕ) → number_of largest w ≡ o → option_map (λ n. Some n) o ≡ Some c → (w ≡ choice_word c)
          × IfSome c IsNumber
      by_number (Some n) p q = let f = number_found largest n w (omega arith) p in
          subst (λ (c : Option ℕ). (w ≡ choice_word c) × IfSome c IsNumber) (some_is q) (f.0, f.1)
      by_number None p q = absurd cc

pub choices_found : (done : List (Option ℕ)) (ws : Words) (all : List (Option ℕ)) → choices_behind done ws ≡ Some all
    → (cs : List (Option ℕ)) × (all ≡ done ++ cs) × (ws ≡ map choice_word cs) × AreChoices cs
choices_found done [] all e = ([], sym (some_is e) ∙ sym (append_nil done), refl, tt) where
  append_nil : (xs : List (Option ℕ)) → xs ++ [] ≡ xs
  append_nil [] = refl
  append_nil (x ∷ xs) = ap (λ (y : List (Option ℕ)). x ∷ y) (append_nil xs)
choices_found done (w ∷ ws) all e = by_choice (choice_of w) refl e (λ c f. choices_found (done ++ c ∷ []) ws all f)
  where
    by_choice : (o : Option (Option ℕ)) → choice_of w ≡ o → (o >>= λ choice. choices_behind (done ++ choice ∷ []) ws)
        ≡ Some all → ((c : Option ℕ) → choices_behind (done ++ c ∷ []) ws ≡ Some all → (cs : List (Option ℕ))
        × (all ≡ (done ++ c ∷ []) ++ cs) × (ws ≡ map choice_word cs) × AreChoices cs) → (cs : List (Option ℕ))
        × (all ≡ done ++ cs) × (w ∷ ws ≡ map choice_word cs) × AreChoices cs
    by_choice (Some c) p q more =
        let f = choice_found w c p in
        let m = more c q in
        (c ∷ m.0, m.1 ∙ append_assoc done (c ∷ []) m.0, rw (f.0, m.2) refl, (f.1, m.3))
    by_choice None p q more = absurd cc
