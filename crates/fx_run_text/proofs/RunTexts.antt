-- The text of a run is read as that run, and no other text is.
use Rattle.std.proofs.Common.{◌≡◌, ◌≢◌, ℕ, Bool, true, false, cond, eqb, not, ◌&&◌, List, [], ◌∷◌, ◌++◌, map, length, Option, Some, None, Result, Ok, Err, refl, ap, sym, ◌∙◌, subst, ◌≤◌, ◌<◌, ◌^◌, ◌/◌, ◌%◌, arith, ne_eqb, eqb-true, le-ltb, inl, inr, append_assoc, length-append}
use Rattle.std.specs.Prelude.{slice_index, codes, flat_map, nat_lt, is_some}
use Rattle.std.specs.Fmt.{decimal}
use Rattle.std.specs.Option.{option_map}
use Rattle.std.specs.List.{AllByRecursion, join_with_byte}
use Rattle.std.specs.Str.{bytes_eq}
use Rattle.std.proofs.lemmas.List.{append-nil}
use Rattle.std.proofs.lemmas.List.Splits.{join_with_byte-slice_split}
use Rattle.std.proofs.lemmas.Bool.{cases_lt, lt-ltb, eqb-false}
use Rattle.fx_base.specs.declared.fault.Fault.{Fault}
use Rattle.fx_base.specs.Lines.{text_lines, begin_line, next_number}
use Rattle.fx_elements.specs.declared.axis.Axis.{Axis}
use Rattle.fx_elements.specs.declared.axis.Axis.TheVariants as axis
use Rattle.fx_elements.specs.Axes.{Fields, field, axis_index, tops}
use Rattle.fx_elements.specs.Values.{value_text}
use Rattle.fx_elements.proofs.GroupTexts.{group_avoids}
use Rattle.fx_elements.proofs.EveryAxis.{index_below}
use Rattle.fx_elements.specs.Spelling.{largest, quad}
use Rattle.fx_elements.specs.Groups.{group, half, groups}
use Rattle.fx_elements.proofs.Cuts.{chosen}
use Rattle.fx_elements.proofs.Numbers.{both}
use Rattle.fx_elements.proofs.Addresses.{by_some, some_is, decimal_avoids}
use Rattle.fx_boxes.specs.Boxes.{IsFields}
use Rattle.fx_tables.specs.declared.packet.Packet.{Packet}
use Rattle.fx_tables.specs.declared.holder_name.HolderName.{HolderName}
use Rattle.fx_tables.specs.declared.holder_name.HolderName.TheVariants.{Cache, Aggregation}
use Rattle.fx_run_text.specs.declared.step.Step.{Step}
use Rattle.fx_run_text.specs.declared.step.Step.TheVariants as step
use Rattle.fx_run_text.specs.declared.text_version.TextVersion.{TextVersion}
use Rattle.fx_run_text.specs.declared.text_version.TextVersion.TheVariants.{One, Two}
use Rattle.fx_run_text.specs.declared.run_line.RunLine.{RunLine}
use Rattle.fx_run_text.specs.declared.run_line.RunLine.TheVariants as line
use Rattle.fx_base.specs.Entries.{entry_numbered}
use Rattle.fx_tables.specs.Classes.{Class, IsOf, is_of}
use Rattle.fx_run_text.specs.RunText.{Run, choice_word, field_words, packet_words, holder_words, step_words, first_words, last_words, run_lines, lines_text, run_text, AreChoices, IsHolderName, IsStep, IsPacket, IsPacketOf, IsWritableRun, AreShort, CanSay, line_axes}
use Rattle.fx_run_text.specs.RunLineText.{IsRunLine, line_words, run_line_text}
use Rattle.fx_elements.specs.Words.{Words, words, first_word}
use Rattle.fx_run_text.specs.RunReading.{at_end, packet_of, step_of, line_of_kind, line_of, TextLine, at_line, well_formed, said, no_run, with_packet, with_step, packet_fault, unless, from_line, end_of_lines, behind, run_in}
use Rattle.fx_run_text.proofs.RunWordTexts.{word_found, same_word, end_found, packet_text, packet_found}
use Rattle.fx_run_text.proofs.RunStepTexts.{step_text, step_found}

-- ---- words have no space and no line feed

abbrev pub IsPlain : ℕ → Type 0
IsPlain b = (b ≢ 32) × (b ≢ 10)

abbrev pub IsWord : List ℕ → Type 0
IsWord w = AllByRecursion IsPlain w

abbrev pub AreWords : Words → Type 0
AreWords ws = AllByRecursion IsWord ws

abbrev is_plain : ℕ → Bool
is_plain b = not (eqb b 32) && not (eqb b 10)

abbrev are_plain : List ℕ → Bool
are_plain [] = true
are_plain (b ∷ bs) = is_plain b && are_plain bs

not_true : (t : Bool) → not t ≡ true → t ≡ false
not_true true e = absurd cc
not_true false e = refl

-- a word that is written out
pub written : (w : List ℕ) → are_plain w ≡ true → IsWord w
written [] e = tt
written (b ∷ bs) e =
    let p = both (is_plain b) (are_plain bs) e in
    let q = both (not (eqb b 32)) (not (eqb b 10)) p.0 in
    ((eqb-false b 32 (not_true (eqb b 32) q.0), eqb-false b 10 (not_true (eqb b 10) q.1)), written bs p.1)

plain_by_both : (w : List ℕ) → AllByRecursion (λ b. b ≢ 32) w → AllByRecursion (λ b. b ≢ 10) w → IsWord w
plain_by_both [] h k = tt
plain_by_both (b ∷ bs) h k = ((h.0, k.0), plain_by_both bs h.1 k.1)

number_plain : (n : ℕ) → n ≤ largest → IsWord (decimal n)
number_plain n le = plain_by_both (decimal n) (decimal_avoids 32 n (omega arith) (omega arith))
    (decimal_avoids 10 n (omega arith) (omega arith))

plain_append : (a b : List ℕ) → IsWord a → IsWord b → IsWord (a ++ b)
plain_append [] b h k = k
plain_append (x ∷ xs) b h k = (h.0, plain_append xs b h.1 k)

plain_stop : IsPlain 46
plain_stop = (λ e. absurd cc, λ e. absurd cc)

quad_plain : (v : ℕ) → v ≤ 4294967295 → IsWord (quad v)
quad_plain v le =
    plain_append (decimal (v / 2 ^ 24)) _ (number_plain _ (omega arith)) (
      plain_stop,
      plain_append (decimal (v / 2 ^ 16 % 256)) _ (number_plain _ (omega arith)) (
        plain_stop,
        plain_append (decimal (v / 2 ^ 8 % 256)) _ (number_plain _ (omega arith))
            (plain_stop, number_plain (v % 256) (omega arith)),
      ),
    )

words_append : (a b : Words) → AreWords a → AreWords b → AreWords (a ++ b)
words_append [] b h k = k
words_append (x ∷ xs) b h k = (h.0, words_append xs b h.1 k)

group_plain : (g : ℕ) → g < 65536 → IsWord (group g)
group_plain g lt = plain_by_both (group g) (group_avoids 32 g (inl (omega arith)) lt)
    (group_avoids 10 g (inl (omega arith)) lt)

plain_colon : IsPlain 58
plain_colon = (λ e. absurd cc, λ e. absurd cc)

half_plain : (h : ℕ) → h < 2 ^ 64 → IsWord (half h)
unfolding half
half_plain h lt =
    plain_append (group (h / 2 ^ 48)) _ (group_plain (h / 2 ^ 48) (omega (arith, lt))) (
      plain_colon,
      plain_append (group (h / 2 ^ 32 % 65536)) _ (group_plain (h / 2 ^ 32 % 65536) (omega arith)) (
        plain_colon,
        plain_append (group (h / 2 ^ 16 % 65536)) _ (group_plain (h / 2 ^ 16 % 65536) (omega arith))
            (plain_colon, group_plain (h % 65536) (omega arith)),
      ),
    )

groups_plain : (v : ℕ) → v < 2 ^ 128 → IsWord (groups v)
unfolding groups
groups_plain v lt = plain_append (half (v / 2 ^ 64)) _ (half_plain (v / 2 ^ 64) (omega (arith, lt)))
    (plain_colon, half_plain (v % 2 ^ 64) (omega arith))

value_plain : (x : Axis) (v : ℕ) → v ≤ slice_index tops (axis_index x) → IsWord (value_text x v)
value_plain axis.Source v le = quad_plain v le
value_plain axis.Destination v le = quad_plain v le
value_plain axis.Protocol v le = number_plain v (omega (arith, le))
value_plain axis.SourcePort v le = number_plain v (omega (arith, le))
value_plain axis.DestinationPort v le = number_plain v (omega (arith, le))
value_plain axis.ClassOfService v le = number_plain v (omega (arith, le))
value_plain axis.Version v le = number_plain v (omega (arith, le))
value_plain axis.Source6 v le = groups_plain v (omega (arith, le))
value_plain axis.Destination6 v le = groups_plain v (omega (arith, le))

values_plain : (fields : Fields) (xs : List Axis) → IsFields fields
    → AreWords (map (λ x. value_text x (field fields x)) xs)
values_plain fields [] on = tt
values_plain fields (x ∷ xs) on = (value_plain x _ (on (axis_index x) (index_below x)), values_plain fields xs on)

fields_plain : (version : TextVersion) (fields : Fields) → IsFields fields → AreWords (field_words version fields)
fields_plain version fields on = values_plain fields (line_axes version) on

choices_plain : (cs : List (Option ℕ)) → AreChoices cs → AreWords (map choice_word cs)
choices_plain [] h = tt
choices_plain (None ∷ cs) h = (written (codes "n") refl, choices_plain cs h.1)
choices_plain (Some n ∷ cs) h = (number_plain n h.0, choices_plain cs h.1)

pub packet_plain : (version : TextVersion) (p : Packet) → IsPacket p → AreWords (packet_words version p)
packet_plain version p h = (
  written (codes "packet") refl,
  (
    number_plain p.class h.2,
    (
      number_plain p.path h.3,
      words_append (field_words version p.fields)
          (decimal p.octets ∷ []) (fields_plain version p.fields h.1) (number_plain p.octets h.4, tt),
    ),
  ),
)

holder_plain : (h : HolderName) → IsHolderName h → AreWords (holder_words h)
holder_plain (Cache device cache) h = (
  written (codes "cache") refl,
  (number_plain device h.0, (number_plain cache h.1, tt)),
)
holder_plain (Aggregation device process aggregation) h = (
  written (codes "aggregation") refl,
  (
    number_plain device h.0,
    (number_plain process h.1, (number_plain aggregation h.2, tt)),
  ),
)

pub step_plain : (s : Step) → IsStep s → AreWords (step_words s)
step_plain (step.Cross packet crossing choices) h =
    (written (codes "cross") refl, (number_plain packet h.0, (number_plain crossing h.1, choices_plain choices h.2)))
step_plain (step.Expire holder position choices) h = (
  written (codes "expire") refl,
  words_append (holder_words holder) (decimal position ∷ map choice_word choices)
      (holder_plain holder h.0) (number_plain position h.1, choices_plain choices h.2),
)
step_plain (step.Arrive link position choices) h =
    (written (codes "arrive") refl, (number_plain link h.0, (number_plain position h.1, choices_plain choices h.2)))

-- ---- words between spaces

words_one : (w : List ℕ) → IsWord w → words w ≡ w ∷ []
words_one [] h = refl
words_one (b ∷ bs) h = rw (ne_eqb b 32 h.0.0, words_one bs h.1) refl

words_before : (w rest : List ℕ) → IsWord w → words (w ++ 32 ∷ rest) ≡ w ∷ words rest
words_before [] rest h = refl
words_before (b ∷ bs) rest h = rw (ne_eqb b 32 h.0.0, words_before bs rest h.1) refl

pub words_join : (w : List ℕ) (ws : Words) → IsWord w → AreWords ws → words (join_with_byte 32 (w ∷ ws)) ≡ w ∷ ws
words_join w [] h hs = words_one w h
words_join w (y ∷ ys) h hs = words_before w (join_with_byte 32 (y ∷ ys)) h
    ∙ ap (λ (x : Words). w ∷ x) (words_join y ys hs.0 hs.1)

-- ---- lines before line feeds

abbrev pub IsLine : List ℕ → Type 0
IsLine l = AllByRecursion (λ b. b ≢ 10) l

line_word : (w : List ℕ) → IsWord w → IsLine w
line_word [] h = tt
line_word (b ∷ bs) h = (h.0.1, line_word bs h.1)

line_before : (w rest : List ℕ) → IsWord w → IsLine rest → IsLine (w ++ 32 ∷ rest)
line_before [] rest h k = (λ e. absurd cc, k)
line_before (b ∷ bs) rest h k = (h.0.1, line_before bs rest h.1 k)

pub line_join : (ws : Words) → AreWords ws → IsLine (join_with_byte 32 ws)
line_join [] h = tt
line_join (w ∷ []) h = line_word w h.0
line_join (w ∷ y ∷ ys) h = line_before w (join_with_byte 32 (y ∷ ys)) h.0 (line_join (y ∷ ys) h.1)

text_line : (l rest : List ℕ) → IsLine l → text_lines (l ++ 10 ∷ rest) ≡ (l, true) ∷ text_lines rest
text_line [] rest h = refl
text_line (b ∷ bs) rest h = rw (ne_eqb b 10 h.0, text_line bs rest h.1) refl

abbrev pub ended_line : List ℕ → TextLine
ended_line l = (l, true)

pub text_of_lines : (ls : List (List ℕ)) → AllByRecursion IsLine ls → text_lines (lines_text ls) ≡ map ended_line ls
text_of_lines [] h = refl
text_of_lines (l ∷ ls) h = rw (append_assoc l (10 ∷ []) (lines_text ls))
    (text_line l (lines_text ls) h.0 ∙ ap (λ (x : List TextLine). (l, true) ∷ x) (text_of_lines ls h.1))

-- the text of a line, with its line feed where it has one
abbrev line_text : TextLine → List ℕ
line_text l = l.0 ++ cond l.1 (10 ∷ []) []

begun : (b : ℕ) (ls : List TextLine) → flat_map line_text (begin_line b ls) ≡ b ∷ flat_map line_text ls
begun b [] = refl
begun b (l ∷ ls) = refl

text_back : (text : List ℕ) → flat_map line_text (text_lines text) ≡ text
text_back [] = refl
text_back (b ∷ bs) = by_feed (eqb b 10) refl (text_back bs) where
  by_feed : (t : Bool) → eqb b 10 ≡ t → flat_map line_text (text_lines bs) ≡ bs
      → flat_map line_text (cond t (([], true) ∷ text_lines bs) (begin_line b (text_lines bs))) ≡ b ∷ bs
  by_feed true e h = rw (eqb-true b 10 e) (ap (λ (x : List ℕ). 10 ∷ x) h)
  by_feed false e h = begun b (text_lines bs) ∙ ap (λ (x : List ℕ). b ∷ x) h

ended_text : (ls : List (List ℕ)) → flat_map line_text (map ended_line ls) ≡ lines_text ls
ended_text [] = refl
ended_text (l ∷ ls) = ap (λ (x : List ℕ). (l ++ 10 ∷ []) ++ x) (ended_text ls)

pub text_is : (text : List ℕ) (ls : List (List ℕ)) → text_lines text ≡ map ended_line ls → text ≡ lines_text ls
text_is text ls e = sym (text_back text) ∙ ap (λ (x : List TextLine). flat_map line_text x) e ∙ ended_text ls

-- ---- packets and their classes

some_true : {A : Type 0} (o : Option A) → o ≢ None → is_some o ≡ true
some_true None h = absurd (h refl)
some_true (Some x) h = refl

some_back : {A : Type 0} (o : Option A) → is_some o ≡ true → o ≢ None
some_back None h = absurd cc
some_back (Some x) h = λ e. absurd cc

pub of_true : (p : Packet) (c : Option Class) → IsOf p c → is_of p c ≡ true
of_true p None h = absurd h
of_true p (Some c) h = rw (h.0, some_true (entry_numbered c.paths p.path) h.1) refl

pub of_back : (p : Packet) (c : Option Class) → is_of p c ≡ true → IsOf p c
of_back p None h = absurd cc
of_back p (Some c) h = let k = both _ (is_some (entry_numbered c.paths p.path)) h in
    (k.0, some_back (entry_numbered c.paths p.path) k.1)

-- ---- lines

packet_line : (version : TextVersion) (p : Packet) → IsPacket p → CanSay version p.fields
    → line_of version (packet_words version p) ≡ Some (line.Packet p)
unfolding line_of_kind
packet_line version p h say = rw (packet_text version p
    (decimal p.class ∷ decimal p.path ∷ (field_words version p.fields ++ decimal p.octets ∷ [])) h say refl) refl

step_line : (version : TextVersion) (s : Step) → IsStep s → line_of version (step_words s) ≡ Some (line.Step s)
unfolding line_of_kind
step_line version (step.Cross packet crossing choices) h = rw (step_text (step.Cross packet crossing choices) h) refl
step_line version (step.Expire holder position choices) h = rw (step_text (step.Expire holder position choices) h) refl
step_line version (step.Arrive link position choices) h = rw (step_text (step.Arrive link position choices) h) refl

end_line : (version : TextVersion) → line_of version last_words ≡ Some line.End
unfolding line_of_kind
end_line version = refl

abbrev pub text_of_words : Words → List ℕ
text_of_words ws = join_with_byte 32 ws

pub plain_words : (version : TextVersion) (x : RunLine) → IsRunLine version x → AreWords (line_words version x)
plain_words version (line.Packet p) h = packet_plain version p h.0
plain_words version (line.Step s) h = step_plain s h
plain_words version line.End h = (written (codes "end") refl, tt)

by_words : (version : TextVersion) (w : List ℕ) (ws : Words) (x : RunLine) → AreWords (w ∷ ws)
    → line_of version (w ∷ ws) ≡ Some x → line_of version (words (text_of_words (w ∷ ws))) ≡ Some x
by_words version w ws x h e = ap (line_of version) (words_join w ws h.0 h.1) ∙ e

pub line_said : (version : TextVersion) (x : RunLine) → IsRunLine version x
    → line_of version (words (run_line_text version x)) ≡ Some x
line_said version (line.Packet p) h = by_words version _ _ (line.Packet p) (packet_plain version p h.0)
    (packet_line version p h.0 h.1)
line_said version (line.Step (step.Cross packet crossing choices)) h =
    by_words version _ _ _ (step_plain (step.Cross packet crossing choices) h)
    (step_line version (step.Cross packet crossing choices) h)
line_said version (line.Step (step.Expire holder position choices)) h =
    by_words version _ _ _ (step_plain (step.Expire holder position choices) h)
    (step_line version (step.Expire holder position choices) h)
line_said version (line.Step (step.Arrive link position choices)) h =
    by_words version _ _ _ (step_plain (step.Arrive link position choices) h)
    (step_line version (step.Arrive link position choices) h)
line_said version line.End h = by_words version _ _ line.End (written (codes "end") refl, tt) (end_line version)

says : (version : TextVersion) (w : List ℕ) (ws : Words) (x : RunLine) → IsWord w → AreWords ws
    → length (text_of_words (w ∷ ws)) ≤ 4096 → line_of version (w ∷ ws) ≡ Some x
    → said version (text_of_words (w ∷ ws), true) ≡ Ok x
says version w ws x h hs short e = rw (le-ltb 4096 (length (text_of_words (w ∷ ws))) short, words_join w ws h hs, e)
    refl

pub says_packet : (version : TextVersion) (p : Packet) → IsPacket p → CanSay version p.fields
    → length (text_of_words (packet_words version p)) ≤ 4096
    → said version (text_of_words (packet_words version p), true) ≡ Ok (line.Packet p)
says_packet version p h say short = let k = packet_plain version p h in
    says version _ _ (line.Packet p) k.0 k.1 short (packet_line version p h say)

pub says_step : (version : TextVersion) (s : Step) → IsStep s → length (text_of_words (step_words s)) ≤ 4096
    → said version (text_of_words (step_words s), true) ≡ Ok (line.Step s)
says_step version (step.Cross packet crossing choices) h short = let k =
    step_plain (step.Cross packet crossing choices) h in
    says version _ _ _ k.0 k.1 short (step_line version (step.Cross packet crossing choices) h)
says_step version (step.Expire holder position choices) h short = let k =
    step_plain (step.Expire holder position choices) h in
    says version _ _ _ k.0 k.1 short (step_line version (step.Expire holder position choices) h)
says_step version (step.Arrive link position choices) h short = let k = step_plain (step.Arrive link position choices) h
    in says version _ _ _ k.0 k.1 short (step_line version (step.Arrive link position choices) h)

-- ---- a run's text is read

abbrev step_lines : List Step → List (List ℕ)
step_lines ss = map text_of_words (map step_words ss ++ last_words ∷ [])

abbrev packet_lines : (version : TextVersion) → List Packet → List Step → List (List ℕ)
packet_lines version ps ss = map text_of_words (map (packet_words version) ps ++ (map step_words ss ++ last_words ∷ []))

end_read : (version : TextVersion) (classes : List Class) (n : ℕ) (run : Run)
    → behind version classes n run (map ended_line (step_lines [])) ≡ Ok run
end_read version classes n run =
    let k : said version (text_of_words last_words, true) ≡ Ok line.End =
    says version (codes "end") [] line.End (written (codes "end") refl) tt (omega arith) (end_line version) in
    rw k refl

steps_read : (version : TextVersion) (classes : List Class) (ss : List Step) (n : ℕ) (run : Run)
    → AllByRecursion IsStep ss → AreShort (step_lines ss)
    → behind version classes n run (map ended_line (step_lines ss))
    ≡ Ok (record { packets = run.packets; steps = run.steps ++ ss })
steps_read version classes [] n run h short = end_read version classes n run
    ∙ ap (λ (x : List Step). Ok (record { packets = run.packets; steps = x })) (sym (append-nil run.steps))
steps_read version classes (s ∷ ss) n run h short =
    rw (says_step version s h.0 short.0) (steps_read version classes ss (next_number n) (with_step run s) h.1 short.1
    ∙ ap (λ (x : List Step). Ok (record { packets = run.packets; steps = x })) (append_assoc run.steps (s ∷ []) ss))

packets_read : (version : TextVersion) (classes : List Class) (ps : List Packet) (ss : List Step) (n : ℕ)
    (qs : List Packet) → AllByRecursion (IsPacketOf version classes) ps → AllByRecursion IsStep ss
    → AreShort (packet_lines version ps ss)
    → behind version classes n (record { packets = qs; steps = [] }) (map ended_line (packet_lines version ps ss))
    ≡ Ok (record { packets = qs ++ ps; steps = ss })
packets_read version classes [] ss n qs of are short =
    steps_read version classes ss n (record { packets = qs; steps = [] }) are short
    ∙ ap (λ (x : List Packet). Ok (record { packets = x; steps = ss })) (sym (append-nil qs))
packets_read version classes (p ∷ ps) ss n qs of are short =
    rw (says_packet version p of.0.0 of.0.1 short.0, of_true p (entry_numbered classes p.class) of.0.2)
    (packets_read version classes ps ss (next_number n) (qs ++ p ∷ []) of.1 are short.1
    ∙ ap (λ (x : List Packet). Ok (record { packets = x; steps = ss })) (append_assoc qs (p ∷ []) ps))

packets_lines : (version : TextVersion) (classes : List Class) (ps : List Packet) (ss : List Step)
    → AllByRecursion (IsPacketOf version classes) ps → AllByRecursion IsStep ss
    → AllByRecursion IsLine (packet_lines version ps ss)
packets_lines version classes [] [] of are = (line_join last_words (written (codes "end") refl, tt), tt)
packets_lines version classes [] (s ∷ ss) of are =
    (line_join (step_words s) (step_plain s are.0), packets_lines version classes [] ss of are.1)
packets_lines version classes (p ∷ ps) ss of are =
    (line_join (packet_words version p) (packet_plain version p of.0.0), packets_lines version classes ps ss of.1 are)

first_words_plain : (version : TextVersion) → AreWords (first_words version)
first_words_plain One = (written (codes "once-run") refl, (written (codes "1") refl, tt))
first_words_plain Two = (written (codes "once-run") refl, (written (codes "2") refl, tt))

-- behind the first line of a version, its lines are read
first_read : (version : TextVersion) (classes : List Class) (n : ℕ) (ls : List TextLine)
    → run_in classes n (ended_line (text_of_words (first_words version)) ∷ ls)
    ≡ behind version classes (next_number n) no_run ls
first_read One classes n ls = refl
first_read Two classes n ls = refl

pub text_read : (version : TextVersion) (classes : List Class) (run : Run) (n : ℕ) → IsWritableRun version classes run
    → AreShort (run_lines version run) → run_in classes n (text_lines (run_text version run)) ≡ Ok run
text_read version classes run n is short =
    let lines : AllByRecursion IsLine (run_lines version run) = (
      line_join (first_words version) (first_words_plain version),
      packets_lines version classes run.packets
          run.steps is.packets is.steps,
    ) in
    let k : text_lines (run_text version run) ≡ map ended_line (run_lines version run) =
    text_of_lines (run_lines version run) lines in
    ap (λ (ls : List TextLine). run_in classes n ls) k
    ∙ first_read version classes n (map ended_line (packet_lines version run.packets run.steps))
    ∙ packets_read version classes run.packets run.steps (next_number n) [] is.packets is.steps short.1

-- ---- what is read is a run's text

-- what was read in a line
abbrev pub LineIs : (version : TextVersion) → RunLine → Words → Type 0
LineIs version (line.Packet p) ws = (ws ≡ packet_words version p) × IsPacket p × CanSay version p.fields
LineIs version (line.Step s) ws = (ws ≡ step_words s) × IsStep s
LineIs version line.End ws = ws ≡ last_words

packet_kind : (version : TextVersion) (kind : List ℕ) (ws : Words) (x : RunLine) (o : Option Packet)
    → packet_of version ws ≡ o → kind ≡ codes "packet" → option_map (λ p. line.Packet p) o ≡ Some x
    → LineIs version x (kind ∷ ws)
packet_kind version kind ws x (Some p) e same is =
    let f = packet_found version ws p e in
    let k : line.Packet p ≡ x = some_is is in
    subst (λ (x : RunLine). LineIs version x (kind ∷ ws)) k (ap (λ (w : List ℕ). w ∷ ws) same ∙ f.0, f.1, f.2)
packet_kind version kind ws x None e same is = absurd cc

end_kind : (version : TextVersion) (kind : List ℕ) (ws : Words) (x : RunLine) → at_end line.End ws ≡ Some x → kind
    ≡ codes "end" → LineIs version x (kind ∷ ws)
end_kind version kind ws x is same =
    let f = end_found line.End x ws is in
    subst (λ (x : RunLine). LineIs version x (kind ∷ ws)) f.1 (rw (f.0, same) refl)

step_kind : (version : TextVersion) (kind : List ℕ) (ws : Words) (x : RunLine) (o : Option Step) → step_of kind ws ≡ o
    → option_map (λ s. line.Step s) o ≡ Some x → LineIs version x (kind ∷ ws)
step_kind version kind ws x (Some s) e is =
    let f = step_found kind ws s e in
    let k : line.Step s ≡ x = some_is is in
    subst (λ (x : RunLine). LineIs version x (kind ∷ ws)) k f
step_kind version kind ws x None e is = absurd cc

kind_found : (version : TextVersion) (kind : List ℕ) (ws : Words) (x : RunLine) → line_of_kind version kind ws ≡ Some x
    → LineIs version x (kind ∷ ws)
unfolding line_of_kind
kind_found version kind ws x is =
    elim (chosen (bytes_eq kind (codes "packet")) _ _ (Some x) is) [
      | inl h ↦ packet_kind version kind ws x (packet_of version ws) refl (same_word kind (codes "packet") h.0) h.1
      | inr h ↦ elim (chosen (bytes_eq kind (codes "end")) _ _ (Some x) h.1) [
        | inl i ↦ end_kind version kind ws x i.1 (same_word kind (codes "end") i.0)
        | inr i ↦ step_kind version kind ws x (step_of kind ws) refl i.1
      ]
    ]

pub line_found : (version : TextVersion) (ws : Words) (x : RunLine) → line_of version ws ≡ Some x → LineIs version x ws
line_found version ws x is =
    by_some (first_word ws) _ x is (λ k pk ek. subst (λ (w : Words). LineIs version x w) (sym (word_found ws k pk))
    (kind_found version k.0 k.1 x ek))

formed : (o : Option RunLine) (x : RunLine) → well_formed o ≡ Ok x → o ≡ Some x
formed None x e = absurd cc
formed (Some y) x e = let k : y ≡ x = cc in ap (λ (z : RunLine). Some z) k

-- a line that says something: it is short, ended and well-formed
pub record Says (version : TextVersion) (l : TextLine) (x : RunLine) : Type 0 where
  pub short : length l.0 ≤ 4096
  pub ended : l.1 ≡ true
  pub words_are : LineIs version x (words l.0)

not_long : (n : ℕ) → nat_lt 4096 n ≡ false → n ≤ 4096
not_long n e =
    elim (cases_lt 4096 n) [
      | inl lt ↦ let k : nat_lt 4096 n ≡ true = lt-ltb 4096 n lt in absurd cc
      | inr le ↦ le
    ]

pub says_found : (version : TextVersion) (l : TextLine) (x : RunLine) → said version l ≡ Ok x → Says version l x
says_found version l x e =
    elim (chosen (nat_lt 4096 (length l.0)) (Err 903) _ (Ok x) e) [
      | inl h ↦ absurd cc
      | inr h ↦ elim (chosen l.1 (well_formed (line_of version (words l.0))) (Err 855) (Ok x) h.1) [
        | inl i ↦ record {
          short = not_long (length l.0) h.0;
          ended = i.0;
          words_are =
              line_found version (words l.0) x (formed (line_of version (words l.0)) x i.1);
        }
        | inr i ↦ absurd cc
      ]
    ]

-- such a line is the text of its words
pub line_is : (l : TextLine) (ws : Words) → l.1 ≡ true → words l.0 ≡ ws → l ≡ (text_of_words ws, true)
line_is l ws ended e =
    let k : l.0 ≡ text_of_words ws = sym (join_with_byte-slice_split 32 l.0) ∙ ap (λ (x : Words). text_of_words x) e in
    rw (← ended, ← k) refl

pub short_is : (l : TextLine) (ws : Words) → length l.0 ≤ 4096 → words l.0 ≡ ws → length (text_of_words ws) ≤ 4096
short_is l ws short e =
    let k : l.0 ≡ text_of_words ws = sym (join_with_byte-slice_split 32 l.0) ∙ ap (λ (x : Words). text_of_words x) e in
    subst (λ (x : List ℕ). length x ≤ 4096) k short

-- the packets and the steps that were read in lines, behind those of a run
record Comes (version : TextVersion) (classes : List Class) (run result : Run) (ls : List TextLine) : Type 0 where
  ps : List Packet
  ss : List Step
  packets : result.packets ≡ run.packets ++ ps
  steps : result.steps ≡ run.steps ++ ss
  lines : ls ≡ map ended_line (packet_lines version ps ss)
  of : AllByRecursion (IsPacketOf version classes) ps
  are : AllByRecursion IsStep ss
  short : AreShort (packet_lines version ps ss)
  stepped : 0 < length run.steps → ps ≡ []

unless_found : (o : Option ℕ) (n : ℕ) (r : Result Run Fault) (y : Run) → unless o n r ≡ Ok y → (o ≡ None) × (r ≡ Ok y)
unless_found None n r y e = (refl, e)
unless_found (Some k) n r y e = absurd cc

no_fault : (classes : List Class) (run : Run) (p : Packet) → packet_fault classes run p ≡ None → (length run.steps ≡ 0)
    × (is_of p (entry_numbered classes p.class) ≡ true)
no_fault classes run p e =
    elim (chosen (eqb (length run.steps) 0) _ (Some 855) None e) [
      | inl h ↦ elim (chosen (is_of p (entry_numbered classes p.class)) None (Some 856) None h.1) [
        | inl i ↦ (eqb-true (length run.steps) 0 h.0, i.0)
        | inr i ↦ absurd cc
      ]
      | inr h ↦ absurd cc
    ]

packet_comes : (version : TextVersion) (classes : List Class) (n : ℕ) (run result : Run) (p : Packet) (l : TextLine)
    (ls : List TextLine) → Says version l (line.Packet p) → packet_fault classes run p ≡ None
    → Comes version classes (with_packet run p) result ls → Comes version classes run result (l ∷ ls)
packet_comes version classes n run result p l ls says none m =
    let k = no_fault classes run p none in
    record {
      ps = p ∷ m.ps;
      ss = m.ss;
      packets = m.packets ∙ append_assoc run.packets (p ∷ []) m.ps;
      steps = m.steps;
      lines = ap (λ (x : TextLine). x ∷ ls) (line_is l (packet_words version p) says.ended says.words_are.0)
          ∙ ap (λ (x : List TextLine). (text_of_words (packet_words version p), true) ∷ x) m.lines;
      of = ((says.words_are.1, says.words_are.2, of_back p (entry_numbered classes p.class) k.1), m.of);
      are = m.are;
      short = (short_is l (packet_words version p) says.short says.words_are.0, m.short);
      stepped = λ h. absurd (omega (arith, k.0, h));
    }

step_comes : (version : TextVersion) (classes : List Class) (n : ℕ) (run result : Run) (s : Step) (l : TextLine)
    (ls : List TextLine) → Says version l (line.Step s) → Comes version classes (with_step run s) result ls
    → Comes version classes run result (l ∷ ls)
step_comes version classes n run result s l ls says m =
    let some : 0 < length (run.steps ++ s ∷ []) = omega (arith, length-append run.steps (s ∷ [])) in
    let none : m.ps ≡ [] = m.stepped some in
    record {
      ps = [];
      ss = s ∷ m.ss;
      packets = m.packets ∙ ap (λ (x : List Packet). run.packets ++ x) none;
      steps = m.steps ∙ append_assoc run.steps (s ∷ []) m.ss;
      lines = ap (λ (x : TextLine). x ∷ ls) (line_is l (step_words s) says.ended says.words_are.0)
          ∙ ap (λ (x : List TextLine). (text_of_words (step_words s), true) ∷ x)
          (m.lines ∙ ap (λ (x : List Packet). map ended_line (packet_lines version x m.ss)) none);
      of = tt;
      are = (says.words_are.1, m.are);
      short = (
        short_is l (step_words s) says.short says.words_are.0,
        subst (λ (x : List Packet). AreShort (packet_lines version x m.ss)) none m.short,
      );
      stepped = λ h. refl;
    }

end_comes : (version : TextVersion) (classes : List Class) (n : ℕ) (run result : Run) (l : TextLine)
    (ls : List TextLine) → Says version l line.End → end_of_lines n run ls ≡ Ok result
    → Comes version classes run result (l ∷ ls)
end_comes version classes n run result l [] says e =
    let k : run ≡ result = cc in
    record {
      ps = [];
      ss = [];
      packets = ap (λ (x : Run). x.packets) (sym k) ∙ sym (append-nil run.packets);
      steps = ap (λ (x : Run). x.steps) (sym k) ∙ sym (append-nil run.steps);
      lines = ap (λ (x : TextLine). x ∷ []) (line_is l last_words says.ended says.words_are);
      of = tt;
      are = tt;
      short = (short_is l last_words says.short says.words_are, tt);
      stepped = λ h. refl;
    }
end_comes version classes n run result l (m ∷ ms) says e = absurd cc

comes : (version : TextVersion) (classes : List Class) (ls : List TextLine) (n : ℕ) (run result : Run)
    → behind version classes n run ls ≡ Ok result → Comes version classes run result ls
comes version classes [] n run result e = absurd cc
comes version classes (l ∷ ls) n run result e =
    by_said (said version l) refl e (λ r f. comes version classes ls (next_number n) r result f) where
      by_said : (x : Result RunLine ℕ) → said version l ≡ x
          → from_line classes (next_number n) run x ls (λ r. behind version classes (next_number n) r ls) ≡ Ok result
          → ((r : Run) → behind version classes (next_number n) r ls ≡ Ok result → Comes version classes r result ls)
          → Comes version classes run result (l ∷ ls)
      by_said (Err k) s f more = absurd cc
      by_said (Ok (line.Packet p)) s f more =
          let u = unless_found (packet_fault classes run p) (next_number n)
          (behind version classes (next_number n) (with_packet run p) ls) result f in
          packet_comes version classes (next_number n) run result p l ls (says_found version l (line.Packet p) s) u.0
          (more (with_packet run p) u.1)
      by_said (Ok (line.Step q)) s f more = step_comes version classes (next_number n) run result q l ls
          (says_found version l (line.Step q) s) (more (with_step run q) f)
      by_said (Ok line.End) s f more = end_comes version classes (next_number n) run result l ls
          (says_found version l line.End s) f

-- the first line, and what comes behind it
record Begins (classes : List Class) (ls : List TextLine) (run : Run) : Type 0 where
  version : TextVersion
  rest : List TextLine
  first : ls ≡ (text_of_words (first_words version), true) ∷ rest
  comes_behind : Comes version classes no_run run rest

first_comes : (classes : List Class) (ls : List TextLine) (n : ℕ) (run : Run) → run_in classes n ls ≡ Ok run
    → Begins classes ls run
first_comes classes [] n run e = absurd cc
first_comes classes (l ∷ ls) n run e =
    elim (chosen (nat_lt 4096 (length l.0)) (Err (at_line 903 (next_number n))) _ (Ok run) e) [
      | inl h ↦ absurd cc
      | inr h ↦ elim (chosen (l.1 && bytes_eq l.0 (codes "once-run 1")) _ _ (Ok run) h.1) [
        | inl i ↦
            let k = both l.1 (bytes_eq l.0 (codes "once-run 1")) i.0 in
            let same : l.0 ≡ codes "once-run 1" = same_word l.0 (codes "once-run 1") k.1 in
            record {
              version = One;
              rest = ls;
              first = rw (← k.0, ← same) refl;
              comes_behind =
                  comes One classes ls (next_number n) no_run run i.1;
            }
        | inr i ↦ elim (chosen (l.1 && bytes_eq l.0 (codes "once-run 2")) _ (Err (at_line 854 (next_number n))) (Ok run)
            i.1) [
              | inl j ↦
                  let k = both l.1 (bytes_eq l.0 (codes "once-run 2")) j.0 in
                  let same : l.0 ≡ codes "once-run 2" = same_word l.0 (codes "once-run 2") k.1 in
                  record {
                    version = Two;
                    rest = ls;
                    first = rw (← k.0, ← same) refl;
                    comes_behind =
                        comes Two classes ls (next_number n) no_run run j.1;
                  }
              | inr j ↦ absurd cc
            ]
      ]
    ]

abbrev IsTextOf : TextVersion → List Class → List ℕ → Run → Type 0
IsTextOf version classes text run = (text ≡ run_text version run) × IsWritableRun version classes run
    × AreShort (run_lines version run)

first_short : (version : TextVersion) → length (text_of_words (first_words version)) ≤ 4096
first_short One = omega arith
first_short Two = omega arith

text_of_parts : (version : TextVersion) (classes : List Class) (text : List ℕ) (ps : List Packet) (ss : List Step)
    → text_lines text ≡ map ended_line (text_of_words (first_words version) ∷ packet_lines version ps ss)
    → AllByRecursion (IsPacketOf version classes) ps → AllByRecursion IsStep ss → AreShort (packet_lines version ps ss)
    → IsTextOf version classes text (record { packets = ps; steps = ss })
text_of_parts version classes text ps ss e of are short = (
  text_is text (text_of_words (first_words version) ∷ packet_lines version ps ss) e,
  record { packets = of; steps = are },
  (first_short version, short),
)

pub text_found : (classes : List Class) (text : List ℕ) (run : Run) (n : ℕ) → run_in classes n (text_lines text)
    ≡ Ok run → (version : TextVersion) × (text ≡ run_text version run) × IsWritableRun version classes run
    × AreShort (run_lines version run)
text_found classes text run n e =
    let f = first_comes classes (text_lines text) n run e in
    let m = f.comes_behind in
    let parts : IsTextOf f.version classes text (record { packets = m.ps; steps = m.ss }) =
    text_of_parts f.version classes text m.ps m.ss
    (f.first ∙ ap (λ (x : List TextLine). (text_of_words (first_words f.version), true) ∷ x) m.lines) m.of m.are
    m.short in
    let same : record { packets = m.ps; steps = m.ss } ≡ run = run_is run m.ps m.ss m.packets m.steps in
    let q = subst (λ (r : Run). IsTextOf f.version classes text r) same parts in
    (f.version, q.0, q.1, q.2) where
      run_is : (run : Run) (ps : List Packet) (ss : List Step) → run.packets ≡ [] ++ ps → run.steps ≡ [] ++ ss
          → record { packets = ps; steps = ss } ≡ run
      run_is run ps ss p s = rw (← p, ← s) refl
