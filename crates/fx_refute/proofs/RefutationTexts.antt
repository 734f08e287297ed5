-- The text of a refutation is read as that refutation, and no other text is.
use Rattle.std.proofs.Common.{◌≡◌, inl, inr, ℕ, suc, ◌+◌, ◌≤◌, ◌<◌, ◌&&◌, Bool, true, false, eqb, not, List, [], ◌∷◌, ◌++◌, map, take, slice_get, zero, length, length-append, Some, None, Option, Result, Ok, Err, refl, ap, ap₂, sym, ◌∙◌, subst, arith, le-ltb, lt-ltb, append_assoc}
use Rattle.std.specs.Prelude.{codes, nat_lt}
use Rattle.std.specs.List.{AllByRecursion, join_with_byte}
use Rattle.std.specs.Str.{bytes_eq}
use Rattle.std.proofs.lemmas.Bool.{cases_lt, eqb-false}
use Rattle.std.proofs.lemmas.List.{append-nil}
use Rattle.std.proofs.lemmas.Slice.Eq.{bytes_eq-Decides}
use Rattle.fx_base.specs.Lines.{next_number, text_lines}
use Rattle.fx_elements.proofs.Cuts.{chosen}
use Rattle.fx_elements.proofs.Numbers.{both}
use Rattle.fx_tables.specs.declared.packet.Packet.{Packet}
use Rattle.fx_run_text.specs.declared.text_version.TextVersion.{TextVersion}
use Rattle.fx_run_text.specs.declared.text_version.TextVersion.TheVariants.{One, Two}
use Rattle.fx_run_text.specs.declared.run_line.RunLine.{RunLine}
use Rattle.fx_run_text.specs.declared.run_line.RunLine.TheVariants as line
use Rattle.fx_run_text.specs.declared.step.Step.{Step}
use Rattle.fx_machine.specs.Limits.{step_limit}
use Rattle.fx_run_text.specs.RunLineText.{IsOneLine, IsRunLine, ended_line, run_line_text}
use Rattle.fx_run_text.specs.RunReading.{TextLine, at_line, line_of}
use Rattle.fx_elements.specs.Words.{words}
use Rattle.fx_run_text.specs.RunText.{AreShort, IsStep, last_words, lines_text, step_words}
use Rattle.fx_refute.specs.RefutationReading.{end_of_lines, line_or_fault, from_packet, from_step, line_said, only, packet_behind, refutation_in, steps_behind, with_step}
use Rattle.fx_refute.specs.RefutationText.{IsRefutation, first_words, refutation_lines, refutation_text, steps_text}
use Rattle.fx_refute.specs.Refutations.{Refutation}

-- ---- the texts of steps

abbrev step_lines : List Step → List (List ℕ)
step_lines ss = map (join_with_byte 32) (map step_words ss ++ last_words ∷ [])

pub steps_and_end : (ss : List Step) → lines_text (step_lines ss) ≡ steps_text ss ++ codes "end\n"
steps_and_end [] = refl
steps_and_end (s ∷ ss) =
    ap (λ (x : List ℕ). (join_with_byte 32 (step_words s) ++ 10 ∷ []) ++ x) (steps_and_end ss)
    ∙ sym (append_assoc (join_with_byte 32 (step_words s) ++ 10 ∷ []) (steps_text ss) (codes "end\n"))

pub refutation_put : (r : Refutation) → refutation_text Two r ≡ codes "once-refutation 2\n"
    ++ ((run_line_text Two (line.Packet r.packet) ++ 10 ∷ []) ++ (steps_text r.steps ++ codes "end\n"))
refutation_put r =
    ap (λ (x : List ℕ). codes "once-refutation 2\n" ++ ((run_line_text Two (line.Packet r.packet) ++ 10 ∷ []) ++ x))
    (steps_and_end r.steps)

-- one step more
steps_suc : (ss : List Step) (k : ℕ) (s : Step) → slice_get ss k ≡ Some s → steps_text (take k ss)
    ++ (run_line_text Two (line.Step s) ++ 10 ∷ []) ≡ steps_text (take (suc k) ss)
steps_suc [] k s is = absurd (cc)
steps_suc (x ∷ xs) zero s is = let same : x ≡ s = cc in sym (append-nil _) ∙ ap (λ z. steps_text (z ∷ [])) (sym same)
steps_suc (x ∷ xs) (suc k) s is =
    append_assoc (join_with_byte 32 (step_words x) ++ 10 ∷ []) (steps_text (take k xs))
    (run_line_text Two (line.Step s) ++ 10 ∷ [])
    ∙ ap (λ (z : List ℕ). (join_with_byte 32 (step_words x) ++ 10 ∷ []) ++ z) (steps_suc xs k s is)

pub steps_next : (ss : List Step) (k : ℕ) (s : Step) → slice_get ss k ≡ Some s → steps_text (take k ss)
    ++ (run_line_text Two (line.Step s) ++ 10 ∷ []) ≡ steps_text (take (k + 1) ss)
steps_next ss k s is =
    let next : suc k ≡ k + 1 = omega arith in
    steps_suc ss k s is ∙ ap (λ n. steps_text (take n ss)) next

-- ---- what is known of the lines of runs

pub record LineLaws (version : TextVersion) : Type 0 where
  pub read : (x : RunLine) → IsRunLine version x → line_of version (words (run_line_text version x)) ≡ Some x
  pub only : (text : List ℕ) (x : RunLine) → line_of version (words text) ≡ Some x → (text ≡ run_line_text version x)
      × IsRunLine version x
  pub one_line : (x : RunLine) → IsRunLine version x → IsOneLine (run_line_text version x)
  pub lines : (lines : List (List ℕ)) → AllByRecursion IsOneLine lines → text_lines (lines_text lines)
      ≡ map ended_line lines
  pub text : (text : List ℕ) (lines : List (List ℕ)) → text_lines text ≡ map ended_line lines → text ≡ lines_text lines

abbrev no_feed : List ℕ → Bool
no_feed [] = true
no_feed (b ∷ bs) = not (eqb b 10) && no_feed bs

not_true : (t : Bool) → not t ≡ true → t ≡ false
not_true true e = absurd cc
not_true false e = refl

written : (text : List ℕ) → no_feed text ≡ true → IsOneLine text
written [] e = tt
written (b ∷ bs) e =
    let p = both (not (eqb b 10)) (no_feed bs) e in
    (eqb-false b 10 (not_true (eqb b 10) p.0), written bs p.1)

-- ---- the first line

abbrev first_line : TextVersion → List ℕ
first_line One = codes "once-refutation 1"
first_line Two = codes "once-refutation 2"

first_words_join : (version : TextVersion) → join_with_byte 32 (first_words version) ≡ first_line version
first_words_join One = refl
first_words_join Two = refl

first_one_line : (version : TextVersion) → IsOneLine (join_with_byte 32 (first_words version))
first_one_line One = written (codes "once-refutation 1") refl
first_one_line Two = written (codes "once-refutation 2") refl

first_short : (version : TextVersion) → length (join_with_byte 32 (first_words version)) ≤ 4096
first_short One = omega arith
first_short Two = omega arith

first_read : (version : TextVersion) (n : ℕ) (ls : List TextLine)
    → refutation_in n (ended_line (first_line version) ∷ ls) ≡ packet_behind version (next_number n) ls
first_read One n ls = refl
first_read Two n ls = refl

module _ (version : TextVersion) (laws : LineLaws version) where
  -- ---- a text is read

  said_line : (x : RunLine) → IsRunLine version x → length (run_line_text version x) ≤ 4096
      → line_said version (ended_line (run_line_text version x)) ≡ Ok x
  said_line x is short = rw (le-ltb 4096 (length (run_line_text version x)) short, laws.read x is) refl

  one_lines : (ss : List Step) → AllByRecursion IsStep ss → AllByRecursion IsOneLine (step_lines ss)
  one_lines [] is = (laws.one_line line.End tt, tt)
  one_lines (s ∷ ss) is = (laws.one_line (line.Step s) is.0, one_lines ss is.1)

  steps_read : (ss : List Step) (n : ℕ) (r : Refutation) → AllByRecursion IsStep ss → AreShort (step_lines ss)
      → length r.steps + length ss ≤ step_limit → steps_behind version n r (map ended_line (step_lines ss))
      ≡ Ok (record { packet = r.packet; steps = r.steps ++ ss })
  steps_read [] n r is short few =
      rw (said_line line.End tt short.0) (ap (λ (x : List Step). Ok (record { packet = r.packet; steps = x }))
      (sym (append-nil r.steps)))
  steps_read (s ∷ ss) n r is short few =
      let more : length (r.steps ++ s ∷ []) + length ss ≤ step_limit =
      omega (arith, few, length-append r.steps (s ∷ [])) in
      rw (said_line (line.Step s) is.0 short.0, lt-ltb (length r.steps) step_limit (omega (arith, few)))
      (steps_read ss (next_number n) (with_step r s) is.1 short.1 more
      ∙ ap (λ (x : List Step). Ok (record { packet = r.packet; steps = x })) (append_assoc r.steps (s ∷ []) ss))

  packet_read : (r : Refutation) (n : ℕ) → IsRefutation version r → AreShort (refutation_lines version r)
      → packet_behind version n (map ended_line (run_line_text version (line.Packet r.packet) ∷ step_lines r.steps))
      ≡ Ok r
  packet_read r n is short =
      rw (said_line (line.Packet r.packet) is.packet short.1.0)
      (steps_read r.steps (next_number n) (only r.packet) is.steps short.1.1 (omega (arith, is.few)))

  behind_read : (r : Refutation) (n : ℕ) → IsRefutation version r → AreShort (refutation_lines version r)
      → refutation_in n (text_lines (refutation_text version r))
      ≡ refutation_in n (ended_line (first_line version)
      ∷ map ended_line (run_line_text version (line.Packet r.packet) ∷ step_lines r.steps))
  behind_read r n is short =
      let whole : AllByRecursion IsOneLine (refutation_lines version r) =
      (first_one_line version, (laws.one_line (line.Packet r.packet) is.packet, one_lines r.steps is.steps)) in
      ap (refutation_in n) (laws.lines (refutation_lines version r) whole)
      ∙ ap (λ (x : List ℕ). refutation_in n (ended_line x
      ∷ map ended_line (run_line_text version (line.Packet r.packet) ∷ step_lines r.steps)))
      (first_words_join version)

  pub text_read : (r : Refutation) (n : ℕ) → IsRefutation version r → AreShort (refutation_lines version r)
      → refutation_in n (text_lines (refutation_text version r)) ≡ Ok r
  text_read r n is short = behind_read r n is short
      ∙ first_read version n (map ended_line (run_line_text version (line.Packet r.packet) ∷ step_lines r.steps))
      ∙ packet_read r (next_number n) is short

  -- ---- what is read is a refutation's text

  record Says (l : TextLine) (x : RunLine) : Type 0 where
    line : l ≡ ended_line (run_line_text version x)
    short : length (run_line_text version x) ≤ 4096
    is : IsRunLine version x

  well_formed : (o : Option RunLine) (x : RunLine) → line_or_fault o ≡ Ok x → o ≡ Some x
  well_formed None x e = absurd cc
  well_formed (Some y) x e = let k : y ≡ x = cc in ap (λ (z : RunLine). Some z) k

  not_long : (n : ℕ) → nat_lt 4096 n ≡ false → n ≤ 4096
  not_long n e =
      elim (cases_lt 4096 n) [
        | inl lt ↦ let k : nat_lt 4096 n ≡ true = lt-ltb 4096 n lt in absurd cc
        | inr le ↦ le
      ]

  says_so : (text : List ℕ) (end : Bool) (x : RunLine) → end ≡ true → length text ≤ 4096
      → (text ≡ run_line_text version x) × IsRunLine version x → Says (text, end) x
  says_so text end x end_of_lines short found = record {
    line = rw (end_of_lines, found.0) refl;
    short = subst (λ (t : List ℕ). length t ≤ 4096) found.0 short;
    is = found.1;
  }

  says : (l : TextLine) (x : RunLine) → line_said version l ≡ Ok x → Says l x
  says l x e =
      elim (chosen (nat_lt 4096 (length l.0)) (Err 903) _ (Ok x) e) [
        | inl h ↦ absurd cc
        | inr h ↦ elim (chosen l.1 (line_or_fault (line_of version (words l.0))) (Err 501) (Ok x) h.1) [
          | inl i ↦ says_so l.0 l.1 x i.0 (not_long (length l.0) h.0)
              (laws.only l.0 x (well_formed (line_of version (words l.0)) x i.1))
          | inr i ↦ absurd cc
        ]
      ]

  -- the steps that were read in lines, behind those that were there
  record Comes (r result : Refutation) (ls : List TextLine) : Type 0 where
    ss : List Step
    packet : result.packet ≡ r.packet
    steps : result.steps ≡ r.steps ++ ss
    lines : ls ≡ map ended_line (step_lines ss)
    are : AllByRecursion IsStep ss
    short : AreShort (step_lines ss)
    few : length r.steps ≤ step_limit → length result.steps ≤ step_limit

  step_comes : (r result : Refutation) (s : Step) (l : TextLine) (ls : List TextLine) → Says l (line.Step s)
      → length r.steps < step_limit → Comes (with_step r s) result ls → Comes r result (l ∷ ls)
  step_comes r result s l ls said lt m = record {
    ss = s ∷ m.ss;
    packet = m.packet;
    steps = m.steps ∙ append_assoc r.steps (s ∷ []) m.ss;
    lines = ap (λ (x : TextLine). x ∷ ls) said.line
        ∙ ap (λ (x : List TextLine). ended_line (run_line_text version (line.Step s)) ∷ x) m.lines;
    are = (said.is, m.are);
    short = (said.short, m.short);
    few = λ le. m.few (omega (arith, lt, length-append r.steps (s ∷ [])));
  }

  end_comes : (n : ℕ) (r result : Refutation) (l : TextLine) (ls : List TextLine) → Says l line.End
      → end_of_lines n r ls ≡ Ok result → Comes r result (l ∷ ls)
  end_comes n r result l [] said e =
      let same : r ≡ result = cc in
      record {
        ss = [];
        packet = ap (λ (x : Refutation). x.packet) (sym same);
        steps = ap (λ (x : Refutation). x.steps) (sym same) ∙ sym (append-nil r.steps);
        lines = ap (λ (x : TextLine). x ∷ []) said.line;
        are = tt;
        short = (said.short, tt);
        few = λ le. subst (λ (x : Refutation). length x.steps ≤ step_limit) same le;
      }
  end_comes n r result l (m ∷ ms) said e = absurd cc

  under_limit : (n : ℕ) → nat_lt n step_limit ≡ true → n < step_limit
  under_limit n e =
      elim (cases_lt n step_limit) [
        | inl lt ↦ lt
        | inr le ↦ let k : nat_lt n step_limit ≡ false = le-ltb n step_limit le in absurd cc
      ]

  comes : (ls : List TextLine) (n : ℕ) (r result : Refutation) → steps_behind version n r ls ≡ Ok result
      → Comes r result ls
  comes [] n r result e = absurd cc
  comes (l ∷ ls) n r result e = by_said (line_said version l) refl e (λ x f. comes ls (next_number n) x result f) where
    by_said : (x : Result RunLine ℕ) → line_said version l ≡ x
        → from_step (next_number n) r x ls (λ y. steps_behind version (next_number n) y ls) ≡ Ok result
        → ((y : Refutation) → steps_behind version (next_number n) y ls ≡ Ok result → Comes y result ls)
        → Comes r result (l ∷ ls)
    by_said (Err k) s f more = absurd cc
    by_said (Ok (line.Packet p)) s f more = absurd cc
    by_said (Ok (line.Step step)) s f more =
        elim (chosen (nat_lt (length r.steps) step_limit) (steps_behind version (next_number n) (with_step r step) ls)
        (Err (at_line 501 (next_number n))) (Ok result) f) [
          | inl h ↦ step_comes r result step l ls (says l (line.Step step) s) (under_limit (length r.steps) h.0)
              (more (with_step r step) h.1)
          | inr h ↦ absurd cc
        ]
    by_said (Ok line.End) s f more = end_comes (next_number n) r result l ls (says l line.End s) f

  -- a whole text
  record Whole (result : Refutation) (ls : List TextLine) : Type 0 where
    lines : ls ≡ map ended_line (run_line_text version (line.Packet result.packet) ∷ step_lines result.steps)
    is : IsRefutation version result
    short : AreShort (run_line_text version (line.Packet result.packet) ∷ step_lines result.steps)

  packet_comes : (p : Packet) (result : Refutation) (l : TextLine) (ls : List TextLine) → Says l (line.Packet p)
      → Comes (only p) result ls → Whole result (l ∷ ls)
  packet_comes p result l ls said m =
      let same : result ≡ record { packet = p; steps = m.ss } =
      ap₂ (λ (x : Packet) (y : List Step). record { packet = x; steps = y }) m.packet m.steps in
      subst (λ (x : Refutation). Whole x (l ∷ ls)) (sym same) (record {
        lines = ap (λ (x : TextLine). x ∷ ls) said.line
            ∙ ap (λ (x : List TextLine). ended_line (run_line_text version (line.Packet p)) ∷ x) m.lines;
        is = record {
          packet = said.is;
          steps = m.are;
          few =
              subst (λ (xs : List Step). length xs ≤ step_limit) m.steps (m.few (omega arith));
        };
        short = (said.short, m.short);
      })

  whole : (ls : List TextLine) (n : ℕ) (result : Refutation) → packet_behind version n ls ≡ Ok result → Whole result ls
  whole [] n result e = absurd cc
  whole (l ∷ ls) n result e = by_said (line_said version l) refl e where
    by_said : (x : Result RunLine ℕ) → line_said version l ≡ x → from_packet version (next_number n) x ls ≡ Ok result
        → Whole result (l ∷ ls)
    by_said (Err k) s f = absurd cc
    by_said (Ok (line.Packet p)) s f = packet_comes p result l ls (says l (line.Packet p) s)
        (comes ls (next_number n) (only p) result f)
    by_said (Ok (line.Step step)) s f = absurd cc
    by_said (Ok line.End) s f = absurd cc

  begun : (text : List ℕ) (l : TextLine) (ls : List TextLine) (n : ℕ) (r : Refutation) → text_lines text ≡ l ∷ ls
      → (l.1 && bytes_eq l.0 (first_line version)) ≡ true → packet_behind version n ls ≡ Ok r
      → (text ≡ refutation_text version r) × IsRefutation version r × AreShort (refutation_lines version r)
  begun text l ls n r same is e =
      let p = both l.1 (bytes_eq l.0 (first_line version)) is in
      let first : l ≡ ended_line (first_line version) =
      rw (← p.0, ← (bytes_eq-Decides l.0 (first_line version)).0 p.1) refl in
      let w = whole ls n r e in
      let lines : text_lines text ≡ map ended_line (refutation_lines version r) = same
      ∙ ap (λ (x : TextLine). x ∷ ls) first ∙ ap (λ (x : List TextLine). ended_line (first_line version) ∷ x)
      w.lines ∙ ap (λ (x : List ℕ). ended_line x
      ∷ map ended_line (run_line_text version (line.Packet r.packet) ∷ step_lines r.steps))
      (sym (first_words_join version)) in
      (laws.text text (refutation_lines version r) lines, w.is, (first_short version, w.short))

-- what reads a text is its text in one of the versions
abbrev Written : List ℕ → Refutation → Type 0
Written text r = (version : TextVersion) × (text ≡ refutation_text version r) × IsRefutation version r
    × AreShort (refutation_lines version r)

found : ((version : TextVersion) → LineLaws version) → (text : List ℕ) (ls : List TextLine) (n : ℕ) (r : Refutation)
    → text_lines text ≡ ls → refutation_in n ls ≡ Ok r → Written text r
found laws text [] n r same e = absurd cc
found laws text (l ∷ ls) n r same e =
    elim (chosen (nat_lt 4096 (length l.0)) (Err (at_line 903 (next_number n))) _ (Ok r) e) [
      | inl h ↦ absurd cc
      | inr h ↦ elim (chosen (l.1 && bytes_eq l.0 (codes "once-refutation 1")) (packet_behind One (next_number n) ls) _
          (Ok r) h.1) [
            | inl i ↦ let is = begun One (laws One) text l ls (next_number n) r same i.0 i.1 in (One, is.0, is.1, is.2)
            | inr i ↦ elim (chosen (l.1 && bytes_eq l.0 (codes "once-refutation 2"))
                (packet_behind Two (next_number n) ls)
                (Err (at_line 501 (next_number n))) (Ok r) i.1) [
                  | inl j ↦ let is = begun Two (laws Two) text l ls (next_number n) r same j.0 j.1 in
                      (Two, is.0, is.1, is.2)
                  | inr j ↦ absurd cc
                ]
          ]
    ]

pub text_found : ((version : TextVersion) → LineLaws version) → (text : List ℕ) (r : Refutation) (n : ℕ)
    → refutation_in n (text_lines text) ≡ Ok r → Written text r
text_found laws text r n e = found laws text (text_lines text) n r refl e
