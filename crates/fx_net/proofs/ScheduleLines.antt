-- A line of a schedule is read as what it asks for, and no other line is.
use Rattle.std.proofs.Common.{rules, ◌≡◌, ◌≢◌, ◌≤◌, ℕ, Bool, true, false, cond, List, [], ◌∷◌, Option, Some, None, refl, ap, sym, ◌∙◌, subst, inl, inr, length, arith}
use Rattle.std.specs.Prelude.{codes}
use Rattle.std.specs.Fmt.{decimal}
use Rattle.std.specs.List.{AllByRecursion, join_with_byte}
use Rattle.std.specs.Str.{bytes_eq}
use Rattle.std.proofs.lemmas.List.Splits.{join_with_byte-slice_split}
use Rattle.fx_elements.proofs.Cuts.{chosen}
use Rattle.fx_elements.proofs.Decimals.{number_64}
use Rattle.fx_elements.specs.Spelling.{largest}
use Rattle.fx_elements.proofs.Addresses.{by_some, some_is, decimal_avoids}
use Rattle.fx_run_text.specs.RunText.{IsNumber}
use Rattle.fx_elements.specs.Words.{Words, words, first_word, number_first}
use Rattle.fx_run_text.specs.RunReading.{at_end}
use Rattle.fx_run_text.proofs.RunWordTexts.{word_found, number_word, same_word, end_found}
use Rattle.fx_run_text.proofs.RunTexts.{IsWord, AreWords, words_join, written}
use Rattle.fx_net.specs.declared.action.Action.{Action}
use Rattle.fx_net.specs.declared.action.Action.TheVariants.{Next, NextOf, Expire, Emit, Carry, Use}
use Rattle.fx_net.specs.Schedule.{action_words, IsAction, is_piece, AsksFor, ReadsLine}
use Rattle.fx_net.specs.LineReading.{next_of, expire_of, emit_of, carry_of, use_of, kind_of, words_of, action_of}

-- ---- what is read is an action's words

abbrev Found : Action → Words → Type 0
Found a ws = (ws ≡ action_words a) × IsAction a

two_words : (P : Words → Type 0) (k : List ℕ) (ws w1 w2 : Words) (a b : ℕ) → ws ≡ decimal a ∷ w1 → w1 ≡ decimal b ∷ w2
    → w2 ≡ [] → P (k ∷ decimal a ∷ decimal b ∷ []) → P (k ∷ ws)
two_words P k ws w1 w2 a b ha hb he p =
    subst P (ap (λ (x : Words). k ∷ x) (sym
    (ha ∙ ap (λ (x : Words). decimal a ∷ x) (hb ∙ ap (λ (x : Words). decimal b ∷ x) he)))) p

three_words : (P : Words → Type 0) (k : List ℕ) (ws w1 w2 w3 : Words) (a b c : ℕ) → ws ≡ decimal a ∷ w1 → w1 ≡ decimal b
    ∷ w2 → w2 ≡ decimal c ∷ w3 → w3 ≡ [] → P (k ∷ decimal a ∷ decimal b ∷ decimal c ∷ []) → P (k ∷ ws)
three_words P k ws w1 w2 w3 a b c ha hb hc he p =
    subst P (ap (λ (x : Words). k ∷ x) (sym
    (ha ∙ ap (λ (x : Words). decimal a ∷ x)
    (hb ∙ ap (λ (x : Words). decimal b ∷ x) (hc ∙ ap (λ (x : Words). decimal c ∷ x) he))))) p

found_as : (x a : Action) (ws : Words) → x ≡ a → Found x ws → Found a ws
found_as x a ws is f = subst (λ (y : Action). Found y ws) is f

next_found : (ws : Words) (r : Action) → next_of ws ≡ Some r → Found r (codes "next" ∷ ws)
unfolding next_of
next_found ws r is =
    by_some (number_first ws) _ r is (λ a pa ea.
    by_some (number_first a.1) _ r ea (λ b pb eb.
    let ha = number_word ws a pa in
    let hb = number_word a.1 b pb in
    let e = end_found (NextOf a.0 b.0) r b.1 eb in
    found_as (NextOf a.0 b.0) r _ e.1 (two_words (Found (NextOf a.0 b.0)) (codes "next") ws a.1 b.1 a.0 b.0 ha.0 hb.0
    e.0 (refl, (ha.1, hb.1)))))

expire_found : (ws : Words) (r : Action) → expire_of ws ≡ Some r → Found r (codes "expire" ∷ ws)
unfolding expire_of
expire_found ws r is =
    by_some (number_first ws) _ r is (λ a pa ea.
    by_some (number_first a.1) _ r ea (λ b pb eb.
    let ha = number_word ws a pa in
    let hb = number_word a.1 b pb in
    let e = end_found (Expire a.0 b.0) r b.1 eb in
    found_as (Expire a.0 b.0) r _ e.1 (two_words (Found (Expire a.0 b.0)) (codes "expire") ws a.1 b.1 a.0 b.0 ha.0 hb.0
    e.0 (refl, (ha.1, hb.1)))))

emit_found : (ws : Words) (r : Action) → emit_of ws ≡ Some r → Found r (codes "emit" ∷ ws)
unfolding emit_of
emit_found ws r is =
    by_some (number_first ws) _ r is (λ a pa ea.
    by_some (number_first a.1) _ r ea (λ b pb eb.
    by_some (number_first b.1) _ r eb (λ d pd ed.
    let ha = number_word ws a pa in
    let hb = number_word a.1 b pb in
    let hd = number_word b.1 d pd in
    let e = end_found (Emit a.0 b.0 d.0) r d.1 ed in
    found_as (Emit a.0 b.0 d.0) r _ e.1 (three_words (Found (Emit a.0 b.0 d.0)) (codes "emit") ws a.1 b.1 d.1 a.0 b.0
    d.0 ha.0 hb.0 hd.0 e.0 (refl, (ha.1, hb.1, hd.1))))))

use_found : (ws : Words) (r : Action) → use_of ws ≡ Some r → Found r (codes "use" ∷ ws)
unfolding use_of
use_found ws r is =
    by_some (number_first ws) _ r is (λ a pa ea.
    by_some (number_first a.1) _ r ea (λ b pb eb.
    by_some (number_first b.1) _ r eb (λ d pd ed.
    let ha = number_word ws a pa in
    let hb = number_word a.1 b pb in
    let hd = number_word b.1 d pd in
    let e = end_found (Use a.0 b.0 d.0) r d.1 ed in
    found_as (Use a.0 b.0 d.0) r _ e.1 (three_words (Found (Use a.0 b.0 d.0)) (codes "use") ws a.1 b.1 d.1 a.0 b.0 d.0
    ha.0 hb.0 hd.0 e.0 (refl, (ha.1, hb.1, hd.1))))))

carry_found : (ws : Words) (r : Action) → carry_of ws ≡ Some r → Found r (codes "carry" ∷ ws)
unfolding carry_of
carry_found ws r is =
    by_some (number_first ws) _ r is (λ a pa ea.
    by_some (number_first a.1) _ r ea (λ b pb eb.
    let ha = number_word ws a pa in
    let hb = number_word a.1 b pb in
    elim (chosen (is_piece b.0) (at_end (Carry a.0 b.0) b.1) None (Some r) eb) [
      | inl h ↦
          let e = end_found (Carry a.0 b.0) r b.1 h.1 in
          found_as (Carry a.0 b.0) r _ e.1 (two_words (Found (Carry a.0 b.0)) (codes "carry") ws a.1 b.1 a.0 b.0 ha.0
          hb.0 e.0 (refl, (ha.1, h.0)))
      | inr h ↦ absurd cc
    ]))

-- the word of a kind in place of the one that was read
of_kind : (a : Action) (ws : Words) (w kind : List ℕ) → w ≡ kind → Found a (kind ∷ ws) → Found a (w ∷ ws)
of_kind a ws w kind same p = subst (Found a) (ap (λ (x : List ℕ). x ∷ ws) (sym same)) p

kind_found : (kind : List ℕ) (ws : Words) (r : Action) → kind_of kind ws ≡ Some r → Found r (kind ∷ ws)
unfolding kind_of
kind_found kind ws r is =
    elim (chosen (bytes_eq kind (codes "next")) _ _ (Some r) is) [
      | inl h ↦ of_kind r ws kind (codes "next") (same_word kind (codes "next") h.0) (next_found ws r h.1)
      | inr h ↦ elim (chosen (bytes_eq kind (codes "expire")) _ _ (Some r) h.1) [
        | inl i ↦ of_kind r ws kind (codes "expire") (same_word kind (codes "expire") i.0) (expire_found ws r i.1)
        | inr i ↦ elim (chosen (bytes_eq kind (codes "emit")) _ _ (Some r) i.1) [
          | inl j ↦ of_kind r ws kind (codes "emit") (same_word kind (codes "emit") j.0) (emit_found ws r j.1)
          | inr j ↦ elim (chosen (bytes_eq kind (codes "carry")) _ _ (Some r) j.1) [
            | inl k ↦ of_kind r ws kind (codes "carry") (same_word kind (codes "carry") k.0) (carry_found ws r k.1)
            | inr k ↦ elim (chosen (bytes_eq kind (codes "use")) _ None (Some r) k.1) [
              | inl l ↦ of_kind r ws kind (codes "use") (same_word kind (codes "use") l.0) (use_found ws r l.1)
              | inr l ↦ absurd cc
            ]
          ]
        ]
      ]
    ]

words_found : (ws : Words) (r : Action) → words_of ws ≡ Some r → Found r ws
unfolding words_of
words_found ws r is =
    by_some (first_word ws) _ r is (λ k pk ek. subst (Found r) (sym (word_found ws k pk)) (kind_found k.0 k.1 r ek))

line_found : (line : List ℕ) (r : Action) → action_of line ≡ Some r → AsksFor line r
line_found line r is =
    elim (chosen (bytes_eq line (codes "next")) (Some Next) (words_of (words line)) (Some r) is) [
      | inl h ↦ subst (λ (a : Action). AsksFor line a) (some_is h.1) (tt, same_word line (codes "next") h.0)
      | inr h ↦
          let f = words_found (words line) r h.1 in
          (f.1, sym (join_with_byte-slice_split 32 line) ∙ ap (join_with_byte 32) f.0)
    ]

-- ---- an action's words are read as it

-- a number is a word
plain_by_both : (w : List ℕ) → AllByRecursion (λ b. b ≢ 32) w → AllByRecursion (λ b. b ≢ 10) w → IsWord w
plain_by_both [] h k = tt
plain_by_both (b ∷ bs) h k = ((h.0, k.0), plain_by_both bs h.1 k.1)

number_plain : (n : ℕ) → n ≤ largest → IsWord (decimal n)
number_plain n le = plain_by_both (decimal n) (decimal_avoids 32 n (omega arith) (omega arith))
    (decimal_avoids 10 n (omega arith) (omega arith))

next_said : (a b : ℕ) → IsNumber a → IsNumber b → words_of (action_words (NextOf a b)) ≡ Some (NextOf a b)
unfolding words_of kind_of next_of
next_said a b ha hb = rw (number_64 a ha, number_64 b hb) refl

expire_said : (a b : ℕ) → IsNumber a → IsNumber b → words_of (action_words (Expire a b)) ≡ Some (Expire a b)
unfolding words_of kind_of expire_of
expire_said a b ha hb = rw (number_64 a ha, number_64 b hb) refl

emit_said : (a b c : ℕ) → IsNumber a → IsNumber b → IsNumber c → words_of (action_words (Emit a b c))
    ≡ Some (Emit a b c)
unfolding words_of kind_of emit_of
emit_said a b c ha hb hc = rw (number_64 a ha, number_64 b hb, number_64 c hc) refl

carry_said : (a b : ℕ) → IsNumber a → IsNumber b → is_piece b ≡ true → words_of (action_words (Carry a b))
    ≡ Some (Carry a b)
unfolding words_of kind_of carry_of
carry_said a b ha hb h = rw (number_64 a ha, number_64 b hb, h) refl

use_said : (a b c : ℕ) → IsNumber a → IsNumber b → IsNumber c → words_of (action_words (Use a b c)) ≡ Some (Use a b c)
unfolding words_of kind_of use_of
use_said a b c ha hb hc = rw (number_64 a ha, number_64 b hb, number_64 c hc) refl

-- a line of several words isn't the word `next`
not_next : (line : List ℕ) (w v : List ℕ) (ws : Words) → words line ≡ w ∷ v ∷ ws → bytes_eq line (codes "next") ≡ false
not_next line w v ws e = go (bytes_eq line (codes "next")) refl
  where
    one_word : ◌≡◌ {A = Words} (codes "next" ∷ []) (w ∷ v ∷ ws) → ⊥
    one_word e = omega (arith, ap length e)

    go : (b : Bool) → bytes_eq line (codes "next") ≡ b → b ≡ false
    go false h = refl
    go true h = absurd (one_word (sym (words_join (codes "next") [] (written (codes "next") refl) tt)
        ∙ ap words (sym (same_word line (codes "next") h)) ∙ e))

said_in : (line w v : List ℕ) (ws : Words) (a : Action) → words line ≡ w ∷ v ∷ ws → words_of (w ∷ v ∷ ws) ≡ Some a
    → action_of line ≡ Some a
said_in line w v ws a e h =
    ap (λ (b : Bool). cond b (Some Next) (words_of (words line))) (not_next line w v ws e) ∙ ap words_of e ∙ h

words_are : (line w : List ℕ) (ws : Words) → line ≡ join_with_byte 32 (w ∷ ws) → AreWords (w ∷ ws) → words line ≡ w ∷ ws
words_are line w ws e h = ap words e ∙ words_join w ws h.0 h.1

piece_number : (n : ℕ) → is_piece n ≡ true → IsNumber n
piece_number n h = search rules

line_said : (line : List ℕ) (a : Action) → AsksFor line a → action_of line ≡ Some a
line_said line Next h = ap action_of h.1
line_said line (NextOf a b) h =
    said_in line _ _ _ _ (words_are line (codes "next") _ h.1
    (written (codes "next") refl, (number_plain a h.0.0, (number_plain b h.0.1, tt)))) (next_said a b h.0.0 h.0.1)
line_said line (Expire a b) h =
    said_in line _ _ _ _ (words_are line (codes "expire") _ h.1
    (written (codes "expire") refl, (number_plain a h.0.0, (number_plain b h.0.1, tt))))
    (expire_said a b h.0.0 h.0.1)
line_said line (Emit a b c) h =
    said_in line _ _ _ _ (words_are line (codes "emit") _ h.1
    (written (codes "emit") refl, (number_plain a h.0.0, (number_plain b h.0.1, (number_plain c h.0.2, tt)))))
    (emit_said a b c h.0.0 h.0.1 h.0.2)
line_said line (Carry a b) h =
    let hb = piece_number b h.0.1 in
    said_in line _ _ _ _ (words_are line (codes "carry") _ h.1
    (written (codes "carry") refl, (number_plain a h.0.0, (number_plain b hb, tt)))) (carry_said a b h.0.0 hb h.0.1)
line_said line (Use a b c) h =
    said_in line _ _ _ _ (words_are line (codes "use") _ h.1
    (written (codes "use") refl, (number_plain a h.0.0, (number_plain b h.0.1, (number_plain c h.0.2, tt)))))
    (use_said a b c h.0.0 h.0.1 h.0.2)

-- ---- so reading tells just what a line asks for

nothing_asked : (a : Action) → ◌≡◌ {A = Option Action} None (Some a) → ⊥
nothing_asked a e = cc

pub reads_line : (line : List ℕ) (o : Option Action) → o ≡ action_of line → ReadsLine line o
reads_line line (Some a) e = line_found line a (sym e)
reads_line line None e = λ a asks. nothing_asked a (e ∙ line_said line a asks)
