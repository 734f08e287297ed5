-- A text's lines, one after another.
use Rattle.std.proofs.Common.{◌≡◌, ℕ, suc, ◌+◌, ◌<◌, Bool, true, false, ◌==◌, nat_lt, List, [], ◌∷◌, ◌++◌, length, Option, Some, None, IfSome, refl, arith, inl, inr}
use Rattle.std.proofs.lemmas.Bool.{cases_lt, lt-ltb, le-ltb}
use Rattle.fx_base.specs.Device.{MayBeLeft}
use Rattle.fx_base.specs.Lines.{line_len, first_line, after_line, line_ends, text_lines}

lt_suc : (n m : ℕ) → nat_lt (suc n) (suc m) ≡ nat_lt n m
lt_suc n m =
    elim (cases_lt n m) [
      | inl lt ↦ rw (lt-ltb n m lt, lt-ltb (suc n) (suc m) (omega (arith, lt))) refl
      | inr le ↦ rw (le-ltb n m le, le-ltb (suc n) (suc m) (omega (arith, le))) refl
    ]

-- a line feed in front, another byte in front of nothing, and in front of some bytes
at_feed : (b : ℕ) (bs : List ℕ) → (b == 10) ≡ true → text_lines (b ∷ bs) ≡ (first_line (b ∷ bs), line_ends (b ∷ bs))
    ∷ text_lines (after_line (b ∷ bs))
at_feed b bs e = rw (e, lt-ltb 0 (length (b ∷ bs)) (omega arith)) refl

at_last : (b : ℕ) → (b == 10) ≡ false → text_lines (b ∷ []) ≡ (first_line (b ∷ []), line_ends (b ∷ []))
    ∷ text_lines (after_line (b ∷ []))
at_last b e = rw e refl

at_byte : (b : ℕ) (bs : List ℕ) → (b == 10) ≡ false → text_lines bs ≡ (first_line bs, line_ends bs)
    ∷ text_lines (after_line bs) → text_lines (b ∷ bs) ≡ (first_line (b ∷ bs), line_ends (b ∷ bs))
    ∷ text_lines (after_line (b ∷ bs))
at_byte b bs e rest =
    let len : line_len (b ∷ bs) ≡ suc (line_len bs) = rw e (omega arith) in
    let line : first_line (b ∷ bs) ≡ b ∷ first_line bs = rw len refl in
    let ends : line_ends (b ∷ bs) ≡ line_ends bs = rw len (lt_suc (line_len bs) (length bs)) in
    let after : after_line (b ∷ bs) ≡ after_line bs =
    rw len (let k : suc (line_len bs) + 1 ≡ suc (line_len bs + 1) = omega arith in rw k refl) in
    rw (line, ends, after) (rw (e, rest) refl)

-- the first line of a text, and those after it
pub lines_first : (text : List ℕ) → 0 < length text → text_lines text ≡ (first_line text, line_ends text)
    ∷ text_lines (after_line text)
lines_first [] some = absurd (omega (arith, some))
lines_first (b ∷ []) some =
    elim (b == 10) as (λ t. (b == 10) ≡ t → text_lines (b ∷ []) ≡ (first_line (b ∷ []), line_ends (b ∷ []))
    ∷ text_lines (after_line (b ∷ []))) [
      | true ↦ at_feed b []
      | false ↦ at_last b
    ] refl
lines_first (b ∷ (d ∷ ds)) some =
    elim (b == 10) as (λ t. (b == 10) ≡ t → text_lines (b ∷ (d ∷ ds))
    ≡ (first_line (b ∷ (d ∷ ds)), line_ends (b ∷ (d ∷ ds))) ∷ text_lines (after_line (b ∷ (d ∷ ds)))) [
      | true ↦ at_feed b (d ∷ ds)
      | false ↦ λ e. at_byte b (d ∷ ds) e (lines_first (d ∷ ds) (omega arith))
    ] refl

-- a line without a line feed in it, and a line feed behind it
line_and_feed : (line rest : List ℕ) → line_len line ≡ length line → text_lines (line ++ 10 ∷ rest) ≡ (line, true)
    ∷ text_lines rest
line_and_feed [] rest one = refl
line_and_feed (b ∷ bs) rest one =
    elim (b == 10) as (λ t. (b == 10) ≡ t → text_lines ((b ∷ bs) ++ 10 ∷ rest) ≡ (b ∷ bs, true) ∷ text_lines rest) [
      | true ↦ λ e. absurd (omega (arith, rw e at one))
      | false ↦ λ e.
          let len : line_len (b ∷ bs) ≡ suc (line_len bs) = rw e (omega arith) in
          let inner : line_len bs ≡ length bs = omega (arith, one, len) in
          rw (e, line_and_feed bs rest inner) refl
    ] refl

-- a line without a line feed in it or behind it
line_alone : (b : ℕ) (line : List ℕ) → line_len (b ∷ line) ≡ length (b ∷ line) → text_lines (b ∷ line)
    ≡ (b ∷ line, false) ∷ []
line_alone b [] one =
    elim (b == 10) as (λ t. (b == 10) ≡ t → text_lines (b ∷ []) ≡ (b ∷ [], false) ∷ []) [
      | true ↦ λ e. absurd (omega (arith, rw e at one))
      | false ↦ λ e. rw e refl
    ] refl
line_alone b (c ∷ cs) one =
    elim (b == 10) as (λ t. (b == 10) ≡ t → text_lines (b ∷ c ∷ cs) ≡ (b ∷ c ∷ cs, false) ∷ []) [
      | true ↦ λ e. absurd (omega (arith, rw e at one))
      | false ↦ λ e.
          let len : line_len (b ∷ c ∷ cs) ≡ suc (line_len (c ∷ cs)) = rw e (omega arith) in
          rw (e, line_alone c cs (omega (arith, one, len))) refl
    ] refl

-- whatever follows, the line that a reader is at and what follows are the lines of a text that it may have had left
pub lines_behind : (old new : Option (List ℕ)) (line : List ℕ) (ended : Bool) → line_len line ≡ length line
    → (ended ≡ false → 0 < length line) → IfSome old
    (λ text. (0 < length text) × (line ≡ first_line text) × (ended ≡ line_ends text) × (new ≡ Some (after_line text)))
    → (rest : List ℕ) → MayBeLeft new rest × (ended ≡ false → rest ≡ []) → (text : List ℕ) × MayBeLeft old text
    × (text_lines text ≡ (line, ended) ∷ text_lines rest)
lines_behind (Some text) new line ended one some h rest follows =
    let is : rest ≡ after_line text = rw h.3 at follows.0 in
    (text, refl, rw (is, h.1, h.2) (lines_first text h.0))
lines_behind None new line true one some h rest follows = (line ++ 10 ∷ rest, tt, line_and_feed line rest one)
lines_behind None new [] false one some h rest follows = absurd (omega (arith, some refl))
lines_behind None new (b ∷ bs) false one some h rest follows = (b ∷ bs, tt, rw (follows.1 refl) (line_alone b bs one))
