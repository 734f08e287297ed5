-- The first text of some lines, line by line.
use Rattle.std.proofs.Common.{◌≡◌, ℕ, suc, ◌+◌, ◌-◌, ◌==◌, Bool, true, false, true≢false, List, [], ◌∷◌, ◌++◌, length, take, drop, bytes_eq, codes, Option, Some, None, option_map, refl, sym, ap, ◌∙◌, append_assoc, arith, if◌then◌else◌}
use Rattle.std.proofs.Math.Seq.{drop-append_seam, take-append_seam}
use Rattle.std.proofs.lemmas.List.{append-nil, length-append, take_rest}
use Rattle.std.proofs.lemmas.Slice.Eq.{bytes_eq-Decides}
use Rattle.fx_base.specs.Lines.{line_len, text_lines}
use Rattle.fx_join.specs.PartTexts.{TextLine, first_text, is_line, line_octets, put_before}

-- ---- lines

-- a line without a line feed in it, and a line feed behind it
pub line_and_feed : (line rest : List ℕ) → line_len line ≡ length line → text_lines ((line ++ 10 ∷ []) ++ rest)
    ≡ (line, true) ∷ text_lines rest
line_and_feed [] rest one = refl
line_and_feed (b ∷ bs) rest one =
    elim (b == 10) as (λ t. (b == 10) ≡ t → text_lines (((b ∷ bs) ++ 10 ∷ []) ++ rest) ≡ (b ∷ bs, true)
    ∷ text_lines rest) [
      | true ↦ λ e. absurd (omega (arith, rw e at one))
      | false ↦ λ e.
          let len : line_len (b ∷ bs) ≡ suc (line_len bs) = rw e (omega arith) in
          let inner : line_len bs ≡ length bs = omega (arith, one, len) in
          rw (e, line_and_feed bs rest inner) refl
    ] refl

-- a line without a line feed in it or behind it
pub line_alone : (b : ℕ) (line : List ℕ) → line_len (b ∷ line) ≡ length (b ∷ line) → text_lines (b ∷ line)
    ≡ (b ∷ line, false) ∷ []
line_alone b [] one =
    elim (b == 10) as (λ t. (b == 10) ≡ t → text_lines (b ∷ []) ≡ (b ∷ [], false) ∷ []) [
      | true ↦ λ e. absurd (omega (arith, rw e at one))
      | false ↦ λ e. rw e refl
    ] refl
line_alone b (c ∷ cs) one =
    elim (b == 10) as (λ t. (b == 10) ≡ t → text_lines (b ∷ c ∷ cs) ≡ (b ∷ c ∷ cs, false) ∷ []) [
      | true ↦ λ e. absurd (omega (arith, rw e at one))
      | false ↦ λ e.
          let len : line_len (b ∷ c ∷ cs) ≡ suc (line_len (c ∷ cs)) = rw e (omega arith) in
          rw (e, line_alone c cs (omega (arith, one, len))) refl
    ] refl

is_false : (r : Bool) → (r ≡ true → ⊥) → r ≡ false
is_false true h = absurd (h refl)
is_false false h = refl

-- a line without a line feed is no line that has one
pub no_feed : (octets line : List ℕ) → line_len line ≡ length line → is_line octets (line, false) ≡ false
no_feed octets line one =
    is_false (bytes_eq line (octets ++ 10 ∷ [])) (λ h. fed octets line one
    ((bytes_eq-Decides line (octets ++ 10 ∷ [])).0 h))
  where
    longer : (octets : List ℕ) → line_len (octets ++ 10 ∷ []) ≡ length (octets ++ 10 ∷ []) → ⊥
    longer [] one = absurd (omega (arith, one))
    longer (b ∷ bs) one =
        elim (b == 10) as (λ t. (b == 10) ≡ t → ⊥) [
          | true ↦ λ e. absurd (omega (arith, rw e at one))
          | false ↦ λ e.
              let len : line_len ((b ∷ bs) ++ 10 ∷ []) ≡ suc (line_len (bs ++ 10 ∷ [])) = rw e (omega arith) in
              longer bs (omega (arith, one, len))
        ] refl

    fed : (octets line : List ℕ) → line_len line ≡ length line → line ≡ octets ++ 10 ∷ [] → ⊥
    fed octets line one same = longer octets (rw same at one)

-- ---- texts

-- whatever follows, these octets precede the first text of what follows
abbrev pub IsBeforeMark : List ℕ → Type 0
IsBeforeMark text = (rest : List ℕ) → first_text (text_lines (text ++ rest))
    ≡ option_map (put_before text) (first_text (text_lines rest))

map_twice : (a b : List ℕ) (o : Option (List ℕ × List TextLine))
    → option_map (put_before a) (option_map (put_before b) o)
    ≡ option_map (put_before (a ++ b)) o
map_twice a b None = refl
map_twice a b (Some found) = ap (λ (t : List ℕ). Some (t, found.1)) (sym (append_assoc a b found.0))

pub before_more : (text more : List ℕ) → IsBeforeMark text → IsBeforeMark more → IsBeforeMark (text ++ more)
before_more text more first next =
    λ rest. ap (λ (o : List ℕ). first_text (text_lines o)) (append_assoc text more rest) ∙ first (more ++ rest)
    ∙ ap (option_map (put_before text)) (next rest)
    ∙ map_twice text more (first_text (text_lines rest))

-- a line that isn't the mark
pub before_line : (line : List ℕ) → line_len line ≡ length line → is_line (codes "%%") (line, true) ≡ false
    → IsBeforeMark (line ++ 10 ∷ [])
before_line line one other = λ rest. rw (line_and_feed line rest one) (rw other refl)

-- the mark ends the text
pub at_mark : (text mark : List ℕ) → IsBeforeMark text → mark ≡ codes "%%" ++ 10 ∷ [] → (rest : List ℕ)
    → first_text (text_lines ((text ++ mark) ++ rest)) ≡ Some (text, text_lines rest)
at_mark text mark before is rest =
    rw is (ap (λ (o : List ℕ). first_text (text_lines o)) (append_assoc text (codes "%%" ++ 10 ∷ []) rest)
    ∙ before ((codes "%%" ++ 10 ∷ []) ++ rest) ∙ ap (λ (t : List ℕ). Some (t, text_lines rest)) (append-nil text))

-- a line without a line feed has no text
alone : (line : List ℕ) → line_len line ≡ length line → first_text (text_lines line) ≡ None
alone [] one = refl
alone (b ∷ bs) one = rw (line_alone b bs one) (rw (no_feed (codes "%%") (b ∷ bs) one) refl)

pub before_nothing : (text line : List ℕ) → IsBeforeMark text → line_len line ≡ length line
    → first_text (text_lines (text ++ line)) ≡ None
before_nothing text line before one =
    before line ∙ ap (option_map (put_before text)) (alone line one)

-- ---- the last line of a text that is read

-- the line that begins where the text ended before
pub last_line : (text line octets : List ℕ) (start : ℕ) → octets ≡ text ++ line → start ≡ length text
    → take (length octets - start) (drop start octets) ≡ line
last_line text line octets start is from =
    take_rest octets start ∙ ap (drop start) is ∙ ap (λ n. drop n (text ++ line)) from ∙ drop-append_seam text line

pub front_of : (text line octets : List ℕ) (start : ℕ) → octets ≡ text ++ line → start ≡ length text
    → take start octets ≡ text
front_of text line octets start is from =
    ap (take start) is ∙ ap (λ n. take n (text ++ line)) from ∙ take-append_seam text line
