-- The octets of a piece that belong to the current line.
use Rattle.std.proofs.Common.{◌≡◌, ℕ, suc, ◌+◌, ◌<◌, ◌≤◌, ◌==◌, Bool, true, false, not, List, [], ◌∷◌, ◌++◌, length, take, drop, get_or, Option, Some, None, refl, sym, ap, ◌∙◌, append_assoc, arith}
use Rattle.std.proofs.Math.Seq.{take-suc}
use Rattle.std.proofs.lemmas.Bool.{eq-eqb}
use Rattle.std.proofs.lemmas.Bool.Decides.{nat_tests}
use Rattle.std.proofs.lemmas.List.{get_or-take, length-append, length-take-le, take-append-drop, take_all}
use Rattle.std.proofs.lemmas.List.Folds.{prefix_len-append}
use Rattle.std.proofs.lemmas.List.Sums.{prefix_len_is, prefix_len_passes, prefix_len_stops}
use Rattle.std.specs.Io.KnownBytes.{prepend_known}
use Rattle.fx_base.proofs.Reading.{read_more}
use Rattle.fx_base.specs.Lines.{line_len}
use Rattle.fx_join.specs.Streams.{IsLinePart}

-- octets that are taken from those held precede those that are still held
split_held : (held : List ℕ) (count : ℕ) (left : Option (List ℕ)) → prepend_known (take count held)
    (prepend_known (drop count held) left) ≡ prepend_known held left
split_held held count None = refl
split_held held count (Some rest) =
    ap Some (sym (append_assoc (take count held) (drop count held) rest)
    ∙ ap (λ (xs : List ℕ). xs ++ rest) (take-append-drop count held))

pub taken_behind : (line held : List ℕ) (count : ℕ) (left old : Option (List ℕ))
    → prepend_known line (prepend_known held left) ≡ old
    → prepend_known (line ++ take count held) (prepend_known (drop count held) left) ≡ old
taken_behind line held count left old before =
    read_more line (take count held) (prepend_known held left) (prepend_known (drop count held) left)
    (split_held held count left) ∙ before

-- a line without a line feed goes on to the first line feed of what follows
line_further : (line more : List ℕ) → line_len line ≡ length line → line_len (line ++ more)
    ≡ length line + line_len more
line_further line more one =
    let e : (line_len line == length line) ≡ true = eq-eqb (line_len line) (length line) one in
    rw (prefix_len-append (λ x. not (x == 10)) line more, e) refl

is_feed : (b : ℕ) → not (b == 10) ≡ false → b ≡ 10
is_feed b h = grind (arith, nat_tests)

pub line_goes_on : (line piece : List ℕ) (count : ℕ) → line_len line ≡ length line → IsLinePart piece count false
    → line_len (line ++ take count piece) ≡ length (line ++ take count piece)
line_goes_on line piece count one part =
    let all : take count piece ≡ piece = ap (λ n. take n piece) part.0 ∙ take_all (length piece) piece (omega arith) in
    rw all (line_further line piece one ∙ omega (arith, part.1, length-append line piece))

-- the octets before the first line feed have none
before_feed : (piece : List ℕ) → line_len piece < length piece → line_len (take (line_len piece) piece)
    ≡ line_len piece
before_feed piece within =
    let p : ℕ → Bool = λ x. not (x == 10) in
    let n = line_len piece in
    let size : length (take n piece) ≡ n = length-take-le n piece (omega (arith, within)) in
    prefix_len_is p (take n piece) n 0 (omega (arith, size))
    (λ k lt. ap p (get_or-take n piece k 0 lt) ∙ prefix_len_passes p piece k 0 lt)
    (λ more. absurd (omega (arith, more, size)))

-- the line feed, and the line before it
pub line_ends_there : (line piece : List ℕ) (count : ℕ) → line_len line ≡ length line → IsLinePart piece count true
    → (whole : List ℕ) × (line_len whole ≡ length whole) × (line ++ take count piece ≡ whole ++ 10 ∷ [])
line_ends_there line piece count one part =
    let n = line_len piece in
    let within : n < length piece = omega (arith, part.0, part.1) in
    let front = take n piece in
    let size : length front ≡ n = length-take-le n piece (omega (arith, within)) in
    let own : line_len front ≡ n = before_feed piece within in
    let feed : get_or piece n 0 ≡ 10 = is_feed (get_or piece n 0)
    (prefix_len_stops (λ x. not (x == 10)) piece 0 within) in
    let is : take count piece ≡ front ++ 10 ∷ [] = ap (λ k. take k piece) (part.0) ∙ take_next piece n within feed in (
      line ++ front,
      line_further line front one ∙ omega (arith, own, size, length-append line front),
      ap (λ (xs : List ℕ). line ++ xs) is ∙ sym (append_assoc line front (10 ∷ [])),
    )
  where
    take_next : (xs : List ℕ) (k : ℕ) → k < length xs → get_or xs k 0 ≡ 10 → take (k + 1) xs ≡ take k xs ++ 10 ∷ []
    take_next xs k within feed =
        let e : k + 1 ≡ suc k = omega arith in
        rw e (take-suc xs k 0 within ∙ ap (λ b. take k xs ++ b ∷ []) feed)
