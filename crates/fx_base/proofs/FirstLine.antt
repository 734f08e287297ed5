-- The first line of a text of which some bytes are held.
use Rattle.std.proofs.Common.{◌≡◌, ℕ, ◌+◌, ◌≤◌, ◌<◌, ◌⊎◌, List, ◌++◌, length, take, drop, get_or, Option, Some, None, refl, sym, ap, ◌∙◌, subst, arith, cond, not, ◌==◌, true, false, IfSome, IfNone, Bool, eqb, inl, inr, nat_lt, ◌↔◌}
use Rattle.std.specs.List.{prefix_len}
use Rattle.std.proofs.lemmas.List.Folds.{prefix_len-append}
use Rattle.std.proofs.lemmas.List.Sums.{position_or_len_is, prefix_len-le-length}
use Rattle.memchr.specs.Find.{IsFirstByte, is_byte}
use Rattle.std.proofs.lemmas.Bool.{cases_lt, lt-ltb, ne_eqb}
use Rattle.std.proofs.lemmas.List.{take-append-drop, take-append-le, drop-append-le, take_all, drop_all, append-nil, length-append, length-take-le}
use Rattle.std.specs.Io.KnownBytes.{prepend_known}
use Rattle.fx_base.specs.Device.{MayHaveLeft}
use Rattle.fx_base.specs.Lines.{line_len, first_line, after_line, line_ends}
use Rattle.fx_base.specs.Part.{HasFeed, IsLast, IsPart}
use Rattle.fx_base.specs.declared.part.LinePart.{LinePart}

untrue : (t : Bool) → (t ≡ true → ⊥) → t ≡ false
untrue true h = absurd (h refl)
untrue false h = refl

-- the first line feed that a search finds ends the first line
pub feed_found : (bytes : List ℕ) (o : Option ℕ) → IsFirstByte (is_byte 10) bytes o
    → IfSome o (λ n. (n ≡ line_len bytes) × (n < length bytes)) × IfNone o (line_len bytes ≡ length bytes)
feed_found bytes (Some k) h =
    let is : line_len bytes ≡ k = position_or_len_is (λ b. b == 10) bytes k 0 (omega (arith, h.0.high))
    (λ j lt. untrue (get_or bytes j 0 == 10) (h.0.before j (omega arith) lt)) (λ lt. h.1) in
    ((sym is, h.0.high), tt)
feed_found bytes None h = (
  tt,
  position_or_len_is (λ b. b == 10) bytes (length bytes) 0 (omega arith)
      (λ j lt. untrue (get_or bytes j 0 == 10) (h j (omega arith) lt)) (λ lt. absurd (omega (arith, lt))),
)

-- more bytes behind don't shorten the first line
line_len-append : (a b : List ℕ) → line_len a ≤ line_len (a ++ b)
line_len-append a b =
    let p : ℕ → Bool = λ x. not (x == 10) in
    let short = prefix_len-le-length p a in
    rw (prefix_len-append p a b) (elim (eqb (prefix_len p a) (length a))
    as (λ t. prefix_len p a ≤ cond t (length a + prefix_len p b) (prefix_len p a)) [
      | true ↦ omega (arith, short)
      | false ↦ omega arith
    ])

pub long_line : (held : List ℕ) (left all : Option (List ℕ)) (n : ℕ) → prepend_known held left ≡ all → n < line_len held
    → MayHaveLeft all (λ text. n < line_len text)
long_line held None all n is h = subst (λ o. MayHaveLeft o (λ text. n < line_len text)) is (held, tt, h)
long_line held (Some rest) all n is h =
    subst (λ o. MayHaveLeft o (λ text. n < line_len text)) is
    (held ++ rest, refl, omega (arith, h, line_len-append held rest))

-- a line that ends within the first part of a text is the text's first
first_within : (front rest : List ℕ) → line_len front < length front → line_len (front ++ rest) ≡ line_len front
first_within front rest h =
    let p : ℕ → Bool = λ x. not (x == 10) in
    rw (prefix_len-append p front rest, ne_eqb (prefix_len p front) (length front) (λ e. omega (arith, h, e))) refl

-- the first bytes up to the line feed have none
line_within : (held : List ℕ) (n : ℕ) → n ≡ line_len held → n < length held → line_len (take n held) ≡ n
line_within held n n-is within =
    let split : held ≡ take n held ++ drop n held = sym (take-append-drop n held) in
    let size : length (take n held) ≡ n = length-take-le n held (omega (arith, within)) in
    let short : line_len (take n held) ≤ length (take n held) = prefix_len-le-length (λ x. not (x == 10)) (take n held)
    in
    elim (cases_lt (line_len (take n held)) (length (take n held))) [
      | inl lt ↦ sym (first_within (take n held) (drop n held) lt) ∙ ap line_len (sym split) ∙ sym n-is
      | inr le ↦ omega (arith, le, short, size)
    ]

-- the line has no line feed in it
pub one_line : (part : LinePart) (held : List ℕ) (left : Option (List ℕ)) → IsPart part held left
    → line_len (take part.line held) ≡ length (take part.line held)
one_line part held left is = by is.first where
  size : length (take part.line held) ≡ part.line
  size = length-take-le part.line held (omega (arith, is.line, is.taken))

  by : HasFeed part held ⊎ IsLast part held left → line_len (take part.line held) ≡ length (take part.line held)
  by (inl feed) = line_within held part.line feed.0 feed.1 ∙ sym size
  by (inr last) =
      let all : take part.line held ≡ held = ap (λ n. take n held) last.1 ∙ take_all (length held) held (omega arith) in
      ap line_len all ∙ last.0 ∙ sym (ap length all)

-- the line at the front of what is held, whether a line feed ends it, and what is behind it
abbrev IsFirst : LinePart → List ℕ → Option (List ℕ) → List ℕ → Type 0
IsFirst part held left text =
    (take part.line held ≡ first_line text) × (nat_lt part.line part.taken ≡ line_ends text)
    × (prepend_known (drop part.taken held) left ≡ Some (after_line text)) × ((0 < part.taken) ↔ (0 < length text))

with_feed : (part : LinePart) (held rest : List ℕ) → HasFeed part held → IsFirst part held (Some rest) (held ++ rest)
with_feed part held rest feed =
    let first : line_len (held ++ rest) ≡ part.line = first_within held rest (omega (arith, feed.0, feed.1))
    ∙ sym feed.0 in
    let long : part.line < length (held ++ rest) = omega (arith, length-append held rest, feed.1) in (
      rw (first, take-append-le part.line held rest (omega (arith, feed.1))) refl,
      rw (lt-ltb part.line part.taken (omega (arith, feed.2)), first, lt-ltb part.line (length (held ++ rest)) long)
          refl,
      rw (feed.2, first, drop-append-le (part.line + 1) held rest (omega (arith, feed.1))) refl,
      (λ _. omega (arith, long), λ _. omega (arith, feed.2)),
    )

without_feed : (part : LinePart) (held rest : List ℕ) → IsLast part held (Some rest)
    → IsFirst part held (Some rest) (held ++ rest)
without_feed part held rest last =
    rw (last.3, append-nil held) (
      rw (last.1, last.0) refl,
      rw (last.1, last.2, last.0) refl,
      rw (last.2, last.0, drop_all (length held) held (omega arith), drop_all (length held + 1) held (omega arith))
          refl,
      (λ h. omega (arith, h, last.2), λ h. omega (arith, h, last.2)),
    )

pub first_of : (part : LinePart) (held : List ℕ) (left : Option (List ℕ)) → IsPart part held left
    → IfSome (prepend_known held left) (IsFirst part held left)
first_of part held None is = tt
first_of part held (Some rest) is = by is.first where
  by : HasFeed part held ⊎ IsLast part held (Some rest) → IsFirst part held (Some rest) (held ++ rest)
  by (inl feed) = with_feed part held rest feed
  by (inr last) = without_feed part held rest last
