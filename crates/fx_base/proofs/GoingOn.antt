-- A reader that goes on from line to line, and what it has asked of its source since.
use Rattle.std.proofs.Common.{◌≡◌, Bool, ℕ, ◌+◌, ◌-◌, ◌≤◌, ◌<◌, true, false, if◌then◌else◌, List, [], length, Option, Some, None, IfSome, refl, sym, ◌∙◌, inl, inr, arith}
use Rattle.std.proofs.lemmas.Bool.{cases_lt, lt-ltb, false≢true}
use Rattle.std.proofs.lemmas.List.{drop_all}
use Rattle.fx_base.proofs.Asked.{asks_then, none_since}
use Rattle.fx_base.specs.Device.{MayBeLeft}
use Rattle.fx_base.specs.Limits.{call_limit}
use Rattle.fx_base.specs.Lines.{Lines, AtLine, GainsLines, GoesOnToLines, IsTextCutOff, MayFollow, line_len, first_line, line_ends, after_line}

pub at_once : (l : Lines) → GoesOnToLines l l
at_once l = record {
  asks = record {
    calls = omega arith;
    asked = none_since l.asked l.calls;
  };
  gains = same l.left;
} where
  same : (o : Option (List ℕ)) → IfSome o
      (λ text. (rest : List ℕ) × (o ≡ Some rest)
      × (l.calls + (length rest - l.held) ≤ l.calls + (length text - l.held)))
  same None = tt
  same (Some text) = (text, refl, omega arith)

-- to a line that a line feed ended
pub to_line : (old new : Lines) → AtLine old new → new.ended ≡ true → GoesOnToLines old new
to_line old new at ended = record {
  asks = at.asks;
  gains = gained old.left refl;
} where
  all : (text rest : List ℕ) → old.left ≡ Some text → new.left ≡ Some rest → GainsLines old new → new.calls
      + (length rest - new.held) ≤ old.calls + (length text - old.held)
  all text rest is left gains =
      let le : new.calls + (length rest - new.held) ≤ old.calls + (length text - old.held)
      + (if new.ended then 0 else 1) = rw (is, left) at gains in
      omega (arith, rw ended at le)

  gained : (o : Option (List ℕ)) → old.left ≡ o
      → IfSome o (λ text. (rest : List ℕ) × (new.left ≡ Some rest)
      × (new.calls + (length rest - new.held) ≤ old.calls + (length text - old.held)))
  gained None is = tt
  gained (Some text) is =
      let reported : (0 < length text) × (new.line ≡ first_line text) × (new.ended ≡ line_ends text)
      × (new.left ≡ Some (after_line text)) = rw is at at.text in
      (after_line text, reported.3, all text (after_line text) is reported.3 at.gains)

pub goes_then : (k l m : Lines) → GoesOnToLines k l → GoesOnToLines l m → GoesOnToLines k m
goes_then k l m first next = record {
  asks = asks_then k l m first.asks next.asks;
  gains = gained k.left first.gains;
} where
  behind : (text rest : List ℕ) → l.left ≡ Some rest → l.calls + (length rest - l.held) ≤ k.calls
      + (length text - k.held) → (last : List ℕ) × (m.left ≡ Some last)
      × (m.calls + (length last - m.held) ≤ k.calls + (length text - k.held))
  behind text rest is le =
      let h : (last : List ℕ) × (m.left ≡ Some last)
      × (m.calls + (length last - m.held) ≤ l.calls + (length rest - l.held)) = rw is at next.gains in
      (h.0, h.1, omega (arith, h.2, le))

  gained : (o : Option (List ℕ)) → IfSome o
      (λ text. (rest : List ℕ) × (l.left ≡ Some rest)
      × (l.calls + (length rest - l.held) ≤ k.calls + (length text - k.held)))
      → IfSome o (λ text. (last : List ℕ) × (m.left ≡ Some last)
      × (m.calls + (length last - m.held) ≤ k.calls + (length text - k.held)))
  gained None h = tt
  gained (Some text) h = behind text h.0 h.1 h.2

pub cut_off_behind : (k l m : Lines) → GoesOnToLines k l → IsTextCutOff l m → IsTextCutOff k m
cut_off_behind k l m first (inl failed) = inl failed
cut_off_behind k l m first (inr (all, asks, endless)) =
    inr (all, asks_then k l m first.asks asks, gained k.left first.gains) where
      behind : (text rest : List ℕ) → l.left ≡ Some rest → l.calls + (length rest - l.held) ≤ k.calls
          + (length text - k.held) → call_limit ≤ k.calls + (length text - k.held)
      behind text rest is le =
          let h : call_limit ≤ l.calls + (length rest - l.held) = rw is at endless in
          omega (arith, h, le)

      gained : (o : Option (List ℕ)) → IfSome o
          (λ text. (rest : List ℕ) × (l.left ≡ Some rest)
          × (l.calls + (length rest - l.held) ≤ k.calls + (length text - k.held)))
          → IfSome o (λ text. call_limit ≤ k.calls + (length text - k.held))
      gained None h = tt
      gained (Some text) h = behind text h.0 h.1 h.2

-- ---- what may be left

pub something_left : (o : Option (List ℕ)) → (octets : List ℕ) × MayBeLeft o octets
something_left None = ([], tt)
something_left (Some octets) = (octets, refl)

-- behind a line that a line feed ended anything may follow that is left
pub may_follow : (l : Lines) (rest : List ℕ) → l.ended ≡ true → MayBeLeft l.left rest → MayFollow l rest
may_follow l rest ended left = (left, λ e. cc)

-- where nothing is left that is reported, that is what may be left
pub nothing_left : (o new : Option (List ℕ)) → IfSome o (λ text. (text ≡ []) × (new ≡ Some [])) → MayBeLeft o []
nothing_left None new h = tt
nothing_left (Some text) new h = sym h.0

all_first : (text : List ℕ) → line_ends text ≡ false → after_line text ≡ []
all_first text none =
    elim (cases_lt (line_len text) (length text)) [
      | inl lt ↦ absurd (false≢true (sym none ∙ lt-ltb (line_len text) (length text) lt))
      | inr le ↦ drop_all (line_len text + 1) text (omega (arith, le))
    ]

-- behind a line that none ended, nothing is left
pub nothing_follows : (old new : Lines) → AtLine old new → new.ended ≡ false → MayFollow new []
nothing_follows old new at ended = (reported old.left refl at.text, λ e. refl) where
  reported : (o : Option (List ℕ)) → old.left ≡ o
      → IfSome o (λ text. (0 < length text) × (new.line ≡ first_line text) × (new.ended ≡ line_ends text)
      × (new.left ≡ Some (after_line text))) → MayBeLeft new.left []
  reported None is h = rw (at.opaque is) tt
  reported (Some text) is h = rw h.3 (sym (all_first text (sym h.2 ∙ ended)))

-- something may follow any line
pub something_follows : (old new : Lines) → AtLine old new → (rest : List ℕ) × MayFollow new rest
something_follows old new at = by_end new.ended refl where
  by_end : (b : Bool) → new.ended ≡ b → (rest : List ℕ) × MayFollow new rest
  by_end true ended = let some = something_left new.left in (some.0, may_follow new some.0 ended some.1)
  by_end false ended = ([], nothing_follows old new at ended)
