-- Texts up to the end, one after another.
use Rattle.std.proofs.Common.{◌≡◌, ℕ, suc, ◌-◌, ◌<◌, List, length, codes, Some, None, Result, Ok, ap, ◌∙◌, refl, arith, inl, inr}
use Rattle.fx_base.specs.declared.fault.Fault.{Fault}
use Rattle.fx_base.specs.Device.{MayBeLeft, MayHaveLeft}
use Rattle.fx_base.specs.Lines.{Lines, GoesOnToLines, text_lines}
use Rattle.fx_sums.specs.Sums.{Sum}
use Rattle.fx_sums.specs.SumLines.{number_behind}
use Rattle.fx_sums.specs.SumReading.{◌>>=◌, Rest, Next, in_line, sum_with, texts_up_to, sum_of_texts, MayReadTexts, Gives, GivesText, RefusesTexts}
use Rattle.fx_sums.proofs.Fewer.{one_fewer, text_fewer}
use Rattle.fx_sums.proofs.Tallying.{fails_behind}

abbrev keys_in : Rest → Result (ℕ × Rest) Fault
keys_in = in_line (number_behind (codes "keys"))

-- what is left to be read, where so many lines are enough
abbrev AllFrom : Sum → Sum → ℕ → Lines → Lines → List ℕ → List ℕ → Type 0
AllFrom before s keys first now rest text =
    (most : ℕ) × (length (text_lines rest) < most)
    × (sum_of_texts before (first.number, text_lines text)
    ≡ texts_up_to s (Some (keys, (now.number, text_lines rest))) most)

-- whatever is left, reading all texts is reading those behind what was read
abbrev pub TextsOn : Sum → Lines → Lines → ℕ → Sum → Type 0
TextsOn before first now keys s = (rest : List ℕ) → MayBeLeft now.left rest
    → MayHaveLeft first.left (λ text. AllFrom before s keys first now rest text)

module _ (before : Sum) (first : Lines) where
  pub texts_first : (now : Lines) (keys : ℕ) → Gives keys_in first now keys → TextsOn before first now keys before
  unfolding sum_of_texts
  texts_first now keys h rest left =
      let a = h rest left in
      let fewer = one_fewer (number_behind (codes "keys")) (first.number, text_lines a.0)
      (keys, (now.number, text_lines rest)) a.2 in
      (a.0, a.1, (length (text_lines a.0), fewer, rw a.2 refl))

  pub texts_none : (new : Lines) (e : Fault) → RefusesTexts keys_in first new e
      → RefusesTexts (sum_of_texts before) first new e
  unfolding sum_of_texts
  texts_none new e (inl fails) = inl fails
  texts_none new e (inr (text, left, is)) = inr (text, left, rw is refl)

  module _ (now : Lines) (keys : ℕ) (s : Sum) (on : TextsOn before first now keys s) where
    -- one text of those that are left
    one : {result : Result (Sum × Next) Fault} → MayReadTexts (sum_with keys s) now result
        → MayHaveLeft first.left (λ text. (fewer : ℕ) × (rest : List ℕ) × (length (text_lines rest) < suc fewer)
        × (sum_with keys s (now.number, text_lines rest) ≡ result)
        × (sum_of_texts before (first.number, text_lines text) ≡ (result >>= λ r. texts_up_to r.0 r.1 fewer)))
    one (text, left, is) =
        let all = on text left in
        let most = all.2.0 in
        let some = all.2.1 in
        let one_more : most ≡ suc (most - 1) = omega (arith, some) in (
          all.0,
          all.1,
          (
            most - 1,
            text,
            omega (arith, some),
            is,
            all.2.2
                ∙ ap (texts_up_to s (Some (keys, (now.number, text_lines text)))) one_more ∙ rw is refl,
          ),
        )

    pub texts_one : (new : Lines) (next : ℕ) (s' : Sum) → GivesText (sum_with keys s) now new s' (Some next)
        → TextsOn before first new next s'
    texts_one new next s' h rest left =
        let a = one (h.1 rest left) in
        let text = a.2.1 in
        let fewer = text_fewer keys s (now.number, text_lines text) (s', Some (next, (new.number, text_lines rest)))
        a.2.3 in
        let some = a.2.2 in
        (a.0, a.1, (a.2.0, omega (arith, fewer, some), a.2.4))

    pub texts_all : (new : Lines) (s' : Sum) → GivesText (sum_with keys s) now new s' None
        → MayReadTexts (sum_of_texts before) first (Ok s')
    texts_all new s' h = let a = one h in (a.0, a.1, a.2.4)

    pub texts_refused : (new : Lines) (e : Fault) → now.stopped ≡ None → GoesOnToLines first now
        → RefusesTexts (sum_with keys s) now new e → RefusesTexts (sum_of_texts before) first new e
    texts_refused new e going since (inl fails) = inl (fails_behind first now new e going since fails)
    texts_refused new e going since (inr may) = let a = one may in inr (a.0, a.1, a.2.4)
