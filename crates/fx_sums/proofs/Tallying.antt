-- Lines of keys that are tallied one after another, and what is read behind what was read.
use Rattle.std.proofs.Common.{◌≡◌, ℕ, suc, ◌-◌, ◌<◌, true, false, cond, List, Option, Some, None, Result, Err, refl, ap, ◌∙◌, arith, inl, inr}
use Rattle.fx_base.specs.declared.fault.Fault.{Fault}
use Rattle.fx_base.specs.Device.{MayBeLeft, MayHaveLeft}
use Rattle.fx_base.specs.Lines.{Lines, GoesOnToLines, Fails, text_lines}
use Rattle.fx_base.proofs.GoingOn.{cut_off_behind}
use Rattle.fx_layout.specs.Keys.{Layout, refines, project}
use Rattle.fx_tables.specs.declared.record.Record.{Record}
use Rattle.fx_machine.specs.States.{add_at}
use Rattle.fx_collect.specs.Totals.{Totals, with_record, with_unassigned}
use Rattle.fx_sums.specs.SumLines.{record_behind}
use Rattle.fx_sums.specs.SumReading.{◌>>=◌, Rest, in_line, tallied, MayReadTexts, Gives, RefusesTexts}

pub fails_behind : (first old new : Lines) (e : Fault) → old.stopped ≡ None → GoesOnToLines first old → Fails old new e
    → Fails first new e
fails_behind first old new e going on (inl before) = absurd (cc)
fails_behind first old new e going on (inr (is, cut)) = inr (is, cut_off_behind first old new on cut)

-- whatever is left, tallying all is tallying so many more behind what was tallied
abbrev pub TalliesOn : Layout → ℕ → Totals → Lines → Lines → ℕ → Option (List ℕ) → Totals → Type 0
TalliesOn layout count before first now more last t =
    (rest : List ℕ) → MayBeLeft now.left rest
    → MayHaveLeft first.left (λ text. tallied layout count None before (first.number, text_lines text)
    ≡ tallied layout more last t (now.number, text_lines rest))

pub tallies_none : (layout : Layout) (count : ℕ) (t : Totals) (lines : Lines)
    → TalliesOn layout count t lines lines count None t
tallies_none layout count t lines rest left = (rest, left, refl)

module _ (layout : Layout) (count : ℕ) (before : Totals) (first now : Lines) (last : Option (List ℕ)) (t : Totals) where
  pub tallies_one : (new : Lines) (more : ℕ) (r : Record) (t' : Totals)
      → TalliesOn layout count before first now more last t → 0 < more
      → Gives (in_line (record_behind layout last)) now new r → t' ≡ with_record t r
      → TalliesOn layout count before first new (more - 1) (Some r.key.values) t'
  tallies_one new more r t' on some reads is rest left =
      let one = reads rest left in
      let all = on one.0 one.1 in
      let one_more : more ≡ suc (more - 1) = omega arith in (
        all.0,
        all.1,
        all.2 ∙ ap (λ (n : ℕ). tallied layout n last t (now.number, text_lines one.0)) one_more
            ∙ rw (one.2, is) refl,
      )

  pub tallies_all : (more : ℕ) → TalliesOn layout count before first now more last t → more ≡ 0
      → Gives (tallied layout count None before) first now t
  tallies_all more on none rest left =
      let all = on rest left in
      (all.0, all.1, all.2 ∙ ap (λ (n : ℕ). tallied layout n last t (now.number, text_lines rest)) none)

  pub tallies_wrong : (new : Lines) (more : ℕ) (e : Fault) → TalliesOn layout count before first now more last t → 0
      < more → now.stopped ≡ None → GoesOnToLines first now
      → RefusesTexts (in_line (record_behind layout last)) now new e
      → RefusesTexts (tallied layout count None before) first new e
  tallies_wrong new more e on some going since (inl fails) = inl (fails_behind first now new e going since fails)
  tallies_wrong new more e on some going since (inr (text, left, is)) =
      let all = on text left in
      let one_more : more ≡ suc (more - 1) = omega arith in
      inr (
        all.0,
        all.1,
        all.2 ∙ ap (λ (n : ℕ). tallied layout n last t (now.number, text_lines text)) one_more
            ∙ rw is refl,
      )

-- a record more leaves the layout
pub layout_kept : (t : Totals) (r : Record) → (with_record t r).layout ≡ t.layout
layout_kept t r =
    elim (refines r.key.layout t.layout) as (λ b.
    (cond b (record t { entries = add_at t.entries (project r.key t.layout) r.counts })
    (with_unassigned t 1)).layout ≡ t.layout) [
      | true ↦ refl
      | false ↦ refl
    ]

-- ---- one behind another

module _ {A B : Type 0} (first : Rest → Result (A × Rest) Fault) (next : A × Rest → Result B Fault)
    (old mid new : Lines) (x : A) (reads : Gives first old mid x) where
  -- what comes of what is behind comes of both
  pub gives_then : (result : Result B Fault) → MayReadTexts (λ rest. next (x, rest)) mid result
      → MayReadTexts (λ rest. first rest >>= next) old result
  gives_then result (text, left, is) =
      let before = reads text left in
      (before.0, before.1, rw before.2 is)

  pub refuses_then : (e : Fault) → mid.stopped ≡ None → GoesOnToLines old mid
      → RefusesTexts (λ rest. next (x, rest)) mid new e → RefusesTexts (λ rest. first rest >>= next) old new e
  refuses_then e going on (inl fails) = inl (fails_behind old mid new e going on fails)
  refuses_then e going on (inr m) = inr (gives_then (Err e) m)

pub refuses_first : {A B : Type 0} (first : Rest → Result A Fault) (next : A → Result B Fault) (old new : Lines)
    (e : Fault) → RefusesTexts first old new e → RefusesTexts (λ rest. first rest >>= next) old new e
refuses_first first next old new e (inl fails) = inl fails
refuses_first first next old new e (inr (text, left, is)) = inr (text, left, rw is refl)
