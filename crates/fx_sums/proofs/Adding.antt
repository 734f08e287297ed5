-- The parts of a text of totals, one behind another, and one text behind another.
use Rattle.std.proofs.Common.{◌≡◌, ℕ, codes, Option, Some, None, Result, Ok, ap, sym, ◌∙◌, refl, arith, inl, inr}
use Rattle.fx_base.specs.declared.fault.Fault.{Fault}
use Rattle.fx_base.specs.Lines.{Lines, GoesOnToLines, text_lines}
use Rattle.fx_base.proofs.GoingOn.{goes_then}
use Rattle.fx_layout.specs.Keys.{Layout}
use Rattle.fx_collect.specs.Totals.{Totals, with_unassigned}
use Rattle.fx_sums.specs.declared.notes.Notes.{Notes}
use Rattle.fx_sums.specs.Sums.{Sum, plus_notes}
use Rattle.fx_sums.specs.SumLines.{number_behind}
use Rattle.fx_sums.specs.SumReading.{◌>>=◌, Rest, Next, in_line, tallied, totals_with, notes_of, sum_with, MayReadTexts, Gives, GivesText, RefusesTexts, GoesOnFrom}
use Rattle.fx_sums.proofs.Tallying.{refuses_then, refuses_first}

abbrev unassigned_in : Rest → Result (ℕ × Rest) Fault
unassigned_in = in_line (number_behind (codes "unassigned"))

module _ (layout : Layout) (keys : ℕ) (t : Totals) where
  abbrev with_rest : Totals × Rest → Result (Totals × Rest) Fault
  with_rest s = unassigned_in s.1 >>= λ u. Ok (with_unassigned s.0 u.0, u.1)

  pub records_refused : (old new : Lines) (e : Fault) → RefusesTexts (tallied layout keys None t) old new e
      → RefusesTexts (totals_with layout keys t) old new e
  unfolding totals_with
  records_refused old new e h = refuses_first (tallied layout keys None t) with_rest old new e h

  module _ (old mid : Lines) (s : Totals) (records : Gives (tallied layout keys None t) old mid s) where
    pub unassigned_refused : (new : Lines) (e : Fault) → mid.stopped ≡ None → GoesOnToLines old mid
        → RefusesTexts unassigned_in mid new e → RefusesTexts (totals_with layout keys t) old new e
    unfolding totals_with
    unassigned_refused new e going on h =
        refuses_then (tallied layout keys None t) with_rest old mid new s records e going on
        (refuses_first unassigned_in (λ u. Ok (with_unassigned s u.0, u.1)) mid new e h)

    pub totals_added : (new : Lines) (u : ℕ) (s' : Totals) → Gives unassigned_in mid new u → s' ≡ with_unassigned s u
        → Gives (totals_with layout keys t) old new s'
    unfolding totals_with
    totals_added new u s' h is rest left =
        let b = h rest left in
        let a = records b.0 b.1 in
        (a.0, a.1, rw (a.2, b.2, is) refl)

-- ---- totals and notes

-- a sum is seen as its totals and its notes, and knows the layout of its totals
module _ (keys : ℕ) (s : Sum) (layout : Layout) (t : Totals) (notes : Notes)
    (view : record { totals = t; notes = notes } ≡ s) (own : layout ≡ t.layout) (old new : Lines) where
  abbrev with_notes : Totals × Rest → Result (Sum × Next) Fault
  with_notes u = notes_of u.1 >>= λ more. Ok (record { totals = u.0; notes = plus_notes notes more.0 }, more.1)

  -- the sum that is read
  sum_is : (rest : Rest) → (totals_with layout keys t rest >>= with_notes) ≡ sum_with keys s rest
  unfolding sum_with
  sum_is rest =
      ap (λ (l : Layout). totals_with l keys t rest >>= with_notes) own ∙ ap (λ (u : Sum). sum_with keys u rest) view

  to_sum : (e : Fault) → RefusesTexts (λ rest. totals_with layout keys t rest >>= with_notes) old new e
      → RefusesTexts (sum_with keys s) old new e
  to_sum e (inl fails) = inl fails
  to_sum e (inr (text, left, is)) = inr (text, left, sym (sum_is (old.number, text_lines text)) ∙ is)

  pub totals_refused : (e : Fault) → RefusesTexts (totals_with layout keys t) old new e
      → RefusesTexts (sum_with keys s) old new e
  totals_refused e h = to_sum e (refuses_first (totals_with layout keys t) with_notes old new e h)

  module _ (mid : Lines) (t' : Totals) (totals : Gives (totals_with layout keys t) old mid t') where
    pub notes_refused : (e : Fault) → mid.stopped ≡ None → GoesOnToLines old mid → RefusesTexts notes_of mid new e
        → RefusesTexts (sum_with keys s) old new e
    notes_refused e going on h =
        to_sum e (refuses_then (totals_with layout keys t) with_notes old mid new t' totals e going on
        (refuses_first notes_of _ mid new e h))

    one_added : (more notes' : Notes) (next : Next) → MayReadTexts notes_of mid (Ok (more, next)) → notes'
        ≡ plus_notes notes more → MayReadTexts (sum_with keys s) old (Ok (record { totals = t'; notes = notes' }, next))
    one_added more notes' next (text, left, is) same =
        let a = totals text left in
        (a.0, a.1, sym (sum_is (old.number, text_lines a.0)) ∙ rw (a.2, is, same) refl)

    pub sum_added : (more notes' : Notes) (next : Option ℕ) → GoesOnFrom old mid → GivesText notes_of mid new more next
        → notes' ≡ plus_notes notes more → GivesText (sum_with keys s) old new (record { totals = t'; notes = notes' })
        next
    sum_added more notes' None on h same = one_added more notes' None h same
    sum_added more notes' (Some k) on h same =
        (behind, λ rest left. one_added more notes' (Some (k, (new.number, text_lines rest))) (h.1 rest left) same)
      where
        behind : GoesOnFrom old new
        behind = record {
          going = h.0.going;
          on = goes_then old mid new on.on h.0.on;
          smaller = let one = on.smaller in let two = h.0.smaller in omega (arith, one, two);
        }
