-- Each text takes lines.
use Rattle.std.proofs.Common.{◌≡◌, ℕ, zero, suc, ◌<◌, ◌≤◌, List, [], ◌∷◌, length, Option, Some, None, Result, Ok, Err, codes, ap, refl, arith, inl, inr}
use Rattle.fx_base.specs.declared.fault.Fault.{Fault}
use Rattle.fx_base.specs.Lines.{next_number}
use Rattle.fx_elements.proofs.Cuts.{chosen}
use Rattle.fx_layout.specs.Keys.{Layout}
use Rattle.fx_collect.specs.Totals.{Totals, with_record}
use Rattle.fx_sums.specs.declared.line_behind.LineBehind.{LineBehind}
use Rattle.fx_sums.specs.declared.line_behind.LineBehind.TheVariants as behind
use Rattle.fx_sums.specs.declared.notes.Notes.{Notes}
use Rattle.fx_sums.specs.Sums.{Sum, no_notes}
use Rattle.fx_sums.specs.SumLines.{number_behind, record_behind, line_behind, are_whole}
use Rattle.fx_sums.specs.SumReading.{◌>>=◌, SumLine, Rest, Next, bytes_of, formed, next_line, in_line, tallied, totals_with, on_or_next, notes_first, notes_of, sum_with, texts_up_to}

abbrev done : {A : Type 0} → A → Result A Fault
done x = Ok x

pub ok_is : {A : Type 0} {x y : A} → done x ≡ done y → x ≡ y
ok_is e = cc

pub by_ok : {A B P : Type 0} (o : Result A Fault) (f : A → Result B Fault) (y : B) → (o >>= f) ≡ Ok y
    → ((x : A) → o ≡ Ok x → f x ≡ Ok y → P) → P
by_ok (Ok x) f y e k = k x refl e
by_ok (Err x) f y e k = absurd cc

-- how many lines are behind the first line of the next text
abbrev pub lines_behind : Next → ℕ
lines_behind None = zero
lines_behind (Some next) = length next.1.1

pub one_fewer : {A : Type 0} (read : List ℕ → Option A) (rest : Rest) (r : A × Rest) → in_line read rest ≡ Ok r
    → length r.1.1 < length rest.1
one_fewer read (n, []) r e = absurd cc
one_fewer read (n, l ∷ ls) r e =
    by_ok (next_line (n, l ∷ ls)) _ r e (λ q pq eq.
    by_ok (bytes_of (next_number n) l) _ q pq (λ line pl el.
    by_ok (formed q.1.0 (read q.0)) _ r eq (λ x px ex.
    let a : (line, (next_number n, ls)) ≡ q = ok_is el in
    let b : (x, q.1) ≡ r = ok_is ex in
    let c : length ls ≡ length q.1.1 = ap (λ (q : List ℕ × Rest). length q.1.1) a in
    let d : length q.1.1 ≡ length r.1.1 = ap (λ (r : _ × Rest). length r.1.1) b in
    omega (arith, c, d))))

tallied_fewer : (layout : Layout) (count : ℕ) (last : Option (List ℕ)) (t : Totals) (rest : Rest) (r : Totals × Rest)
    → tallied layout count last t rest ≡ Ok r → length r.1.1 ≤ length rest.1
tallied_fewer layout zero last t rest r e =
    let k : (t, rest) ≡ r = ok_is e in
    let same : length rest.1 ≡ length r.1.1 = ap (λ (r : Totals × Rest). length r.1.1) k in
    omega (arith, same)
tallied_fewer layout (suc count) last t rest r e =
    by_ok (in_line (record_behind layout last) rest) _ r e (λ one pone more.
    let here = one_fewer (record_behind layout last) rest one pone in
    let there = tallied_fewer layout count (Some one.0.key.values) (with_record t one.0) one.1 r more in
    omega (arith, here, there))

totals_fewer : (layout : Layout) (keys : ℕ) (t : Totals) (rest : Rest) (r : Totals × Rest)
    → totals_with layout keys t rest ≡ Ok r → length r.1.1 < length rest.1
unfolding totals_with
totals_fewer layout keys t rest r e =
    by_ok (tallied layout keys None t rest) _ r e (λ s ps es.
    by_ok (in_line (number_behind (codes "unassigned")) s.1) _ r es (λ u pu eu.
    let here = tallied_fewer layout keys None t rest s ps in
    let there = one_fewer (number_behind (codes "unassigned")) s.1 u pu in
    let same : length u.1.1 ≡ length r.1.1 = ap (λ (r : Totals × Rest). length r.1.1) (ok_is eu) in
    omega (arith, here, there, same)))

notes_fewer : (ls : List SumLine) (k : ℕ) (n : Notes) (r : Notes × Next) → notes_first n k ls ≡ Ok r → lines_behind r.1
    ≤ length ls
notes_fewer [] k n r e =
    elim (chosen (are_whole n) (Ok (n, None)) _ (Ok r) e) [
      | inl h ↦
          let same : zero ≡ lines_behind r.1 = ap (λ (r : Notes × Next). lines_behind r.1) (ok_is h.1) in
          omega (arith, same)
      | inr h ↦ absurd cc
    ]
notes_fewer (l ∷ ls) k n r e =
    by_ok (bytes_of (next_number k) l) _ r e (λ line pl el.
    by_ok (formed (next_number k) (line_behind n line)) _ r el
    (λ said ps es. by_said (λ more e. notes_fewer ls (next_number k) more r e) said es)) where
      by_said : ((more : Notes) → notes_first more (next_number k) ls ≡ Ok r → lines_behind r.1 ≤ length ls)
          → (said : LineBehind) → on_or_next (λ more. notes_first more (next_number k) ls) n (next_number k, ls) said
          ≡ Ok r → lines_behind r.1 ≤ length (l ∷ ls)
      by_said on (behind.Notes more) es = let fewer = on more es in omega (arith, fewer)
      by_said on (behind.Keys keys) es =
          let same : length ls ≡ lines_behind r.1 = ap (λ (r : Notes × Next). lines_behind r.1) (ok_is es) in
          omega (arith, same)

pub text_fewer : (keys : ℕ) (s : Sum) (rest : Rest) (r : Sum × Next) → sum_with keys s rest ≡ Ok r → lines_behind r.1
    < length rest.1
unfolding sum_with
text_fewer keys s rest r e =
    by_ok (totals_with s.totals.layout keys s.totals rest) _ r e (λ t pt et.
    by_ok (notes_of t.1) _ r et (λ notes pn en.
    let here = totals_fewer s.totals.layout keys s.totals rest t pt in
    let there = notes_fewer t.1.1 t.1.0 no_notes notes pn in
    let same : lines_behind notes.1 ≡ lines_behind r.1 = ap (λ (r : Sum × Next). lines_behind r.1) (ok_is en) in
    omega (arith, here, there, same)))

-- ---- the bound on the number of texts

-- a bound above the number of lines is never reached
pub enough : (s : Sum) (next : Next) (a b : ℕ) → lines_behind next < a → lines_behind next < b → texts_up_to s next a
    ≡ texts_up_to s next b
enough s None a b h k = refl
enough s (Some next) zero b h k = absurd (omega (arith, h))
enough s (Some next) (suc a) zero h k = absurd (omega (arith, k))
enough s (Some next) (suc a) (suc b) h k =
    by_text (λ r p q. enough r.0 r.1 a b p q) (sum_with next.0 s next.1) refl where
      by_text : ((r : Sum × Next) → lines_behind r.1 < a → lines_behind r.1 < b → texts_up_to r.0 r.1 a
          ≡ texts_up_to r.0 r.1 b) → (o : Result (Sum × Next) Fault) → sum_with next.0 s next.1 ≡ o
          → (o >>= λ r. texts_up_to r.0 r.1 a) ≡ (o >>= λ r. texts_up_to r.0 r.1 b)
      by_text on (Ok r) e = let fewer = text_fewer next.0 s next.1 r e in
          on r (omega (arith, fewer, h)) (omega (arith, fewer, k))
      by_text on (Err f) e = refl

-- so one text more may come: a text and then those behind it are read, as many as there are
pub bound_not_met : (s : Sum) (next : ℕ × Rest) (most : ℕ) → length next.1.1 < most → texts_up_to s (Some next) most
    ≡ texts_up_to s (Some next) (suc most)
bound_not_met s next most some = enough s (Some next) most (suc most) some (omega (arith, some))
