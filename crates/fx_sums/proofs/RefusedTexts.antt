-- Where texts of totals are refused, it is for their form, or for a line that is too long.
use Rattle.std.proofs.Common.{◌≡◌, ◌⊎◌, ℕ, zero, suc, Bool, true, false, cond, refl, subst, List, [], ◌∷◌, Option, Some, None, Ok, Err, inl, inr, codes, length}
use Rattle.std.specs.Prelude.{Result, IfErr, nat_lt}
use Rattle.fx_base.specs.Limits.{line_length_limit}
use Rattle.fx_base.specs.Lines.{next_number}
use Rattle.fx_base.specs.Refusals.{long_line, totals_form}
use Rattle.fx_base.specs.declared.fault.Fault.{Fault}
use Rattle.fx_layout.specs.Keys.{Layout}
use Rattle.fx_collect.specs.Totals.{Totals, with_record}
use Rattle.fx_sums.specs.SumLines.{are_whole, line_behind, number_behind, record_behind}
use Rattle.fx_sums.specs.SumReading.{◌>>=◌, Next, Rest, SumLine, bytes_of, formed, in_line, next_line, notes_first, notes_of, on_or_next, sum_of_texts, sum_with, tallied, texts_up_to, totals_with}
use Rattle.fx_sums.specs.Sums.{Sum, no_notes}
use Rattle.fx_sums.specs.declared.line_behind.LineBehind.{LineBehind}
use Rattle.fx_sums.specs.declared.line_behind.LineBehind.TheVariants as behind
use Rattle.fx_sums.specs.declared.notes.Notes.{Notes}

abbrev IsTextFault : Fault → Type 0
IsTextFault e = (e.number ≡ totals_form) ⊎ (e.number ≡ long_line)

abbrev HasTextFault : {A : Type 0} → Result A Fault → Type 0
HasTextFault r = IfErr r IsTextFault

either_reported : {A : Type 0} (test : Bool) (x y : Result A Fault) → HasTextFault x → HasTextFault y
    → HasTextFault (cond test x y)
either_reported true x y one other = one
either_reported false x y one other = other

-- one result behind another
then_reported : {A B : Type 0} (r : Result A Fault) (f : A → Result B Fault) → HasTextFault r
    → ((a : A) → HasTextFault (f a)) → HasTextFault (r >>= f)
then_reported (Ok a) f one all = all a
then_reported (Err e) f one all = one

-- ---- lines

bytes_reported : (n : ℕ) (l : SumLine) → HasTextFault (bytes_of n l)
bytes_reported n l = either_reported (nat_lt line_length_limit (length l.0)) _ _ (inr refl)
    (either_reported l.1 _ _ tt (inl refl))

formed_reported : {A : Type 0} (n : ℕ) (o : Option A) → HasTextFault (formed n o)
formed_reported n None = inl refl
formed_reported n (Some x) = tt

next_reported : (rest : Rest) → HasTextFault (next_line rest)
next_reported (n, []) = inl refl
next_reported (n, l ∷ ls) = then_reported (bytes_of (next_number n) l) _ (bytes_reported (next_number n) l) (λ line. tt)

line_reported : {A : Type 0} (read : List ℕ → Option A) (rest : Rest) → HasTextFault (in_line read rest)
line_reported read rest =
    then_reported (next_line rest) _ (next_reported rest)
    (λ line. then_reported (formed line.1.0 (read line.0)) _ (formed_reported line.1.0 (read line.0)) (λ x. tt))

-- ---- a text

tallied_reported : (layout : Layout) (keys : ℕ) (last : Option (List ℕ)) (t : Totals) (rest : Rest)
    → HasTextFault (tallied layout keys last t rest)
tallied_reported layout zero last t rest = tt
tallied_reported layout (suc more) last t rest =
    then_reported (in_line (record_behind layout last) rest) _ (line_reported (record_behind layout last) rest)
    (λ r. tallied_reported layout more (Some r.0.key.values) (with_record t r.0) r.1)

totals_reported : (layout : Layout) (keys : ℕ) (t : Totals) (rest : Rest)
    → HasTextFault (totals_with layout keys t rest)
unfolding totals_with
totals_reported layout keys t rest =
    then_reported (tallied layout keys None t rest) _ (tallied_reported layout keys None t rest)
    (λ sum. then_reported (in_line (number_behind (codes "unassigned")) sum.1) _
    (line_reported (number_behind (codes "unassigned")) sum.1) (λ unassigned. tt))

said_reported : (on : Notes → Result (Notes × Next) Fault) (notes : Notes) (rest : Rest) (said : LineBehind)
    → ((more : Notes) → HasTextFault (on more)) → HasTextFault (on_or_next on notes rest said)
said_reported on notes rest (behind.Notes more) all = all more
said_reported on notes rest (behind.Keys keys) all = tt

notes_reported : (notes : Notes) (n : ℕ) (ls : List SumLine) → HasTextFault (notes_first notes n ls)
notes_reported notes n [] = either_reported (are_whole notes) _ _ (tt) (inl refl)
notes_reported notes n (l ∷ ls) =
    then_reported (bytes_of (next_number n) l) _ (bytes_reported (next_number n) l)
    (λ line. then_reported (formed (next_number n) (line_behind notes line)) _
    (formed_reported (next_number n) (line_behind notes line))
    (λ said. said_reported (λ more. notes_first more (next_number n) ls) notes (next_number n, ls) said
    (λ more. notes_reported more (next_number n) ls)))

sum_reported : (keys : ℕ) (s : Sum) (rest : Rest) → HasTextFault (sum_with keys s rest)
unfolding sum_with
sum_reported keys s rest =
    then_reported (totals_with s.totals.layout keys s.totals rest) _
    (totals_reported s.totals.layout keys s.totals rest)
    (λ totals. then_reported (notes_of totals.1) _ (notes_reported no_notes totals.1.0 totals.1.1) (λ notes. tt))

-- ---- texts

up_to_reported : (s : Sum) (next : Next) (most : ℕ) → HasTextFault (texts_up_to s next most)
up_to_reported s None most = tt
up_to_reported s (Some next) zero = inl refl
up_to_reported s (Some next) (suc most) =
    then_reported (sum_with next.0 s next.1) _ (sum_reported next.0 s next.1) (λ r. up_to_reported r.0 r.1 most)

refused_reported : (s : Sum) (rest : Rest) → HasTextFault (sum_of_texts s rest)
unfolding sum_of_texts
refused_reported s rest =
    then_reported (in_line (number_behind (codes "keys")) rest) _ (line_reported (number_behind (codes "keys")) rest)
    (λ first. up_to_reported s (Some first) (length rest.1))

pub texts_refused : (s : Sum) (rest : Rest) (e : Fault) → sum_of_texts s rest ≡ Err e → IsTextFault e
texts_refused s rest e same = subst HasTextFault same (refused_reported s rest)
