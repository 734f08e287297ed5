-- The list of rows behind others is written behind theirs, and a text behind another.
use Rattle.std.proofs.Common.{◌≡◌, ℕ, Bool, false, true≢false, List, [], ◌∷◌, ◌++◌, length, Option, ap, refl, sym, subst, ◌∙◌, codes}
use Rattle.std.specs.Prelude.{◌==◌, Result, Ok, Err}
use Rattle.std.proofs.lemmas.Grind.{flat_map-append}
use Rattle.fx_base.specs.Device.{KeepsGoing, PutsText, Writes}
use Rattle.fx_base.specs.declared.fault.Fault.{Fault}
use Rattle.fx_base.proofs.Writing.{writes_both}
use Rattle.fx_words.specs.Words.{Words}
use Rattle.fx_words.specs.Texts.{line_behind, list_line, list_text}

pub listed_first : (a b : Option (List ℕ)) (rows part : List Words) → Writes a b (list_text rows) → rows ≡ part
    → Writes a b (list_text part)
listed_first a b rows part written is = subst (λ (l : List Words). Writes a b (list_text l)) is written

pub listed_behind : (a b c : Option (List ℕ)) (before rows part : List Words) → Writes a b (list_text before)
    → Writes b c (list_text rows) → rows ≡ part
    → Writes a c (list_text (before ++ part))
listed_behind a b c before rows part first later is =
    writes_both a b c (list_text before) (list_text rows) (list_text (before ++ part)) first later
    (ap (λ (l : List Words). list_text before ++ list_text l) is ∙ sym (flat_map-append list_line before part))

-- a text that is put behind one that was written
pub put_behind : {S A : Type 0} (taken : S → Option (List ℕ)) (failed : S → Bool) (xs ys zs : List ℕ)
    (first then last : S) (r : Result A Fault)
    → Writes (taken first) (taken then) xs → KeepsGoing (failed first) (failed then)
    → PutsText taken failed ys then last r → xs ++ ys ≡ zs
    → PutsText taken failed zs first last r
put_behind taken failed xs ys zs first then last (Ok x) written going (more, (goes, fault)) is =
    (writes_both (taken first) (taken then) (taken last) xs ys zs written more is, (λ fine. goes (going fine), tt))
put_behind taken failed xs ys zs first then last (Err e) written going puts is = (tt, (tt, puts.1.1))

-- a text that isn't empty is written with its line behind the word
pub line_is : (word text : List ℕ) (empty : Bool) → empty ≡ (length text == 0) → empty ≡ false → word
    ++ (text ++ codes "\n") ≡ line_behind word text
line_is word [] empty is full = absurd (true≢false (sym is ∙ full))
line_is word (c ∷ text) empty is full = refl
