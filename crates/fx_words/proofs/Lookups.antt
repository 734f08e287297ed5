-- A row is found in the table just where the number is a refusal's, and it has that number.
use Rattle.std.proofs.Common.{◌≡◌, ℕ, Bool, true, false, ◌||◌, cond, List, [], ◌∷◌, ◌++◌, map, refl, ap, sym, ◌∙◌, Option, Some, None, eqb-true, IfSome, subst}
use Rattle.std.specs.Prelude.{◌==◌, is_some, option_map}
use Rattle.std.specs.List.{list_any}
use Rattle.std.specs.Option.{option_or}
use Rattle.std.proofs.lemmas.List.Folds.{find-append}
use Rattle.fx_base.specs.Refusals.{is_refusal_number, refusal_numbers}
use Rattle.fx_words.specs.Words.{Words, words_of}
use Rattle.fx_words.specs.Table.{row_of, table, devices, networks, traffic, certificates, refutations, streams, captures, runs, machine}
use Rattle.fx_words.specs.declared.refusal.Refusal.{Refusal}

numbers_are : map (λ (words : Words). words.number) table ≡ refusal_numbers
unfolding devices networks traffic certificates refutations streams captures runs machine
numbers_are = refl

-- of what is found at the first row or behind it
here_or_behind : (words : Words) (found : Option Words) (here : Bool) → is_some (cond here (Some words) found)
    ≡ (here || is_some found)
here_or_behind words found true = refl
here_or_behind words found false = refl

-- a row is found just where one has the number
is_some-row_of : (number : ℕ) (rows : List Words) → is_some (row_of number rows)
    ≡ list_any (λ n. n == number) (map (λ (words : Words). words.number) rows)
is_some-row_of number [] = refl
is_some-row_of number (words ∷ rows) =
    here_or_behind words (row_of number rows) (words.number == number)
    ∙ ap (λ (b : Bool). (words.number == number) || b) (is_some-row_of number rows)

-- what is found has the number
IfSome-row_of : (number : ℕ) (rows : List Words) → IfSome (row_of number rows) (λ words. words.number ≡ number)
IfSome-row_of number [] = tt
IfSome-row_of number (words ∷ rows) = by (IfSome-row_of number rows) (words.number == number) refl where
  by : IfSome (row_of number rows) (λ words. words.number ≡ number) → (here : Bool) → (words.number == number) ≡ here
      → IfSome (cond here (Some words) (row_of number rows)) (λ words. words.number ≡ number)
  by behind true is = eqb-true _ _ is
  by behind false is = behind

pub known : (number : ℕ) (found : Option Refusal) → option_map words_of found ≡ row_of number table → is_some found
    ≡ is_refusal_number number
known number found is =
    same found ∙ (ap is_some is ∙ (is_some-row_of number table ∙ ap (list_any (λ n. n == number)) numbers_are)) where
      same : (found : Option Refusal) → is_some found ≡ is_some (option_map words_of found)
      same None = refl
      same (Some refusal) = refl

pub has_number : (number : ℕ) (found : Option Refusal) → option_map words_of found ≡ row_of number table
    → IfSome found (λ refusal. refusal.number ≡ number)
has_number number found is =
    of_words found (subst (λ (o : Option Words). IfSome o (λ words. words.number ≡ number)) (sym is)
    (IfSome-row_of number table)) where
      of_words : (found : Option Refusal) → IfSome (option_map words_of found) (λ words. words.number ≡ number)
          → IfSome found (λ refusal. refusal.number ≡ number)
      of_words None has = tt
      of_words (Some refusal) has = has

-- what is found in a table, or behind it in a part, is found in both together
pub found_behind : (number : ℕ) (before found : Option Words) (table rows part : List Words) → before
    ≡ row_of number table → found ≡ option_or before (row_of number rows)
    → rows ≡ part → found ≡ row_of number (table ++ part)
found_behind number before found table rows part first later is =
    later ∙ (ap (λ (o : Option Words). option_or o (row_of number rows)) first
    ∙ (ap (λ (l : List Words). option_or (row_of number table) (row_of number l)) is
    ∙ sym (find-append (λ (words : Words). words.number == number) table part)))
