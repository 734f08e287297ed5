-- The words of a line, one after another.
use Rattle.std.proofs.Common.{◌≡◌, ℕ, Bool, true, false, cond, eqb, List, [], ◌∷◌, Option, Some, None, refl, ap, sym, ◌∙◌, inl, inr}
use Rattle.std.specs.Prelude.{is_some, not}
use Rattle.std.specs.List.{onto_first}
use Rattle.fx_elements.specs.Spelling.{cut_at, put_before}
use Rattle.fx_elements.proofs.Cuts.{chosen}
use Rattle.fx_elements.specs.Words.{words, none_left, first_word, words_left}
use denote.Ref.{Bor}

put_parts : (b : ℕ) (o : Option (List ℕ × List ℕ)) (p : List ℕ × List ℕ) → put_before b o ≡ Some p
    → (q : List ℕ × List ℕ) × (o ≡ Some q) × (p ≡ (b ∷ q.0, q.1))
put_parts b (Some q) p e = (q, refl, cc)
put_parts b None p e = absurd cc

put_none : (b : ℕ) (o : Option (List ℕ × List ℕ)) → put_before b o ≡ None → o ≡ None
put_none b (Some q) e = absurd cc
put_none b None e = refl

-- a line with a space has the word before it, and the words behind it
pub words_cut : (text : List ℕ) (p : List ℕ × List ℕ) → cut_at 32 text ≡ Some p → words text ≡ p.0 ∷ words p.1
words_cut [] p e = absurd cc
words_cut (b ∷ bs) p e =
    elim (chosen (eqb b 32) (Some ([], bs)) (put_before b (cut_at 32 bs)) (Some p) e) [
      | inl h ↦ let k : ([], bs) ≡ p = cc in rw h.0 (ap (λ (q : List ℕ × List ℕ). q.0 ∷ words q.1) k)
      | inr h ↦ let q = put_parts b (cut_at 32 bs) p h.1 in
          rw (h.0, words_cut bs q.0 q.1) (ap (λ (r : List ℕ × List ℕ). r.0 ∷ words r.1) (sym q.2))
    ]

-- a line without a space is one word
pub words_none : (text : List ℕ) → cut_at 32 text ≡ None → words text ≡ text ∷ []
words_none [] e = refl
words_none (b ∷ bs) e =
    elim (chosen (eqb b 32) (Some ([], bs)) (put_before b (cut_at 32 bs)) None e) [
      | inl h ↦ absurd cc
      | inr h ↦ rw (h.0, words_none bs (put_none b (cut_at 32 bs) h.1)) refl
    ]

onto_some : (b : ℕ) (ws : List (List ℕ)) → none_left (onto_first b ws) ≡ false
onto_some b [] = refl
onto_some b (w ∷ ws) = refl

-- a line has a word
pub words_some : (text : List ℕ) → none_left (words text) ≡ false
words_some [] = refl
words_some (b ∷ bs) = by_space (eqb b 32) where
  by_space : (t : Bool) → none_left (cond t ([] ∷ words bs) (onto_first b (words bs))) ≡ false
  by_space true = refl
  by_space false = onto_some b (words bs)

-- no word is left where no rest of the line is
pub left_is : (rest : Option (Bor (List ℕ))) (t : Bool) → is_some rest ≡ not t → t ≡ none_left (words_left rest)
left_is None true e = refl
left_is None false e = absurd cc
left_is (Some rest) true e = absurd cc
left_is (Some rest) false e = sym (words_some rest.now)

-- the first word of what is left, and what is left behind it
pub first_of_more : (rest : Option (Bor (List ℕ))) (text : Bor (List ℕ)) (ws : List (List ℕ)) (p : List ℕ × List ℕ)
    → words_left rest ≡ ws → rest ≡ Some text → Some p ≡ cut_at 32 text.now → Some (p.0, words p.1) ≡ first_word ws
first_of_more rest text ws p view is cut =
    let k : ws ≡ p.0 ∷ words p.1 = sym view ∙ ap words_left is ∙ words_cut text.now p (sym cut) in rw k refl

pub first_of_one : (rest : Option (Bor (List ℕ))) (text : Bor (List ℕ)) (ws : List (List ℕ)) → words_left rest ≡ ws
    → rest ≡ Some text → None ≡ cut_at 32 text.now → Some (text.now, []) ≡ first_word ws
first_of_one rest text ws view is cut =
    let k : ws ≡ text.now ∷ [] = sym view ∙ ap words_left is ∙ words_none text.now (sym cut) in rw k refl
