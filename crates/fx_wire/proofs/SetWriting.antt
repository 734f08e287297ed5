-- Sets written one after another.
use Rattle.std.proofs.Common.{◌≡◌, ℕ, zero, suc, ◌+◌, ◌≤◌, ◌<◌, List, [], ◌∷◌, ◌++◌, length, map, take, get_or, ap, sym, ◌∙◌, arith, append_assoc, add-one}
use Rattle.fx_wire.specs.Sets.{set_parts}
use Rattle.fx_wire.specs.Writing.{sets_octets, set_octets, sets_length, set_length}
use Rattle.fx_wire.specs.declared.set.Set.{Set}
use Rattle.std.proofs.lemmas.List.{append-nil}

-- one set more
pub sets_octets-more : (sets : List Set) (i : ℕ) (d : Set) → i < length sets → sets_octets (map set_parts (take i sets))
    ++ set_octets (set_parts (get_or sets i d)) ≡ sets_octets (map set_parts (take (i + 1) sets))
sets_octets-more sets i d h = more sets i h
    ∙ ap (λ (n : ℕ). sets_octets (map set_parts (take n sets))) (sym (add-one i)) where
      more : (sets : List Set) (i : ℕ) → i < length sets → sets_octets (map set_parts (take i sets))
          ++ set_octets (set_parts (get_or sets i d)) ≡ sets_octets (map set_parts (take (suc i) sets))
      more [] i h = absurd (omega arith)
      more (s ∷ ss) zero h = sym (append-nil (set_octets (set_parts s)))
      more (s ∷ ss) (suc i) h = append_assoc (set_octets (set_parts s)) (sets_octets (map set_parts (take i ss)))
          (set_octets (set_parts (get_or ss i d)))
          ∙ ap (λ (l : List ℕ). set_octets (set_parts s) ++ l) (more ss i (omega arith))

-- each set is among all
pub set_length-among : (sets : List Set) (i : ℕ) (d : Set) → i < length sets → set_length (set_parts (get_or sets i d))
    ≤ sets_length (map set_parts sets)
set_length-among [] i d h = absurd (omega arith)
set_length-among (s ∷ ss) zero d h = omega arith
set_length-among (s ∷ ss) (suc i) d h = omega (arith, set_length-among ss i d (omega arith))
