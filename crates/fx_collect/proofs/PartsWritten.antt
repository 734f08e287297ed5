-- The text of the values of a key's parts: that of the first, and those of the others.
use Rattle.std.proofs.Common.{◌≡◌, ℕ, ◌-◌, ◌≤◌, ◌<◌, ◌==◌, ◌∙◌, Bool, true, false, List, [], ◌∷◌, ◌++◌, length, take, drop, length-drop, get_or, refl, sym, eqb-true, arith}
use Rattle.std.proofs.lemmas.List.{take_all}
use Rattle.fx_elements.specs.Values.{leading_text}
use Rattle.fx_layout.specs.Keys.{Layout}
use Rattle.fx_layout.specs.declared.layout.Part.{Part}
use Rattle.fx_collect.specs.Report.{parts_text, space_before}

-- all but the first
abbrev pub others : {A : Type 0} → List A → List A
others xs = take (length xs - 1) (drop 1 xs)

pub others_are : {A : Type 0} (x : A) (xs : List A) → others (x ∷ xs) ≡ xs
others_are x xs = take_all (length (x ∷ xs) - 1) (drop 1 (x ∷ xs)) (omega (arith, length-drop 1 (x ∷ xs)))

pub parts_first : (ps : Layout) (vs : List ℕ) (part : Part) (value : ℕ) → 1 ≤ length ps → 1 ≤ length vs
    → parts_text ps vs ≡ leading_text (get_or ps 0 part).axis (get_or ps 0 part).bits (get_or vs 0 value)
    ++ (space_before (others ps) ++ parts_text (others ps) (others vs))
parts_first [] vs part value h k = absurd (omega (arith, h))
parts_first (p ∷ ps) [] part value h k = absurd (omega (arith, k))
parts_first (p ∷ ps) (v ∷ vs) part value h k = rw (others_are p ps, others_are v vs)

pub nothing_without_parts : (ps : Layout) (vs : List ℕ) → length ps < 1 → [] ≡ parts_text ps vs
nothing_without_parts [] vs h = refl
nothing_without_parts (p ∷ ps) vs h = absurd (omega (arith, h))

pub nothing_without_values : (ps : Layout) (vs : List ℕ) → length vs < 1 → [] ≡ parts_text ps vs
nothing_without_values [] vs h = refl
nothing_without_values (p ∷ ps) [] h = refl
nothing_without_values (p ∷ ps) (v ∷ vs) h = absurd (omega (arith, h))

pub space_between : (ps : Layout) (none : Bool) → none ≡ (length ps == 0) → none ≡ false → space_before ps ≡ 32 ∷ []
space_between [] none is h = absurd cc
space_between (p ∷ ps) none is h = refl

pub space_behind : (ps : Layout) (none : Bool) → none ≡ (length ps == 0) → none ≡ true → space_before ps ≡ []
space_behind [] none is h = refl
space_behind (p ∷ ps) none is h = let nil : length (p ∷ ps) ≡ 0 = eqb-true (length (p ∷ ps)) 0 (sym is ∙ h) in
    absurd (omega (arith, nil))
