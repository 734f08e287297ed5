-- The records that wait stand in a part of a list, and one more takes the place behind them.
use Rattle.std.proofs.Common.{◌≡◌, ℕ, ◌+◌, ◌-◌, ◌<◌, ◌≤◌, List, [], ◌∷◌, ◌++◌, length, suc, take, drop, get_or, slice_range, slice_set, ap, sym, ◌∙◌, arith, length-drop}
use Rattle.std.proofs.lemmas.List.{drop_more, drop-set-add, take_more_set}

pub one_more_waits : {X : Type 0} (xs : List X) (a b : ℕ) (x : X) → a ≤ b → b < length xs
    → slice_range (slice_set xs b x) a (b + 1) ≡ slice_range xs a b ++ x ∷ []
one_more_waits {X = X} xs a b x le lt =
    let k = b - a in
    let at : b ≡ a + k = omega arith in
    let more : b + 1 - a ≡ k + 1 = omega arith in
    ap (λ (n : ℕ). take (b + 1 - a) (drop a (slice_set xs n x))) at
    ∙ ap (take (b + 1 - a)) (drop-set-add a xs k x)
    ∙ ap (λ (n : ℕ). take n (slice_set (drop a xs) k x)) more
    ∙ take_more_set (drop a xs) k x (omega (arith, length-drop a xs))

-- the first that waits, and those behind it
pub first_waits : {X : Type 0} (xs : List X) (a b : ℕ) (x : X) → a < b → b ≤ length xs → x ≡ get_or xs a x
    → slice_range xs a b ≡ x ∷ slice_range xs (a + 1) b
first_waits xs a b x lt le is =
    let less : b - a ≡ suc (b - (a + 1)) = omega arith in
    ap (take (b - a)) (drop_more xs a x (omega arith))
    ∙ ap (λ (n : ℕ). take n (get_or xs a x ∷ drop (a + 1) xs)) less
    ∙ ap (λ y. y ∷ slice_range xs (a + 1) b) (sym is)
