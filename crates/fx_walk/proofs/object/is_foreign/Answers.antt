use Rattle.std.proofs.Common.{◌≡◌, ℕ, suc, ◌+◌, List, [], ◌∷◌, length, Bool, true, false, cond, not, ◌||◌, ◌==◌, None, refl, lit<, arith}
use Rattle.std.specs.List.{list_any, position_or_len}
use Rattle.std.proofs.lemmas.Str.Pattern.{split_once_first}
use Rattle.fx_walk.proofs.object.is_foreign.Goals as goal

step : (b : Bool) (n m : ℕ) (rest : Bool) → cond (not b) (1 + n) 0 ≡ suc m → (n ≡ m → rest ≡ false) → (b || rest)
    ≡ false
step true n m rest h next = absurd cc
step false n m rest h next = next (omega arith)

none_passes : (p : ℕ → Bool) (xs : List ℕ) → position_or_len p xs ≡ length xs → list_any p xs ≡ false
none_passes p [] h = refl
none_passes p (x ∷ xs) h = step (p x) (position_or_len p xs) (length xs) (list_any p xs) h (none_passes p xs)

pub returns-in-None : goal.returns-in-None
returns-in-None c =
    let none : position_or_len (λ b. b == 58) c.args.name.now ≡ length c.args.name.now =
    split_once_first 58 c.args.name.now None c.in-None.ensures.cases (lit< tt) in
    rw (none_passes (λ b. b == 58) c.args.name.now none) refl
