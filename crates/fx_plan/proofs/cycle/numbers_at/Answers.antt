use Rattle.std.proofs.Common.{◌≡◌, ℕ, ◌+◌, List, [], ◌∷◌, ◌++◌, Some, None, drop, get_or, slice_get, refl, ap, ◌∙◌, append_assoc, Vec, Global}
use Rattle.std.proofs.lemmas.List.{drop_more}
use Rattle.fx_tables.specs.Network.{at_places}
use Rattle.fx_plan.specs.declared.cycle.ProcessNumber.{ProcessNumber}
use Rattle.fx_plan.proofs.cycle.numbers_at.Goals as goal
use Rattle.fx_plan.proofs.cycle.numbers_at.Goals.{in-Some+in_ok-push, in_default}

one_more : (numbers found now : List ProcessNumber) (p : ℕ) (rest : List ℕ) (number : ProcessNumber) → Some number
    ≡ slice_get numbers p → now ≡ found ++ number ∷ [] → now ++ at_places numbers rest ≡ found
    ++ at_places numbers (p ∷ rest)
one_more numbers found now p rest number is e = rw (e, ← is) (append_assoc found (number ∷ []) (at_places numbers rest))

none_more : (numbers found now : List ProcessNumber) (p : ℕ) (rest : List ℕ) → None ≡ slice_get numbers p → now ≡ found
    → now ++ at_places numbers rest ≡ found ++ at_places numbers (p ∷ rest)
none_more numbers found now p rest is e = rw (e, ← is) refl

pub loop-index-preserved : goal.loop-index-preserved
loop-index-preserved c =
    let xs = c.args.places.now in
    let n = c.loop-index.index-index in
    let left : drop n xs ≡ get_or xs n 0 ∷ drop (n + 1) xs = drop_more xs n 0 c.loop-index-test.true in
    elim c.match-number_at.branch [
      | in-Some+in_ok-push w ↦ one_more c.args.numbers.now c.loop-index.found.items c.match-number_at.found.items
          (get_or xs n 0) (drop (n + 1) xs) w.in-Some.number w.in-Some.ensures
          (ap (λ (v : Vec ProcessNumber Global). v.items) w.found-is ∙ w.in_ok-push.ensures.items)
          ∙ (rw left at c.loop-index.invariant)
      | in_default w ↦ none_more c.args.numbers.now c.loop-index.found.items c.match-number_at.found.items
          (get_or xs n 0) (drop (n + 1) xs) w.in_default.ensures
          (ap (λ (v : Vec ProcessNumber Global). v.items) w.found-is) ∙ (rw left at c.loop-index.invariant)
    ]
