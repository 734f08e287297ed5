-- What stands at a place of a list, and at the same place of one that is the same.
use Rattle.std.proofs.Common.{◌≡◌, ℕ, ◌+◌, ◌<◌, ◌≤◌, List, get_or, length, slice_get, Option, Some, None, refl, sym, ap, ◌∙◌, add-one}
use Rattle.std.specs.Option.{option_copied}
use Rattle.std.proofs.lemmas.Option.{slice_get-get_or, slice_get_past}
use Rattle.fx_base.specs.Entries.{entry_numbered, now_of}
use denote.Ref.{Bor}

pub found_in : {A : Type 0} (xs ys : List A) (k : ℕ) (x : A) → xs ≡ ys → k < length xs → x ≡ get_or xs k x
    → slice_get ys k ≡ Some x
found_in xs ys k x same lt is = ap (λ zs. slice_get zs k) (sym same) ∙ (slice_get-get_or xs k x lt ∙ ap Some (sym is))

pub none_in : {A : Type 0} (xs ys : List A) (k : ℕ) → xs ≡ ys → length xs ≤ k → slice_get ys k ≡ None
none_in xs ys k same le = ap (λ zs. slice_get zs k) (sym same) ∙ slice_get_past xs k le

-- by a number, where the first is 1
pub found_numbered : {A : Type 0} (xs : List A) (number k : ℕ) (x : A) → k < length xs → x ≡ get_or xs k x → k + 1
    ≡ number → entry_numbered xs number ≡ Some x
found_numbered xs number k x lt is e =
    ap (entry_numbered xs) (sym e ∙ add-one k) ∙ (slice_get-get_or xs k x lt ∙ ap Some (sym is))

pub none_numbered : {A : Type 0} (xs : List A) (number k : ℕ) → length xs ≤ k → k + 1 ≡ number
    → entry_numbered xs number ≡ None
none_numbered xs number k le e = ap (entry_numbered xs) (sym e ∙ add-one k) ∙ slice_get_past xs k le

-- what an optional reference shows is what is copied from it
pub now_copied : {A : Type 0} (o : Option (Bor A)) → now_of o ≡ option_copied o
now_copied None = refl
now_copied (Some r) = refl
