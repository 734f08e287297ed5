-- One part after another: what is gathered of each, and whether a layout reads them.
use Rattle.std.proofs.Common.{◌≡◌, ℕ, ◌+◌, ◌<◌, Bool, true, false, List, [], ◌∷◌, ◌++◌, length, map, take, get_or, ap, sym, ◌∙◌}
use Rattle.std.proofs.lemmas.Bool.{and_from}
use Rattle.std.proofs.lemmas.List.{map_push, take_more}
use Rattle.std.proofs.lemmas.List.Folds.{list_all_at, list_all_more}
use Rattle.std.specs.List.{list_all}
use Rattle.fx_layout.specs.declared.layout.Part.{Part}
use Rattle.fx_layout.specs.Keys.{Layout, reads, refines}

-- one more that is pushed
pub one_more : {A B : Type 0} (g : A → B) (k : ℕ) (xs : List A) (d : A) (old new : List B) (x : B) → k < length xs → old
    ≡ map g (take k xs) → x ≡ g (get_or xs k d) → new ≡ old ++ x ∷ [] → new ≡ map g (take (k + 1) xs)
one_more {A} {B} g k xs d old new x lt so_far here pushed =
    pushed
    ∙ ap (λ (ys : List B). ys ++ x ∷ []) so_far
    ∙ ap (λ (y : B). map g (take k xs) ++ y ∷ []) here
    ∙ sym (map_push g (take k xs) (get_or xs k d))
    ∙ ap (map g) (sym (take_more xs k d lt))

abbrev pub is_read : Layout → Part → Bool
is_read layout part = reads layout part.axis part.bits

-- one more that is read
pub reads_more : (own asked xs : Layout) (k : ℕ) (d : Part) (r : Bool) → asked ≡ own → k < length xs
    → list_all (is_read own) (take k xs) ≡ true → r ≡ is_read asked (get_or xs k d) → r ≡ true
    → list_all (is_read own) (take (k + 1) xs) ≡ true
reads_more own asked xs k d r same lt so_far here said =
    list_all_more (is_read own) xs k d lt ∙ and_from _ _ so_far
    (ap (λ (l : Layout). is_read l (get_or xs k d)) (sym same) ∙ sym here ∙ said)

-- one that isn't
pub unread : (own asked other xs : Layout) (k : ℕ) (d : Part) (r : Bool) → asked ≡ own → xs ≡ other → k < length xs → r
    ≡ is_read asked (get_or xs k d) → r ≡ false → false ≡ refines own other
unread own asked other xs k d r same all lt here denied =
    sym (list_all_at (is_read own) xs k d lt
    (ap (λ (l : Layout). is_read l (get_or xs k d)) (sym same) ∙ sym here ∙ denied)) ∙ ap (refines own) all
