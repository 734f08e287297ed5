-- Lists that are changed at a place, or up to one.
use Rattle.std.proofs.Common.{◌≡◌, ℕ, zero, suc, ◌+◌, ◌<◌, ◌≤◌, List, [], ◌∷◌, ◌++◌, map, length, set, get_or, Option, Some, None, IfSome, IfNone, option_map, refl, sym, ap, ◌∙◌, subst, arith, add-one, le_of_suc-le-suc}
use Rattle.std.proofs.lemmas.List.{set-get_or}
use Rattle.std.proofs.lemmas.Option.{slice_get-get_or, slice_get_past}
use Rattle.fx_link.specs.Ongoing.{Ongoing}
use Rattle.fx_tables.specs.declared.record.Record.{Record}
use Rattle.fx_store.specs.Flows.{Entry, least}
use Rattle.fx_net.specs.Contents.{with_changed, inner_option, stored_at}
use Rattle.fx_net.specs.Exporting.{put_each, with_waiting}
use Rattle.fx_net.specs.Leaving.{least_of, taken_out, without_least}
use Rattle.fx_net.specs.Stores.{Stored, flows_in, without_entry}

-- the place isn't there
pub changed_past : {A : Type 0} (f : A → A) (xs : List A) (n : ℕ) → length xs ≤ n → with_changed f xs n ≡ xs
changed_past f [] n le = refl
changed_past f (x ∷ xs) zero le = absurd (omega arith)
changed_past f (x ∷ xs) (suc n) le = ap (λ ys. x ∷ ys) (changed_past f xs n (le_of_suc-le-suc le))

-- another entry was set there
pub changed_set : {A : Type 0} (f : A → A) (xs : List A) (n : ℕ) (d : A) (new : A) → n < length xs → new
    ≡ f (get_or xs n d) → set xs n new ≡ with_changed f xs n
changed_set f [] n d new lt e = absurd (omega arith)
changed_set f (x ∷ xs) zero d new lt e = ap (λ y. y ∷ xs) e
changed_set f (x ∷ xs) (suc n) d new lt e = ap (λ ys. x ∷ ys) (changed_set f xs n d new (le_of_suc-le-suc lt) e)

-- the entry stays as it was
pub changed_same : {A : Type 0} (f : A → A) (xs : List A) (n : ℕ) (d : A) → n < length xs → f (get_or xs n d)
    ≡ get_or xs n d → with_changed f xs n ≡ xs
changed_same f [] n d lt e = absurd (omega arith)
changed_same f (x ∷ xs) zero d lt e = ap (λ y. y ∷ xs) e
changed_same f (x ∷ xs) (suc n) d lt e = ap (λ ys. x ∷ ys) (changed_same f xs n d (le_of_suc-le-suc lt) e)

-- what stood there was set
pub set_same : {A : Type 0} (xs : List A) (n : ℕ) (x : A) → n < length xs → x ≡ get_or xs n x → set xs n x ≡ xs
set_same xs n x lt e = ap (set xs n) e ∙ set-get_or xs n x

-- ---- up to a place

abbrev pub mapped : {A : Type 0} → (A → A) → ℕ → List A → List A
mapped f zero xs = xs
mapped f (suc n) [] = []
mapped f (suc n) (x ∷ xs) = f x ∷ mapped f n xs

pub mapped_length : {A : Type 0} (f : A → A) (n : ℕ) (xs : List A) → length (mapped f n xs) ≡ length xs
mapped_length f zero xs = refl
mapped_length f (suc n) [] = refl
mapped_length f (suc n) (x ∷ xs) = ap suc (mapped_length f n xs)

pub mapped_at : {A : Type 0} (f : A → A) (n : ℕ) (xs : List A) (d : A) → get_or (mapped f n xs) n d ≡ get_or xs n d
mapped_at f zero xs d = refl
mapped_at f (suc n) [] d = refl
mapped_at f (suc n) (x ∷ xs) d = mapped_at f n xs d

pub mapped_more : {A : Type 0} (f : A → A) (n : ℕ) (xs : List A) (d : A) (new : A) → n < length xs → new
    ≡ f (get_or xs n d) → set (mapped f n xs) n new ≡ mapped f (n + 1) xs
mapped_more {A} f n xs d new lt e = subst (λ m. set (mapped f n xs) n new ≡ mapped f m xs) (sym (add-one n))
    (go n xs lt e)
  where
    go : (n : ℕ) (xs : List A) → n < length xs → new ≡ f (get_or xs n d) → set (mapped f n xs) n new
        ≡ mapped f (suc n) xs
    go n [] lt e = absurd (omega arith)
    go zero (x ∷ xs) lt e = ap (λ y. y ∷ xs) e
    go (suc n) (x ∷ xs) lt e = ap (λ ys. f x ∷ ys) (go n xs (le_of_suc-le-suc lt) e)

pub mapped_all : {A : Type 0} (f : A → A) (n : ℕ) (xs : List A) → length xs ≤ n → mapped f n xs ≡ map f xs
mapped_all f zero [] le = refl
mapped_all f zero (x ∷ xs) le = absurd (omega arith)
mapped_all f (suc n) [] le = refl
mapped_all f (suc n) (x ∷ xs) le = ap (λ ys. f x ∷ ys) (mapped_all f n xs (le_of_suc-le-suc le))

-- ---- links

-- a record that waits on some links and then on others waits on all
pub put_each_more : (time : ℕ) (r : Record) (ls : List ℕ) (more : List ℕ) (links : List Ongoing)
    → put_each time r more (put_each time r ls links) ≡ put_each time r (ls ++ more) links
put_each_more time r [] more links = refl
put_each_more time r (l ∷ ls) more links = put_each_more time r ls more (with_changed (with_waiting time r) links l)

-- ---- stores

-- what stands at a place of the stores
pub stored_is : (xs : List (Option Stored)) (n : ℕ) (x : Option Stored) → n < length xs → x ≡ get_or xs n x
    → stored_at xs n ≡ x
stored_is xs n x lt e = ap inner_option (slice_get-get_or xs n x lt) ∙ sym e

pub stored_past : (xs : List (Option Stored)) (n : ℕ) → length xs ≤ n → stored_at xs n ≡ None
stored_past xs n le = ap inner_option (slice_get_past xs n le)

pub taken_is : (result : Option Entry) (old new : Stored) → IfSome result (λ e. new ≡ without_entry old e.0)
    → IfNone result (new ≡ old) → new ≡ taken_out result old
taken_is None old new some none = none
taken_is (Some e) old new some none = some

-- an immediate cache stays as it is
pub without_none : (xs : List (Option Stored)) (n : ℕ) → n < length xs → stored_at xs n ≡ None → without_least xs n ≡ xs
without_none xs n lt e = changed_same _ xs n None lt
    (ap (option_map (taken_out (least_of (stored_at xs n)))) is ∙ sym is)
  where
    is : get_or xs n None ≡ None
    is = sym (ap inner_option (slice_get-get_or xs n None lt)) ∙ e

-- the entry of the least key is taken out of a store
pub without_some : (xs : List (Option Stored)) (n : ℕ) (old new : Stored) (result : Option Entry) → n < length xs
    → Some old ≡ get_or xs n (Some old) → new ≡ taken_out result old → result ≡ least (flows_in old)
    → set xs n (Some new) ≡ without_least xs n
without_some xs n old new result lt e is least_is =
    changed_set _ xs n (Some old) (Some new) lt
    (ap Some is ∙ ap (λ r. Some (taken_out r old)) (least_is ∙ sym (ap least_of (stored_is xs n (Some old) lt e)))
    ∙ ap (option_map (taken_out (least_of (stored_at xs n)))) e)

pub without_none_set : (xs : List (Option Stored)) (n : ℕ) (x : Option Stored) → n < length xs → x ≡ get_or xs n x → x
    ≡ None → set xs n x ≡ without_least xs n
without_none_set xs n x lt e none = set_same xs n x lt e ∙ sym (without_none xs n lt (stored_is xs n x lt e ∙ none))
