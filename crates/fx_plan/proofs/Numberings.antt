-- Layouts by number.
use Rattle.std.proofs.Common.{◌≡◌, ℕ, zero, suc, ◌+◌, ◌≤◌, Bool, true, false, List, [], ◌∷◌, ◌++◌, length, refl, sym, ap, ◌∙◌, subst, arith, cond, not, nat_lt, Some, None, Result, Ok, Err, IfErr, position, inl, inr, get_or, slice_get}
use Rattle.std.specs.Result.{IsErr, IsErrAnd}
use Rattle.std.specs.List.{list_any, position_or_len}
use Rattle.std.proofs.lemmas.Bool.{cases_Bool, cond-true, cond-false, or_from, cond_both}
use Rattle.std.proofs.lemmas.Option.{slice_get-get_or}
use Rattle.std.proofs.lemmas.List.{length-append}
use Rattle.std.proofs.lemmas.List.Folds.{list_any_at}
use Rattle.std.proofs.lemmas.List.Quantifiers.{position-Some}
use Rattle.std.proofs.lemmas.List.Sums.{prefix_len-le-length}
use Rattle.fx_layout.specs.Keys.{Layout, same_layout}
use Rattle.fx_layout.proofs.Projections.{same_layout_is}
use Rattle.fx_tables.specs.Network.{Holder}
use Rattle.fx_plan.specs.Layouts.{AreNumbers, is_known, with_layout, with_layouts}

pub known_at : (known : List Layout) (layout : Layout) (n : ℕ) → Some n
    ≡ position (λ other. same_layout other layout) known → (known ≡ with_layout known layout)
    × (slice_get known n ≡ Some layout)
known_at known layout n e =
    let p : Layout → Bool = λ (other : Layout). same_layout other layout in
    let at = position-Some p known n [] (sym e) in
    let there : is_known known layout ≡ true = list_any_at p known n [] at.0 at.1 in (
      sym (cond-true (is_known known layout) known (known ++ layout ∷ []) there),
      slice_get-get_or known n [] at.0
          ∙ ap (λ (l : Layout). Some l) (same_layout_is (get_or known n []) layout at.1),
    )

-- nothing passes where there is no place of what does
pub none_passes : {X : Type 0} (p : X → Bool) (xs : List X) → position p xs ≡ None → length xs ≡ position_or_len p xs
none_passes p xs h =
    let most = prefix_len-le-length (λ x. not (p x)) xs in
    elim (nat_lt (position_or_len p xs) (length xs))
    as (λ t. nat_lt (position_or_len p xs) (length xs) ≡ t → cond t (Some (position_or_len p xs)) None ≡ None
    → length xs ≡ position_or_len p xs) [
      | true ↦ λ e k. absurd (cc)
      | false ↦ λ e k. let least : length xs ≤ position_or_len p xs = grind (arith, e) in omega arith
    ] refl h

pub none_any : {X : Type 0} (p : X → Bool) (xs : List X) → length xs ≡ position_or_len p xs → list_any p xs ≡ false
none_any p [] e = refl
none_any p (x ∷ xs) e =
    elim (cases_Bool (p x)) [
      | inl y ↦ (let first : position_or_len p (x ∷ xs) ≡ 0 = rw y refl in absurd (omega arith))
      | inr n ↦ (let later : position_or_len p (x ∷ xs) ≡ 1 + position_or_len p xs = rw n refl in
          or_from (p x) (list_any p xs) n (none_any p xs (omega arith)))
    ]

pub unknown : (known : List Layout) (layout : Layout) → None ≡ position (λ other. same_layout other layout) known
    → with_layout known layout ≡ known ++ layout ∷ []
unknown known layout e =
    cond-false (is_known known layout) known (known ++ layout ∷ [])
    (none_any (λ (other : Layout). same_layout other layout) known
    (none_passes (λ (other : Layout). same_layout other layout) known (sym e)))

-- what stands behind others
pub next_at : {X : Type 0} (xs : List X) (x : X) (ys : List X) → slice_get (xs ++ x ∷ ys) (length xs) ≡ Some x
next_at [] x ys = refl
next_at (y ∷ xs) x ys = next_at xs x ys

-- ---- layouts more

in_front : {X : Type 0} (xs : List X) (n : ℕ) (x : X) (ys : List X) → slice_get xs n ≡ Some x → slice_get (xs ++ ys) n
    ≡ Some x
in_front [] n x ys e = cc
in_front (y ∷ xs) zero x ys e = e
in_front (y ∷ xs) (suc n) x ys e = in_front xs n x ys e

pub still_there : (known : List Layout) (layout more : Layout) (n : ℕ) → slice_get known n ≡ Some layout
    → slice_get (with_layout known more) n ≡ Some layout
still_there known layout more n e =
    cond_both (is_known known more) known (known ++ more ∷ []) (λ (l : List Layout). slice_get l n ≡ Some layout)
    (λ _. e) (λ _. in_front known n layout (more ∷ []) e)

pub longer : (known : List Layout) (layout : Layout) → length known ≤ length (with_layout known layout)
longer known layout =
    cond_both (is_known known layout) known (known ++ layout ∷ []) (λ (l : List Layout). length known ≤ length l)
    (λ _. omega arith) (λ _. omega (arith, length-append known (layout ∷ [])))

pub all_longer : (known layouts : List Layout) → length known ≤ length (with_layouts known layouts)
all_longer known [] = omega arith
all_longer known (layout ∷ layouts) = omega (arith, longer known layout, all_longer (with_layout known layout) layouts)

pub numbers_grow : (known : List Layout) (more : Layout) (holders : List Holder) (numbers : List ℕ)
    → AreNumbers known holders numbers → AreNumbers (with_layout known more) holders numbers
numbers_grow known more [] [] h = tt
numbers_grow known more [] (n ∷ ns) h = h
numbers_grow known more (x ∷ xs) [] h = h
numbers_grow known more (x ∷ xs) (n ∷ ns) h = (still_there known x.layout more n h.0, numbers_grow known more xs ns h.1)

pub numbers_push : (known : List Layout) (holders : List Holder) (numbers : List ℕ) (holder : Holder) (n : ℕ)
    → AreNumbers known holders numbers → slice_get known n ≡ Some holder.layout
    → AreNumbers known (holders ++ holder ∷ []) (numbers ++ n ∷ [])
numbers_push known [] [] holder n h e = (e, tt)
numbers_push known [] (m ∷ ms) holder n h e = absurd h
numbers_push known (x ∷ xs) [] holder n h e = absurd h
numbers_push known (x ∷ xs) (m ∷ ms) holder n h e = (h.0, numbers_push known xs ms holder n h.1 e)

-- all known after some holders, one more holder, and those behind it
pub with_next : (known layouts all : List Layout) (layout : Layout) → all ≡ layout ∷ layouts → with_layouts known all
    ≡ with_layouts (with_layout known layout) layouts
with_next known layouts all layout e = rw e refl

pub number_found : (layouts : List Layout) (holders : List Holder) (numbers : List ℕ)
    → AreNumbers layouts holders numbers → (k : ℕ) (h : Holder) → slice_get holders k ≡ Some h → (n : ℕ)
    × (slice_get numbers k ≡ Some n) × (slice_get layouts n ≡ Some h.layout)
number_found layouts [] numbers a k h e = cc
number_found layouts (x ∷ xs) [] a k h e = absurd a
number_found layouts (x ∷ xs) (n ∷ ns) a zero h e =
    (let same : x ≡ h = cc in (n, refl, a.0 ∙ ap (λ (y : Holder). Some y.layout) same))
number_found layouts (x ∷ xs) (n ∷ ns) a (suc k) h e = number_found layouts xs ns a.1 k h e

-- the exit of a `?`
pub exit_with : {X E : Type 0} (r : Result X E) (e : E) (Q : E → Type 0) → IsErr r × IsErrAnd r (λ d. d ≡ e) → Q e
    → IfErr r Q
exit_with (Ok x) e Q h q = absurd h.1
exit_with (Err d) e Q h q = subst Q (sym h.1) q
