-- Lists made from each number below a bound.
use Rattle.std.proofs.Common.{◌≡◌, ℕ, zero, suc, ◌+◌, ◌<◌, Bool, true, false, not, ◌&&◌, ◌||◌, List, [], ◌∷◌, ◌++◌, length, map, refl, sym, ap, ◌∙◌, arith, Some, None, find, position, cond, zip, filter, ◌≤◌, nat_lt, get_or, slice_set, count_by, get_or-set_same, get_or-set_other, subst, inl, inr}
use lib.ListN.{replicate}
use Rattle.std.specs.List.{range_with_len, list_all, position_or_len}
use Rattle.std.proofs.lemmas.List.{map-append, append-nil}
use Rattle.std.proofs.lemmas.List.Elements.{filter-append}
use Rattle.std.proofs.lemmas.List.FromFn.{map-range_with_len_more, length-range_with_len, get_or-range_with_len, length-map-range_with_len, get_or-map-range_with_len, fill_by_all}
use Rattle.std.proofs.lemmas.Option.{slice_get-get_or, slice_get_past}
use Rattle.std.proofs.lemmas.Bool.{cases_lt, cases_eq, cond-true, cond-false, lt-ltb, le-ltb}
use Rattle.std.proofs.lemmas.List.Folds.{find_at, sum_by-replicate}
use Rattle.std.proofs.lemmas.List.Sums.{sum_by-set}
use Rattle.std.proofs.Math.ListN.{length-set}
use Rattle.fx_ranks.specs.Feeding.{have_come}

-- one number more
pub ranged_more : {X : Type 0} (f : ℕ → X) (k : ℕ) (xs ys : List X) (x : X) → xs ≡ map f (range_with_len 0 k) → x ≡ f k
    → ys ≡ xs ++ x ∷ [] → ys ≡ map f (range_with_len 0 (k + 1))
ranged_more f k xs ys x e here is = is ∙ rw (e, here) (sym (map-range_with_len_more f 0 k k (omega arith)))

pub pushed : {X Y : Type 0} (v : X → Y) (xs ys : List X) (x : X) → ys ≡ xs ++ x ∷ [] → map v ys ≡ map v xs ++ v x ∷ []
pushed v xs ys x e = ap (map v) e ∙ map-append v xs (x ∷ [])

-- ---- tests at each number

all_zip : (f g : ℕ → Bool) (a n : ℕ) → list_all (λ y. not y.0 || y.1)
    (zip (map f (range_with_len a n)) (map g (range_with_len a n)))
    ≡ list_all (λ p. not (f p) || g p) (range_with_len a n)
all_zip f g a zero = refl
all_zip f g a (suc n) = ap (λ (b : Bool). (not (f a) || g a) && b) (all_zip f g (a + 1) n)

-- the same test of the entries of two lists and of their numbers
place_zip : {X : Type 0} (v : X → List Bool) (p : X × Bool → Bool) (t : ℕ → Bool) (f : ℕ → List Bool) (g : ℕ → Bool)
    → ((x : X) (j : ℕ) → v x ≡ f j → p (x, g j) ≡ t j) → (a n : ℕ) (rows : List X) → map v rows
    ≡ map f (range_with_len a n) → (position_or_len p (zip rows (map g (range_with_len a n)))
    ≡ position_or_len t (range_with_len a n))
    × (length (zip rows (map g (range_with_len a n))) ≡ length (range_with_len a n))
place_zip v p t f g here a zero [] e = (refl, refl)
place_zip v p t f g here a zero (x ∷ xs) e = cc
place_zip v p t f g here a (suc n) [] e = cc
place_zip v p t f g here a (suc n) (x ∷ xs) e =
    let first : v x ≡ f a = cc in
    let others : map v xs ≡ map f (range_with_len (a + 1) n) = cc in
    let rest = place_zip v p t f g here (a + 1) n xs others in
    (rw (here x a first, rest.0) refl, ap suc rest.1)

position_at : {X Y : Type 0} (p : X → Bool) (t : Y → Bool) (xs : List X) (ys : List Y) → position_or_len p xs
    ≡ position_or_len t ys → length xs ≡ length ys → position p xs ≡ position t ys
position_at p t xs ys e l = rw (e, l) refl

position_in_range : (t : ℕ → Bool) (n : ℕ) → position t (range_with_len 0 n) ≡ find t (range_with_len 0 n)
position_in_range t n =
    let xs = range_with_len 0 n in
    let k = position_or_len t (range_with_len 0 n) in
    elim (cases_lt k (length xs)) [
      | inl lt ↦
          (let low : k < n = omega (arith, length-range_with_len 0 n) in
          cond-true (nat_lt k (length xs)) (Some k) None (lt-ltb k (length xs) lt)
          ∙ sym (find_at t xs ∙ (slice_get-get_or xs k 0 lt
          ∙ ap (λ (x : ℕ). Some x) (get_or-range_with_len 0 n k 0 low ∙ omega arith))))
      | inr le ↦
          cond-false (nat_lt k (length xs)) (Some k) None (le-ltb k (length xs) le)
          ∙ sym (find_at t xs ∙ slice_get_past xs k le)
    ]

pub ready_position : {X : Type 0} (v : X → List Bool) (f : ℕ → List Bool) (g : ℕ → Bool) (fed : ℕ → ℕ → Bool) (n : ℕ)
    (rows : List X) (come : List Bool) → ((q : ℕ) → f q ≡ map (fed q) (range_with_len 0 n)) → map v rows
    ≡ map f (range_with_len 0 n) → come ≡ map g (range_with_len 0 n)
    → position (λ x. not x.1 && have_come (v x.0) come) (zip rows come)
    ≡ find (λ q. not (g q) && list_all (λ p. not (fed q p) || g p) (range_with_len 0 n)) (range_with_len 0 n)
ready_position {X} v f g fed n rows come fs e c =
    let there : List Bool = map g (range_with_len 0 n) in
    let p : X × Bool → Bool = λ (x : X × Bool). not x.1 && have_come (v x.0) (map g (range_with_len 0 n)) in
    let t : ℕ → Bool = λ (q : ℕ). not (g q) && list_all (λ p. not (fed q p) || g p) (range_with_len 0 n) in
    let both = place_zip v p t f g (λ x j is. rw (is, fs j) (ap (λ (b : Bool). not (g j) && b) (all_zip (fed j) g 0 n)))
    0 n rows e in
    rw c (position_at p t (zip rows (map g (range_with_len 0 n))) (range_with_len 0 n) both.0 both.1
    ∙ position_in_range t n)

-- ---- flags

pub flags_set : (g h : ℕ → Bool) (place n : ℕ) (come : List Bool) → come ≡ map g (range_with_len 0 n) → place < n
    → h place ≡ true → ((k : ℕ) → (k ≡ place → ⊥) → h k ≡ g k) → slice_set come place true ≡ map h (range_with_len 0 n)
flags_set g h place n come e low here others =
    let long : length come ≡ n = ap length e ∙ length-map-range_with_len g 0 n in
    fill_by_all h (slice_set come place true) n true (length-set come place true ∙ long) (λ k w.
    elim (cases_eq k place) [
      | inl is ↦
          (let within : place < length come = omega arith in
          subst (λ (x : ℕ). get_or (slice_set come place true) x true ≡ h x) (sym is)
          (get_or-set_same come place true true within ∙ sym here))
      | inr not_it ↦
          get_or-set_other come place k true true not_it
          ∙ (ap (λ (l : List Bool). get_or l k true) e
          ∙ (get_or-map-range_with_len g 0 n k k true w (omega arith) ∙ sym (others k not_it)))
    ])

pub count_set : (come : List Bool) (place : ℕ) → place < length come → get_or come place true ≡ false
    → count_by (λ c. not c) (slice_set come place true) + 1 ≡ count_by (λ c. not c) come
count_set come place low here =
    let f : Bool → ℕ = λ (c : Bool). cond (not c) 1 0 in
    let one : f (get_or come place true) ≡ 1 = ap f here in
    let t : count_by (λ c. not c) (slice_set come place true) + f (get_or come place true) ≡ count_by (λ c. not c) come
    + 0 = sum_by-set f come place true true low in
    omega (arith, one, t)

pub flags_none : (a n : ℕ) → replicate n false ≡ map (λ k. false) (range_with_len a n)
flags_none a zero = refl
flags_none a (suc n) = ap (λ (l : List Bool). false ∷ l) (flags_none (a + 1) n)

pub count_none : (a n : ℕ) → count_by (λ c. not c) (replicate n false) ≡ n
count_none a n = sum_by-replicate (λ (c : Bool). cond (not c) 1 0) n false ∙ omega arith

-- ---- filters

pub range_more : (a n : ℕ) → range_with_len a (n + 1) ≡ range_with_len a n ++ (a + n) ∷ []
range_more a zero = let e : a ≡ a + 0 = omega arith in ap (λ (x : ℕ). x ∷ []) e
range_more a (suc n) =
    let e : suc n + 1 ≡ suc (n + 1) = omega arith in
    let f : a + 1 + n ≡ a + suc n = omega arith in
    rw e (ap (λ (l : List ℕ). a ∷ l) (range_more (a + 1) n ∙ ap (λ (x : ℕ). range_with_len (a + 1) n ++ x ∷ []) f))

filter_last : (p : ℕ → Bool) (n : ℕ) → filter p (range_with_len 0 (n + 1)) ≡ filter p (range_with_len 0 n)
    ++ cond (p n) (n ∷ []) []
filter_last p n =
    let z : 0 + n ≡ n = omega arith in
    ap (filter p) (range_more 0 n ∙ ap (λ (x : ℕ). range_with_len 0 n ++ x ∷ []) z)
    ∙ filter-append p (range_with_len 0 n) (n ∷ [])

pub filter_yes : (p : ℕ → Bool) (n : ℕ) → p n ≡ true → filter p (range_with_len 0 (n + 1))
    ≡ filter p (range_with_len 0 n) ++ n ∷ []
filter_yes p n e = filter_last p n ∙ rw e refl

pub filter_no : (p : ℕ → Bool) (n : ℕ) → p n ≡ false → filter p (range_with_len 0 (n + 1))
    ≡ filter p (range_with_len 0 n)
filter_no p n e = filter_last p n ∙ rw e (append-nil (filter p (range_with_len 0 n)))

pub filter_same : (p q : ℕ → Bool) (a n : ℕ) → ((k : ℕ) → a ≤ k → k < a + n → p k ≡ q k) → filter p (range_with_len a n)
    ≡ filter q (range_with_len a n)
filter_same p q a zero same = refl
filter_same p q a (suc n) same = rw (
  same a (omega arith) (omega arith),
  filter_same p q (a + 1) n
      (λ k low high. same k (omega arith) (omega arith)),
) refl
