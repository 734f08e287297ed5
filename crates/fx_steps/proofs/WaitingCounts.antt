-- Numbers of records that wait, one more and one less.
use Rattle.std.proofs.Common.{◌≡◌, ℕ, zero, suc, ◌+◌, ◌-◌, ◌<◌, ◌≤◌, List, [], ◌∷◌, ◌++◌, length, replicate, drop, get_or, Some, refl, sym, ap, ◌∙◌, subst, arith, add-one, le_of_suc-le-suc, slice_get, slice_set, slice_index_or}
use Rattle.std.proofs.lemmas.List.{length-replicate}
use Rattle.std.specs.List.{AllByRecursion}
use Rattle.fx_steps.specs.declared.pending.Pending.{Pending}
use Rattle.fx_steps.specs.declared.pending.Pending.TheVariants.{AtHolder, OnLink}
use Rattle.fx_steps.specs.Waiting.{zeros_for, total, one_more_at, holder_counts, link_counts}

-- ---- at one place

pub raised_length : (counts : List ℕ) (n : ℕ) → length (one_more_at counts n) ≡ length counts
raised_length [] n = refl
raised_length (c ∷ cs) zero = refl
raised_length (c ∷ cs) (suc n) = ap suc (raised_length cs n)

pub set_raised : (counts : List ℕ) (n : ℕ) → n < length counts → slice_set counts n (slice_index_or counts n 0 + 1)
    ≡ one_more_at counts n
set_raised [] n lt = absurd (omega arith)
set_raised (c ∷ cs) zero lt = ap (λ m. m ∷ cs) (add-one c)
set_raised (c ∷ cs) (suc n) lt = ap (λ xs. c ∷ xs) (set_raised cs n (le_of_suc-le-suc lt))

pub count_raised : (counts : List ℕ) (n count : ℕ) → slice_get counts n ≡ Some count
    → slice_index_or (one_more_at counts n) n 0 ≡ suc count
count_raised [] n count h = absurd (cc)
count_raised (c ∷ cs) zero count h = let e : c ≡ count = cc in ap suc e
count_raised (c ∷ cs) (suc n) count h = count_raised cs n count h

pub some_raised : (counts : List ℕ) (n : ℕ) → n < length counts → 1 ≤ slice_index_or (one_more_at counts n) n 0
some_raised [] n lt = absurd (omega arith)
some_raised (c ∷ cs) zero lt = omega arith
some_raised (c ∷ cs) (suc n) lt = some_raised cs n (le_of_suc-le-suc lt)

pub set_back : (counts : List ℕ) (n : ℕ) → n < length counts
    → slice_set (one_more_at counts n) n (slice_index_or (one_more_at counts n) n 0 - 1) ≡ counts
set_back [] n lt = absurd (omega arith)
set_back (c ∷ cs) zero lt = let e : suc c - 1 ≡ c = omega arith in ap (λ m. m ∷ cs) e
set_back (c ∷ cs) (suc n) lt = ap (λ xs. c ∷ xs) (set_back cs n (le_of_suc-le-suc lt))

-- ---- all of them together

pub total_raised : (counts : List ℕ) (n : ℕ) → total (one_more_at counts n) ≤ suc (total counts)
total_raised [] n = omega arith
total_raised (c ∷ cs) zero = omega arith
total_raised (c ∷ cs) (suc n) = let h = total_raised cs n in omega arith

pub count_of_total : (counts : List ℕ) (n : ℕ) → slice_index_or counts n 0 ≤ total counts
count_of_total [] n = omega arith
count_of_total (c ∷ cs) zero = omega arith
count_of_total (c ∷ cs) (suc n) = let h = count_of_total cs n in omega arith

-- ---- these come, too

pub holders_length : (counts : List ℕ) (xs : List Pending) → length (holder_counts counts xs) ≡ length counts
holders_length counts [] = refl
holders_length counts (AtHolder holder f ∷ xs) = holders_length (one_more_at counts holder) xs
    ∙ raised_length counts holder
holders_length counts (OnLink link number f ∷ xs) = holders_length counts xs

pub links_length : (counts : List ℕ) (xs : List Pending) → length (link_counts counts xs) ≡ length counts
links_length counts [] = refl
links_length counts (AtHolder holder f ∷ xs) = links_length counts xs
links_length counts (OnLink link number f ∷ xs) = links_length (one_more_at counts link) xs ∙ raised_length counts link

pub holders_total : (counts : List ℕ) (xs : List Pending) → total (holder_counts counts xs) ≤ total counts + length xs
holders_total counts [] = omega arith
holders_total counts (AtHolder holder f ∷ xs) = let h = holders_total (one_more_at counts holder) xs in
    let k = total_raised counts holder in omega arith
holders_total counts (OnLink link number f ∷ xs) = let h = holders_total counts xs in omega arith

pub links_total : (counts : List ℕ) (xs : List Pending) → total (link_counts counts xs) ≤ total counts + length xs
links_total counts [] = omega arith
links_total counts (AtHolder holder f ∷ xs) = let h = links_total counts xs in omega arith
links_total counts (OnLink link number f ∷ xs) = let h = links_total (one_more_at counts link) xs in
    let k = total_raised counts link in omega arith

pub holders_joined : (counts : List ℕ) (xs ys : List Pending) → holder_counts counts (xs ++ ys)
    ≡ holder_counts (holder_counts counts xs) ys
holders_joined counts [] ys = refl
holders_joined counts (AtHolder holder f ∷ xs) ys = holders_joined (one_more_at counts holder) xs ys
holders_joined counts (OnLink link number f ∷ xs) ys = holders_joined counts xs ys

pub links_joined : (counts : List ℕ) (xs ys : List Pending) → link_counts counts (xs ++ ys)
    ≡ link_counts (link_counts counts xs) ys
links_joined counts [] ys = refl
links_joined counts (AtHolder holder f ∷ xs) ys = links_joined counts xs ys
links_joined counts (OnLink link number f ∷ xs) ys = links_joined (one_more_at counts link) xs ys

no_total : (n : ℕ) → total (replicate n 0) ≡ 0
no_total zero = refl
no_total (suc n) = let h = no_total n in let e : 0 + total (replicate n 0) ≡ 0 = omega arith in e

pub total_nobody : {A : Type 0} (xs : List A) → total (zeros_for xs) ≡ 0
total_nobody xs = no_total (length xs)

pub length_nobody : {A : Type 0} (xs : List A) → length (zeros_for xs) ≡ length xs
length_nobody xs = length-replicate (length xs) 0

-- ---- one after another

pub next_holder : (k : ℕ) (xs : List Pending) (d : Pending) (counts new all : List ℕ) → k < length xs → new
    ≡ holder_counts counts (get_or xs k d ∷ []) → holder_counts counts (drop k xs) ≡ all
    → holder_counts new (drop (k + 1) xs) ≡ all
next_holder k xs d counts new all lt is h =
    subst (λ m. holder_counts new (drop m xs) ≡ all) (sym (add-one k)) (go k xs lt is h)
  where
    step : (y : Pending) (ys : List Pending) → new ≡ holder_counts counts (y ∷ []) → holder_counts counts (y ∷ ys) ≡ all
        → holder_counts new ys ≡ all
    step y ys e a = ap (λ cs. holder_counts cs ys) e ∙ sym (holders_joined counts (y ∷ []) ys) ∙ a

    go : (i : ℕ) (ys : List Pending) → i < length ys → new ≡ holder_counts counts (get_or ys i d ∷ [])
        → holder_counts counts (drop i ys) ≡ all → holder_counts new (drop (suc i) ys) ≡ all
    go i [] l e a = absurd (omega arith)
    go zero (y ∷ ys) l e a = step y ys e a
    go (suc i) (y ∷ ys) l e a = go i ys (le_of_suc-le-suc l) e a

pub next_link : (k : ℕ) (xs : List Pending) (d : Pending) (counts new all : List ℕ) → k < length xs → new
    ≡ link_counts counts (get_or xs k d ∷ []) → link_counts counts (drop k xs) ≡ all → link_counts new (drop (k + 1) xs)
    ≡ all
next_link k xs d counts new all lt is h =
    subst (λ m. link_counts new (drop m xs) ≡ all) (sym (add-one k)) (go k xs lt is h)
  where
    step : (y : Pending) (ys : List Pending) → new ≡ link_counts counts (y ∷ []) → link_counts counts (y ∷ ys) ≡ all
        → link_counts new ys ≡ all
    step y ys e a = ap (λ cs. link_counts cs ys) e ∙ sym (links_joined counts (y ∷ []) ys) ∙ a

    go : (i : ℕ) (ys : List Pending) → i < length ys → new ≡ link_counts counts (get_or ys i d ∷ [])
        → link_counts counts (drop i ys) ≡ all → link_counts new (drop (suc i) ys) ≡ all
    go i [] l e a = absurd (omega arith)
    go zero (y ∷ ys) l e a = step y ys e a
    go (suc i) (y ∷ ys) l e a = go i ys (le_of_suc-le-suc l) e a

pub all_here : (P : Pending → Type 0) (xs : List Pending) (k : ℕ) (d : Pending) → AllByRecursion P xs → k < length xs
    → P (get_or xs k d)
all_here P [] k d all lt = absurd (omega arith)
all_here P (x ∷ xs) zero d all lt = all.0
all_here P (x ∷ xs) (suc k) d all lt = all_here P xs k d all.1 (le_of_suc-le-suc lt)
