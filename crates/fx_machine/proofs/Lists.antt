-- The machine's lists, place by place.
use Rattle.std.proofs.Common.{◌≡◌, ℕ, zero, suc, ◌+◌, ◌-◌, ◌<◌, ◌≤◌, true, false, cond, List, [], ◌∷◌, ◌++◌, length, take, set, get_or, Option, append_assoc, append-nil, length-append, refl, sym, ap, ◌∙◌, subst, arith, add-one, le_of_suc-le-suc}
use Rattle.fx_base.specs.declared.counts.Counts.{Counts}
use Rattle.fx_base.specs.Counts.{add_counts}
use Rattle.fx_layout.specs.Keys.{Key, same_key}
use Rattle.fx_tables.specs.declared.record.Record.{Record}
use Rattle.fx_machine.specs.Sends.{put_all, link_list, links_of}
use Rattle.fx_machine.specs.Places.{NoneBefore, FirstAt}
use Rattle.fx_machine.specs.States.{add_at, put_last, nothing_at, all_empty}

-- lists at places, of which each is empty
pub nothing_empty : {A : Type 0} (xs : List A) → all_empty (nothing_at xs) ≡ true
nothing_empty [] = refl
nothing_empty (x ∷ xs) = nothing_empty xs

pub length_nothing : {A : Type 0} (xs : List A) → length (nothing_at xs) ≡ length xs
length_nothing [] = refl
length_nothing (x ∷ xs) = ap suc (length_nothing xs)

-- a record put last at a place that is there
pub put_last_is : (rss : List (List Record)) (n : ℕ) (d new : List Record) (r : Record) → n < length rss → new
    ≡ get_or rss n d ++ r ∷ [] → set rss n new ≡ put_last rss n r
put_last_is [] n d new r lt e = absurd (omega arith)
put_last_is (rs ∷ rss) zero d new r lt e = ap (λ x. x ∷ rss) e
put_last_is (rs ∷ rss) (suc n) d new r lt e = ap (λ xs. rs ∷ xs) (put_last_is rss n d new r (le_of_suc-le-suc lt) e)

pub put_last_past : (rss : List (List Record)) (n : ℕ) (r : Record) → length rss ≤ n → put_last rss n r ≡ rss
put_last_past [] n r le = refl
put_last_past (rs ∷ rss) zero r le = absurd (omega arith)
put_last_past (rs ∷ rss) (suc n) r le = ap (λ xss. rs ∷ xss) (put_last_past rss n r (le_of_suc-le-suc le))

pub none_more : (n : ℕ) (ts : List Record) (key : Key) (d : Record) → n < length ts → same_key (get_or ts n d).key key
    ≡ false → NoneBefore n ts key → NoneBefore (n + 1) ts key
none_more n ts key d lt e h = subst (λ m. NoneBefore m ts key) (sym (add-one n)) (go n ts lt e h)
  where
    go : (n : ℕ) (ts : List Record) → n < length ts → same_key (get_or ts n d).key key ≡ false → NoneBefore n ts key
        → NoneBefore (suc n) ts key
    go n [] lt e h = tt
    go zero (t ∷ ts) lt e h = (e, tt)
    go (suc n) (t ∷ ts) lt e h = (h.0, go n ts (le_of_suc-le-suc lt) e h.1)

pub add_at_found : (n : ℕ) (ts : List Record) (key : Key) (counts : Counts) (d new : Record) → n < length ts
    → same_key (get_or ts n d).key key ≡ true → NoneBefore n ts key → new
    ≡ record { key = (get_or ts n d).key; counts = add_counts (get_or ts n d).counts counts } → set ts n new
    ≡ add_at ts key counts
add_at_found n [] key counts d new lt e h is = absurd (omega arith)
add_at_found zero (t ∷ ts) key counts d new lt e h is =
    ap (λ x. x ∷ ts) is ∙ ap (λ b. cond b (record { key = t.key; counts = add_counts t.counts counts } ∷ ts)
    (t ∷ add_at ts key counts)) (sym e)
add_at_found (suc n) (t ∷ ts) key counts d new lt e h is =
    ap (λ xs. t ∷ xs) (add_at_found n ts key counts d new (le_of_suc-le-suc lt) e h.1 is)
    ∙ ap (λ b. cond b (record { key = t.key; counts = add_counts t.counts counts } ∷ ts) (t ∷ add_at ts key counts))
    (sym h.0)

pub add_at_none : (n : ℕ) (ts : List Record) (key : Key) (counts : Counts) → length ts ≤ n → NoneBefore n ts key → ts
    ++ record { key = key; counts = counts } ∷ [] ≡ add_at ts key counts
add_at_none n [] key counts le h = refl
add_at_none zero (t ∷ ts) key counts le h = absurd (omega arith)
add_at_none (suc n) (t ∷ ts) key counts le h =
    ap (λ xs. t ∷ xs) (add_at_none n ts key counts (le_of_suc-le-suc le) h.1)
    ∙ ap (λ b. cond b (record { key = t.key; counts = add_counts t.counts counts } ∷ ts) (t ∷ add_at ts key counts))
    (sym h.0)

-- what a change at the first place makes
pub first_found : (n : ℕ) (ts : List Record) (key : Key) (counts : Counts) (old new : Record) → FirstAt n ts key → old
    ≡ get_or ts n old → new ≡ record { key = old.key; counts = add_counts old.counts counts } → set ts n new
    ≡ add_at ts key counts
first_found n ts key counts old new f o is =
    add_at_found n ts key counts old new f.within (f.here old) f.before
    (is ∙ ap (λ (x : Record). record { key = x.key; counts = add_counts x.counts counts }) o)

take_front : (rs ys : List Record) → take (length rs) (rs ++ ys) ≡ rs
take_front [] ys = refl
take_front (r ∷ rs) ys = ap (λ xs. r ∷ xs) (take_front rs ys)

without_last : (rs : List Record) (r : Record) → take (length (rs ++ r ∷ []) - 1) (rs ++ r ∷ []) ≡ rs
without_last rs r =
    let n : length (rs ++ r ∷ []) - 1 ≡ length rs = omega (arith, length-append rs (r ∷ [])) in
    ap (λ m. take m (rs ++ r ∷ [])) n ∙ take_front rs (r ∷ [])

put_and_taken : (rss : List (List Record)) (n : ℕ) (r : Record) (d : List Record) → n < length (put_last rss n r)
    → set (put_last rss n r) n (take (length (get_or (put_last rss n r) n d) - 1) (get_or (put_last rss n r) n d)) ≡ rss
put_and_taken [] n r d lt = refl
put_and_taken (rs ∷ rss) zero r d lt = ap (λ x. x ∷ rss) (without_last rs r)
put_and_taken (rs ∷ rss) (suc n) r d lt = ap (λ xs. rs ∷ xs) (put_and_taken rss n r d (le_of_suc-le-suc lt))

-- what was put last is taken back
pub taken_back : (rss : List (List Record)) (n : ℕ) (r : Record) (now : List (List Record)) (old new : List Record)
    → now ≡ put_last rss n r → n < length now → old ≡ get_or now n old → new ≡ take (length old - 1) old → set now n new
    ≡ rss
taken_back rss n r now old new e lt o is =
    let P : List (List Record) → Type 0 = λ xss. n < length xss → old ≡ get_or xss n old → set xss n new ≡ rss in
    subst P (sym e) (λ l. λ q. ap (set (put_last rss n r) n) (is ∙ ap (λ (x : List Record). take (length x - 1) x) q)
    ∙ put_and_taken rss n r old l) lt o

pub length_put_last : (rss : List (List Record)) (n : ℕ) (r : Record) → length (put_last rss n r) ≡ length rss
length_put_last [] n r = refl
length_put_last (rs ∷ rss) zero r = refl
length_put_last (rs ∷ rss) (suc n) r = ap suc (length_put_last rss n r)

pub nothing_put : (rss : List (List Record)) (n : ℕ) (r : Record) (now : List (List Record)) → now ≡ put_last rss n r
    → length now ≤ n → now ≡ rss
nothing_put rss n r now e le =
    let same : length now ≡ length rss = ap length e ∙ length_put_last rss n r in
    e ∙ put_last_past rss n r (omega arith)

pub put_all_whole : (links : List ℕ) (r : Record) (rss : List (List Record)) → put_all (take (length links) links) r rss
    ≡ put_all links r rss
put_all_whole [] r rss = refl
put_all_whole (l ∷ ls) r rss = put_all_whole ls r (put_last rss l r)

pub put_all_more : (links : List ℕ) (n : ℕ) (r : Record) (rss : List (List Record)) (d : ℕ) → n < length links
    → put_last (put_all (take n links) r rss) (get_or links n d) r ≡ put_all (take (n + 1) links) r rss
put_all_more links n r rss d lt = subst (λ m. put_last (put_all (take n links) r rss) (get_or links n d) r
    ≡ put_all (take m links) r rss) (sym (add-one n)) (go links n rss lt)
  where
    go : (links : List ℕ) (n : ℕ) (rss : List (List Record)) → n < length links
        → put_last (put_all (take n links) r rss) (get_or links n d) r ≡ put_all (take (suc n) links) r rss
    go [] n rss lt = absurd (omega arith)
    go (l ∷ ls) zero rss lt = refl
    go (l ∷ ls) (suc n) rss lt = go ls n (put_last rss l r) (le_of_suc-le-suc lt)

pub links_more : (ds : List (Option ℕ)) (n : ℕ) (d : Option ℕ) → n < length ds → links_of (take (n + 1) ds)
    ≡ links_of (take n ds) ++ link_list (get_or ds n d)
links_more ds n d lt = subst (λ m. links_of (take m ds) ≡ links_of (take n ds) ++ link_list (get_or ds n d))
    (sym (add-one n)) (go ds n lt)
  where
    go : (ds : List (Option ℕ)) (n : ℕ) → n < length ds → links_of (take (suc n) ds) ≡ links_of (take n ds)
        ++ link_list (get_or ds n d)
    go [] n lt = absurd (omega arith)
    go (e ∷ es) zero lt = append-nil (link_list e)
    go (e ∷ es) (suc n) lt = ap (λ ls. link_list e ++ ls) (go es n (le_of_suc-le-suc lt))
        ∙ sym (append_assoc (link_list e) (links_of (take n es)) (link_list (get_or es n d)))
