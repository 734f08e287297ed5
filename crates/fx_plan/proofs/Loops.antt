-- Loops over a list: what one more item adds, and what is there at the end.
use Rattle.std.proofs.Common.{◌≡◌, ℕ, ◌+◌, ◌<◌, ◌≤◌, List, [], ◌∷◌, ◌++◌, length, get_or, take, drop, map, refl, sym, ap, ◌∙◌, append_assoc}
use Rattle.std.specs.List.{flat_map}
use Rattle.std.proofs.lemmas.List.{append-nil, take_more, take_all, drop_all, get_or_default, map_push, flat_map_more}
use Rattle.fx_topology.proofs.LinkByLink.{drop_item}

take_item : {X : Type 0} (xs : List X) (n : ℕ) (x : X) → n < length xs → x ≡ get_or xs n x → take (n + 1) xs ≡ take n xs
    ++ x ∷ []
take_item xs n x lt item = take_more xs n x lt ∙ ap (λ y. take n xs ++ y ∷ []) (sym item)

-- ---- a list that begins with some items, to which a loop adds what it makes of each item of another

pub one_made : {X Y : Type 0} (f : X → Y) (start : List Y) (xs : List X) (n : ℕ) (x : X) (y : Y) (before now : List Y)
    → n < length xs → x ≡ get_or xs n x → y ≡ f x → before ≡ start ++ map f (take n xs) → now ≡ before ++ y ∷ [] → now
    ≡ start ++ map f (take (n + 1) xs)
one_made f start xs n x y before now lt item made done push =
    rw (push, done, made, take_item xs n x lt item, map_push f (take n xs) x)
    (append_assoc start (map f (take n xs)) (f x ∷ []))

-- of an item that owns no memory, which may be read at any default
pub one_made_at : {X Y : Type 0} (f : X → Y) (start : List Y) (xs : List X) (n : ℕ) (d : X) (y : Y)
    (before now : List Y) → n < length xs → y ≡ f (get_or xs n d) → before ≡ start ++ map f (take n xs) → now ≡ before
    ++ y ∷ [] → now ≡ start ++ map f (take (n + 1) xs)
one_made_at f start xs n d y before now lt =
    one_made f start xs n (get_or xs n d) y before now lt (get_or_default xs n d (get_or xs n d) lt)

pub one_kept : {X : Type 0} (xs : List X) (n : ℕ) (x y : X) (before now : List X) → n < length xs → x ≡ get_or xs n x
    → y ≡ x → before ≡ take n xs → now ≡ before ++ y ∷ [] → now ≡ take (n + 1) xs
one_kept xs n x y before now lt item same done push = rw (push, done, same, take_item xs n x lt item) refl

pub all_made : {X Y : Type 0} (f : X → Y) (start : List Y) (xs : List X) (n : ℕ) (done : List Y) → length xs ≤ n → done
    ≡ start ++ map f (take n xs) → done ≡ start ++ map f xs
all_made f start xs n done le is = is ∙ ap (λ l. start ++ map f l) (take_all n xs le)

pub more_made : {X Y : Type 0} (f : X → List Y) (start : List Y) (xs : List X) (n : ℕ) (x : X) (before now : List Y) → n
    < length xs → x ≡ get_or xs n x → before ≡ start ++ flat_map f (take n xs) → now ≡ before ++ f x → now ≡ start
    ++ flat_map f (take (n + 1) xs)
more_made f start xs n x before now lt item done push =
    push ∙ (ap (λ l. l ++ f x) done ∙ (flat_map_more f start (take n xs) x
    ∙ ap (λ l. start ++ flat_map f l) (sym (take_item xs n x lt item))))

pub all_more_made : {X Y : Type 0} (f : X → List Y) (start : List Y) (xs : List X) (n : ℕ) (done : List Y) → length xs
    ≤ n → done ≡ start ++ flat_map f (take n xs) → done ≡ start ++ flat_map f xs
all_more_made f start xs n done le is = is ∙ ap (λ l. start ++ flat_map f l) (take_all n xs le)

-- ---- a list whose rest, from a number on, is made of what is left of another

pub one_left : {X Y : Type 0} (rest : ℕ → List X → List Y) (made : ℕ → X → List Y) (size : X → ℕ)
    → ((k : ℕ) (x : X) (xs : List X) → rest k (x ∷ xs) ≡ made k x ++ rest (k + size x) xs)
    → (xs : List X) (n k next : ℕ) (x : X) (before now all : List Y) → n < length xs → x ≡ get_or xs n x → next ≡ k
    + size x → before ++ rest k (drop n xs) ≡ all → now ≡ before ++ made k x → now ++ rest next (drop (n + 1) xs) ≡ all
one_left rest made size step xs n k next x before now all lt item more is push =
    rw (push, more) (append_assoc before (made k x) (rest (k + size x) (drop (n + 1) xs))
    ∙ (ap (λ l. before ++ l) (sym (ap (rest k) (drop_item xs n n x refl lt item) ∙ step k x (drop (n + 1) xs)))
    ∙ is))

pub none_left : {X Y : Type 0} (rest : ℕ → List X → List Y) → ((k : ℕ) → rest k [] ≡ [])
    → (xs : List X) (n k : ℕ) (done all : List Y) → length xs ≤ n → done ++ rest k (drop n xs) ≡ all → done ≡ all
none_left rest none xs n k done all le is =
    sym (append-nil done) ∙ (ap (λ l. done ++ l) (sym (ap (rest k) (drop_all n xs le) ∙ none k)) ∙ is)
