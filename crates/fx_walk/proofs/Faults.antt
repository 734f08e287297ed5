-- The first of several faults, and the faults of a member.
use Rattle.std.proofs.Common.{◌≡◌, ℕ, List, [], ◌∷◌, ◌++◌, Option, Some, None, is_some, option_map, Result, Ok, Err, refl, sym, ap, ◌∙◌, rules, Bor, map, not, String, Global, string_bytes, cond, Bool, true, false}
use Rattle.std.specs.Result.{IsErr, IsErrAnd}
use Rattle.std.specs.List.{list_any, find}
use Rattle.std.specs.Str.{bytes_eq}
use Rattle.std.specs.Map.{keys_of}
use Rattle.serde_json.specs.View.{members_view}
use Rattle.serde_json.specs.declared.value.Value.{Value}
use Rattle.fx_base.specs.declared.fault.Fault.{Fault}
use Rattle.fx_base.specs.declared.fault.Place.{Place}
use Rattle.fx_base.specs.declared.fault.Place.TheVariants as places
use Rattle.fx_walk.specs.declared.path.DocumentPath.{DocumentPath, Root, Member, Item, the_lemmas}
use Rattle.fx_walk.specs.Pointer.{pointer, below, nth}
use Rattle.fx_walk.specs.Walk.{FoundFault, first, refuses, Refuses, Reads, others, is_listed}

pub pointer-Root : pointer Root ≡ []
pointer-Root = search (rules, the_lemmas)

pub pointer-Member : (up : Bor DocumentPath) (name : Bor (List ℕ)) → pointer (Member up name)
    ≡ below (pointer up.now) name.now
pointer-Member up name = search (rules, the_lemmas)

pub pointer-Item : (up : Bor DocumentPath) (i : ℕ) → pointer (Item up i) ≡ nth (pointer up.now) i
pointer-Item up i = search (rules, the_lemmas)

first-append : (f : FoundFault) (a b : List FoundFault) → first a ≡ Some f → first (a ++ b) ≡ Some f
first-append f [] b e = absurd cc
first-append f (g ∷ a) b e = e

more : (n : ℕ) (p : Place) (a b : List FoundFault) → refuses n p a → refuses n p (a ++ b)
more n places.None a b h = h
more n (places.Text s) a b h = first-append _ a b h
more n (places.Line l) a b h = absurd h
more n (places.Octet o) a b h = absurd h

-- what follows the faults that are met changes nothing
pub refuses_more : (e : Fault) (a b : List FoundFault) → Refuses e a → Refuses e (a ++ b)
refuses_more e a b h = more e.number e.place a b h

first_of : (n : ℕ) (p : Place) (f : FoundFault) (a : List FoundFault) → first a ≡ Some f → refuses n p (f ∷ [])
    → refuses n p a
first_of n places.None f a e h = h
first_of n (places.Text s) f a e h = e ∙ h
first_of n (places.Line l) f a e h = absurd h
first_of n (places.Octet o) f a e h = absurd h

-- the first of these faults, alone or with others behind it
pub refuses_first : (e : Fault) (f : FoundFault) (a : List FoundFault) → first a ≡ Some f → Refuses e (f ∷ [])
    → Refuses e a
refuses_first e f a is h = first_of e.number e.place f a is h

-- the exit of a `?`
pub exit : {X : Type 0} (fs : List FoundFault) (x : X) (r : Result X Fault) (e : Fault) → IsErr r
    × IsErrAnd r (λ d. d ≡ e) → Refuses e fs → Reads fs x r
exit fs x (Ok y) e h refused = absurd h.1
exit fs x (Err d) e h refused = rw h.1 refused

none_cond : {A : Type 0} (b : Bool) (x : A) (rest : Option A) (k : List ℕ) (ks : List (List ℕ))
    (g : List ℕ → FoundFault) → None ≡ cond (not b) (Some x) rest → (None ≡ rest → map g ks ≡ [])
    → map g (cond (not b) (k ∷ ks) ks) ≡ []
none_cond true x rest k ks g h next = next h
none_cond false x rest k ks g h next = absurd cc

some_cond : {A : Type 0} (b : Bool) (x y : A) (text : A → List ℕ) (rest : Option A) (ks : List (List ℕ))
    (g : List ℕ → FoundFault) → Some y ≡ cond (not b) (Some x) rest
    → (Some y ≡ rest → first (map g ks) ≡ Some (g (text y))) → first (map g (cond (not b) (text x ∷ ks) ks))
    ≡ Some (g (text y))
some_cond true x y text rest ks g h next = next h
some_cond {A} false x y text rest ks g h next = let e : x ≡ y = cc in ap (λ (z : A). Some (g (text z))) e

-- no member stands out, and one does
pub none_other : (may : List ℕ → Bool) (up : List ℕ) (es : List (String Global × Value)) → None
    ≡ find (λ k. not (may (string_bytes k))) (keys_of es) → others may up (members_view es) ≡ []
none_other may up [] h = refl
none_other may up (e ∷ es) h =
    none_cond (may (string_bytes e.0)) e.0 _ (string_bytes e.0) _ (λ k. (102, below up k)) h (none_other may up es)

first_other : (may : List ℕ → Bool) (up : List ℕ) (es : List (String Global × Value)) (k : String Global) → Some k
    ≡ find (λ k. not (may (string_bytes k))) (keys_of es) → first (others may up (members_view es))
    ≡ Some (102, below up (string_bytes k))
first_other may up [] k h = absurd cc
first_other may up (e ∷ es) k h =
    some_cond (may (string_bytes e.0)) e.0 k string_bytes _ _ (λ k. (102, below up k)) h (first_other may up es k)

pub other_refused : (e : Fault) (may : List ℕ → Bool) (up : List ℕ) (es : List (String Global × Value))
    (k : String Global) (rest : List FoundFault) → Some k ≡ find (λ k. not (may (string_bytes k))) (keys_of es)
    → Refuses e ((102, below up (string_bytes k)) ∷ []) → Refuses e (others may up (members_view es) ++ rest)
other_refused e may up es k rest is h =
    refuses_more e (others may up (members_view es)) rest
    (refuses_first e (102, below up (string_bytes k)) (others may up (members_view es)) (first_other may up es k is)
    h)

any_map : (listed : List (Bor (List ℕ))) (k : List ℕ) → list_any (λ t. bytes_eq t k) (map (λ t. t.now) listed)
    ≡ list_any (λ t. bytes_eq t.now k) listed
any_map [] k = refl
any_map (t ∷ ts) k = rw (any_map ts k) refl

pub listed-now : (listed : List (Bor (List ℕ))) (k : List ℕ) → list_any (λ t. bytes_eq t.now k) listed
    ≡ is_listed (map (λ t. t.now) listed) k
listed-now listed k = sym (any_map listed k)

pub is_some-option_map : {X Y : Type 0} (f : X → Y) (o : Option X) → is_some (option_map f o) ≡ is_some o
is_some-option_map f None = refl
is_some-option_map f (Some x) = refl

-- where several faults are none, each of them is none
pub none_before : (a b : List FoundFault) → a ++ b ≡ [] → a ≡ []
none_before [] b h = refl
none_before (f ∷ a) b h = absurd cc

pub none_behind : (a b : List FoundFault) → a ++ b ≡ [] → b ≡ []
none_behind [] b h = h
none_behind (f ∷ a) b h = absurd cc
