-- What stands at places of lists of links and of records.
use Rattle.std.proofs.Common.{◌≡◌, ℕ, zero, suc, ◌==◌, Bool, true, false, cond, List, [], ◌∷◌, ◌++◌, length, Option, Some, None, option_map, refl, sym, ap, ◌∙◌, slice_get, slice_set}
use Rattle.std.specs.Prelude.{map}
use Rattle.std.specs.List.{AllByRecursion}
use Rattle.std.proofs.lemmas.Bool.{eqb-true, eqb-false}
use Rattle.fx_tables.specs.declared.record.Record.{Record}
use Rattle.fx_machine.specs.States.{put_last}
use Rattle.fx_machine.specs.Sends.{put_all}
use Rattle.fx_link.specs.Sending.{IsSent}
use Rattle.fx_link.specs.Outgoing.{Outgoing, with_one, with_all}
use Rattle.fx_link.specs.Ongoing.{Ongoing}
use Rattle.fx_net.specs.Contents.{with_changed}
use Rattle.fx_net.specs.Exporting.{with_waiting, put_each}
use Rattle.fx_runs.specs.Given.{records_given}
use Rattle.fx_conform.proofs.Places.{changed_other}

-- ---- entries

pub same_some : {A : Type 0} (x y : A) → Some x ≡ Some y → x ≡ y
same_some x y e = cc

-- what stands there was made of an entry
pub made_of : {A : Type 0} {B : Type 0} (f : A → B) (o : Option A) (y : B) → option_map f o ≡ Some y → (x : A)
    × (o ≡ Some x) × (f x ≡ y)
made_of f None y e = absurd (cc)
made_of f (Some x) y e = (x, refl, same_some (f x) y e)

pub map_at : {A : Type 0} {B : Type 0} (f : A → B) (xs : List A) (n : ℕ) → slice_get (map f xs) n
    ≡ option_map f (slice_get xs n)
map_at f [] n = refl
map_at f (x ∷ xs) zero = refl
map_at f (x ∷ xs) (suc n) = map_at f xs n

pub changed_here : {A : Type 0} (f : A → A) (xs : List A) (n : ℕ) → slice_get (with_changed f xs n) n
    ≡ option_map f (slice_get xs n)
changed_here f [] n = refl
changed_here f (x ∷ xs) zero = refl
changed_here f (x ∷ xs) (suc n) = changed_here f xs n

-- ---- lengths

pub mapped_many : {A : Type 0} {B : Type 0} (f : A → B) (xs : List A) → length (map f xs) ≡ length xs
mapped_many f [] = refl
mapped_many f (x ∷ xs) = ap suc (mapped_many f xs)

pub changed_many : {A : Type 0} (f : A → A) (xs : List A) (n : ℕ) → length (with_changed f xs n) ≡ length xs
changed_many f [] n = refl
changed_many f (x ∷ xs) zero = refl
changed_many f (x ∷ xs) (suc n) = ap suc (changed_many f xs n)

pub set_many : {A : Type 0} (xs : List A) (n : ℕ) (y : A) → length (slice_set xs n y) ≡ length xs
set_many [] n y = refl
set_many (x ∷ xs) zero y = refl
set_many (x ∷ xs) (suc n) y = ap suc (set_many xs n y)

last_many : (rss : List (List Record)) (n : ℕ) (r : Record) → length (put_last rss n r) ≡ length rss
last_many [] n r = refl
last_many (rs ∷ rss) zero r = refl
last_many (rs ∷ rss) (suc n) r = ap suc (last_many rss n r)

pub put_all_many : (places : List ℕ) (r : Record) (rss : List (List Record)) → length (put_all places r rss)
    ≡ length rss
put_all_many [] r rss = refl
put_all_many (l ∷ ls) r rss = put_all_many ls r (put_last rss l r) ∙ last_many rss l r

pub put_each_many : (time : ℕ) (r : Record) (places : List ℕ) (links : List Ongoing)
    → length (put_each time r places links) ≡ length links
put_each_many time r [] links = refl
put_each_many time r (l ∷ ls) links = put_each_many time r ls (with_changed (with_waiting time r) links l)
    ∙ changed_many (with_waiting time r) links l

-- ---- records that all are so

pub all_both : {A : Type 0} (P : A → Type 0) (xs ys : List A) → AllByRecursion P xs → AllByRecursion P ys
    → AllByRecursion P (xs ++ ys)
all_both P [] ys h k = k
all_both P (x ∷ xs) ys h k = (h.0, all_both P xs ys h.1 k)

pub all_later : {A : Type 0} (P : A → Type 0) (xs ys : List A) → AllByRecursion P (xs ++ ys) → AllByRecursion P ys
all_later P [] ys h = h
all_later P (x ∷ xs) ys h = all_later P xs ys h.1

pub given_sent : (places : List ℕ) (r : Record) (link : ℕ) → IsSent r
    → AllByRecursion IsSent (records_given places r link)
given_sent [] r link s = tt
given_sent (l ∷ ls) r link s = by (given_sent ls r link s) (l == link) where
  by : AllByRecursion IsSent (records_given ls r link) → (b : Bool)
      → AllByRecursion IsSent (cond b (r ∷ []) [] ++ records_given ls r link)
  by ih true = (s, ih)
  by ih false = ih

-- ---- records that wait on links

-- some records more wait on a link
abbrev pub putting : ℕ → List Record → Ongoing → Ongoing
putting time rs o = record o { outgoing = with_all time o.outgoing rs }

pub with_more : (time : ℕ) (xs ys : List Record) (o : Outgoing) → with_all time o (xs ++ ys)
    ≡ with_all time (with_all time o xs) ys
with_more time [] ys o = refl
with_more time (x ∷ xs) ys o = with_more time xs ys (with_one time o x)

none_put : (time : ℕ) (o : Option Ongoing) → o ≡ option_map (putting time []) o
none_put time None = refl
none_put time (Some o) = refl

both_put : (time : ℕ) (xs ys : List Record) (o : Option Ongoing)
    → option_map (putting time ys) (option_map (putting time xs) o) ≡ option_map (putting time (xs ++ ys)) o
both_put time xs ys None = refl
both_put time xs ys (Some o) = ap (λ (x : Outgoing). let p : Option Ongoing = Some (record o { outgoing = x }) in p)
    (sym (with_more time xs ys o.outgoing))

one_put : (time : ℕ) (r : Record) (links : List Ongoing) (l link : ℕ) (b : Bool) → (l == link) ≡ b
    → slice_get (with_changed (with_waiting time r) links l) link
    ≡ option_map (putting time (cond b (r ∷ []) [])) (slice_get links link)
one_put time r links l link true e =
    ap (λ (n : ℕ). slice_get (with_changed (with_waiting time r) links n) link) (eqb-true l link e)
    ∙ changed_here (with_waiting time r) links link
one_put time r links l link false e =
    changed_other (with_waiting time r) links l link (λ same. eqb-false l link e (sym same))
    ∙ none_put time (slice_get links link)

-- a record that is put on some links waits on each as often as the link is one of them
pub put_each_at : (time : ℕ) (r : Record) (places : List ℕ) (links : List Ongoing) (link : ℕ)
    → slice_get (put_each time r places links) link
    ≡ option_map (putting time (records_given places r link)) (slice_get links link)
put_each_at time r [] links link = none_put time (slice_get links link)
put_each_at time r (l ∷ ls) links link =
    put_each_at time r ls (with_changed (with_waiting time r) links l) link
    ∙ ap (option_map (putting time (records_given ls r link))) (one_put time r links l link (l == link) refl)
    ∙ both_put time (cond (l == link) (r ∷ []) []) (records_given ls r link) (slice_get links link)
