-- Weights add up in any order.
use Rattle.std.proofs.Common.{◌≡◌, ◌≢◌, ℕ, zero, suc, ◌+◌, ◌%◌, ◌^◌, ◌<◌, List, [], ◌∷◌, ◌++◌, length, Some, refl, sym, ap, ap₂, ◌∙◌, arith, add_assoc, add_comm, slice_get, slice_set, remove, le_of_suc-le-suc}
use Rattle.std.proofs.Math.Nat.{mod-add-mod, add-mod-mod}
use Rattle.fx_base.specs.declared.counts.Counts.{Counts}
use Rattle.fx_base.specs.Counts.{add_counts}
use Rattle.fx_tables.specs.declared.record.Record.{Record}
use Rattle.fx_base.specs.Entries.{entry_numbered}
use Rattle.fx_machine.specs.States.{with_entry, without, put_last}
use Rattle.fx_leaf.specs.Quantity.{Weight, Wrong, Nothing, Counted, plus, weigh_all, weigh_each}

pub sum_mod_assoc : (m a b c : ℕ) → ((a + b) % m + c) % m ≡ (a + (b + c) % m) % m
sum_mod_assoc m a b c =
    mod-add-mod (a + b) m c ∙ ap (λ n. n % m) (add_assoc a b c) ∙ sym (add-mod-mod a (b + c) m)

pub add_counts_assoc : (a b c : Counts) → add_counts (add_counts a b) c ≡ add_counts a (add_counts b c)
add_counts_assoc a b c =
    ap₂ (λ (p o : ℕ). record { packets = p; octets = o }) (sum_mod_assoc (2 ^ 64) a.packets b.packets c.packets)
    (sum_mod_assoc (2 ^ 64) a.octets b.octets c.octets)

pub add_counts_comm : (a b : Counts) → add_counts a b ≡ add_counts b a
add_counts_comm a b =
    ap₂ (λ (p o : ℕ). record { packets = p; octets = o }) (ap (λ n. n % 2 ^ 64) (add_comm a.packets b.packets))
    (ap (λ n. n % 2 ^ 64) (add_comm a.octets b.octets))

pub plus_assoc : (x y z : Weight) → plus (plus x y) z ≡ plus x (plus y z)
plus_assoc Wrong y z = refl
plus_assoc Nothing y z = refl
plus_assoc (Counted a) Wrong z = refl
plus_assoc (Counted a) Nothing z = refl
plus_assoc (Counted a) (Counted b) Wrong = refl
plus_assoc (Counted a) (Counted b) Nothing = refl
plus_assoc (Counted a) (Counted b) (Counted c) = ap Counted (add_counts_assoc a b c)

pub plus_comm : (x y : Weight) → plus x y ≡ plus y x
plus_comm Wrong Wrong = refl
plus_comm Wrong Nothing = refl
plus_comm Wrong (Counted b) = refl
plus_comm Nothing Wrong = refl
plus_comm Nothing Nothing = refl
plus_comm Nothing (Counted b) = refl
plus_comm (Counted a) Wrong = refl
plus_comm (Counted a) Nothing = refl
plus_comm (Counted a) (Counted b) = ap Counted (add_counts_comm a b)

pub plus_nothing : (x : Weight) → plus x Nothing ≡ x
plus_nothing Wrong = refl
plus_nothing Nothing = refl
plus_nothing (Counted a) = refl

pub plus_wrong : (x : Weight) → plus x Wrong ≡ Wrong
plus_wrong Wrong = refl
plus_wrong Nothing = refl
plus_wrong (Counted a) = refl

pub left_right : (x y : Weight) → plus x y ≢ Wrong → x ≢ Wrong
left_right x y h e = h (ap (λ v. plus v y) e)

pub right_right : (x y : Weight) → plus x y ≢ Wrong → y ≢ Wrong
right_right x y h e = h (ap (plus x) e ∙ plus_wrong x)

-- more weight in front, or behind, is more weight in all
pub in_front : (x y w : Weight) → plus (plus x w) y ≡ plus (plus x y) w
in_front x y w = plus_assoc x w y ∙ ap (plus x) (plus_comm w y) ∙ sym (plus_assoc x y w)

pub behind : (x y w : Weight) → plus x (plus y w) ≡ plus (plus x y) w
behind x y w = sym (plus_assoc x y w)

module _ {A : Type 0} where
  pub weigh_append : (f : A → Weight) (xs ys : List A) → weigh_all f (xs ++ ys) ≡ plus (weigh_all f xs) (weigh_all f ys)
  weigh_append f [] ys = refl
  weigh_append f (x ∷ xs) ys = ap (plus (f x)) (weigh_append f xs ys)
      ∙ sym (plus_assoc (f x) (weigh_all f xs) (weigh_all f ys))

  pub weigh_last : (f : A → Weight) (xs : List A) (x : A) → weigh_all f (xs ++ x ∷ []) ≡ plus (weigh_all f xs) (f x)
  weigh_last f xs x = weigh_append f xs (x ∷ []) ∙ ap (plus (weigh_all f xs)) (plus_nothing (f x))

  pub weigh_remove : (f : A → Weight) (xs : List A) (n : ℕ) (x : A) → slice_get xs n ≡ Some x → weigh_all f xs
      ≡ plus (weigh_all f (remove xs n)) (f x)
  weigh_remove f [] n x h = absurd (cc)
  weigh_remove f (y ∷ ys) zero x h = let e : y ≡ x = cc in
      plus_comm (f y) (weigh_all f ys) ∙ ap (λ z. plus (weigh_all f ys) (f z)) e
  weigh_remove f (y ∷ ys) (suc n) x h =
      ap (plus (f y)) (weigh_remove f ys n x h) ∙ behind (f y) (weigh_all f (remove ys n)) (f x)

  pub weigh_without : (f : A → Weight) (xs : List A) (n : ℕ) (x : A) → entry_numbered xs n ≡ Some x → weigh_all f xs
      ≡ plus (weigh_all f (without xs n)) (f x)
  weigh_without f xs zero x h = absurd (cc)
  weigh_without f xs (suc n) x h = weigh_remove f xs n x h

  weigh_set : (f : A → Weight) (xs : List A) (n : ℕ) (x y : A) (w : Weight) → slice_get xs n ≡ Some x → f y
      ≡ plus (f x) w → weigh_all f (slice_set xs n y) ≡ plus (weigh_all f xs) w
  weigh_set f [] n x y w h e = absurd (cc)
  weigh_set f (z ∷ zs) zero x y w h e =
      let same : z ≡ x = cc in
      ap (λ v. plus v (weigh_all f zs)) (e ∙ ap (λ v. plus (f v) w) (sym same)) ∙ in_front (f z) (weigh_all f zs) w
  weigh_set f (z ∷ zs) (suc n) x y w h e = ap (plus (f z)) (weigh_set f zs n x y w h e)
      ∙ behind (f z) (weigh_all f zs) w

  pub weigh_replaced : (f : A → Weight) (xs : List A) (n : ℕ) (x y : A) (w : Weight) → entry_numbered xs n ≡ Some x
      → f y ≡ plus (f x) w → weigh_all f (with_entry xs n y) ≡ plus (weigh_all f xs) w
  weigh_replaced f xs zero x y w h e = absurd (cc)
  weigh_replaced f xs (suc n) x y w h e = weigh_set f xs n x y w h e

  pub weigh_each_set : (f : ℕ → A → Weight) (xs : List A) (n : ℕ) (x y : A) (w : Weight) → slice_get xs n ≡ Some x
      → f n y ≡ plus (f n x) w → weigh_each f (slice_set xs n y) ≡ plus (weigh_each f xs) w
  weigh_each_set f [] n x y w h e = absurd (cc)
  weigh_each_set f (z ∷ zs) zero x y w h e =
      let same : z ≡ x = cc in
      ap (λ v. plus v (weigh_each (λ k. f (suc k)) zs)) (e ∙ ap (λ v. plus (f 0 v) w) (sym same))
      ∙ in_front (f 0 z) (weigh_each (λ k. f (suc k)) zs) w
  weigh_each_set f (z ∷ zs) (suc n) x y w h e =
      ap (plus (f 0 z)) (weigh_each_set (λ k. f (suc k)) zs n x y w h e)
      ∙ behind (f 0 z) (weigh_each (λ k. f (suc k)) zs) w

  pub weigh_each_less : (f : ℕ → A → Weight) (xs : List A) (n : ℕ) (x y : A) (w : Weight) → slice_get xs n ≡ Some x
      → f n x ≡ plus (f n y) w → weigh_each f xs ≡ plus (weigh_each f (slice_set xs n y)) w
  weigh_each_less f [] n x y w h e = absurd (cc)
  weigh_each_less f (z ∷ zs) zero x y w h e =
      let same : z ≡ x = cc in
      ap (λ v. plus (f 0 v) (weigh_each (λ k. f (suc k)) zs)) same ∙ ap (λ v. plus v (weigh_each (λ k. f (suc k)) zs)) e
      ∙ in_front (f 0 y) (weigh_each (λ k. f (suc k)) zs) w
  weigh_each_less f (z ∷ zs) (suc n) x y w h e =
      ap (plus (f 0 z)) (weigh_each_less (λ k. f (suc k)) zs n x y w h e)
      ∙ behind (f 0 z) (weigh_each (λ k. f (suc k)) (slice_set zs n y)) w

-- a record that comes last at a place
pub weigh_put_last : (f : ℕ → List Record → Weight) (rss : List (List Record)) (n : ℕ) (r : Record) (w : Weight) → n
    < length rss → ((rs : List Record) → f n (rs ++ r ∷ []) ≡ plus (f n rs) w) → weigh_each f (put_last rss n r)
    ≡ plus (weigh_each f rss) w
weigh_put_last f [] n r w lt e = absurd (omega arith)
weigh_put_last f (rs ∷ rss) zero r w lt e =
    ap (λ v. plus v (weigh_each (λ k. f (suc k)) rss)) (e rs) ∙ in_front (f 0 rs) (weigh_each (λ k. f (suc k)) rss) w
weigh_put_last f (rs ∷ rss) (suc n) r w lt e =
    ap (plus (f 0 rs)) (weigh_put_last (λ k. f (suc k)) rss n r w (le_of_suc-le-suc lt) e)
    ∙ behind (f 0 rs) (weigh_each (λ k. f (suc k)) rss) w
