-- From a way to a chain of acts.
use Rattle.std.proofs.Common.{◌≡◌, ℕ, suc, ◌+◌, true, false, List, [], ◌∷◌, ◌++◌, refl, sym, ap, subst, arith}
use Rattle.fx_layout.specs.Keys.{Key}
use Rattle.fx_tables.specs.Network.{Net, Exporter}
use Rattle.fx_machine.specs.Acts.{Act, Send}
use Rattle.fx_leaf.specs.declared.verdict.Fate.{Fate}
use Rattle.fx_leaf.specs.declared.verdict.Fate.TheVariants.{Never}
use Rattle.fx_leaf.specs.Fates.{both}
use Rattle.fx_leaf.proofs.Verdicts.{both_assoc, both_never, never_both}
use Rattle.fx_steps.specs.Ways.{Comes, Task, acts, one, to, tally_fate}
use Rattle.fx_steps.specs.Chains.{Chain, all_of, any_of}

module _ (net : Net) where
  as_is : (as' : List Act) (f g : Fate) (m n : ℕ) → f ≡ g → m ≡ n → Chain net as' f m → Chain net as' g n
  as_is as' f g m n e d c = subst (λ (x : Fate). Chain net as' x n) e (subst (λ (k : ℕ). Chain net as' f k) d c)

  -- a chain behind another
  append : {xs : List Act} {f : Fate} {m : ℕ} → Chain net xs f m → (ys : List Act) (g : Fate) (n : ℕ) → Chain net ys g n
      → Chain net (xs ++ ys) (both f g) (m + n)
  append Chain.no_act ys g n e = as_is ys g (both Never g) n (0 + n) (sym (never_both g)) (omega arith) e
  append (Chain.tally key xs f m d) ys g n e =
      as_is _ _ _ _ _ (sym (both_assoc (tally_fate net key) f g)) refl
      (Chain.tally key (xs ++ ys) (both f g) (m + n) (append d ys g n e))
  append (Chain.hold holder key xs f h k m is d c) ys g n e =
      let more : suc (k + (m + n)) ≡ suc (k + m) + n = omega arith in
      as_is _ _ _ _ _ (sym (both_assoc f h g)) more
      (Chain.hold holder key (xs ++ ys) f (both h g) k (m + n) is d (append c ys g n e))
  append (Chain.send_end key xs f m d) ys g n e = Chain.send_end key (xs ++ ys) (both f g) (m + n) (append d ys g n e)
  append (Chain.send_out ds key xs f m d) ys g n e =
      Chain.send_out ds key (xs ++ ys) (both f g) (m + n) (append d ys g n e)
  append (Chain.send_on link ds key xs f h k m lt d c) ys g n e =
      let more : suc (k + (m + n)) ≡ suc (k + m) + n = omega arith in
      as_is _ _ _ _ _ (sym (both_assoc f h g)) more
      (Chain.send_on link ds key (xs ++ ys) f (both h g) k (m + n) lt d (append c ys g n e))
  append (Chain.choose ds number d key xs f m at c) ys g n e =
      Chain.choose ds number d key (xs ++ ys) (both f g) (m + n) at (append c ys g n e)

  -- the acts of a task
  abbrev acts_of : Task → List Act
  acts_of (acts as') = as'
  acts_of (one a) = a ∷ []
  acts_of (to key ds) = Send (all_of ds) key ∷ []

  is_all : (e : Exporter) (key : Key) (f : Fate) (n : ℕ) → e.parallel ≡ true
      → Chain net (Send (all_of e.destinations) key ∷ []) f n → Chain net (Send e key ∷ []) f n
  is_all e key f n h c = subst (λ (x : Exporter). Chain net (Send x key ∷ []) f n)
      (ap (λ b. record { parallel = b; destinations = e.destinations }) (sym h)) c

  is_any : (e : Exporter) (key : Key) (f : Fate) (n : ℕ) → e.parallel ≡ false
      → Chain net (Send (any_of e.destinations) key ∷ []) f n → Chain net (Send e key ∷ []) f n
  is_any e key f n h c = subst (λ (x : Exporter). Chain net (Send x key ∷ []) f n)
      (ap (λ b. record { parallel = b; destinations = e.destinations }) (sym h)) c

  pub chained : {t : Task} {f : Fate} {n : ℕ} → Comes net t f n → Chain net (acts_of t) f n
  chained Comes.no_act = Chain.no_act
  chained (Comes.next_act a as' f g m n d e) = append (chained d) as' g n (chained e)
  chained (Comes.tally key) = as_is _ _ _ _ _ (both_never (tally_fate net key)) refl
      (Chain.tally key [] Never 0 Chain.no_act)
  chained (Comes.hold holder key f n is d) =
      let same : suc (n + 0) ≡ suc n = omega arith in
      as_is _ _ _ _ _ (both_never f) same (Chain.hold holder key [] f Never n 0 is (chained d) Chain.no_act)
  chained (Comes.to_all e key f n h d) = is_all e key f n h (chained d)
  chained (Comes.to_any e key number d f n h at c) =
      is_any e key f n h (Chain.choose e.destinations number d key [] f n at (chained c))
  chained (Comes.no_destination key) = Chain.send_end key [] Never 0 Chain.no_act
  chained (Comes.to_outside key ds f n d) = Chain.send_out ds key [] f n (chained d)
  chained (Comes.to_link key link ds f g m n lt d e) =
      let same : suc (m + n) ≡ suc m + n = omega arith in
      as_is _ _ _ _ _ refl same (Chain.send_on link ds key [] f g m n lt (chained d) (chained e))
