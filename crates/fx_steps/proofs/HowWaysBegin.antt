-- How a way begins.
use Rattle.std.proofs.Common.{◌≡◌, ◌⊎◌, inl, inr, ℕ, suc, ◌+◌, ◌<◌, true, false, List, [], ◌∷◌, ◌++◌, length, Option, Some, None, refl, sym, ap, ◌∙◌, subst, arith, slice_get}
use Rattle.fx_layout.specs.Keys.{Key}
use Rattle.fx_tables.specs.Network.{Net, Exporter}
use Rattle.fx_base.specs.Entries.{entry_numbered}
use Rattle.fx_machine.specs.Acts.{Act, Tally, Send, Hold}
use Rattle.fx_machine.specs.Steps.{acts_of_leaving, acts_of_arrival}
use Rattle.fx_leaf.specs.declared.verdict.Fate.{Fate}
use Rattle.fx_leaf.specs.declared.verdict.Fate.TheVariants.{Never}
use Rattle.fx_leaf.specs.Fates.{both}
use Rattle.fx_leaf.proofs.Verdicts.{both_assoc, both_never, never_both}
use Rattle.fx_steps.specs.Costs.{Tells, both_costs}
use Rattle.fx_steps.specs.declared.costs.Costs.{Costs}
use Rattle.fx_steps.specs.Ways.{Comes, Task, acts, one, to, tally_fate}
use Rattle.fx_steps.proofs.CostsTell.{Both, both_tells}

module _ (net : Net) where
  pub way_is : {t : Task} (f g : Fate) (m n : ℕ) → f ≡ g → m ≡ n → Comes net t f m → Comes net t g n
  way_is {t} f g m n e d c = subst (λ (x : Fate). Comes net t x n) e (subst (λ (k : ℕ). Comes net t f k) d c)

  abbrev pub Of : Task → Fate → ℕ → Type 0
  Of t f n = Comes net t f n

  pub of_nothing : {f : Fate} {n : ℕ} → Comes net (acts []) f n → (f ≡ Never) × (n ≡ 0)
  of_nothing Comes.no_act = (refl, refl)

  pub of_next : {a : Act} {as' : List Act} {f : Fate} {n : ℕ} → Comes net (acts (a ∷ as')) f n
      → Both (Of (one a)) (Of (acts as')) (Of (acts (a ∷ as'))) f n
  of_next (Comes.next_act a as' f g m n d e) =
      record { first = f; second = g; here = m; there = n; one = d; other = e; fate = refl; steps = refl }

  pub of_tally : {key : Key} {f : Fate} {n : ℕ} → Comes net (one (Tally key)) f n → (f ≡ tally_fate net key) × (n ≡ 0)
  of_tally (Comes.tally key) = (refl, refl)

  pub of_hold : {holder : ℕ} {key : Key} {f : Fate} {n : ℕ} → Comes net (one (Hold holder key)) f n → (m : ℕ)
      × Comes net (acts (acts_of_leaving net holder key)) f m × (n ≡ suc m)
  of_hold (Comes.hold holder key f n is d) = (n, d, refl)

  -- by one of the destinations
  abbrev pub Any : Key → List (Option ℕ) → Fate → ℕ → Type 0
  Any key ds f n = (number : ℕ) × (d : Option ℕ) × (entry_numbered ds number ≡ Some d) × Comes net (to key (d ∷ [])) f n

  pub of_send : {e : Exporter} {key : Key} {f : Fate} {n : ℕ} → Comes net (one (Send e key)) f n
      → ((e.parallel ≡ true) × Comes net (to key e.destinations) f n)
      ⊎ ((e.parallel ≡ false) × Any key e.destinations f n)
  of_send (Comes.to_all e key f n h d) = inl (h, d)
  of_send (Comes.to_any e key number d f n h at c) = inr (h, (number, d, at, c))

  pub of_none : {key : Key} {f : Fate} {n : ℕ} → Comes net (to key []) f n → (f ≡ Never) × (n ≡ 0)
  of_none (Comes.no_destination key) = (refl, refl)

  pub of_outside : {key : Key} {ds : List (Option ℕ)} {f : Fate} {n : ℕ} → Comes net (to key (None ∷ ds)) f n
      → Comes net (to key ds) f n
  of_outside (Comes.to_outside key ds f n d) = d

  pub record Linked (key : Key) (link : ℕ) (ds : List (Option ℕ)) (f : Fate) (n : ℕ) : Type 0 where
    pub first : Fate
    pub second : Fate
    pub here : ℕ
    pub there : ℕ
    pub on : Comes net (acts (acts_of_arrival net key (slice_get net.links link))) first here
    pub others : Comes net (to key ds) second there
    pub fate : f ≡ both first second
    pub steps : n ≡ suc here + there

  pub of_link : {key : Key} {link : ℕ} {ds : List (Option ℕ)} {f : Fate} {n : ℕ}
      → Comes net (to key (Some link ∷ ds)) f n → Linked key link ds f n
  of_link (Comes.to_link key link ds f g m n lt d e) =
      record { first = f; second = g; here = m; there = n; on = d; others = e; fate = refl; steps = refl }

  -- to one link alone
  pub of_one_link : {key : Key} {link : ℕ} {f : Fate} {n : ℕ} → Comes net (to key (Some link ∷ [])) f n → (m : ℕ)
      × Comes net (acts (acts_of_arrival net key (slice_get net.links link))) f m × (n ≡ suc m)
  of_one_link {key} {link} {f} {n} c =
      let l = of_link c in
      let none = of_none l.others in
      let fate : l.first ≡ f = sym (l.fate ∙ ap (both l.first) none.0 ∙ both_never l.first) in
      let s = l.steps in
      let z = none.1 in
      (l.here, way_is l.first f l.here l.here fate refl l.on, omega arith)

  pub to_one_link : (key : Key) (link : ℕ) (f : Fate) (m : ℕ) → link < length net.links
      → Comes net (acts (acts_of_arrival net key (slice_get net.links link))) f m
      → Comes net (to key (Some link ∷ [])) f (suc m)
  to_one_link key link f m lt d =
      let n : suc m + 0 ≡ suc m = omega arith in
      way_is (both f Never) f (suc m + 0) (suc m) (both_never f) n
      (Comes.to_link key link [] f Never m 0 lt d (Comes.no_destination key))

  -- ---- lists of acts, one behind the other

  pub joined : (xs ys : List Act) (f g : Fate) (m n : ℕ) → Comes net (acts xs) f m → Comes net (acts ys) g n
      → Comes net (acts (xs ++ ys)) (both f g) (m + n)
  joined [] ys f g m n c d =
      let none = of_nothing c in
      let fate : g ≡ both f g = sym (ap (λ (x : Fate). both x g) none.0 ∙ never_both g) in
      let z = none.1 in
      let steps : n ≡ m + n = omega arith in
      way_is g (both f g) n (m + n) fate steps d
  joined (x ∷ xs) ys f g m n c d =
      let b = of_next c in
      let rest = joined xs ys b.second g b.there n b.other d in
      let fate : both b.first (both b.second g) ≡ both f g = sym (both_assoc b.first b.second g)
      ∙ ap (λ (y : Fate). both y g) (sym b.fate) in
      let s = b.steps in
      let steps : b.here + (b.there + n) ≡ m + n = omega arith in
      way_is (both b.first (both b.second g)) (both f g) (b.here + (b.there + n)) (m + n) fate steps
      (Comes.next_act x (xs ++ ys) b.first (both b.second g) b.here (b.there + n) b.one rest)

  pub parted : (xs ys : List Act) (f : Fate) (n : ℕ) → Comes net (acts (xs ++ ys)) f n
      → Both (Of (acts xs)) (Of (acts ys)) (Of (acts (xs ++ ys))) f n
  parted [] ys f n c = record {
    first = Never;
    second = f;
    here = 0;
    there = n;
    one = Comes.no_act;
    other = c;
    fate =
        sym (never_both f);
    steps = omega arith;
  }
  parted (x ∷ xs) ys f n c =
      let b = of_next c in
      let rest = parted xs ys b.second b.there b.other in
      let s = b.steps in
      let t = rest.steps in
      record {
        first = both b.first rest.first;
        second = rest.second;
        here = b.here + rest.here;
        there = rest.there;
        one = Comes.next_act x xs b.first rest.first b.here rest.here b.one rest.one;
        other = rest.other;
        fate = b.fate ∙ ap (both b.first) rest.fate ∙ sym (both_assoc b.first rest.first rest.second);
        steps = omega arith;
      }

  pub append_tells : (xs ys : List Act) (a b : Costs) → Tells a (Of (acts xs)) → Tells b (Of (acts ys))
      → Tells (both_costs a b) (Of (acts (xs ++ ys)))
  append_tells xs ys a b ta tb =
      both_tells (Of (acts xs)) (Of (acts ys)) (Of (acts (xs ++ ys))) a b ta tb (λ f n c. parted xs ys f n c)
      (λ f g m n c d. joined xs ys f g m n c d)

  pub next_tells_acts : (x : Act) (xs : List Act) (a b : Costs) → Tells a (Of (one x)) → Tells b (Of (acts xs))
      → Tells (both_costs a b) (Of (acts (x ∷ xs)))
  next_tells_acts x xs a b ta tb =
      both_tells (Of (one x)) (Of (acts xs)) (Of (acts (x ∷ xs))) a b ta tb (λ f n c. of_next c)
      (λ f g m n c d. Comes.next_act x xs f g m n c d)
