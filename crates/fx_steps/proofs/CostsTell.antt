-- What least numbers of steps tell, part by part.
use Rattle.std.proofs.Common.{◌≡◌, ◌⊎◌, inl, inr, ℕ, suc, ◌+◌, ◌≤◌, min, List, [], ◌∷◌, map, refl, sym, ap₂, ◌∙◌, subst, arith}
use Rattle.std.specs.List.{AllByRecursion}
use Rattle.fx_leaf.specs.declared.verdict.Fate.{Fate}
use Rattle.fx_leaf.specs.declared.verdict.Fate.TheVariants.{Never, Once, Many, Differing, Unassigned}
use Rattle.fx_leaf.specs.Fates.{both}
use Rattle.fx_steps.specs.declared.costs.Costs.{Costs}
use Rattle.fx_machine.specs.Limits.{step_limit}
use Rattle.fx_steps.specs.Costs.{over_limit, limited_sum, least_number, cost_of, pairs, both_cost, both_costs, either_costs, one_step_more, costs_of_never, costs_of_once, costs_of_unassigned, costs_of_no_way, Tells}

-- ---- least numbers

-- this pair is among those
abbrev pub Among : Fate → Fate → List (Fate × Fate) → Type 0
Among g h [] = ⊥
Among g h (p ∷ ps) = ((p.0 ≡ g) × (p.1 ≡ h)) ⊎ Among g h ps

pub smaller : (a b : ℕ) → (min a b ≡ a) ⊎ (min a b ≡ b)
smaller a b = grind arith

module _ (v : Fate × Fate → ℕ) where
  least_of : (g h : Fate) (ps : List (Fate × Fate)) → Among g h ps → least_number (map v ps) ≤ v (g, h)
  least_of g h [] i = absurd i
  least_of g h (p ∷ ps) (inl (a, b)) =
      let same : v p ≡ v (g, h) = ap₂ (λ (x y : Fate). v (x, y)) a b in
      omega arith
  least_of g h (p ∷ ps) (inr i) = let k = least_of g h ps i in omega arith

  pub least_at : (ps : List (Fate × Fate)) → least_number (map v ps) ≤ step_limit → (g : Fate) × (h : Fate)
      × Among g h ps × (v (g, h) ≡ least_number (map v ps))
  least_at [] le = absurd (omega arith)
  least_at (p ∷ ps) le =
      elim (smaller (least_number (map v ps)) (v p)) [
        | inl e ↦ let k = least_at ps (let d : least_number (map v ps) ≤ step_limit = omega arith in d) in
            (k.0, k.1, inr k.2, k.3 ∙ sym e)
        | inr e ↦ (p.0, p.1, inl (refl, refl), sym e)
      ]

-- ---- fates that are one together

settled_pair : (g h : Fate) → (g ≡ Differing → ⊥) → (h ≡ Differing → ⊥) → Among g h (pairs (both g h))
settled_pair Differing h d e = absurd (d refl)
settled_pair Never Differing d e = absurd (e refl)
settled_pair Once Differing d e = absurd (e refl)
settled_pair Many Differing d e = absurd (e refl)
settled_pair Unassigned Differing d e = absurd (e refl)
settled_pair Never Never d e = inl (refl, refl)
settled_pair Never Once d e = inl (refl, refl)
settled_pair Never Many d e = inl (refl, refl)
settled_pair Never Unassigned d e = inr (inr (inr (inr (inl (refl, refl)))))
settled_pair Once Never d e = inr (inl (refl, refl))
settled_pair Once Once d e = inr (inr (inl (refl, refl)))
settled_pair Once Many d e = inr (inr (inr (inl (refl, refl))))
settled_pair Once Unassigned d e = inr (inr (inr (inr (inr (inl (refl, refl))))))
settled_pair Many Never d e = inr (inl (refl, refl))
settled_pair Many Once d e = inr (inr (inr (inr (inl (refl, refl)))))
settled_pair Many Many d e = inr (inr (inr (inr (inr (inl (refl, refl))))))
settled_pair Many Unassigned d e = inr (inr (inr (inr (inr (inr (inl (refl, refl)))))))
settled_pair Unassigned Never d e = inl (refl, refl)
settled_pair Unassigned Once d e = inr (inl (refl, refl))
settled_pair Unassigned Many d e = inr (inr (inl (refl, refl)))
settled_pair Unassigned Unassigned d e = inr (inr (inr (inl (refl, refl))))

pairs_are : (f : Fate) → AllByRecursion (λ (p : Fate × Fate). both p.0 p.1 ≡ f) (pairs f)
pairs_are Never = (refl, tt)
pairs_are Once = (refl, (refl, tt))
pairs_are Many = (refl, (refl, (refl, (refl, (refl, (refl, tt))))))
pairs_are Unassigned = (refl, (refl, (refl, (refl, (refl, (refl, (refl, tt)))))))
pairs_are Differing = tt

among_all : (P : Fate × Fate → Type 0) (g h : Fate) (ps : List (Fate × Fate)) → Among g h ps → AllByRecursion P ps
    → P (g, h)
among_all P g h [] i all = absurd i
among_all P g h (p ∷ ps) (inl (a, b)) all = subst (λ (x : Fate). P (x, h)) a (subst (λ (y : Fate). P (p.0, y)) b all.0)
among_all P g h (p ∷ ps) (inr i) all = among_all P g h ps i all.1

pub pair_is : (f g h : Fate) → Among g h (pairs f) → both g h ≡ f
pair_is f g h i = among_all (λ (p : Fate × Fate). both p.0 p.1 ≡ f) g h (pairs f) i (pairs_are f)

-- ---- parts

pub cost_both : (a b : Costs) (f : Fate) → cost_of (both_costs a b) f ≡ both_cost a b f
cost_both a b Never = refl
cost_both a b Once = refl
cost_both a b Many = refl
cost_both a b Unassigned = refl
cost_both a b Differing = refl

pub cost_either : (a b : Costs) (f : Fate) → cost_of (either_costs a b) f ≡ min (cost_of a f) (cost_of b f)
cost_either a b Never = refl
cost_either a b Once = refl
cost_either a b Many = refl
cost_either a b Unassigned = refl
cost_either a b Differing = refl

pub cost_next : (a : Costs) (f : Fate) → cost_of (one_step_more a) f ≡ limited_sum 1 (cost_of a f)
cost_next a Never = refl
cost_next a Once = refl
cost_next a Many = refl
cost_next a Unassigned = refl
cost_next a Differing = refl

-- ways, by fate and number of steps
module _ (A B C : Fate → ℕ → Type 0) where
  -- of both
  pub record Both (f : Fate) (n : ℕ) : Type 0 where
    pub first : Fate
    pub second : Fate
    pub here : ℕ
    pub there : ℕ
    pub one : A first here
    pub other : B second there
    pub fate : f ≡ both first second
    pub steps : n ≡ here + there

  pub both_tells : (a b : Costs) → Tells a A → Tells b B → ((f : Fate) (n : ℕ) → C f n → Both f n)
      → ((f g : Fate) (m n : ℕ) → A f m → B g n → C (both f g) (m + n)) → Tells (both_costs a b) C
  both_tells a b ta tb to from = record { least = least'; reached = reached'; settled = settled' }
    where
      no_first : (f : Fate) (n : ℕ) → A f n → f ≡ Differing → ⊥
      no_first f n x e = ta.settled n (subst (λ (g : Fate). A g n) e x)

      no_second : (f : Fate) (n : ℕ) → B f n → f ≡ Differing → ⊥
      no_second f n x e = tb.settled n (subst (λ (g : Fate). B g n) e x)

      least' : (f : Fate) (n : ℕ) → C f n → cost_of (both_costs a b) f ≤ n
      least' f n c =
          let x = to f n c in
          let i = subst (λ (g : Fate). Among x.first x.second (pairs g)) (sym x.fate)
          (settled_pair x.first x.second (no_first x.first x.here x.one) (no_second x.second x.there x.other)) in
          let e = cost_both a b f in
          let l : both_cost a b f ≤ limited_sum (cost_of a x.first) (cost_of b x.second) =
          least_of (λ (p : Fate × Fate). limited_sum (cost_of a p.0) (cost_of b p.1)) x.first x.second (pairs f) i
          in
          let s = x.steps in
          let p = ta.least x.first x.here x.one in
          let q = tb.least x.second x.there x.other in
          omega arith

      reached' : (f : Fate) → cost_of (both_costs a b) f ≤ step_limit → C f (cost_of (both_costs a b) f)
      reached' f le =
          let e = cost_both a b f in
          let k = least_at (λ (p : Fate × Fate). limited_sum (cost_of a p.0) (cost_of b p.1)) (pairs f)
          (let d : both_cost a b f ≤ step_limit = omega arith in d) in
          let sum : limited_sum (cost_of a k.0) (cost_of b k.1) ≡ both_cost a b f = k.3 in
          let one = ta.reached k.0 (let d : cost_of a k.0 ≤ step_limit = omega arith in d) in
          let other = tb.reached k.1 (let d : cost_of b k.1 ≤ step_limit = omega arith in d) in
          let n : cost_of a k.0 + cost_of b k.1 ≡ cost_of (both_costs a b) f = omega arith in
          subst (λ (g : Fate). C g (cost_of (both_costs a b) f)) (pair_is f k.0 k.1 k.2)
          (subst (λ (m : ℕ). C (both k.0 k.1) m) n (from k.0 k.1 (cost_of a k.0) (cost_of b k.1) one other))

      settled' : (n : ℕ) → C Differing n → ⊥
      settled' n c =
          let x = to Differing n c in
          subst (λ (g : Fate). Among x.first x.second (pairs g)) (sym x.fate)
          (settled_pair x.first x.second (no_first x.first x.here x.one) (no_second x.second x.there x.other))

  pub either_tells : (a b : Costs) → Tells a A → Tells b B → ((f : Fate) (n : ℕ) → C f n → A f n ⊎ B f n)
      → ((f : Fate) (n : ℕ) → A f n → C f n) → ((f : Fate) (n : ℕ) → B f n → C f n) → Tells (either_costs a b) C
  either_tells a b ta tb to one other = record {
    least = λ f n c. let e = cost_either a b f in elim (to f n c) [
      | inl x ↦ let k = ta.least f n x in omega arith
      | inr x ↦ let k = tb.least f n x in omega arith
    ];
    reached = λ f le. let e = cost_either a b f in elim (smaller (cost_of a f) (cost_of b f)) [
      | inl d ↦ let n : cost_of a f ≡ cost_of (either_costs a b) f = omega arith in
          subst (λ (m : ℕ). C f m) n (one f (cost_of a f)
          (ta.reached f (let k : cost_of a f ≤ step_limit = omega arith in k)))
      | inr d ↦ let n : cost_of b f ≡ cost_of (either_costs a b) f = omega arith in
          subst (λ (m : ℕ). C f m) n (other f (cost_of b f)
          (tb.reached f (let k : cost_of b f ≤ step_limit = omega arith in k)))
    ];
    settled = λ n c. elim (to Differing n c) [ inl x ↦ ta.settled n x | inr x ↦ tb.settled n x ];
  }

module _ (A C : Fate → ℕ → Type 0) where
  pub next_tells : (a : Costs) → Tells a A → ((f : Fate) (n : ℕ) → C f n → (m : ℕ) × A f m × (n ≡ suc m))
      → ((f : Fate) (n : ℕ) → A f n → C f (suc n)) → Tells (one_step_more a) C
  next_tells a ta to from = record {
    least = λ f n c. let x = to f n c in let e = cost_next a f in let k = ta.least f x.0 x.1 in let s = x.2 in
        omega arith;
    reached = λ f le.
        let e = cost_next a f in
        let n : suc (cost_of a f) ≡ cost_of (one_step_more a) f = omega arith in
        subst (λ (m : ℕ). C f m) n (from f (cost_of a f)
        (ta.reached f (let k : cost_of a f ≤ step_limit = omega arith in k)));
    settled = λ n c. let x = to Differing n c in ta.settled x.0 x.1;
  }

  pub same_tells : (a : Costs) → Tells a A → ((f : Fate) (n : ℕ) → C f n → A f n) → ((f : Fate) (n : ℕ) → A f n → C f n)
      → Tells a C
  same_tells a ta to from = record {
    least = λ f n c. ta.least f n (to f n c);
    reached = λ f le. from f (cost_of a f) (ta.reached f le);
    settled = λ n c. ta.settled n (to Differing n c);
  }

module _ (C : Fate → ℕ → Type 0) where
  too_many : (f : Fate) → over_limit ≤ step_limit → C f over_limit
  too_many f le = absurd (omega arith)

  pub no_way_tells : ((f : Fate) (n : ℕ) → C f n → ⊥) → Tells costs_of_no_way C
  no_way_tells none = record {
    least = λ f n c. absurd (none f n c);
    reached = λ f le. absurd (none_within f le);
    settled = λ n c. none Differing n c;
  }
    where
      none_within : (f : Fate) → cost_of costs_of_no_way f ≤ step_limit → ⊥
      none_within Never le = omega arith
      none_within Once le = omega arith
      none_within Many le = omega arith
      none_within Unassigned le = omega arith
      none_within Differing le = omega arith

  pub never_tells : C Never 0 → ((f : Fate) (n : ℕ) → C f n → f ≡ Never) → Tells costs_of_never C
  never_tells here alone = record {
    least = λ f n c. subst (λ (g : Fate). cost_of costs_of_never g ≤ n) (sym (alone f n c)) (omega arith);
    reached = only;
    settled = λ n c. let e : Differing ≡ Never = alone Differing n c in absurd (cc);
  }
    where
      only : (f : Fate) → cost_of costs_of_never f ≤ step_limit → C f (cost_of costs_of_never f)
      only Never le = here
      only Once le = too_many Once le
      only Many le = too_many Many le
      only Unassigned le = too_many Unassigned le
      only Differing le = too_many Differing le

  pub once_tells : C Once 0 → ((f : Fate) (n : ℕ) → C f n → f ≡ Once) → Tells costs_of_once C
  once_tells here alone = record {
    least = λ f n c. subst (λ (g : Fate). cost_of costs_of_once g ≤ n) (sym (alone f n c)) (omega arith);
    reached = only;
    settled = λ n c. let e : Differing ≡ Once = alone Differing n c in absurd (cc);
  }
    where
      only : (f : Fate) → cost_of costs_of_once f ≤ step_limit → C f (cost_of costs_of_once f)
      only Never le = too_many Never le
      only Once le = here
      only Many le = too_many Many le
      only Unassigned le = too_many Unassigned le
      only Differing le = too_many Differing le

  pub unassigned_tells : C Unassigned 0 → ((f : Fate) (n : ℕ) → C f n → f ≡ Unassigned) → Tells costs_of_unassigned C
  unassigned_tells here alone = record {
    least = λ f n c. subst (λ (g : Fate). cost_of costs_of_unassigned g ≤ n) (sym (alone f n c)) (omega arith);
    reached = only;
    settled = λ n c. let e : Differing ≡ Unassigned = alone Differing n c in absurd (cc);
  }
    where
      only : (f : Fate) → cost_of costs_of_unassigned f ≤ step_limit → C f (cost_of costs_of_unassigned f)
      only Never le = too_many Never le
      only Once le = too_many Once le
      only Many le = too_many Many le
      only Unassigned le = here
      only Differing le = too_many Differing le
