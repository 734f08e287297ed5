-- Fates combine in any order and grouping.
use Rattle.std.proofs.Common.{◌≡◌, ◌≢◌, ◌⊎◌, inl, inr, ℕ, zero, suc, List, [], ◌∷◌, ◌++◌, map, Some, refl, sym, ap, ap₂, ◌∙◌, subst, slice_get, All, arith, le_of_suc-le-suc}
use Rattle.fx_leaf.specs.declared.verdict.Fate.{Fate}
use Rattle.fx_leaf.specs.declared.verdict.Fate.TheVariants.{Never, Once, Many, Differing, Unassigned}
use Rattle.fx_leaf.specs.Fates.{both, all_happen, either, one_happens}
use Rattle.fx_leaf.specs.Quantity.{Weight, Wrong, plus, weigh_all, by_fate}
use Rattle.fx_leaf.proofs.Weights.{plus_nothing}

-- a fact of each element
abbrev pub Every : {A : Type 0} → (A → Type 0) → List A → Type 0
Every P [] = Unit {0}
Every P (x ∷ xs) = P x × Every P xs

pub every_append : {A : Type 0} (P : A → Type 0) (xs ys : List A) → Every P xs → Every P ys → Every P (xs ++ ys)
every_append P [] ys h k = k
every_append P (x ∷ xs) ys h k = (h.0, every_append P xs ys h.1 k)

-- a fate that a sound network has
abbrev pub IsGood : Fate → Type 0
IsGood Never = Unit {0}
IsGood Once = Unit {0}
IsGood Many = ⊥
IsGood Differing = ⊥
IsGood Unassigned = ⊥

pub good_of_weight : (f : Fate) (w : Weight) → by_fate f w ≢ Wrong → IsGood f
good_of_weight Never w h = tt
good_of_weight Once w h = tt
good_of_weight Many w h = h refl
good_of_weight Differing w h = h refl
good_of_weight Unassigned w h = h refl

pub weight_of_good : (f : Fate) (w : Weight) → IsGood f → w ≢ Wrong → by_fate f w ≢ Wrong
weight_of_good Never w g h = λ e. absurd (cc)
weight_of_good Once w g h = h
weight_of_good Many w g h = elim g [ ]
weight_of_good Differing w g h = elim g [ ]
weight_of_good Unassigned w g h = elim g [ ]

never_once : Never ≡ Once → ⊥
never_once h = absurd (cc)

-- the fates of which two may both happen
abbrev BothGood : Fate → Fate → Type 0
BothGood f g = ((f ≡ Never) × (g ≡ Never)) ⊎ (((f ≡ Never) × (g ≡ Once)) ⊎ ((f ≡ Once) × (g ≡ Never)))

both_good : (f g : Fate) → IsGood (both f g) → BothGood f g
both_good Never Never h = inl (refl, refl)
both_good Never Once h = inr (inl (refl, refl))
both_good Never Many h = elim h [ ]
both_good Never Differing h = elim h [ ]
both_good Never Unassigned h = elim h [ ]
both_good Once Never h = inr (inr (refl, refl))
both_good Once Once h = elim h [ ]
both_good Once Many h = elim h [ ]
both_good Once Differing h = elim h [ ]
both_good Once Unassigned h = elim h [ ]
both_good Many Never h = elim h [ ]
both_good Many Once h = elim h [ ]
both_good Many Many h = elim h [ ]
both_good Many Differing h = elim h [ ]
both_good Many Unassigned h = elim h [ ]
both_good Differing Never h = elim h [ ]
both_good Differing Once h = elim h [ ]
both_good Differing Many h = elim h [ ]
both_good Differing Differing h = elim h [ ]
both_good Differing Unassigned h = elim h [ ]
both_good Unassigned Never h = elim h [ ]
both_good Unassigned Once h = elim h [ ]
both_good Unassigned Many h = elim h [ ]
both_good Unassigned Differing h = elim h [ ]
both_good Unassigned Unassigned h = elim h [ ]

good_of : (f : Fate) → (f ≡ Never) ⊎ (f ≡ Once) → IsGood f
good_of f h = elim h [ inl e ↦ subst IsGood (sym e) tt | inr e ↦ subst IsGood (sym e) tt ]

pub good_both : (f g : Fate) → IsGood (both f g) → IsGood f × IsGood g
good_both f g h =
    elim (both_good f g h) [
      | inl e ↦ (good_of f (inl e.0), good_of g (inl e.1))
      | inr e ↦ elim e [
        | inl d ↦ (good_of f (inl d.0), good_of g (inr d.1))
        | inr d ↦
            (good_of f (inr d.0), good_of g (inl d.1))
      ]
    ]

pub weigh_both : (f g : Fate) (w : Weight) → IsGood (both f g) → plus (by_fate f w) (by_fate g w) ≡ by_fate (both f g) w
weigh_both f g w h =
    let P : Fate → Fate → Type 0 = λ x y. plus (by_fate x w) (by_fate y w) ≡ by_fate (both x y) w in
    elim (both_good f g h) [
      | inl e ↦ subst (λ x. P x g) (sym e.0) (subst (λ y. P Never y) (sym e.1) refl)
      | inr e ↦ elim e [
        | inl d ↦ subst (λ x. P x g) (sym d.0) (subst (λ y. P Never y) (sym d.1) refl)
        | inr d ↦ subst (λ x. P x g) (sym d.0) (subst (λ y. P Once y) (sym d.1) (plus_nothing w))
      ]
    ]

pub once_both : (f g : Fate) → both f g ≡ Once → (f ≡ Once) ⊎ (g ≡ Once)
once_both f g h =
    elim (both_good f g (subst IsGood (sym h) tt)) [
      | inl e ↦ absurd (let k : both f g ≡ Never = ap₂ both e.0 e.1 in never_once (sym k ∙ h))
      | inr e ↦ elim e [ inl d ↦ inr d.1 | inr d ↦ inl d.0 ]
    ]

never_both : (f g : Fate) → both f g ≡ Never → (f ≡ Never) × (g ≡ Never)
never_both f g h =
    elim (both_good f g (subst IsGood (sym h) tt)) [
      | inl e ↦ e
      | inr e ↦ elim e [
        | inl d ↦ absurd (let k : both f g ≡ Once = ap₂ both d.0 d.1 in never_once (sym h ∙ k))
        | inr d ↦ absurd (let k : both f g ≡ Once = ap₂ both d.0 d.1 in never_once (sym h ∙ k))
      ]
    ]

pub same_by_fate : (f : Fate) (v w : Weight) → (f ≡ Once → v ≡ w) → by_fate f v ≡ by_fate f w
same_by_fate Never v w h = refl
same_by_fate Once v w h = h refl
same_by_fate Many v w h = refl
same_by_fate Differing v w h = refl
same_by_fate Unassigned v w h = refl

good_either : (f g : Fate) → IsGood (either f g) → (f ≡ either f g) × (g ≡ either f g)
good_either Never Never h = (refl, refl)
good_either Never Once h = elim h [ ]
good_either Never Many h = elim h [ ]
good_either Never Differing h = elim h [ ]
good_either Never Unassigned h = elim h [ ]
good_either Once Never h = elim h [ ]
good_either Once Once h = (refl, refl)
good_either Once Many h = elim h [ ]
good_either Once Differing h = elim h [ ]
good_either Once Unassigned h = elim h [ ]
good_either Many Never h = elim h [ ]
good_either Many Once h = elim h [ ]
good_either Many Many h = elim h [ ]
good_either Many Differing h = elim h [ ]
good_either Many Unassigned h = elim h [ ]
good_either Differing Never h = elim h [ ]
good_either Differing Once h = elim h [ ]
good_either Differing Many h = elim h [ ]
good_either Differing Differing h = elim h [ ]
good_either Differing Unassigned h = elim h [ ]
good_either Unassigned Never h = elim h [ ]
good_either Unassigned Once h = elim h [ ]
good_either Unassigned Many h = elim h [ ]
good_either Unassigned Differing h = elim h [ ]
good_either Unassigned Unassigned h = elim h [ ]

once_either : (f g : Fate) → either f g ≡ Once → f ≡ Once
once_either f g h = (good_either f g (subst IsGood (sym h) tt)).0 ∙ h

module _ {A : Type 0} (fate_of : A → Fate) where
  -- what happens to all parts weighs as much as the whole
  pub all_weighed : (v : A → Weight) (w : Weight) (xs : List A) → Every (λ x. fate_of x ≡ Once → v x ≡ w) xs
      → IsGood (all_happen (map fate_of xs)) → weigh_all (λ x. by_fate (fate_of x) (v x)) xs
      ≡ by_fate (all_happen (map fate_of xs)) w
  all_weighed v w [] same good = refl
  all_weighed v w (x ∷ xs) same good =
      let parts = good_both (fate_of x) (all_happen (map fate_of xs)) good in
      ap₂ plus (same_by_fate (fate_of x) (v x) w same.0) (all_weighed v w xs same.1 parts.1)
      ∙ weigh_both (fate_of x) (all_happen (map fate_of xs)) w good

  pub every_same : (v : A → Weight) (w : Weight) (xs : List A) → ((x : A) → v x ≡ w)
      → Every (λ x. fate_of x ≡ Once → v x ≡ w) xs
  every_same v w [] h = tt
  every_same v w (x ∷ xs) h = (λ e. h x, every_same v w xs h)

  -- where all happen once, one of them does
  pub some_once : (P : Type 0) (xs : List A) → Every (λ x. fate_of x ≡ Once → P) xs → all_happen (map fate_of xs) ≡ Once
      → P
  some_once P [] same h = absurd (cc)
  some_once P (x ∷ xs) same h =
      elim (once_both (fate_of x) (all_happen (map fate_of xs)) h)
      [ inl e ↦ same.0 e | inr e ↦ some_once P xs same.1 e ]

  pub one_once : (P : Type 0) (xs : List A) → Every (λ x. fate_of x ≡ Once → P) xs → one_happens (map fate_of xs) ≡ Once
      → P
  one_once P [] same h = absurd (cc)
  one_once P (x ∷ []) same h = same.0 h
  one_once P (x ∷ y ∷ xs) same h = same.0 (once_either (fate_of x) (one_happens (map fate_of (y ∷ xs))) h)

  -- a choice that isn't wrong doesn't matter
  pub any_choice : (xs : List A) (n : ℕ) (x : A) → slice_get xs n ≡ Some x → IsGood (one_happens (map fate_of xs))
      → fate_of x ≡ one_happens (map fate_of xs)
  any_choice [] n x h good = absurd (cc)
  any_choice (y ∷ []) zero x h good = let e : x ≡ y = cc in ap fate_of e
  any_choice (y ∷ []) (suc n) x h good = absurd (cc)
  any_choice (y ∷ z ∷ xs) zero x h good =
      let e : x ≡ y = cc in
      ap fate_of e ∙ (good_either (fate_of y) (one_happens (map fate_of (z ∷ xs))) good).0
  any_choice (y ∷ z ∷ xs) (suc n) x h good =
      let rest = one_happens (map fate_of (z ∷ xs)) in
      let both' = good_either (fate_of y) rest good in
      any_choice (z ∷ xs) n x h (subst IsGood (sym both'.1) good) ∙ both'.1

  -- where nothing is counted, no part is
  pub all_never : (xs : List A) → all_happen (map fate_of xs) ≡ Never → All (λ x. fate_of x ≡ Never) xs
  all_never [] h k d lt = absurd (omega arith)
  all_never (x ∷ xs) h zero d lt = (never_both (fate_of x) (all_happen (map fate_of xs)) h).0
  all_never (x ∷ xs) h (suc k) d lt =
      all_never xs (never_both (fate_of x) (all_happen (map fate_of xs)) h).1 k d (le_of_suc-le-suc lt)
