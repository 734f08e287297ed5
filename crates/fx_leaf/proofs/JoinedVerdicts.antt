-- Verdicts that are joined one after another are the verdict on all of them.
use Rattle.std.proofs.Common.{◌≡◌, ℕ, zero, suc, ◌+◌, ◌<◌, ◌≤◌, List, [], ◌∷◌, map, length, drop, get_or, slice_get, Option, Some, None, refl, sym, ap, ◌∙◌, subst, arith, add-one, le_of_suc-le-suc}
use Rattle.fx_tables.specs.Network.{Net, Exporter, at_places, before}
use Rattle.fx_leaf.specs.declared.verdict.Fate.{Fate}
use Rattle.fx_leaf.specs.declared.verdict.Fate.TheVariants.{Never, Once, Many, Differing, Unassigned}
use Rattle.fx_leaf.specs.Fates.{either}
use Rattle.fx_leaf.specs.Verdicts.{Verdict, At, send_verdict, sent_verdict, verdict_of_both, verdict_of_all, verdict_of_either, verdict_of_one}
use Rattle.fx_leaf.proofs.Verdicts.{both_assoc, both_never, never_both}

-- ---- both

pub joined_assoc : (u v w : Verdict) → verdict_of_both (verdict_of_both u v) w ≡ verdict_of_both u (verdict_of_both v w)
joined_assoc None v w = refl
joined_assoc (Some f) None w = refl
joined_assoc (Some f) (Some g) None = refl
joined_assoc (Some f) (Some g) (Some h) = ap Some (both_assoc f g h)

pub joined_never : (v : Verdict) → verdict_of_both v (Some Never) ≡ v
joined_never None = refl
joined_never (Some f) = ap Some (both_never f)

pub never_joined : (v : Verdict) → verdict_of_both (Some Never) v ≡ v
never_joined None = refl
never_joined (Some f) = ap Some (never_both f)

pub drop_here : {A : Type 0} (xs : List A) (k : ℕ) (d : A) → k < length xs → drop k xs ≡ get_or xs k d ∷ drop (k + 1) xs
drop_here {A = A} xs k d lt = subst (λ m. drop k xs ≡ get_or xs k d ∷ drop m xs) (sym (add-one k)) (go xs k lt)
  where
    go : (ys : List A) (i : ℕ) → i < length ys → drop i ys ≡ get_or ys i d ∷ drop (suc i) ys
    go [] i h = absurd (omega arith)
    go (y ∷ ys) zero h = refl
    go (y ∷ ys) (suc i) h = go ys i (le_of_suc-le-suc h)

pub drop_none : {A : Type 0} (xs : List A) (k : ℕ) → length xs ≤ k → drop k xs ≡ []
drop_none [] zero h = refl
drop_none [] (suc k) h = refl
drop_none (x ∷ xs) zero h = absurd (omega arith)
drop_none (x ∷ xs) (suc k) h = drop_none xs k (le_of_suc-le-suc h)

module _ {A : Type 0} (f : A → Verdict) where
  -- what is so far joined with what the rest makes is all
  abbrev pub So : Verdict → List A → ℕ → Type 0
  So joined xs k = verdict_of_both joined (verdict_of_all (map f (drop k xs))) ≡ verdict_of_all (map f xs)

  pub all_so : (xs : List A) → So (Some Never) xs 0
  all_so xs = never_joined (verdict_of_all (map f xs))

  pub all_more : (joined : Verdict) (xs : List A) (k : ℕ) (d : A) → k < length xs → So joined xs k
      → So (verdict_of_both joined (f (get_or xs k d))) xs (k + 1)
  all_more joined xs k d lt h =
      joined_assoc joined (f (get_or xs k d)) (verdict_of_all (map f (drop (k + 1) xs)))
      ∙ ap (λ ys. verdict_of_both joined (verdict_of_all (map f ys))) (sym (drop_here xs k d lt)) ∙ h

  -- the same for the verdict on the element there
  pub all_at : (joined now v : Verdict) (xs : List A) (k : ℕ) (x : A) → k < length xs → x ≡ get_or xs k x → v ≡ f x
      → now ≡ verdict_of_both joined v → So joined xs k → So now xs (k + 1)
  all_at joined now v xs k x lt is e j h =
      let here : now ≡ verdict_of_both joined (f (get_or xs k x)) = j ∙ ap (verdict_of_both joined) (e ∙ ap f is) in
      ap (λ w. verdict_of_both w (verdict_of_all (map f (drop (k + 1) xs)))) here ∙ all_more joined xs k x lt h

  pub all_done : (joined : Verdict) (xs : List A) (k : ℕ) → length xs ≤ k → So joined xs k → joined
      ≡ verdict_of_all (map f xs)
  all_done joined xs k le h =
      sym (joined_never joined) ∙ ap (λ ys. verdict_of_both joined (verdict_of_all (map f ys)))
      (sym (drop_none xs k le)) ∙ h

-- ---- either

either_assoc : (f g h : Fate) → either (either f g) h ≡ either f (either g h)
either_assoc Never Never Never = refl
either_assoc Never Never Once = refl
either_assoc Never Never Many = refl
either_assoc Never Never Differing = refl
either_assoc Never Never Unassigned = refl
either_assoc Never Once Never = refl
either_assoc Never Once Once = refl
either_assoc Never Once Many = refl
either_assoc Never Once Differing = refl
either_assoc Never Once Unassigned = refl
either_assoc Never Many Never = refl
either_assoc Never Many Once = refl
either_assoc Never Many Many = refl
either_assoc Never Many Differing = refl
either_assoc Never Many Unassigned = refl
either_assoc Never Differing Never = refl
either_assoc Never Differing Once = refl
either_assoc Never Differing Many = refl
either_assoc Never Differing Differing = refl
either_assoc Never Differing Unassigned = refl
either_assoc Never Unassigned Never = refl
either_assoc Never Unassigned Once = refl
either_assoc Never Unassigned Many = refl
either_assoc Never Unassigned Differing = refl
either_assoc Never Unassigned Unassigned = refl
either_assoc Once Never Never = refl
either_assoc Once Never Once = refl
either_assoc Once Never Many = refl
either_assoc Once Never Differing = refl
either_assoc Once Never Unassigned = refl
either_assoc Once Once Never = refl
either_assoc Once Once Once = refl
either_assoc Once Once Many = refl
either_assoc Once Once Differing = refl
either_assoc Once Once Unassigned = refl
either_assoc Once Many Never = refl
either_assoc Once Many Once = refl
either_assoc Once Many Many = refl
either_assoc Once Many Differing = refl
either_assoc Once Many Unassigned = refl
either_assoc Once Differing Never = refl
either_assoc Once Differing Once = refl
either_assoc Once Differing Many = refl
either_assoc Once Differing Differing = refl
either_assoc Once Differing Unassigned = refl
either_assoc Once Unassigned Never = refl
either_assoc Once Unassigned Once = refl
either_assoc Once Unassigned Many = refl
either_assoc Once Unassigned Differing = refl
either_assoc Once Unassigned Unassigned = refl
either_assoc Many Never Never = refl
either_assoc Many Never Once = refl
either_assoc Many Never Many = refl
either_assoc Many Never Differing = refl
either_assoc Many Never Unassigned = refl
either_assoc Many Once Never = refl
either_assoc Many Once Once = refl
either_assoc Many Once Many = refl
either_assoc Many Once Differing = refl
either_assoc Many Once Unassigned = refl
either_assoc Many Many Never = refl
either_assoc Many Many Once = refl
either_assoc Many Many Many = refl
either_assoc Many Many Differing = refl
either_assoc Many Many Unassigned = refl
either_assoc Many Differing Never = refl
either_assoc Many Differing Once = refl
either_assoc Many Differing Many = refl
either_assoc Many Differing Differing = refl
either_assoc Many Differing Unassigned = refl
either_assoc Many Unassigned Never = refl
either_assoc Many Unassigned Once = refl
either_assoc Many Unassigned Many = refl
either_assoc Many Unassigned Differing = refl
either_assoc Many Unassigned Unassigned = refl
either_assoc Differing Never Never = refl
either_assoc Differing Never Once = refl
either_assoc Differing Never Many = refl
either_assoc Differing Never Differing = refl
either_assoc Differing Never Unassigned = refl
either_assoc Differing Once Never = refl
either_assoc Differing Once Once = refl
either_assoc Differing Once Many = refl
either_assoc Differing Once Differing = refl
either_assoc Differing Once Unassigned = refl
either_assoc Differing Many Never = refl
either_assoc Differing Many Once = refl
either_assoc Differing Many Many = refl
either_assoc Differing Many Differing = refl
either_assoc Differing Many Unassigned = refl
either_assoc Differing Differing Never = refl
either_assoc Differing Differing Once = refl
either_assoc Differing Differing Many = refl
either_assoc Differing Differing Differing = refl
either_assoc Differing Differing Unassigned = refl
either_assoc Differing Unassigned Never = refl
either_assoc Differing Unassigned Once = refl
either_assoc Differing Unassigned Many = refl
either_assoc Differing Unassigned Differing = refl
either_assoc Differing Unassigned Unassigned = refl
either_assoc Unassigned Never Never = refl
either_assoc Unassigned Never Once = refl
either_assoc Unassigned Never Many = refl
either_assoc Unassigned Never Differing = refl
either_assoc Unassigned Never Unassigned = refl
either_assoc Unassigned Once Never = refl
either_assoc Unassigned Once Once = refl
either_assoc Unassigned Once Many = refl
either_assoc Unassigned Once Differing = refl
either_assoc Unassigned Once Unassigned = refl
either_assoc Unassigned Many Never = refl
either_assoc Unassigned Many Once = refl
either_assoc Unassigned Many Many = refl
either_assoc Unassigned Many Differing = refl
either_assoc Unassigned Many Unassigned = refl
either_assoc Unassigned Differing Never = refl
either_assoc Unassigned Differing Once = refl
either_assoc Unassigned Differing Many = refl
either_assoc Unassigned Differing Differing = refl
either_assoc Unassigned Differing Unassigned = refl
either_assoc Unassigned Unassigned Never = refl
either_assoc Unassigned Unassigned Once = refl
either_assoc Unassigned Unassigned Many = refl
either_assoc Unassigned Unassigned Differing = refl
either_assoc Unassigned Unassigned Unassigned = refl

chosen_assoc : (u v w : Verdict) → verdict_of_either (verdict_of_either u v) w
    ≡ verdict_of_either u (verdict_of_either v w)
chosen_assoc None v w = refl
chosen_assoc (Some f) None w = refl
chosen_assoc (Some f) (Some g) None = refl
chosen_assoc (Some f) (Some g) (Some h) = ap Some (either_assoc f g h)

one_more_judged : (u v : Verdict) (vs : List Verdict) → verdict_of_one (verdict_of_either u v ∷ vs)
    ≡ verdict_of_one (u ∷ v ∷ vs)
one_more_judged u v [] = refl
one_more_judged u v (w ∷ vs) = chosen_assoc u v (verdict_of_one (w ∷ vs))

module _ {A : Type 0} (f : A → Verdict) where
  -- one of what is so far and of the rest
  abbrev pub OneSo : Verdict → Verdict → List A → ℕ → Type 0
  OneSo first joined xs k = verdict_of_one (joined ∷ map f (drop k xs)) ≡ verdict_of_one (first ∷ map f xs)

  pub one_more : (first joined : Verdict) (xs : List A) (k : ℕ) (d : A) → k < length xs → OneSo first joined xs k
      → OneSo first (verdict_of_either joined (f (get_or xs k d))) xs (k + 1)
  one_more first joined xs k d lt h =
      one_more_judged joined (f (get_or xs k d)) (map f (drop (k + 1) xs))
      ∙ ap (λ ys. verdict_of_one (joined ∷ map f ys)) (sym (drop_here xs k d lt)) ∙ h

  pub one_done : (first joined : Verdict) (xs : List A) (k : ℕ) → length xs ≤ k → OneSo first joined xs k → joined
      ≡ verdict_of_one (first ∷ map f xs)
  one_done first joined xs k le h = ap (λ ys. verdict_of_one (joined ∷ map f ys)) (sym (drop_none xs k le)) ∙ h

-- ---- the exporting processes at these places

abbrev pub at_place : {L : Type 0} → At L → Net → L → ℕ → Verdict
at_place at net layout place = sent_verdict at net layout (before (slice_get net.exporters place) [])

places_first : {L : Type 0} (at : At L) (net : Net) (layout : L) (o : Option Exporter) (es : List Exporter)
    → sent_verdict at net layout (before o es)
    ≡ verdict_of_both (sent_verdict at net layout (before o [])) (sent_verdict at net layout es)
places_first at net layout None es = sym (never_joined (sent_verdict at net layout es))
places_first at net layout (Some e) es =
    ap (λ v. verdict_of_both v (sent_verdict at net layout es)) (sym (joined_never (send_verdict at net layout e)))

pub places_joined : {L : Type 0} (at : At L) (net : Net) (layout : L) (places : List ℕ)
    → verdict_of_all (map (at_place at net layout) places) ≡ sent_verdict at net layout (at_places net.exporters places)
places_joined at net layout [] = refl
places_joined at net layout (p ∷ ps) =
    ap (verdict_of_both (at_place at net layout p)) (places_joined at net layout ps)
    ∙ sym (places_first at net layout (slice_get net.exporters p) (at_places net.exporters ps))

pub one_place : {L : Type 0} (at : At L) (net : Net) (layout : L) (e : Exporter) → send_verdict at net layout e
    ≡ sent_verdict at net layout (e ∷ [])
one_place at net layout e = sym (joined_never (send_verdict at net layout e))
