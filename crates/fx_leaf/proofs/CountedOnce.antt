-- Where verdicts together are once, one of them is and the others are never, whatever their order.
use Rattle.std.proofs.Common.{◌≡◌, ◌⊎◌, inl, inr, ℕ, zero, suc, ◌<◌, List, [], ◌∷◌, length, get_or, Contains, Option, Some, None, refl, sym, ap, ◌∙◌, arith, if◌then◌else◌, le_of_suc-le-suc}
use Rattle.std.proofs.Math.ListN.{set}
use Rattle.std.specs.List.Sorted.{IsPermutation}
use Rattle.std.proofs.lemmas.List.Sorted.{IsPermutation-keeps}
use Rattle.std.proofs.lemmas.List.Edits.{swap_is}
use Rattle.fx_leaf.specs.declared.verdict.Fate.{Fate}
use Rattle.fx_leaf.specs.declared.verdict.Fate.TheVariants.{Never, Once, Many, Differing, Unassigned}
use Rattle.fx_leaf.specs.Fates.{both}
use Rattle.fx_leaf.specs.Splits.{joint_verdict}
use Rattle.fx_leaf.specs.Verdicts.{Verdict, SelectionVerdict, verdict_of_both, verdict_of_all, is_once, last_counter}
use Rattle.fx_leaf.proofs.JoinedVerdicts.{joined_assoc}
use Rattle.fx_leaf.proofs.Verdicts.{Parts, both_parts}

-- ---- two fates that both happen

pub same_some : {A : Type 0} {x y : A} → Some x ≡ Some y → x ≡ y
same_some h = cc

pub never_both : (f : Fate) → both Never f ≡ f
never_both Never = refl
never_both Once = refl
never_both Many = refl
never_both Differing = refl
never_both Unassigned = refl

pub both_never : (f g : Fate) → both f g ≡ Never → (f ≡ Never) × (g ≡ Never)
both_never Never g h = (refl, sym (never_both g) ∙ h)
both_never Once Never h = absurd (cc)
both_never Once Once h = absurd (cc)
both_never Once Many h = absurd (cc)
both_never Once Differing h = absurd (cc)
both_never Once Unassigned h = absurd (cc)
both_never Many Never h = absurd (cc)
both_never Many Once h = absurd (cc)
both_never Many Many h = absurd (cc)
both_never Many Differing h = absurd (cc)
both_never Many Unassigned h = absurd (cc)
both_never Differing Never h = absurd (cc)
both_never Differing Once h = absurd (cc)
both_never Differing Many h = absurd (cc)
both_never Differing Differing h = absurd (cc)
both_never Differing Unassigned h = absurd (cc)
both_never Unassigned g h = absurd (cc)

pub both_once : (f g : Fate) → both f g ≡ Once → ((f ≡ Once) × (g ≡ Never)) ⊎ ((f ≡ Never) × (g ≡ Once))
both_once Never g h = inr (refl, sym (never_both g) ∙ h)
both_once Once Never h = inl (refl, refl)
both_once Once Once h = absurd (cc)
both_once Once Many h = absurd (cc)
both_once Once Differing h = absurd (cc)
both_once Once Unassigned h = absurd (cc)
both_once Many Never h = absurd (cc)
both_once Many Once h = absurd (cc)
both_once Many Many h = absurd (cc)
both_once Many Differing h = absurd (cc)
both_once Many Unassigned h = absurd (cc)
both_once Differing Never h = absurd (cc)
both_once Differing Once h = absurd (cc)
both_once Differing Many h = absurd (cc)
both_once Differing Differing h = absurd (cc)
both_once Differing Unassigned h = absurd (cc)
both_once Unassigned g h = absurd (cc)

-- ---- one after another

pub none_counted : (found : Option SelectionVerdict) (ss : List SelectionVerdict) → joint_verdict ss ≡ Some Never
    → last_counter found ss ≡ found
none_counted found [] e = refl
none_counted found (s ∷ ss) e =
    let p = both_parts s.verdict (joint_verdict ss) Never e in
    let two = both_never p.one p.other p.joined in
    ap (λ v. last_counter (if is_once v then Some s else found) ss) (p.one_is ∙ ap Some two.0)
    ∙ none_counted found ss (p.other_is ∙ ap Some two.1)

-- where none is counted each is never
each_never : (ss : List SelectionVerdict) (w : SelectionVerdict) → joint_verdict ss ≡ Some Never → Contains ss w
    → w.verdict ≡ Some Never
each_never [] w e at = absurd (let within = at.1 in omega (arith, within))
each_never (s ∷ ss) w e (zero, within, is) =
    let p = both_parts s.verdict (joint_verdict ss) Never e in
    ap (λ (x : SelectionVerdict). x.verdict) (sym is) ∙ p.one_is ∙ ap Some (both_never p.one p.other p.joined).0
each_never (s ∷ ss) w e (suc k, within, is) =
    let p = both_parts s.verdict (joint_verdict ss) Never e in
    each_never ss w (p.other_is ∙ ap Some (both_never p.one p.other p.joined).1) (k, le_of_suc-le-suc within, is)

-- where one is counted, it is the last that is
pub record IsCounter (found : Option SelectionVerdict) (ss : List SelectionVerdict) (w : SelectionVerdict) : Type 0
  where
    pub last : last_counter found ss ≡ Some w
    pub among : Contains ss w
    pub once : w.verdict ≡ Some Once

head_is : (found : Option SelectionVerdict) (s : SelectionVerdict) (ss : List SelectionVerdict) (v : Verdict)
    → s.verdict ≡ v → last_counter found (s ∷ ss) ≡ last_counter (if is_once v then Some s else found) ss
head_is found s ss v is = ap (λ (w : Verdict). last_counter (if is_once w then Some s else found) ss) is

one_by : (found : Option SelectionVerdict) (s : SelectionVerdict) (ss : List SelectionVerdict)
    (p : Parts both s.verdict (joint_verdict ss) Once) → ((p.one ≡ Once) × (p.other ≡ Never))
    ⊎ ((p.one ≡ Never) × (p.other ≡ Once)) → (joint_verdict ss ≡ Some Once → (w : SelectionVerdict)
    × IsCounter found ss w) → (w : SelectionVerdict) × IsCounter found (s ∷ ss) w
one_by found s ss p (inl two) rest =
    let here : s.verdict ≡ Some Once = p.one_is ∙ ap Some two.0 in
    let others : joint_verdict ss ≡ Some Never = p.other_is ∙ ap Some two.1 in (
      s,
      record {
        last = head_is found s ss (Some Once) here ∙ none_counted (Some s) ss others;
        among =
            (zero, omega arith, refl);
        once = here;
      },
    )
one_by found s ss p (inr two) rest =
    let here : s.verdict ≡ Some Never = p.one_is ∙ ap Some two.0 in
    let r = rest (p.other_is ∙ ap Some two.1) in
    let at = r.1.among in (
      r.0,
      record {
        last = head_is found s ss (Some Never) here ∙ r.1.last;
        among =
            (suc at.0, (let less = at.1 in omega (arith, less)), at.2);
        once = r.1.once;
      },
    )

pub one_counter : (found : Option SelectionVerdict) (ss : List SelectionVerdict) → joint_verdict ss ≡ Some Once
    → (w : SelectionVerdict) × IsCounter found ss w
one_counter found [] e = absurd (cc)
one_counter found (s ∷ ss) e =
    let p = both_parts s.verdict (joint_verdict ss) Once e in
    one_by found s ss p (both_once p.one p.other p.joined) (λ h. one_counter found ss h)

the_by : (found : Option SelectionVerdict) (s : SelectionVerdict) (ss : List SelectionVerdict) (w : SelectionVerdict)
    (p : Parts both s.verdict (joint_verdict ss) Once) → ((p.one ≡ Once) × (p.other ≡ Never))
    ⊎ ((p.one ≡ Never) × (p.other ≡ Once)) → Contains (s ∷ ss) w → w.verdict ≡ Some Once
    → (joint_verdict ss ≡ Some Once → Contains ss w → last_counter found ss ≡ Some w) → last_counter found (s ∷ ss)
    ≡ Some w
the_by found s ss w p (inl two) (zero, within, is) once rest =
    head_is found s ss (Some Once) (p.one_is ∙ ap Some two.0) ∙ none_counted (Some s) ss (p.other_is ∙ ap Some two.1)
    ∙ ap Some is
the_by found s ss w p (inl two) (suc k, within, is) once rest =
    let none : w.verdict ≡ Some Never = each_never ss w (p.other_is ∙ ap Some two.1) (k, le_of_suc-le-suc within, is) in
    absurd (cc)
the_by found s ss w p (inr two) (zero, within, is) once rest =
    let here : w.verdict ≡ Some Never = ap (λ (x : SelectionVerdict). x.verdict) (sym is) ∙ p.one_is ∙ ap Some two.0 in
    absurd (cc)
the_by found s ss w p (inr two) (suc k, within, is) once rest =
    head_is found s ss (Some Never) (p.one_is ∙ ap Some two.0)
    ∙ rest (p.other_is ∙ ap Some two.1) (k, le_of_suc-le-suc within, is)

-- and no other one is
pub the_counter : (found : Option SelectionVerdict) (ss : List SelectionVerdict) (w : SelectionVerdict)
    → joint_verdict ss ≡ Some Once → Contains ss w → w.verdict ≡ Some Once → last_counter found ss ≡ Some w
the_counter found [] w e at once = absurd (cc)
the_counter found (s ∷ ss) w e at once =
    let p = both_parts s.verdict (joint_verdict ss) Once e in
    the_by found s ss w p (both_once p.one p.other p.joined) at once (λ h k. the_counter found ss w h k once)

-- ---- in any order

both_comm : (f g : Fate) → both f g ≡ both g f
both_comm Never Never = refl
both_comm Never Once = refl
both_comm Never Many = refl
both_comm Never Differing = refl
both_comm Never Unassigned = refl
both_comm Once Never = refl
both_comm Once Once = refl
both_comm Once Many = refl
both_comm Once Differing = refl
both_comm Once Unassigned = refl
both_comm Many Never = refl
both_comm Many Once = refl
both_comm Many Many = refl
both_comm Many Differing = refl
both_comm Many Unassigned = refl
both_comm Differing Never = refl
both_comm Differing Once = refl
both_comm Differing Many = refl
both_comm Differing Differing = refl
both_comm Differing Unassigned = refl
both_comm Unassigned Never = refl
both_comm Unassigned Once = refl
both_comm Unassigned Many = refl
both_comm Unassigned Differing = refl
both_comm Unassigned Unassigned = refl

joined_comm : (v w : Verdict) → verdict_of_both v w ≡ verdict_of_both w v
joined_comm None None = refl
joined_comm None (Some g) = refl
joined_comm (Some f) None = refl
joined_comm (Some f) (Some g) = ap Some (both_comm f g)

joined_between : (u v w : Verdict) → verdict_of_both u (verdict_of_both v w) ≡ verdict_of_both v (verdict_of_both u w)
joined_between u v w = sym (joined_assoc u v w) ∙ ap (λ (x : Verdict). verdict_of_both x w) (joined_comm u v)
    ∙ joined_assoc v u w

-- one takes the place of another
put_in : (x : Verdict) (xs : List Verdict) (k : ℕ) (d : Verdict) → k < length xs
    → verdict_of_both (get_or xs k d) (verdict_of_all (set xs k x)) ≡ verdict_of_both x (verdict_of_all xs)
put_in x [] k d lt = absurd (omega arith)
put_in x (y ∷ ys) zero d lt = joined_between y x (verdict_of_all ys)
put_in x (y ∷ ys) (suc k) d lt =
    joined_between (get_or ys k d) y (verdict_of_all (set ys k x))
    ∙ ap (verdict_of_both y) (put_in x ys k d (le_of_suc-le-suc lt)) ∙ joined_between y x (verdict_of_all ys)

exchanged : (xs : List Verdict) (i j : ℕ) (d : Verdict) → i < length xs → j < length xs
    → verdict_of_all (set (set xs i (get_or xs j d)) j (get_or xs i d)) ≡ verdict_of_all xs
exchanged [] i j d at to = absurd (omega arith)
exchanged (x ∷ xs) zero zero d at to = refl
exchanged (x ∷ xs) zero (suc j) d at to = put_in x xs j d (le_of_suc-le-suc to)
exchanged (x ∷ xs) (suc i) zero d at to = put_in x xs i d (le_of_suc-le-suc at)
exchanged (x ∷ xs) (suc i) (suc j) d at to =
    ap (verdict_of_both x) (exchanged xs i j d (le_of_suc-le-suc at) (le_of_suc-le-suc to))

pub in_any_order : (xs ys : List Verdict) → IsPermutation xs ys → verdict_of_all ys ≡ verdict_of_all xs
in_any_order xs ys moved = IsPermutation-keeps xs (λ zs. verdict_of_all zs ≡ verdict_of_all xs) refl
    (λ l i j at to e. ap verdict_of_all (sym (swap_is l i j None at to)) ∙ exchanged l i j None at to ∙ e) ys moved
