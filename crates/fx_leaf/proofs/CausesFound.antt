-- Where there is no verdict on what is sent, a destination of it has none.
use Rattle.std.proofs.Common.{◌≡◌, inl, inr, ℕ, zero, suc, ◌+◌, ◌<◌, ◌≤◌, true, false, cond, List, [], ◌∷◌, map, length, drop, get_or, Option, Some, None, refl, sym, ap, ◌∙◌, subst, arith, slice_get, IfNone, le_of_suc-le-suc}
use Rattle.std.specs.Prelude.{Contains}
use Rattle.fx_tables.specs.Network.{Net, Exporter, at_places, before}
use Rattle.fx_leaf.specs.Causes.{LeadsOn, SendsOn}
use Rattle.fx_leaf.specs.Tables.{Table, entry}
use Rattle.fx_leaf.specs.Verdicts.{Verdict, verdict_of_both, verdict_of_all, verdict_of_one, destination_verdict, send_verdict, sent_verdict}
use Rattle.fx_leaf.proofs.JoinedVerdicts.{drop_here, drop_none}
use Rattle.fx_leaf.proofs.VerdictsWhereUncut.{both_none, either_none, further, in_front}

module _ {A : Type 0} (f : A → Verdict) where
  -- where all have none, the rest has none
  abbrev pub Still : List A → ℕ → Type 0
  Still xs k = verdict_of_all (map f xs) ≡ None → verdict_of_all (map f (drop k xs)) ≡ None

  pub still_more : (xs : List A) (k : ℕ) (d : A) → k < length xs → (f (get_or xs k d) ≡ None → ⊥) → Still xs k
      → Still xs (k + 1)
  still_more xs k d lt some h all =
      elim (both_none (f (get_or xs k d)) (verdict_of_all (map f (drop (k + 1) xs)))
      (sym (ap (λ ys. verdict_of_all (map f ys)) (drop_here xs k d lt)) ∙ h all)) [
        | inl e ↦ absurd (some e)
        | inr e ↦ e
      ]

  pub still_done : (xs : List A) (k : ℕ) → length xs ≤ k → Still xs k → verdict_of_all (map f xs) ≡ None → ⊥
  still_done xs k le h all = never (sym (ap (λ ys. verdict_of_all (map f ys)) (drop_none xs k le)) ∙ h all)
    where
      never : verdict_of_all [] ≡ None → ⊥
      never e = absurd (cc)

one_is_all : (vs : List Verdict) → verdict_of_one vs ≡ None → verdict_of_all vs ≡ None
one_is_all [] h = absurd (cc)
one_is_all (v ∷ []) h = ap (λ w. verdict_of_both w (verdict_of_all [])) h
one_is_all (v ∷ w ∷ vs) h =
    elim (either_none v (verdict_of_one (w ∷ vs)) h) [
      | inl e ↦ ap (λ x. verdict_of_both x (verdict_of_all (w ∷ vs))) e
      | inr e ↦ second v (verdict_of_all (w ∷ vs)) (one_is_all (w ∷ vs) e)
    ]
  where
    second : (x y : Verdict) → y ≡ None → verdict_of_both x y ≡ None
    second None y e = refl
    second (Some g) y e = ap (verdict_of_both (Some g)) e

module _ (table : Table) (net : Net) (number : ℕ) where
  abbrev to : Option ℕ → Verdict
  to d = destination_verdict (entry table) net number d

  -- an exporting process that has none has a destination with none
  pub by_one : (e : Exporter) → (verdict_of_all (map to e.destinations) ≡ None → ⊥)
      → sent_verdict (entry table) net number (e ∷ []) ≡ None → ⊥
  by_one e none h =
      elim (both_none (send_verdict (entry table) net number e) (verdict_of_all []) h) [
        | inl k ↦ elim e.parallel as (λ t. cond t (verdict_of_all (map to e.destinations))
            (verdict_of_one (map to e.destinations)) ≡ None → ⊥) [
              | true ↦ λ m. none m
              | false ↦ λ m. none (one_is_all (map to e.destinations) m)
            ] k
        | inr k ↦ never k
      ]
    where
      never : verdict_of_all [] ≡ None → ⊥
      never k = absurd (cc)

  at_this : (o : Option Exporter) (e : Exporter) (es : List Exporter) → Contains (before o []) e
      → Contains (before o es) e
  at_this None e es at = absurd (let lt = at.1 in omega (arith, lt))
  at_this (Some x) e es at = in_front (x ∷ []) es e at

  later_on : (o : Option Exporter) (e : Exporter) (es : List Exporter) → Contains es e → Contains (before o es) e
  later_on None e es at = at
  later_on (Some x) e es at = further e x es at

  placed : (places : List ℕ) (k d : ℕ) (e : Exporter) → k < length places
      → Contains (before (slice_get net.exporters (get_or places k d)) []) e
      → Contains (at_places net.exporters places) e
  placed [] k d e lt at = absurd (omega arith)
  placed (p ∷ ps) zero d e lt at = at_this (slice_get net.exporters p) e (at_places net.exporters ps) at
  placed (p ∷ ps) (suc k) d e lt at = later_on (slice_get net.exporters p) e (at_places net.exporters ps)
      (placed ps k d e (le_of_suc-le-suc lt) at)

  -- one of many exporting processes
  pub sends_among : (places : List ℕ) (k d process : ℕ) → k < length places
      → SendsOn table net number (before (slice_get net.exporters (get_or places k d)) []) process
      → SendsOn table net number (at_places net.exporters places) process
  sends_among places k d process lt s = record {
    exporter = s.exporter;
    sends =
        placed places k d s.exporter lt s.sends;
    on = s.on;
  }

  -- one of many destinations
  pub leads_among : (destinations : List (Option ℕ)) (k : ℕ) (d : Option ℕ) (process : ℕ) → k < length destinations
      → LeadsOn table net number (get_or destinations k d ∷ []) process → LeadsOn table net number destinations process
  leads_among destinations k d process lt l =
      record { link = l.link; among = at destinations k lt l.among; leads = l.leads; none = l.none }
    where
      at : (ds : List (Option ℕ)) (i : ℕ) → i < length ds → Contains (get_or ds i d ∷ []) (Some l.link)
          → Contains ds (Some l.link)
      at [] i h x = absurd (omega arith)
      at (y ∷ ys) zero h x = in_front (y ∷ []) ys (Some l.link) x
      at (y ∷ ys) (suc i) h x = further (Some l.link) y ys (at ys i (le_of_suc-le-suc h) x)

pub found_there : {A : Type 0} (xs : List A) (k : ℕ) (x : A) → k < length xs → x ≡ get_or xs k x → slice_get xs k
    ≡ Some x
found_there [] k x lt is = absurd (omega arith)
found_there (y ∷ ys) zero x lt is = ap Some (sym is)
found_there (y ∷ ys) (suc k) x lt is = found_there ys k x (le_of_suc-le-suc lt) is

-- nothing is found where the exporting process at a place has a verdict
pub by_place_none : (table : Table) (net : Net) (number place : ℕ) (exporters : List Exporter) (e : Exporter)
    (ds : List (Option ℕ)) (o : Option ℕ) → exporters ≡ net.exporters → place < length exporters → e
    ≡ get_or exporters place e → ds ≡ e.destinations
    → IfNone o (verdict_of_all (map (destination_verdict (entry table) net number) ds) ≡ None → ⊥)
    → IfNone o (sent_verdict (entry table) net number (before (slice_get net.exporters place) []) ≡ None → ⊥)
by_place_none table net number place exporters e ds (Some q) same lt at is h = tt
by_place_none table net number place exporters e ds None same lt at is h =
    subst (λ x. sent_verdict (entry table) net number (before x []) ≡ None → ⊥)
    (sym (found_there exporters place e lt at) ∙ ap (λ (xs : List Exporter). slice_get xs place) same)
    (by_one table net number e (subst (λ xs. verdict_of_all (map (destination_verdict (entry table) net number) xs)
    ≡ None → ⊥) is h))
