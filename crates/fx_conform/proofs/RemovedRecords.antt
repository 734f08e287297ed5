-- A held record leaves, and then there is one for each other key.
use Rattle.std.proofs.Common.{◌≡◌, ℕ, zero, suc, Bool, true, false, cond, List, [], ◌∷◌, refl, ap, sym, ◌∙◌, subst, Option, Some, None}
use Rattle.std.specs.Prelude.{slice_get}
use Rattle.std.specs.Prelude as prelude
use Rattle.std.specs.List.{AllByRecursion}
use Rattle.std.specs.FinMap.{get, remove, get-remove}
use Rattle.fx_base.specs.declared.counts.Counts.{Counts}
use Rattle.fx_layout.specs.Keys.{Key, same_key}
use Rattle.fx_layout.proofs.Projections.{same_key_is}
use Rattle.fx_tables.specs.declared.record.Record.{Record}
use Rattle.fx_base.specs.Entries.{entry_numbered}
use Rattle.fx_machine.specs.States.{without}
use Rattle.fx_machine.specs.Sums.{total_at}
use Rattle.fx_store.specs.Flows.{Flows}
use Rattle.fx_store.specs.KeyOrder.{key_cmp_total, same_key_ties}
use Rattle.fx_collect.specs.Totals.{Differ}
use Rattle.fx_conform.specs.Held.{IsHeld}
use Rattle.fx_conform.proofs.JoinedRecords.{same_itself, turned}

-- the list without the entry at a place
abbrev left : List Record → ℕ → List Record
left rs n = prelude.remove rs n

others_left : (k : Key) (rs : List Record) (n : ℕ)
    → AllByRecursion (λ (other : Record). same_key k other.key ≡ false) rs
    → AllByRecursion (λ (other : Record). same_key k other.key ≡ false) (left rs n)
others_left k [] zero h = tt
others_left k [] (suc n) h = tt
others_left k (t ∷ ts) zero h = h.1
others_left k (t ∷ ts) (suc n) h = (h.0, others_left k ts n h.1)

differ_left : (rs : List Record) (n : ℕ) → Differ rs → Differ (left rs n)
differ_left [] zero h = tt
differ_left [] (suc n) h = tt
differ_left (t ∷ ts) zero h = h.1
differ_left (t ∷ ts) (suc n) h = (others_left t.key ts n h.0, differ_left ts n h.1)

none_same : (k q : Key) (rs : List Record) → AllByRecursion (λ (other : Record). same_key k other.key ≡ false) rs
    → same_key k q ≡ true → total_at rs q ≡ None
none_same k q [] h e = refl
none_same k q (t ∷ ts) h e =
    let apart : same_key t.key q ≡ false = turned t.key q
    ∙ subst (λ (x : Key). same_key x t.key ≡ false) (same_key_is k q e) h.0 in
    ap (λ (b : Bool). cond b (Some t.counts) (total_at ts q)) apart ∙ none_same k q ts h.1 e

apart_at : (k : Key) (rs : List Record) (n : ℕ) (r : Record)
    → AllByRecursion (λ (other : Record). same_key k other.key ≡ false) rs → slice_get rs n ≡ Some r → same_key k r.key
    ≡ false
apart_at k [] n r h g = absurd cc
apart_at k (t ∷ ts) zero r h g = subst (λ (x : Record). same_key k x.key ≡ false) (let e : t ≡ r = cc in e) h.0
apart_at k (t ∷ ts) (suc n) r h g = apart_at k ts n r h.1 g

total_left : (rs : List Record) (n : ℕ) (r : Record) (q : Key) → Differ rs → slice_get rs n ≡ Some r
    → total_at (left rs n) q ≡ cond (same_key r.key q) None (total_at rs q)
total_left [] n r q h g = absurd cc
total_left (t ∷ ts) zero r q h g = subst (λ (x : Record). total_at ts q
    ≡ cond (same_key x.key q) None (total_at (t ∷ ts) q)) (let e : t ≡ r = cc in e) (by (same_key t.key q) refl) where
      by : (b : Bool) → same_key t.key q ≡ b → total_at ts q
          ≡ cond (same_key t.key q) None (cond (same_key t.key q) (Some t.counts) (total_at ts q))
      by true e = none_same t.key q ts h.0 e ∙ sym (ap
          (λ (b : Bool). cond b None (cond b (Some t.counts) (total_at ts q)))
          e)
      by false e = sym (ap (λ (b : Bool). cond b None (cond b (Some t.counts) (total_at ts q))) e)
total_left (t ∷ ts) (suc n) r q h g = by (total_left ts n r q h.1 g) (same_key t.key q) (same_key r.key q) refl refl
  where
    by : total_at (left ts n) q ≡ cond (same_key r.key q) None (total_at ts q) → (b c : Bool) → same_key t.key q ≡ b
        → same_key r.key q ≡ c
        → cond (same_key t.key q) (Some t.counts) (total_at (left ts n) q)
        ≡ cond (same_key r.key q) None (cond (same_key t.key q) (Some t.counts) (total_at ts q))
    by ih true true e f =
        let same : same_key t.key r.key ≡ true =
        same_itself t.key r.key (same_key_is t.key q e ∙ sym (same_key_is r.key q f)) in
        absurd (let a = apart_at t.key ts n r h.0 g in cc)
    by ih true false e f = rw (e, f) refl
    by ih false c e f = ap (λ (b : Bool). cond b (Some t.counts) (total_at (left ts n) q)) e ∙ ih
        ∙ sym (ap (λ (b : Bool). cond (same_key r.key q) None (cond b (Some t.counts) (total_at ts q))) e)

pub held_left : (held : Flows) (rs : List Record) (number : ℕ) (r : Record) → IsHeld held rs → entry_numbered rs number
    ≡ Some r → IsHeld (remove held r.key) (without rs number)
held_left held rs zero r h g = absurd cc
held_left held rs (suc n) r h g = record {
  differ = differ_left rs n h.differ;
  same = λ q. total_left rs n r q h.differ g
      ∙ ap (λ (o : Option Counts). cond (same_key r.key q) None o) (h.same q)
      ∙ ap (λ (b : Bool). cond b None (get held q)) (turned r.key q ∙ same_key_ties q r.key)
      ∙ sym (get-remove key_cmp_total held r.key q);
}

-- ---- what a store has is held

record There (rs : List Record) (key : Key) (counts : Counts) : Type 0 where
  place : ℕ
  there : slice_get rs place ≡ Some (record { key = key; counts = counts })

stands : (rs : List Record) (key : Key) (counts : Counts) → total_at rs key ≡ Some counts → There rs key counts
stands [] key counts e = absurd cc
stands (t ∷ ts) key counts e = by (λ f. stands ts key counts f) (same_key t.key key) refl where
  by : (total_at ts key ≡ Some counts → There ts key counts) → (b : Bool) → same_key t.key key ≡ b
      → There (t ∷ ts) key counts
  by ih true s =
      let c : t.counts ≡ counts = (let h : ◌≡◌ {A = Option Counts} (Some t.counts) (Some counts) =
      sym (ap (λ (b : Bool). cond b (Some t.counts) (total_at ts key)) s) ∙ e in cc) in
      record {
        place = 0;
        there = ap (λ (k : Key). let o : Option Record = Some (record { key = k; counts = t.counts })
            in o) (same_key_is t.key key s) ∙ ap (λ (x : Counts). let o : Option Record =
            Some (record { key = key; counts = x }) in o) c;
      }
  by ih false s =
      let h = ih (sym (ap (λ (b : Bool). cond b (Some t.counts) (total_at ts key)) s) ∙ e) in
      record { place = suc h.place; there = h.there }

pub entry_is_held : (held : Flows) (rs : List Record) (key : Key) (counts : Counts) → IsHeld held rs → get held key
    ≡ Some counts → (number : ℕ) × (entry_numbered rs number ≡ Some (record { key = key; counts = counts }))
entry_is_held held rs key counts h g = let s = stands rs key counts (h.same key ∙ g) in (suc s.place, s.there)

pub leavings_are_made : (held : Flows) (rs : List Record) (key : Key) (counts : Counts) → IsHeld held rs → get held key
    ≡ Some counts
    → (number : ℕ) × (entry_numbered rs number ≡ Some (record { key = key; counts = counts }))
    × IsHeld (remove held key) (without rs number)
leavings_are_made held rs key counts h g =
    let e = entry_is_held held rs key counts h g in
    (e.0, e.1, held_left held rs e.0 (record { key = key; counts = counts }) h e.1)
