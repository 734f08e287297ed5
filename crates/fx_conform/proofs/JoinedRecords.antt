-- A record joins the held one of its key, and then there is one for each key again.
use Rattle.std.proofs.Common.{◌≡◌, ℕ, suc, Bool, true, false, cond, List, [], ◌∷◌, ◌++◌, refl, ap, sym, ◌∙◌, subst, Option, Some, None}
use Rattle.std.specs.Prelude.{slice_get, slice_set}
use Rattle.std.specs.List.{AllByRecursion}
use Rattle.std.specs.FinMap.{get, get-insert}
use Rattle.fx_base.specs.declared.counts.Counts.{Counts}
use Rattle.fx_base.specs.Counts.{add_counts}
use Rattle.fx_layout.specs.Keys.{Key, same_key}
use Rattle.fx_layout.proofs.Projections.{same_key_is, key_same}
use Rattle.fx_tables.specs.declared.record.Record.{Record}
use Rattle.fx_machine.specs.Acts.{records_joining, taken_in}
use Rattle.fx_machine.specs.States.{add_at, with_entry}
use Rattle.fx_machine.specs.Sums.{total_at}
use Rattle.fx_store.specs.Flows.{Flows, with_more, with_added}
use Rattle.fx_store.specs.KeyOrder.{key_cmp_total, same_key_ties, same_key_equiv}
use Rattle.fx_collect.specs.Totals.{Differ}
use Rattle.fx_conform.specs.Held.{IsHeld}
use Rattle.fx_conform.specs.Joining.{Chooses}

-- ---- keys

pub same_itself : (a b : Key) → a ≡ b → same_key a b ≡ true
same_itself a b e = subst (λ (k : Key). same_key a k ≡ true) e (key_same a)

pub turned : (a b : Key) → same_key a b ≡ same_key b a
turned a b = same_key_equiv.symm a b

-- ---- the records with counts added at a key

others_add : (k key : Key) (counts : Counts) (rs : List Record) → same_key k key ≡ false
    → AllByRecursion (λ (other : Record). same_key k other.key ≡ false) rs
    → AllByRecursion (λ (other : Record). same_key k other.key ≡ false) (add_at rs key counts)
others_add k key counts [] e h = (e, tt)
others_add k key counts (t ∷ ts) e h = by (others_add k key counts ts e h.1) (same_key t.key key) where
  by : AllByRecursion (λ (other : Record). same_key k other.key ≡ false) (add_at ts key counts) → (s : Bool)
      → AllByRecursion (λ (other : Record). same_key k other.key ≡ false)
      (cond s (record { key = t.key; counts = add_counts t.counts counts } ∷ ts) (t ∷ add_at ts key counts))
  by ih true = h
  by ih false = (h.0, ih)

differ_add : (key : Key) (counts : Counts) (rs : List Record) → Differ rs → Differ (add_at rs key counts)
differ_add key counts [] h = (tt, tt)
differ_add key counts (t ∷ ts) h = by (differ_add key counts ts h.1) (same_key t.key key) refl where
  by : Differ (add_at ts key counts) → (s : Bool) → same_key t.key key ≡ s
      → Differ (cond s (record { key = t.key; counts = add_counts t.counts counts } ∷ ts) (t ∷ add_at ts key counts))
  by ih true e = h
  by ih false e = (others_add t.key key counts ts e h.0, ih)

total_add : (key : Key) (counts : Counts) (rs : List Record) (q : Key) → total_at (add_at rs key counts) q
    ≡ cond (same_key key q) (Some (with_more (total_at rs key) counts)) (total_at rs q)
total_add key counts [] q = refl
total_add key counts (t ∷ ts) q = by (total_add key counts ts q) (same_key t.key key) (same_key t.key q)
    (same_key key q) refl refl refl where
      by : total_at (add_at ts key counts) q ≡ cond (same_key key q) (Some (with_more (total_at ts key) counts))
          (total_at ts q) → (s u v : Bool) → same_key t.key key ≡ s → same_key t.key q ≡ u → same_key key q ≡ v
          → total_at (cond s (record { key = t.key; counts = add_counts t.counts counts } ∷ ts)
          (t ∷ add_at ts key counts))
          q
          ≡ cond (same_key key q) (Some (with_more (cond s (Some t.counts) (total_at ts key)) counts))
          (cond (same_key t.key q) (Some t.counts) (total_at ts q))
      by ih true true true e f g = rw (f, g) refl
      by ih true false false e f g = rw (f, g) refl
      by ih true true false e f g = absurd (let h : same_key key q ≡ true =
          subst (λ (k : Key). same_key k q ≡ true) (same_key_is t.key key e) f in cc)
      by ih true false true e f g = absurd (let h : same_key t.key q ≡ true =
          subst (λ (k : Key). same_key k q ≡ true) (sym (same_key_is t.key key e)) g in cc)
      by ih false true true e f g = absurd (let h : same_key t.key key ≡ true =
          same_itself t.key key (same_key_is t.key q f ∙ sym (same_key_is key q g)) in cc)
      by ih false true false e f g = rw (f, g) refl
      by ih false false v e f g = ap (λ (b : Bool). cond b (Some t.counts) (total_at (add_at ts key counts) q)) f ∙ ih
          ∙ sym (ap (λ (b : Bool). cond (same_key key q) (Some (with_more (total_at ts key) counts))
          (cond b (Some t.counts) (total_at ts q))) f)

-- ---- the choice that makes them

none_held : (key : Key) (counts : Counts) (rs : List Record) → total_at rs key ≡ None → rs
    ++ record { key = key; counts = counts } ∷ [] ≡ add_at rs key counts
none_held key counts [] e = refl
none_held key counts (t ∷ ts) e = by (λ h. none_held key counts ts h) (same_key t.key key) refl where
  by : (total_at ts key ≡ None → ts ++ record { key = key; counts = counts } ∷ [] ≡ add_at ts key counts) → (s : Bool)
      → same_key t.key key ≡ s → t ∷ (ts ++ record { key = key; counts = counts } ∷ [])
      ≡ cond s (record { key = t.key; counts = add_counts t.counts counts } ∷ ts) (t ∷ add_at ts key counts)
  by ih true s = absurd (let h : ◌≡◌ {A = Option Counts} (Some t.counts) None =
      sym (ap (λ (b : Bool). cond b (Some t.counts) (total_at ts key)) s) ∙ e in cc)
  by ih false s = ap (λ (l : List Record). t ∷ l)
      (ih (sym (ap (λ (b : Bool). cond b (Some t.counts) (total_at ts key)) s) ∙ e))

record Held (rs : List Record) (key : Key) (counts : Counts) : Type 0 where
  place : ℕ
  old : Record
  there : slice_get rs place ≡ Some old
  same : same_key old.key key ≡ true
  new_is : slice_set rs place (record { key = old.key; counts = add_counts old.counts counts }) ≡ add_at rs key counts

one_held : (key : Key) (counts : Counts) (rs : List Record) (c : Counts) → total_at rs key ≡ Some c → Held rs key counts
one_held key counts [] c e = absurd cc
one_held key counts (t ∷ ts) c e = by (λ h. one_held key counts ts c h) (same_key t.key key) refl where
  by : (total_at ts key ≡ Some c → Held ts key counts) → (s : Bool) → same_key t.key key ≡ s → Held (t ∷ ts) key counts
  by ih true s = record {
    place = 0;
    old = t;
    there = refl;
    same = s;
    new_is = sym (ap (λ (b : Bool). cond b (record { key = t.key; counts = add_counts t.counts counts } ∷ ts)
        (t ∷ add_at ts key counts)) s);
  }
  by ih false s =
      let h = ih (sym (ap (λ (b : Bool). cond b (Some t.counts) (total_at ts key)) s) ∙ e) in
      record {
        place = suc h.place;
        old = h.old;
        there = h.there;
        same = h.same;
        new_is = ap (λ (l : List Record). t ∷ l) h.new_is
            ∙ sym (ap (λ (b : Bool). cond b (record { key = t.key; counts = add_counts t.counts counts } ∷ ts)
            (t ∷ add_at ts key counts)) s);
      }

-- ---- the store

held_add : (held : Flows) (rs : List Record) (key : Key) (counts : Counts) → IsHeld held rs
    → IsHeld (with_added held key counts) (add_at rs key counts)
held_add held rs key counts h = record {
  differ = differ_add key counts rs h.differ;
  same = λ q. total_add key counts rs q
      ∙ ap (λ (o : Option Counts). cond (same_key key q) (Some (with_more o counts)) (total_at rs q)) (h.same key)
      ∙ ap (λ (o : Option Counts). cond (same_key key q) (Some (with_more (get held key) counts)) o) (h.same q)
      ∙ ap (λ (b : Bool). cond b (Some (with_more (get held key) counts)) (get held q))
      (turned key q ∙ same_key_ties q key)
      ∙ sym (get-insert key_cmp_total held key (with_more (get held key) counts) q);
}

pub joins_are_made : (held : Flows) (rs : List Record) (key : Key) (counts : Counts) → IsHeld held rs
    → (choice : Option ℕ) × (new : List Record) × Chooses rs key choice
    × (taken_in rs choice (record { key = key; counts = counts }) ≡ Some new)
    × IsHeld (with_added held key counts) new
joins_are_made held rs key counts h = by (total_at rs key) refl where
  by : (o : Option Counts) → total_at rs key ≡ o
      → (choice : Option ℕ) × (new : List Record) × Chooses rs key choice
      × (taken_in rs choice (record { key = key; counts = counts }) ≡ Some new)
      × IsHeld (with_added held key counts) new
  by None e = (
    None,
    add_at rs key counts,
    e,
    ap (λ (l : List Record). Some l) (none_held key counts rs e),
    held_add
        held rs key counts h,
  )
  by (Some c) e =
      let one = one_held key counts rs c e in
      let new : List Record = with_entry rs (suc one.place)
      (record { key = one.old.key; counts = add_counts one.old.counts counts }) in (
        Some (suc one.place),
        add_at rs key counts,
        (one.old, one.there, one.same),
        ap (λ (o : Option Record). records_joining o rs (suc one.place) (record { key = key; counts = counts }))
            one.there
            ∙ ap (λ (b : Bool). cond b (Some new) None) one.same ∙ ap (λ (l : List Record). Some l) one.new_is,
        held_add held rs key counts h,
      )
