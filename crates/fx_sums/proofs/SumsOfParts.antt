-- What is collected apart and summed is what is collected together.
use Rattle.std.proofs.Common.{◌≡◌, ℕ, ◌+◌, ◌%◌, ◌^◌, ◌<◌, Bool, true, false, ◌&&◌, cond, List, [], ◌∷◌, ◌++◌, Option, Some, None, refl, sym, ap, ap₂, ◌∙◌, subst, arith}
use Rattle.std.proofs.lemmas.List.{length-map}
use Rattle.fx_base.specs.declared.counts.Counts.{Counts}
use Rattle.fx_base.specs.Counts.{add_counts}
use Rattle.fx_layout.specs.Keys.{Layout, Key, IsLayout, refines, project, same_key}
use Rattle.fx_layout.proofs.Projections.{same_key_is, key_same}
use Rattle.fx_tables.specs.declared.record.Record.{Record}
use Rattle.fx_machine.specs.States.{add_at}
use Rattle.fx_machine.specs.Sums.{total_at}
use Rattle.fx_collect.specs.Totals.{Totals, IsTable, nothing, with_record, with_records, with_unassigned}
use Rattle.fx_collect.proofs.TotalsOfTotals.{table_added, restated}
use Rattle.fx_sums.specs.declared.notes.Notes.{Notes}
use Rattle.fx_sums.specs.declared.notes.SkippedFrames.{SkippedFrames}
use Rattle.fx_sums.specs.Sums.{Sum, joined, plus, plus_totals, plus_numbers, plus_frames, plus_notes, HaveSameTotals, AreSameSums}
use Rattle.fx_sums.proofs.Tallying.{layout_kept}

-- ---- counts

pub counts_assoc : (a b c : Counts) → add_counts (add_counts a b) c ≡ add_counts a (add_counts b c)
counts_assoc a b c =
    ap₂ (λ (p o : ℕ). record { packets = p; octets = o }) (omega arith) (omega arith)

pub counts_swap : (a b : Counts) → add_counts a b ≡ add_counts b a
counts_swap a b = ap₂ (λ (p o : ℕ). record { packets = p; octets = o }) (omega arith) (omega arith)

-- ---- what is joined

pub joined_none : {A : Type 0} (f : A → A → A) (a : Option A) → joined f a None ≡ a
joined_none f None = refl
joined_none f (Some x) = refl

pub joined_assoc : {A : Type 0} (f : A → A → A) → ((x y z : A) → f (f x y) z ≡ f x (f y z)) → (a b c : Option A)
    → joined f (joined f a b) c ≡ joined f a (joined f b c)
joined_assoc f h None b c = refl
joined_assoc f h (Some x) None c = refl
joined_assoc f h (Some x) (Some y) None = refl
joined_assoc f h (Some x) (Some y) (Some z) = ap (λ (w : _). Some w) (h x y z)

pub joined_swap : {A : Type 0} (f : A → A → A) → ((x y : A) → f x y ≡ f y x) → (a b : Option A) → joined f a b
    ≡ joined f b a
joined_swap f h None None = refl
joined_swap f h None (Some y) = refl
joined_swap f h (Some x) None = refl
joined_swap f h (Some x) (Some y) = ap (λ (w : _). Some w) (h x y)

-- one more and another are another and one more
pub joined_exchange : {A : Type 0} (f : A → A → A) → ((x y z : A) → f (f x y) z ≡ f x (f y z))
    → ((x y : A) → f x y ≡ f y x) → (a b c : Option A) → joined f (joined f a b) c ≡ joined f (joined f a c) b
joined_exchange f h k a b c = joined_assoc f h a b c ∙ ap (joined f a) (joined_swap f k b c)
    ∙ sym (joined_assoc f h a c b)

-- ---- what a record has at a key

abbrev at_key : Key → Key → Counts → Option Counts
at_key k key counts = cond (same_key k key) (Some counts) None

added_at : (ts : List Record) (k key : Key) (c : Counts) → total_at (add_at ts k c) key
    ≡ joined add_counts (total_at ts key) (at_key k key c)
added_at [] k key c = refl
added_at (t ∷ ts) k key c = by_key (same_key t.key k) refl (added_at ts k key c) where
  same : (b : Bool) → cond b (Some (add_counts t.counts c)) (total_at ts key)
      ≡ joined add_counts (cond b (Some t.counts) (total_at ts key)) (cond b (Some c) None)
  same true = refl
  same false = sym (joined_none add_counts (total_at ts key))

  other : (b : Bool) → same_key t.key key ≡ b → same_key t.key k ≡ false → total_at (add_at ts k c) key
      ≡ joined add_counts (total_at ts key) (at_key k key c) → cond b (Some t.counts) (total_at (add_at ts k c) key)
      ≡ joined add_counts (cond b (Some t.counts) (total_at ts key)) (at_key k key c)
  other false e differ h = h
  other true e differ h = unlike (same_key k key) refl where
    unlike : (d : Bool) → same_key k key ≡ d → Some t.counts ≡ joined add_counts (Some t.counts) (cond d (Some c) None)
    unlike false f = refl
    unlike true f =
        let first : t.key ≡ key = same_key_is t.key key e in
        let second : k ≡ key = same_key_is k key f in
        let both : same_key t.key k ≡ true = subst (λ (x : Key). same_key t.key x ≡ true) (first ∙ sym second)
        (key_same t.key) in
        absurd cc

  by_key : (b : Bool) → same_key t.key k ≡ b → total_at (add_at ts k c) key
      ≡ joined add_counts (total_at ts key) (at_key k key c)
      → total_at (cond b (record { key = t.key; counts = add_counts t.counts c } ∷ ts) (t ∷ add_at ts k c)) key
      ≡ joined add_counts (cond (same_key t.key key) (Some t.counts) (total_at ts key)) (at_key k key c)
  by_key true e h =
      let is : t.key ≡ k = same_key_is t.key k e in
      rw (is) (same (same_key k key))
  by_key false e h = other (same_key t.key key) refl e h

-- what a record has at a key under the layout
abbrev pub share : Layout → Key → Record → Option Counts
share layout key r = cond (refines r.key.layout layout) (at_key (project r.key layout) key r.counts) None

abbrev pub shares : Layout → Key → List Record → Option Counts
shares layout key [] = None
shares layout key (r ∷ rs) = joined add_counts (share layout key r) (shares layout key rs)

reported_one : (t : Totals) (key : Key) (r : Record) → total_at (with_record t r).entries key
    ≡ joined add_counts (total_at t.entries key) (share t.layout key r)
reported_one t key r =
    let added = added_at t.entries (project r.key t.layout) key r.counts in
    elim (refines r.key.layout t.layout) as (λ b. total_at
    (cond b (record t { entries = add_at t.entries (project r.key t.layout) r.counts })
    (with_unassigned t 1)).entries key ≡ joined add_counts (total_at t.entries key)
    (cond b (at_key (project r.key t.layout) key r.counts) None)) [
      | true ↦ added
      | false ↦ sym (joined_none add_counts (total_at t.entries key))
    ]

-- what was there is joined with what the records have
pub reported : (t : Totals) (key : Key) (rs : List Record) → total_at (with_records t rs).entries key
    ≡ joined add_counts (total_at t.entries key) (shares t.layout key rs)
reported t key [] = sym (joined_none add_counts (total_at t.entries key))
reported t key (r ∷ rs) =
    reported (with_record t r) key rs
    ∙ ap₂ (λ (o : Option Counts) (l : Layout). joined add_counts o (shares l key rs)) (reported_one t key r)
    (layout_kept t r)
    ∙ joined_assoc add_counts counts_assoc (total_at t.entries key) (share t.layout key r) (shares t.layout key rs)

shares_both : (layout : Layout) (key : Key) (a b : List Record) → shares layout key (a ++ b)
    ≡ joined add_counts (shares layout key a) (shares layout key b)
shares_both layout key [] b = refl
shares_both layout key (r ∷ rs) b =
    ap (joined add_counts (share layout key r)) (shares_both layout key rs b)
    ∙ sym (joined_assoc add_counts counts_assoc (share layout key r) (shares layout key rs) (shares layout key b))

-- ---- what was collected is a table

pub layouts_kept : (t : Totals) (rs : List Record) → (with_records t rs).layout ≡ t.layout
layouts_kept t [] = refl
layouts_kept t (r ∷ rs) = layouts_kept (with_record t r) rs ∙ layout_kept t r

table_one : (t : Totals) (r : Record) → IsTable t.layout t.entries → IsTable t.layout (with_record t r).entries
table_one t r h =
    let added = table_added t.layout t.entries (project r.key t.layout) r.counts (refl, length-map t.layout _) h in
    elim (refines r.key.layout t.layout) as (λ b. IsTable t.layout
    (cond b (record t { entries = add_at t.entries (project r.key t.layout) r.counts })
    (with_unassigned t 1)).entries) [
      | true ↦ added
      | false ↦ h
    ]

table_kept : (t : Totals) (rs : List Record) → IsTable t.layout t.entries → IsTable t.layout (with_records t rs).entries
table_kept t [] h = h
table_kept t (r ∷ rs) h =
    let one : IsTable (with_record t r).layout (with_record t r).entries =
    subst (λ (l : Layout). IsTable l (with_record t r).entries) (sym (layout_kept t r)) (table_one t r h) in
    subst (λ (l : Layout). IsTable l (with_records (with_record t r) rs).entries) (layout_kept t r)
    (table_kept (with_record t r) rs one)

collected : (layout : Layout) (rs : List Record) → IsTable layout (with_records (nothing layout) rs).entries
collected layout rs = table_kept (nothing layout) rs (record { under = tt; differ = tt })

-- what was collected is reported once more as it is
reported_again : (layout : Layout) (rs : List Record) → IsLayout layout
    → with_records (nothing layout) (with_records (nothing layout) rs).entries
    ≡ record { layout = layout; entries = (with_records (nothing layout) rs).entries; unassigned = 0 }
reported_again layout rs l = restated layout (with_records (nothing layout) rs).entries l (collected layout rs)

-- it has at each key what its records have
shares_again : (layout : Layout) (key : Key) (rs : List Record) → IsLayout layout
    → shares layout key (with_records (nothing layout) rs).entries ≡ shares layout key rs
shares_again layout key rs l =
    sym (reported (nothing layout) key (with_records (nothing layout) rs).entries)
    ∙ ap (λ (t : Totals). total_at t.entries key) (reported_again layout rs l) ∙ reported (nothing layout) key rs

pub totals_of_parts : (layout : Layout) (a b : List Record) (key : Key) → IsLayout layout
    → total_at (plus_totals (with_records (nothing layout) a) (with_records (nothing layout) b)).entries key
    ≡ total_at (with_records (nothing layout) (a ++ b)).entries key
totals_of_parts layout a b key l =
    let first = with_records (nothing layout) a in
    let second = with_records (nothing layout) b in
    reported first key second.entries
    ∙ ap₂ (λ (o : Option Counts) (k : Layout). joined add_counts o (shares k key second.entries))
    (reported (nothing layout) key a) (layouts_kept (nothing layout) a)
    ∙ ap (joined add_counts (shares layout key a)) (shares_again layout key b l)
    ∙ sym (shares_both layout key a b)
    ∙ sym (reported (nothing layout) key (a ++ b))

-- ---- unassigned records

abbrev lost_one : Layout → Record → ℕ
lost_one layout r = cond (refines r.key.layout layout) 0 1

-- how many records have no key under the layout
abbrev pub lost : Layout → List Record → ℕ
lost layout [] = 0
lost layout (r ∷ rs) = lost_one layout r + lost layout rs

left_one : (t : Totals) (r : Record) → (with_record t r).unassigned % 2 ^ 64
    ≡ (t.unassigned + lost_one t.layout r) % 2 ^ 64
left_one t r =
    elim (refines r.key.layout t.layout) as (λ b.
    (cond b (record t { entries = add_at t.entries (project r.key t.layout) r.counts })
    (with_unassigned t 1)).unassigned % 2 ^ 64 ≡ (t.unassigned + cond b 0 1) % 2 ^ 64) [
      | true ↦ omega arith
      | false ↦ omega arith
    ]

pub left_out : (t : Totals) (rs : List Record) → (with_records t rs).unassigned % 2 ^ 64
    ≡ (t.unassigned + lost t.layout rs) % 2 ^ 64
left_out t [] = omega arith
left_out t (r ∷ rs) =
    let one = left_one t r in
    left_out (with_record t r) rs
    ∙ ap (λ (l : Layout). ((with_record t r).unassigned + lost l rs) % 2 ^ 64) (layout_kept t r)
    ∙ omega (arith, one)

below : (t : Totals) (rs : List Record) → t.unassigned < 2 ^ 64 → (with_records t rs).unassigned < 2 ^ 64
below t [] h = h
below t (r ∷ rs) h = below (with_record t r) rs (one (refines r.key.layout t.layout)) where
  one : (b : Bool) → (cond b (record t { entries = add_at t.entries (project r.key t.layout) r.counts })
      (with_unassigned t 1)).unassigned < 2 ^ 64
  one true = h
  one false = omega arith

lost_both : (layout : Layout) (a b : List Record) → lost layout (a ++ b) ≡ lost layout a + lost layout b
lost_both layout [] b = omega arith
lost_both layout (r ∷ rs) b = omega (arith, lost_both layout rs b)

unassigned_of_parts : (layout : Layout) (a b : List Record) → IsLayout layout
    → (plus_totals (with_records (nothing layout) a) (with_records (nothing layout) b)).unassigned
    ≡ (with_records (nothing layout) (a ++ b)).unassigned
unassigned_of_parts layout a b l =
    let first = with_records (nothing layout) a in
    let second = with_records (nothing layout) b in
    let all = with_records (nothing layout) (a ++ b) in
    let own : first.layout ≡ layout = layouts_kept (nothing layout) a in
    let none : 0 % 2 ^ 64 ≡ (0 + lost layout second.entries) % 2 ^ 64 =
    ap (λ (t : Totals). t.unassigned % 2 ^ 64) (sym (reported_again layout b l))
    ∙ left_out (nothing layout) second.entries in
    let out : (with_records first second.entries).unassigned % 2 ^ 64
    ≡ (first.unassigned + lost layout second.entries) % 2 ^ 64 = left_out first second.entries
    ∙ ap (λ (k : Layout). (first.unassigned + lost k second.entries) % 2 ^ 64) own in
    let one : first.unassigned % 2 ^ 64 ≡ (0 + lost layout a) % 2 ^ 64 = left_out (nothing layout) a in
    let two : second.unassigned % 2 ^ 64 ≡ (0 + lost layout b) % 2 ^ 64 = left_out (nothing layout) b in
    let both : all.unassigned % 2 ^ 64 ≡ (0 + (lost layout a + lost layout b)) % 2 ^ 64 =
    left_out (nothing layout) (a ++ b) ∙ ap (λ (n : ℕ). (0 + n) % 2 ^ 64) (lost_both layout a b) in
    let small : all.unassigned < 2 ^ 64 = below (nothing layout) (a ++ b) (omega arith) in
    numbers (with_records first second.entries).unassigned first.unassigned (lost layout second.entries)
    second.unassigned all.unassigned (lost layout a) (lost layout b) none out one two both small where
      numbers : (w f e s all m n : ℕ) → 0 % 2 ^ 64 ≡ (0 + e) % 2 ^ 64 → w % 2 ^ 64 ≡ (f + e) % 2 ^ 64 → f % 2 ^ 64
          ≡ (0 + m) % 2 ^ 64 → s % 2 ^ 64 ≡ (0 + n) % 2 ^ 64 → all % 2 ^ 64 ≡ (0 + (m + n)) % 2 ^ 64 → all < 2 ^ 64
          → (w + s) % 2 ^ 64 ≡ all
      numbers w f e s all m n none out one two both small = omega (arith, none, out, one, two, both, small)

pub parts_alike : (layout : Layout) (a b : List Record) → IsLayout layout
    → HaveSameTotals (plus_totals (with_records (nothing layout) a) (with_records (nothing layout) b))
    (with_records (nothing layout) (a ++ b))
parts_alike layout a b l = (λ key. totals_of_parts layout a b key l, unassigned_of_parts layout a b l)

-- ---- one text and another

totals_exchanged : (s t u : Totals) (key : Key) → total_at (plus_totals (plus_totals s t) u).entries key
    ≡ joined add_counts (joined add_counts (total_at s.entries key) (shares s.layout key t.entries))
    (shares s.layout key u.entries)
totals_exchanged s t u key =
    reported (plus_totals s t) key u.entries
    ∙ ap₂ (λ (o : Option Counts) (k : Layout). joined add_counts o (shares k key u.entries))
    (reported s key t.entries) (layouts_kept s t.entries)

unassigned_exchanged : (s t u : Totals) → (plus_totals (plus_totals s t) u).unassigned
    ≡ (s.unassigned + (lost s.layout t.entries + t.unassigned) + (lost s.layout u.entries + u.unassigned)) % 2 ^ 64
unassigned_exchanged s t u =
    let first = left_out s t.entries in
    let second : (with_records (plus_totals s t) u.entries).unassigned % 2 ^ 64
    ≡ ((plus_totals s t).unassigned + lost s.layout u.entries) % 2 ^ 64 = left_out (plus_totals s t) u.entries
    ∙ ap (λ (k : Layout). ((plus_totals s t).unassigned + lost k u.entries) % 2 ^ 64) (layouts_kept s t.entries) in
    numbers (with_records s t.entries).unassigned (with_records (plus_totals s t) u.entries).unassigned s.unassigned
    (lost s.layout t.entries) t.unassigned (lost s.layout u.entries) u.unassigned first second where
      numbers : (v w a b c d e : ℕ) → v % 2 ^ 64 ≡ (a + b) % 2 ^ 64 → w % 2 ^ 64 ≡ ((v + c) % 2 ^ 64 + d) % 2 ^ 64
          → (w + e) % 2 ^ 64 ≡ (a + (b + c) + (d + e)) % 2 ^ 64
      numbers v w a b c d e first second = omega (arith, first, second)

-- ---- notes

numbers_assoc : (x y z : ℕ) → plus_numbers (plus_numbers x y) z ≡ plus_numbers x (plus_numbers y z)
numbers_assoc x y z = omega arith

numbers_swap : (x y : ℕ) → plus_numbers x y ≡ plus_numbers y x
numbers_swap x y = omega arith

frames_assoc : (x y z : SkippedFrames) → plus_frames (plus_frames x y) z ≡ plus_frames x (plus_frames y z)
frames_assoc x y z = ap₂ (λ (o m : ℕ). record { other = o; malformed = m }) (numbers_assoc x.other y.other z.other)
    (numbers_assoc x.malformed y.malformed z.malformed)

frames_swap : (x y : SkippedFrames) → plus_frames x y ≡ plus_frames y x
frames_swap x y = ap₂ (λ (o m : ℕ). record { other = o; malformed = m }) (numbers_swap x.other y.other)
    (numbers_swap x.malformed y.malformed)

abbrev both : Bool → Bool → Bool
both a b = a && b

both_assoc : (x y z : Bool) → both (both x y) z ≡ both x (both y z)
both_assoc true y z = refl
both_assoc false y z = refl

both_swap : (x y : Bool) → both x y ≡ both y x
both_swap true true = refl
both_swap true false = refl
both_swap false true = refl
both_swap false false = refl

notes_exchanged : (m n o : Notes) → plus_notes (plus_notes m n) o ≡ plus_notes (plus_notes m o) n
notes_exchanged m n o =
    rw (
      joined_exchange both both_assoc both_swap m.complete n.complete o.complete,
      joined_exchange plus_frames
          frames_assoc frames_swap m.frames n.frames o.frames,
      joined_exchange plus_numbers numbers_assoc numbers_swap
          m.gaps n.gaps o.gaps,
      joined_exchange plus_numbers numbers_assoc numbers_swap m.skipped n.skipped o.skipped,
    )
    refl

pub exchanged : (s t u : Sum) → AreSameSums (plus (plus s t) u) (plus (plus s u) t)
exchanged s t u = (
  (
    totals,
    unassigned_exchanged s.totals t.totals u.totals ∙ omega arith
        ∙ sym (unassigned_exchanged s.totals u.totals t.totals),
  ),
  notes_exchanged s.notes t.notes u.notes,
) where
  totals : (key : Key) → total_at (plus (plus s t) u).totals.entries key
      ≡ total_at (plus (plus s u) t).totals.entries key
  totals key =
      totals_exchanged s.totals t.totals u.totals key
      ∙ joined_exchange add_counts counts_assoc counts_swap (total_at s.totals.entries key)
      (shares s.totals.layout key t.totals.entries) (shares s.totals.layout key u.totals.entries)
      ∙ sym (totals_exchanged s.totals u.totals t.totals key)
