-- Counting into a map from values to counts is counting into a list of records.
use Rattle.std.proofs.Common.{◌≡◌, ℕ, suc, Bool, true, false, cond, ◌&&◌, List, [], ◌∷◌, map, Option, Some, None, refl, sym, ap, ◌∙◌, arith, bytes_eq, position, is_some}
use Rattle.std.specs.List.{All}
use Rattle.std.specs.Map.{lookup, keys_of}
use Rattle.std.proofs.lemmas.List.Elements.{All-cons}
use Rattle.std.proofs.lemmas.Slice.Eq.{bytes_eq-Decides}
use Rattle.indexmap.specs.IndexMap.{insert_entry}
use Rattle.indexmap.specs.Layout.{set_value_at}
use Rattle.indexmap.proofs.MapLemmas.{Found-position, insert_entry-first}
use Rattle.fx_base.specs.declared.counts.Counts.{Counts}
use Rattle.fx_base.specs.Counts.{add_counts}
use Rattle.fx_layout.specs.Keys.{Layout, Key, HasBits, same_layout, same_key}
use Rattle.fx_layout.proofs.Projections.{layout_same}
use Rattle.fx_tables.specs.declared.record.Record.{Record}
use Rattle.fx_machine.specs.States.{add_at}
use Rattle.fx_machine.specs.Sums.{total_at}
use Rattle.fx_collect.specs.Totals.{counts_with, record_of, records_of, AllHaveBits}

from_iff : (a b : Bool) → (a ≡ true → b ≡ true) → (b ≡ true → a ≡ true) → a ≡ b
from_iff true true f g = refl
from_iff true false f g = sym (f refl)
from_iff false true f g = g refl
from_iff false false f g = refl

bytes_swap : (a b : List ℕ) → bytes_eq a b ≡ bytes_eq b a
bytes_swap a b =
    from_iff (bytes_eq a b) (bytes_eq b a) (λ h. (bytes_eq-Decides b a).1 (sym ((bytes_eq-Decides a b).0 h)))
    (λ h. (bytes_eq-Decides a b).1 (sym ((bytes_eq-Decides b a).0 h)))

-- among the keys of one layout the values tell
same_values : (layout : Layout) (v k : List ℕ)
    → same_key (record { layout = layout; values = v }) (record { layout = layout; values = k }) ≡ bytes_eq k v
same_values layout v k = ap (λ t. t && bytes_eq v k) (layout_same layout) ∙ bytes_swap v k

pub insert_adds : (layout : Layout) (es : List (List ℕ × Counts)) (k : List ℕ) (c : Counts)
    → records_of layout (insert_entry bytes_eq es k (counts_with (lookup (bytes_eq k) es) c))
    ≡ add_at (records_of layout es) (record { layout = layout; values = k }) c
insert_adds layout [] k c = refl
insert_adds layout (e ∷ es) k c =
    let rest = insert_adds layout es k c in
    let test = same_values layout e.0 k in
    rw (test) (
    elim (bytes_eq k e.0) as (λ t. records_of layout
    (cond t ((e.0, counts_with (cond t (Some e.1) (lookup (bytes_eq k) es)) c) ∷ es)
    (e ∷ insert_entry bytes_eq es k (counts_with (cond t (Some e.1) (lookup (bytes_eq k) es)) c)))
    ≡ cond t (record { key = record { layout = layout; values = e.0 }; counts = add_counts e.1 c }
    ∷ records_of layout es) (record_of layout e
    ∷ add_at (records_of layout es) (record { layout = layout; values = k }) c)) [
      | true ↦ refl
      | false ↦ ap (λ rs. record_of layout e ∷ rs) rest
    ]
    )

pub found_at : (layout : Layout) (es : List (List ℕ × Counts)) (k : List ℕ)
    → total_at (records_of layout es) (record { layout = layout; values = k }) ≡ lookup (bytes_eq k) es
found_at layout [] k = refl
found_at layout (e ∷ es) k =
    let rest = found_at layout es k in
    rw (same_values layout e.0 k) (
    elim (bytes_eq k e.0) as (λ t. cond t (Some e.1)
    (total_at (records_of layout es) (record { layout = layout; values = k }))
    ≡ cond t (Some e.1) (lookup (bytes_eq k) es)) [
      | true ↦ refl
      | false ↦ rest
    ]
    )

-- a key of another layout has nothing
pub nothing_at_other : (layout : Layout) (es : List (List ℕ × Counts)) (key : Key) → same_layout layout key.layout
    ≡ false → total_at (records_of layout es) key ≡ None
nothing_at_other layout [] key h = refl
nothing_at_other layout (e ∷ es) key h = rw h (nothing_at_other layout es key h)

-- ---- values keep their bits

all_head : {X : Type 0} (P : X → Type 0) (x : X) (xs : List X) → All P (x ∷ xs) → P x
all_head P x xs h = h 0 x (omega arith)

all_tail : {X : Type 0} (P : X → Type 0) (x : X) (xs : List X) → All P (x ∷ xs) → All P xs
all_tail P x xs h k d lt = h (suc k) d (omega arith)

pub insert_has_bits : (layout : Layout) (es : List (List ℕ × Counts)) (k : List ℕ) (c : Counts) → HasBits layout k
    → AllHaveBits layout es → AllHaveBits layout (insert_entry bytes_eq es k c)
insert_has_bits layout [] k c h hs = All-cons (λ (p : List ℕ × Counts). HasBits layout p.0) (k, c) [] h hs
insert_has_bits layout (e ∷ es) k c h hs =
    let P : List ℕ × Counts → Type 0 = λ p. HasBits layout p.0 in
    let here = all_head P e es hs in
    let behind = all_tail P e es hs in
    let rest = insert_has_bits layout es k c h behind in
    elim (bytes_eq k e.0) as (λ t. All P (cond t ((e.0, c) ∷ es) (e ∷ insert_entry bytes_eq es k c))) [
      | true ↦ All-cons P (e.0, c) es here behind
      | false ↦ All-cons P e (insert_entry bytes_eq es k c) here rest
    ]

-- the values of the records are those of the map
pub values_are : (layout : Layout) (es : List (List ℕ × Counts))
    → map (λ (r : Record). r.key.values) (records_of layout es) ≡ keys_of es
values_are layout [] = refl
values_are layout (e ∷ es) = ap (λ vs. e.0 ∷ vs) (values_are layout es)

pub behind_has_bits : (layout : Layout) (e : List ℕ × Counts) (es : List (List ℕ × Counts))
    → AllHaveBits layout (e ∷ es) → AllHaveBits layout es
behind_has_bits layout e es h = all_tail (λ (p : List ℕ × Counts). HasBits layout p.0) e es h

-- ---- a write at the place of a key

pub put_at : (es : List (List ℕ × Counts)) (k : List ℕ) (i : ℕ) (total c n : Counts)
    → position (bytes_eq k) (keys_of es) ≡ Some i → lookup (bytes_eq k) es ≡ Some total → n ≡ add_counts total c
    → set_value_at es i n ≡ insert_entry bytes_eq es k (counts_with (lookup (bytes_eq k) es) c)
put_at es k i total c n p at is =
    sym (insert_entry-first bytes_eq k n es i (Found-position (bytes_eq k) es i p).first)
    ∙ ap (λ (m : Counts). insert_entry bytes_eq es k m) (is ∙ ap (λ (o : Option Counts). counts_with o c) (sym at))

pub put_new : (es : List (List ℕ × Counts)) (k : List ℕ) (c : Counts) → is_some (lookup (bytes_eq k) es) ≡ false
    → insert_entry bytes_eq es k c ≡ insert_entry bytes_eq es k (counts_with (lookup (bytes_eq k) es) c)
put_new es k c h = by (lookup (bytes_eq k) es) h where
  by : (o : Option Counts) → is_some o ≡ false → insert_entry bytes_eq es k c
      ≡ insert_entry bytes_eq es k (counts_with o c)
  by None h = refl
  by (Some m) h = absurd cc
