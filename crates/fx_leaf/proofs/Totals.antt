-- A tally adds its counts to one total, and keeps the others.
use Rattle.std.proofs.Common.{◌≡◌, Bool, true, false, cond, List, [], ◌∷◌, Some, None, refl, sym, ◌∙◌, subst, true≢false, if◌then◌else◌}
use Rattle.std.proofs.lemmas.Slice.Eq.{bytes_eq-Decides}
use Rattle.fx_base.specs.declared.counts.Counts.{Counts}
use Rattle.fx_base.specs.Counts.{add_counts}
use Rattle.fx_layout.specs.Keys.{Key, same_key}
use Rattle.fx_layout.proofs.Projections.{same_key_is, and_both, layout_same}
use Rattle.fx_tables.specs.declared.record.Record.{Record}
use Rattle.fx_machine.specs.States.{add_at}
use Rattle.fx_machine.specs.Sums.{total_at}
use Rattle.fx_leaf.specs.Quantity.{Weight, Nothing, Counted, plus, total_weight}
use Rattle.fx_leaf.proofs.Weights.{plus_nothing}

pub same_key_refl : (key : Key) → same_key key key ≡ true
same_key_refl key = and_both _ _ (layout_same key.layout) ((bytes_eq-Decides key.values key.values).1 refl)

abbrev if_key : Key → Key → Counts → Weight
if_key key total counts = if same_key key total then Counted counts else Nothing

true_false : (b : Bool) → b ≡ true → b ≡ false → ⊥
true_false true h k = true≢false k
true_false false h k = true≢false (sym h)

-- another key gets nothing of it
other_key : (t : Record) (key : Key) (counts : Counts) (total : Key) → same_key t.key key ≡ false → same_key t.key total
    ≡ true → Counted t.counts ≡ plus (Counted t.counts) (if_key key total counts)
other_key t key counts total e d =
    elim (same_key key total) as (λ b. same_key key total ≡ b → Counted t.counts
    ≡ plus (Counted t.counts) (cond b (Counted counts) Nothing)) [
      | true ↦ λ k.
          let one : t.key ≡ total = same_key_is t.key total d in
          let two : key ≡ total = same_key_is key total k in
          absurd (true_false (same_key t.key key)
          (subst (λ x. same_key t.key x ≡ true) (one ∙ sym two) (same_key_refl t.key)) e)
      | false ↦ λ k. refl
    ] refl

by_first : (t : Record) (ts : List Record) (key : Key) (counts : Counts) (total : Key)
    → total_weight (total_at (add_at ts key counts) total)
    ≡ plus (total_weight (total_at ts total)) (if_key key total counts) → (b : Bool) → same_key t.key key ≡ b
    → total_weight (total_at (cond b (record { key = t.key; counts = add_counts t.counts counts } ∷ ts)
    (t ∷ add_at ts key counts)) total) ≡ plus (total_weight (total_at (t ∷ ts) total)) (if_key key total counts)
by_first t ts key counts total rest true e =
    subst (λ k. total_weight (cond (same_key t.key total) (Some (add_counts t.counts counts)) (total_at ts total))
    ≡ plus (total_weight (cond (same_key t.key total) (Some t.counts) (total_at ts total))) (if_key k total counts))
    (same_key_is t.key key e)
    (elim (same_key t.key total) as (λ b. total_weight (cond b (Some (add_counts t.counts counts)) (total_at ts total))
    ≡ plus (total_weight (cond b (Some t.counts) (total_at ts total))) (cond b (Counted counts) Nothing)) [
      | true ↦ refl
      | false ↦ sym (plus_nothing (total_weight (total_at ts total)))
    ])
by_first t ts key counts total rest false e =
    elim (same_key t.key total) as (λ b. same_key t.key total ≡ b
    → total_weight (cond b (Some t.counts) (total_at (add_at ts key counts) total))
    ≡ plus (total_weight (cond b (Some t.counts) (total_at ts total))) (if_key key total counts)) [
      | true ↦ λ d. other_key t key counts total e d
      | false ↦ λ d. rest
    ] refl

pub add_at_total : (ts : List Record) (key : Key) (counts : Counts) (total : Key)
    → total_weight (total_at (add_at ts key counts) total)
    ≡ plus (total_weight (total_at ts total)) (if same_key key total then Counted counts else Nothing)
add_at_total [] key counts total =
    elim (same_key key total) as (λ t. total_weight (cond t (Some counts) None) ≡ cond t (Counted counts) Nothing)
    [ true ↦ refl | false ↦ refl ]
add_at_total (t ∷ ts) key counts total =
    by_first t ts key counts total (add_at_total ts key counts total) (same_key t.key key) refl
