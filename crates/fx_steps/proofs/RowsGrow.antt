-- Rows and tables, one more at a time.
use Rattle.std.proofs.Common.{◌≡◌, ℕ, zero, suc, ◌+◌, ◌<◌, List, [], ◌∷◌, ◌++◌, length, take, drop, get_or, refl, sym, ap, ap₂, ◌∙◌, subst, arith, add-one, le_of_suc-le-suc, slice_set}
use Rattle.fx_elements.specs.Axes.{Fields}
use Rattle.fx_layout.specs.Keys.{Layout}
use Rattle.fx_tables.specs.Network.{Net}
use Rattle.fx_tables.specs.Orders.{Descends}
use Rattle.fx_steps.specs.declared.costs.Costs.{Costs}
use Rattle.fx_leaf.specs.Tables.{Numbering}
use Rattle.fx_steps.specs.CostTables.{CostTable, cost_entry_from, cost_row, cost_fill}

module _ (table : CostTable) (net : Net) (n : Numbering) (fields : Fields) (process : ℕ) where
  pub row_length : (first : ℕ) (layouts : List Layout) → length (cost_row table net n fields process first layouts)
      ≡ length layouts
  row_length first [] = refl
  row_length first (l ∷ ls) = ap suc (row_length (suc first) ls)

  -- a row with an entry more
  row_more : (first k : ℕ) (layouts : List Layout) (d : Layout) → k < length layouts
      → cost_row table net n fields process first (take (suc k) layouts)
      ≡ cost_row table net n fields process first (take k layouts)
      ++ cost_entry_from table net n fields process (first + k) (get_or layouts k d) ∷ []
  row_more first k [] d lt = absurd (omega arith)
  row_more first zero (l ∷ ls) d lt =
      let e : first ≡ first + 0 = omega arith in
      ap (λ (i : ℕ). cost_entry_from table net n fields process i l ∷ []) e
  row_more first (suc k) (l ∷ ls) d lt =
      let e : suc first + k ≡ first + suc k = omega arith in
      ap (λ (vs : List Costs). cost_entry_from table net n fields process first l ∷ vs)
      (row_more (suc first) k ls d (le_of_suc-le-suc lt)
      ∙ ap (λ (i : ℕ). cost_row table net n fields process (suc first) (take k ls)
      ++ cost_entry_from table net n fields process i (get_or ls k d) ∷ []) e)

  pub next_entry : (k : ℕ) (layouts : List Layout) (l : Layout) (row new : List Costs) (v : Costs) → k < length layouts
      → l ≡ get_or layouts k l → row ≡ cost_row table net n fields process 0 (take k layouts) → v
      ≡ cost_entry_from table net n fields process k l → new ≡ row ++ v ∷ [] → new
      ≡ cost_row table net n fields process 0 (take (k + 1) layouts)
  next_entry k layouts l row new v lt is so e made =
      let first : k ≡ 0 + k = omega arith in
      let entry' : v ≡ cost_entry_from table net n fields process (0 + k) (get_or layouts k l) = e
      ∙ ap₂ (λ (i : ℕ) (x : Layout). cost_entry_from table net n fields process i x) first is in
      made ∙ ap₂ (λ (r : List Costs) (w : Costs). r ++ w ∷ []) so entry' ∙ sym (row_more 0 k layouts l lt)
      ∙ ap (λ m. cost_row table net n fields process 0 (take m layouts)) (sym (add-one k))

module _ (net : Net) (n : Numbering) (fields : Fields) where
  -- the rows of the rest
  pub next_row : (k : ℕ) (order : List ℕ) (d : ℕ) (table all : CostTable) → k < length order
      → cost_fill net n fields (drop k order) table ≡ all
      → cost_fill net n fields (drop (k + 1) order)
      (slice_set table (get_or order k d) (cost_row table net n fields (get_or order k d) 0 n.layouts)) ≡ all
  next_row k order d table all lt h =
      subst (λ m. cost_fill net n fields (drop m order)
      (slice_set table (get_or order k d) (cost_row table net n fields (get_or order k d) 0 n.layouts)) ≡ all)
      (sym (add-one k)) (go k order lt h)
    where
      go : (i : ℕ) (ps : List ℕ) → i < length ps → cost_fill net n fields (drop i ps) table ≡ all
          → cost_fill net n fields (drop (suc i) ps)
          (slice_set table (get_or ps i d) (cost_row table net n fields (get_or ps i d) 0 n.layouts)) ≡ all
      go i [] l e = absurd (omega arith)
      go zero (p ∷ ps) l e = e
      go (suc i) (p ∷ ps) l e = go i ps (le_of_suc-le-suc l) e

-- each process of the order is there
pub is_there : (net : Net) (rank : ℕ → ℕ) (done order : List ℕ) (k d : ℕ) → Descends net rank done order → k
    < length order → get_or order k d < length net.processes
is_there net rank done [] k d falls lt = absurd (omega arith)
is_there net rank done (p ∷ ps) zero d falls lt = falls.0
is_there net rank done (p ∷ ps) (suc k) d falls lt = is_there net rank (p ∷ done) ps k d falls.2 (le_of_suc-le-suc lt)
