-- Records that wait behind others.
use Rattle.std.proofs.Common.{◌≡◌, ℕ, suc, ◌+◌, ◌-◌, ◌<◌, ◌≤◌, List, [], ◌∷◌, ◌++◌, length, take, drop, Result, Ok, Err, IfOk, OnOk, sym, ap, ◌∙◌, subst, arith, slice_get}
use Rattle.std.proofs.Math.Seq.{take-length}
use Rattle.std.proofs.lemmas.List.{length-drop}
use Rattle.std.specs.List.{AllByRecursion}
use Rattle.fx_elements.specs.Axes.{Fields}
use Rattle.fx_tables.specs.Network.{Net, exporters_of}
use Rattle.fx_tables.specs.Runnable.{IsRunnable}
use Rattle.fx_leaf.specs.declared.verdict.Fate.{Fate}
use Rattle.fx_leaf.specs.Tables.{Numbering, Tables, AreTables, number_of_layout}
use Rattle.fx_leaf.proofs.FateLaws.{Every}
use Rattle.fx_steps.specs.declared.pending.Pending.{Pending}
use Rattle.fx_steps.specs.declared.pending.Pending.TheVariants.{AtHolder, OnLink}
use Rattle.fx_steps.specs.declared.waiting.Waiting.{Waiting}
use Rattle.fx_machine.specs.Limits.{step_limit}
use Rattle.fx_steps.specs.CostTables.{CostTable, process_costs, sent_costs}
use Rattle.fx_steps.specs.Planning.{pending_cost, total_cost, step_pending, IsThere, Steps}
use Rattle.fx_steps.specs.UnderWay.{HasCosts, CanLeave}
use Rattle.fx_steps.specs.Waiting.{Wait, HasPlace, zeros_for, total, one_more_at, holder_counts, link_counts}
use Rattle.fx_steps.proofs.CostsTell.{cost_next}
use Rattle.fx_steps.proofs.WaitingCounts.{holders_length, links_length, holders_total, links_total, holders_joined, links_joined, total_nobody, length_nobody}
use Rattle.fx_steps.proofs.StepsMeetFates.{each_steps}
use Rattle.fx_steps.proofs.PlansMeetFates.{cost_joined}
use Rattle.fx_steps.proofs.PlannedPlaces.{planned_there, all_of_every}
use Rattle.fx_steps.proofs.WholeNetworks.{whole}

-- what is said of the value, and what is said if there is one
pub ok_with : {T E : Type 0} (P R : T → Type 0) (Q : Type 0) (r : Result T E) → ((x : T) → P x → Q → R x) → IfOk r P
    → OnOk r Q → IfOk r R
ok_with P R Q (Ok x) so h k = so x h k
ok_with P R Q (Err e) so h k = tt

-- ---- lists

pub rest_is : {A : Type 0} (k : ℕ) (xs : List A) → take (length xs - k) (drop k xs) ≡ drop k xs
rest_is k xs = ap (λ n. take n (drop k xs)) (sym (length-drop k xs)) ∙ take-length (drop k xs)

pub all_joined : {A : Type 0} (P : A → Type 0) (xs ys : List A) → AllByRecursion P xs → AllByRecursion P ys
    → AllByRecursion P (xs ++ ys)
all_joined P [] ys h k = k
all_joined P (x ∷ xs) ys h k = (h.0, all_joined P xs ys h.1 k)

pub all_first : {A : Type 0} (P : A → Type 0) (xs ys : List A) → AllByRecursion P (xs ++ ys) → AllByRecursion P xs
all_first P [] ys h = tt
all_first P (x ∷ xs) ys h = (h.0, all_first P xs ys h.1)

pub all_last : {A : Type 0} (P : A → Type 0) (xs ys : List A) → AllByRecursion P (xs ++ ys) → AllByRecursion P ys
all_last P [] ys h = h
all_last P (x ∷ xs) ys h = all_last P xs ys h.1

pub every_along : {A : Type 0} (P : A → Type 0) (xs : List A) → AllByRecursion P xs → Every P xs
every_along P [] h = tt
every_along P (x ∷ xs) h = (h.0, every_along P xs h.1)

-- ---- how many wait

module _ (net : Net) where
  pub sizes : (xs : List Pending) (w : Waiting) → Wait net xs w → (length w.held.items ≡ length net.holders)
      × (length w.carried.items ≡ length net.links)
  sizes xs w h = (
    ap length h.held ∙ holders_length (zeros_for net.holders) xs ∙ length_nobody net.holders,
    ap length h.carried ∙ links_length (zeros_for net.links) xs ∙ length_nobody net.links,
  )

  pub few_wait : (xs : List Pending) (w : Waiting) → Wait net xs w → (total w.held.items ≤ length xs)
      × (total w.carried.items ≤ length xs)
  few_wait xs w h = (
    omega (arith, ap total h.held, holders_total (zeros_for net.holders) xs, total_nobody net.holders),
    omega (arith, ap total h.carried, links_total (zeros_for net.links) xs, total_nobody net.links),
  )

  pub wait_behind : (xs ys : List Pending) (w new : Waiting) → Wait net xs w → new.held.items
      ≡ holder_counts w.held.items ys → new.carried.items ≡ link_counts w.carried.items ys → Wait net (xs ++ ys) new
  wait_behind xs ys w new h held carried = record {
    held = held ∙ ap (λ cs. holder_counts cs ys) h.held ∙ sym (holders_joined (zeros_for net.holders) xs ys);
    carried = carried ∙ ap (λ cs. link_counts cs ys) h.carried ∙ sym (links_joined (zeros_for net.links) xs ys);
  }

  pub holder_on_top : (xs : List Pending) (holder : ℕ) (f : Fate) (w : Waiting)
      → Wait net (xs ++ AtHolder holder f ∷ []) w
      → (w.held.items ≡ one_more_at (holder_counts (zeros_for net.holders) xs) holder)
      × (w.carried.items ≡ link_counts (zeros_for net.links) xs)
  holder_on_top xs holder f w h = (
    h.held ∙ holders_joined (zeros_for net.holders) xs (AtHolder holder f ∷ []),
    h.carried
        ∙ links_joined (zeros_for net.links) xs (AtHolder holder f ∷ []),
  )

  pub link_on_top : (xs : List Pending) (link number : ℕ) (f : Fate) (w : Waiting)
      → Wait net (xs ++ OnLink link number f ∷ []) w → (w.held.items ≡ holder_counts (zeros_for net.holders) xs)
      × (w.carried.items ≡ one_more_at (link_counts (zeros_for net.links) xs) link)
  link_on_top xs link number f w h = (
    h.held ∙ holders_joined (zeros_for net.holders) xs (OnLink link number f ∷ []),
    h.carried
        ∙ links_joined (zeros_for net.links) xs (OnLink link number f ∷ []),
  )

  pub holder_within : (xs : List Pending) (holder : ℕ) → holder < length net.holders → holder
      < length (holder_counts (zeros_for net.holders) xs)
  holder_within xs holder lt = omega (arith, lt, holders_length (zeros_for net.holders) xs, length_nobody net.holders)

  pub link_within : (xs : List Pending) (link : ℕ) → link < length net.links → link
      < length (link_counts (zeros_for net.links) xs)
  link_within xs link lt = omega (arith, lt, links_length (zeros_for net.links) xs, length_nobody net.links)

-- ---- what they cost

module _ (table : CostTable) (net : Net) (n : Numbering) where
  pub some_cost : (x : Pending) → 1 ≤ pending_cost table net n x
  some_cost (AtHolder holder f) = let e =
      cost_next (sent_costs table net (number_of_layout n holder) (exporters_of net (slice_get net.holders holder))) f
      in omega arith
  some_cost (OnLink link number f) = let e = cost_next (process_costs table number (slice_get net.links link)) f in
      omega arith

  pub few_pending : (xs : List Pending) → length xs ≤ total_cost table net n xs
  few_pending [] = omega arith
  few_pending (x ∷ xs) = let h = few_pending xs in let k = some_cost x in omega arith

  pub place_of : (x : Pending) → IsThere net n x → HasPlace (length net.holders) (length net.links) x
  place_of (AtHolder holder f) is = is.there
  place_of (OnLink link number f) is = is.0

  pub places_of : (xs : List Pending) → AllByRecursion (IsThere net n) xs
      → AllByRecursion (HasPlace (length net.holders) (length net.links)) xs
  places_of [] h = tt
  places_of (x ∷ xs) h = (place_of x h.0, places_of xs h.1)

-- ---- the record on top

module _ (t : Tables) (are : AreTables t) (runs : IsRunnable t.net) (fields : Fields) (table : CostTable)
    (filled : HasCosts t fields table) where
  pub can_step : (x : Pending) → IsThere t.net t.numbering x → pending_cost table t.net t.numbering x ≤ step_limit
      → Steps table t.net t.numbering fields x
  can_step x is le =
      let P : CostTable → Type 0 = λ c. pending_cost c t.net t.numbering x ≤ step_limit
      → Steps c t.net t.numbering fields x in
      subst P (sym filled.filled) (each_steps t are runs fields filled.before filled.room x is) le

  pub planned_places : (x : Pending) → IsThere t.net t.numbering x
      → AllByRecursion (IsThere t.net t.numbering) (step_pending table t.net t.numbering fields x)
  planned_places x is = all_of_every (IsThere t.net t.numbering) (step_pending table t.net t.numbering fields x)
      (planned_there table t.net t.numbering fields are.network are.numbers (whole t.net runs) x is)

  -- what is known of a record that is to leave, and of what comes of it
  pub record Top (steps : ℕ) (xs : List Pending) (x : Pending) : Type 0 where
    pub is : IsThere t.net t.numbering x
    pub steps_so : Steps table t.net t.numbering fields x
    pub there : AllByRecursion (IsThere t.net t.numbering) (xs ++ step_pending table t.net t.numbering fields x)
    pub same : suc steps + total_cost table t.net t.numbering (xs ++ step_pending table t.net t.numbering fields x)
        ≡ steps + total_cost table t.net t.numbering (xs ++ x ∷ [])

  pub top : (steps : ℕ) (xs : List Pending) (x : Pending) (w : Waiting)
      → CanLeave table t.net t.numbering steps (xs ++ x ∷ []) w → Top steps xs x
  top steps xs x w can =
      let net = t.net in
      let n = t.numbering in
      let is = (all_last (IsThere net n) xs (x ∷ []) can.there).0 in
      let ps = step_pending table net n fields x in
      let all = cost_joined table net n fields xs (x ∷ []) in
      let so = can_step x is (omega (arith, all, can.few)) in
      record {
        is = is;
        steps_so = so;
        there = all_joined (IsThere net n) xs ps (all_first (IsThere net n) xs (x ∷ []) can.there)
            (planned_places x is);
        same = omega (arith, all, so.cost, cost_joined table net n fields xs ps);
      }
