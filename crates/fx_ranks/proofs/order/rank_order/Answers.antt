use Rattle.std.proofs.Common.{◌≡◌, ◌<◌, ◌+◌, ℕ, Bool, true, false, not, ◌&&◌, List, [], ◌∷◌, ◌++◌, length, map, position, zip, Some, Vec, Global, refl, sym, ap, ◌∙◌, subst, arith, get_or, slice_set, count_by, inl, inr, append_assoc}
use Rattle.std.proofs.lemmas.Bool.{cases_Bool, both_ways}
use Rattle.std.proofs.lemmas.List.{append-nil, length-append}
use Rattle.std.proofs.lemmas.List.FromFn.{length-map-range_with_len, get_or-map-range_with_len}
use Rattle.fx_tables.specs.Network.{Net}
use Rattle.fx_ranks.specs.Feeding.{feeds, feeders, have_come, places_of}
use Rattle.fx_ranks.specs.Ranks.{is_in, next}
use Rattle.fx_ranks.proofs.OrderKeeps.{come_kept, come_last, come_more, next_is_ready}
use Rattle.fx_ranks.proofs.Ranges.{ready_position, flags_set, flags_none, count_set, count_none}
use Rattle.fx_ranks.proofs.order.rank_order.Goals as goal

-- what is looked for is what comes next
next_here : (net : Net) (order : List ℕ) (rows : List (Vec Bool Global)) (come : List Bool)
    → map (λ (row : Vec Bool Global). row.items) rows ≡ map (feeders net) (places_of net) → come
    ≡ map (is_in order) (places_of net) → position (λ x. not x.1 && have_come x.0.items come) (zip rows come)
    ≡ next net order
next_here net order rows come e c = ready_position (λ (row : Vec Bool Global). row.items) (feeders net) (is_in order)
    (λ q p. feeds net p q) (length net.processes) rows come (λ q. refl) e c

-- the flags after a process came
record Flags (net : Net) (order : List ℕ) (come : List Bool) (index : ℕ) : Type 0 where
  within : index < length come
  set : slice_set come index true ≡ map (is_in (order ++ index ∷ [])) (places_of net)
  counted : count_by (λ c. not c) (slice_set come index true) + 1 ≡ count_by (λ c. not c) come

others_kept : (order : List ℕ) (index k : ℕ) → (k ≡ index → ⊥) → is_in (order ++ index ∷ []) k ≡ is_in order k
others_kept order index k other =
    elim (cases_Bool (is_in order k)) [
      | inl e ↦ come_kept order index k e ∙ sym e
      | inr e ↦
          elim (cases_Bool (is_in (order ++ index ∷ []) k)) [
            | inl f ↦ elim (come_more order index k f)
                [ inl g ↦ absurd (both_ways (is_in order k) e g) | inr g ↦ absurd (other (sym g)) ]
            | inr f ↦ f ∙ sym e
          ]
    ]

flags_here : (net : Net) (order : List ℕ) (come : List Bool) (index : ℕ) → come ≡ map (is_in order) (places_of net)
    → next net order ≡ Some index → Flags net order come index
flags_here net order come index e n =
    let ready = next_is_ready net order index n in
    let low : index < length net.processes = ready.within in
    let long : length come ≡ length net.processes = ap length e
    ∙ length-map-range_with_len (is_in order) 0 (length net.processes) in
    let within : index < length come = omega arith in
    let clear : get_or come index true ≡ false = ap (λ (l : List Bool). get_or l index true) e
    ∙ (get_or-map-range_with_len (is_in order) 0 (length net.processes) index index true low (omega arith)
    ∙ ready.new) in
    record {
      within = within;
      set = flags_set (is_in order) (is_in (order ++ index ∷ [])) index (length net.processes) come e low
          (come_last order index) (others_kept order index);
      counted = count_set come index within clear;
    }

pub loop-index-init : goal.loop-index-init
loop-index-init c =
    let count : length c.processes.result.now ≡ length c.args.net.now.processes = ap length c.processes.ensures in
    let made = c.in_ok-come.ensures.items_if_clones_equal (λ y e. e) in
    record {
      flags = rw (c.new-order.ensures.items, made, count) (flags_none 0 (length c.args.net.now.processes));
      so_far = λ rest h. rw (c.new-order.ensures.items) (rw (c.new-order.ensures.items) at h);
      counted = rw (c.new-order.ensures.items, made, count)
          (ap (λ (n : ℕ). 0 + n) (count_none 0 (length c.args.net.now.processes)) ∙ omega arith);
    }

pub index_mut-requires : goal.index_mut-requires
index_mut-requires c =
    let i = c.loop-index.invariant in
    let n = c.in-Some.ensures ∙ next_here c.args.net.now c.loop-index.order.items c.as_slice.result.now
    c.as_slice-in-loop-index.result.now (ap (map (λ (row : Vec Bool Global). row.items)) c.as_slice.ensures.value
    ∙ c.in_ok-feeders.ensures) (c.as_slice-in-loop-index.ensures.value ∙ i.flags) in
    let low : c.in-Some.index < length c.loop-index.come.items =
    (flags_here c.args.net.now c.loop-index.order.items c.loop-index.come.items c.in-Some.index i.flags
    (sym n)).within in
    subst (λ (x : ℕ). c.in-Some.index < x) (ap length (sym c.as_slice-in-loop-index.ensures.value)
    ∙ c.as_slice-in-loop-index.ensures.len) low

pub loop-index-smaller : goal.loop-index-smaller
loop-index-smaller c =
    let i = c.loop-index.invariant in
    let n = c.in-Some.ensures ∙ next_here c.args.net.now c.loop-index.order.items c.as_slice.result.now
    c.as_slice-in-loop-index.result.now (ap (map (λ (row : Vec Bool Global). row.items)) c.as_slice.ensures.value
    ∙ c.in_ok-feeders.ensures) (c.as_slice-in-loop-index.ensures.value ∙ i.flags) in
    let less : count_by (λ c. not c) (slice_set c.loop-index.come.items c.in-Some.index true) + 1
    ≡ count_by (λ c. not c) c.loop-index.come.items =
    (flags_here c.args.net.now c.loop-index.order.items c.loop-index.come.items c.in-Some.index i.flags
    (sym n)).counted in
    omega (arith, less)

pub loop-index-preserved : goal.loop-index-preserved
loop-index-preserved c =
    let i = c.loop-index.invariant in
    let net = c.args.net.now in
    let order = c.loop-index.order.items in
    let index = c.in-Some.index in
    let n = sym (c.in-Some.ensures ∙ next_here c.args.net.now c.loop-index.order.items c.as_slice.result.now
    c.as_slice-in-loop-index.result.now (ap (map (λ (row : Vec Bool Global). row.items)) c.as_slice.ensures.value
    ∙ c.in_ok-feeders.ensures) (c.as_slice-in-loop-index.ensures.value ∙ i.flags)) in
    let here = flags_here net order c.loop-index.come.items index i.flags n in
    let longer = c.in_ok-push.ensures.items in
    let less : count_by (λ c. not c) (slice_set c.loop-index.come.items c.in-Some.index true) + 1
    ≡ count_by (λ c. not c) c.loop-index.come.items = here.counted in
    let before : length order + count_by (λ c. not c) c.loop-index.come.items ≡ length net.processes = i.counted in
    record {
      flags = rw longer here.set;
      so_far = λ rest h. rw longer (rw (append_assoc order (index ∷ []) rest)
          (i.so_far (index ∷ rest) (n, rw longer at h)));
      counted = rw longer (rw (length-append order (index ∷ [])) (omega (arith, less, before)));
    }

pub returns-clause-order : goal.returns-clause-order
returns-clause-order c =
    let i = c.loop-index.invariant in
    let n = c.in_default.ensures ∙ next_here c.args.net.now c.loop-index.order.items c.as_slice.result.now
    c.as_slice-in-loop-index.result.now (ap (map (λ (row : Vec Bool Global). row.items)) c.as_slice.ensures.value
    ∙ c.in_ok-feeders.ensures) (c.as_slice-in-loop-index.ensures.value ∙ i.flags) in
    rw append-nil at (i.so_far [] (sym n))
