-- A mark cleared is a crossing that leaves those to come.
use Rattle.std.proofs.Common.{◌≡◌, ◌≢◌, ℕ, zero, suc, ◌+◌, ◌<◌, ◌==◌, Bool, true, false, cond, ◌&&◌, List, [], ◌∷◌, ◌++◌, length, replicate, Some, None, refl, sym, ap, ap₂, ◌∙◌, subst, arith, slice_get, slice_set, remove}
use Rattle.fx_layout.proofs.Projections.{and_true, and_both}
use Rattle.fx_base.specs.Entries.{entry_numbered}
use Rattle.fx_tables.specs.Network.{entries}
use Rattle.fx_machine.specs.States.{Coming, with_entry, crossings_from, coming_from, nothing_at, all_empty, Complete}
use Rattle.fx_machine.specs.Steps.{place, later}
use Rattle.fx_machine.specs.Comings.{coming_by_marks, coming_of, is_marked, has_mark, has_mark_at, without_mark, marks, marks_of, none_marked, all_crossed}
use Rattle.fx_tables.specs.declared.traffic.Crossing.{Crossing}
use Rattle.fx_tables.specs.declared.packet.Packet.{Packet}
use Rattle.fx_tables.specs.declared.record.Record.{Record}
use Rattle.fx_tables.specs.Classes.{Class, path}

-- the crossing is there, and without it these are left
abbrev pub Goes : List Coming → ℕ → ℕ → List Coming → Type 0
Goes xs i j ys = (m : ℕ) × (place xs i j ≡ Some m) × (remove xs m ≡ ys)

abbrev at : ℕ → ℕ → Coming
at p n = record { packet = p; crossing = n }

same-number : (n : ℕ) → (n == n) ≡ true
same-number n = grind arith

other-number : (m n : ℕ) → m ≢ n → (m == n) ≡ false
other-number m n ne = grind arith

here : (p n : ℕ) (xs : List Coming) → Goes (at p n ∷ xs) p n xs
here p n xs =
    let t : (p == p && n == n) ≡ true = ap₂ (λ a b. a && b) (same-number p) (same-number n) in
    (0, ap (λ b. cond b (Some 0) (later (place xs p n))) t, refl)

past : (c : Coming) (xs : List Coming) (i j : ℕ) (ys : List Coming) → (c.packet == i && c.crossing == j) ≡ false
    → Goes xs i j ys → Goes (c ∷ xs) i j (c ∷ ys)
past c xs i j ys t g =
    (suc g.0, ap (λ b. cond b (Some 0) (later (place xs i j))) t ∙ ap later g.1, ap (λ (zs : List Coming). c ∷ zs) g.2)

none_past : (c : Coming) (xs : List Coming) (i j : ℕ) → (c.packet == i && c.crossing == j) ≡ false → place xs i j ≡ None
    → place (c ∷ xs) i j ≡ None
none_past c xs i j t g = ap (λ b. cond b (Some 0) (later (place xs i j))) t ∙ ap later g

other_packet : (p n i j : ℕ) → p ≢ i → (p == i && n == j) ≡ false
other_packet p n i j ne = ap (λ b. b && n == j) (other-number p i ne)

both_false : (a : Bool) → (a && false) ≡ false
both_false true = refl
both_false false = refl

other_crossing : (p n i j : ℕ) → n ≢ j → (p == i && n == j) ≡ false
other_crossing p n i j ne = ap (λ b. p == i && b) (other-number n j ne) ∙ both_false (p == i)

-- ---- another packet's marks

skip : (p n i j : ℕ) (bs : List Bool) (ys zs : List Coming) → p ≢ i → Goes ys i j zs
    → Goes (coming_by_marks p n bs ++ ys) i j (coming_by_marks p n bs ++ zs)
skip p n i j [] ys zs ne g = g
skip p n i j (true ∷ bs) ys zs ne g = past (at p n) (coming_by_marks p (suc n) bs ++ ys) i j
    (coming_by_marks p (suc n) bs ++ zs) (other_packet p n i j ne) (skip p (suc n) i j bs ys zs ne g)
skip p n i j (false ∷ bs) ys zs ne g = skip p (suc n) i j bs ys zs ne g

none_skip : (p n i j : ℕ) (bs : List Bool) (ys : List Coming) → p ≢ i → place ys i j ≡ None
    → place (coming_by_marks p n bs ++ ys) i j ≡ None
none_skip p n i j [] ys ne g = g
none_skip p n i j (true ∷ bs) ys ne g =
    none_past (at p n) (coming_by_marks p (suc n) bs ++ ys) i j (other_packet p n i j ne)
    (none_skip p (suc n) i j bs ys ne g)
none_skip p n i j (false ∷ bs) ys ne g = none_skip p (suc n) i j bs ys ne g

none_later : (n i j : ℕ) (fs : List (List Bool)) → i < n → place (coming_of n fs) i j ≡ None
none_later n i j [] lt = refl
none_later n i j (f ∷ fs) lt =
    let ne : n ≢ i = omega arith in
    let more : i < suc n = omega arith in
    none_skip n 1 i j f (coming_of (suc n) fs) ne (none_later (suc n) i j fs more)

-- ---- the packet's own marks

none_below : (p n j : ℕ) (bs : List Bool) (ys : List Coming) → j < n → place ys p j ≡ None
    → place (coming_by_marks p n bs ++ ys) p j ≡ None
none_below p n j [] ys lt g = g
none_below p n j (true ∷ bs) ys lt g =
    let ne : n ≢ j = omega arith in
    let more : j < suc n = omega arith in
    none_past (at p n) (coming_by_marks p (suc n) bs ++ ys) p j (other_crossing p n p j ne)
    (none_below p (suc n) j bs ys more g)
none_below p n j (false ∷ bs) ys lt g = let more : j < suc n = omega arith in none_below p (suc n) j bs ys more g

in_own : (p n d j : ℕ) (bs : List Bool) (ys : List Coming) → j ≡ n + d → is_marked (slice_get bs d) ≡ true
    → Goes (coming_by_marks p n bs ++ ys) p j (coming_by_marks p n (slice_set bs d false) ++ ys)
in_own p n d j [] ys e h = absurd (cc)
in_own p n zero j (true ∷ bs) ys e h =
    let same : n ≡ j = omega arith in
    subst (λ k. Goes (at p n ∷ (coming_by_marks p (suc n) bs ++ ys)) p k (coming_by_marks p (suc n) bs ++ ys)) same
    (here p n (coming_by_marks p (suc n) bs ++ ys))
in_own p n zero j (false ∷ bs) ys e h = absurd (cc)
in_own p n (suc d) j (true ∷ bs) ys e h =
    let ne : n ≢ j = omega arith in
    let next : j ≡ suc n + d = omega arith in
    past (at p n) (coming_by_marks p (suc n) bs ++ ys) p j (coming_by_marks p (suc n) (slice_set bs d false) ++ ys)
    (other_crossing p n p j ne) (in_own p (suc n) d j bs ys next h)
in_own p n (suc d) j (false ∷ bs) ys e h = let next : j ≡ suc n + d = omega arith in in_own p (suc n) d j bs ys next h

none_own : (p n d j : ℕ) (bs : List Bool) (ys : List Coming) → j ≡ n + d → is_marked (slice_get bs d) ≡ false
    → place ys p j ≡ None → place (coming_by_marks p n bs ++ ys) p j ≡ None
none_own p n d j [] ys e h g = g
none_own p n zero j (true ∷ bs) ys e h g = absurd (cc)
none_own p n zero j (false ∷ bs) ys e h g = let lt : j < suc n = omega arith in none_below p (suc n) j bs ys lt g
none_own p n (suc d) j (true ∷ bs) ys e h g =
    let ne : n ≢ j = omega arith in
    let next : j ≡ suc n + d = omega arith in
    none_past (at p n) (coming_by_marks p (suc n) bs ++ ys) p j (other_crossing p n p j ne)
    (none_own p (suc n) d j bs ys next h g)
none_own p n (suc d) j (false ∷ bs) ys e h g = let next : j ≡ suc n + d = omega arith in
    none_own p (suc n) d j bs ys next h g

own_goes : (p j : ℕ) (bs : List Bool) (ys : List Coming) → is_marked (entry_numbered bs j) ≡ true
    → Goes (coming_by_marks p 1 bs ++ ys) p j (coming_by_marks p 1 (with_entry bs j false) ++ ys)
own_goes p zero bs ys h = absurd (cc)
own_goes p (suc d) bs ys h = let e : suc d ≡ 1 + d = omega arith in in_own p 1 d (suc d) bs ys e h

own_none : (p j : ℕ) (bs : List Bool) (ys : List Coming) → is_marked (entry_numbered bs j) ≡ false → place ys p j ≡ None
    → place (coming_by_marks p 1 bs ++ ys) p j ≡ None
own_none p zero bs ys h g = let lt : 0 < 1 = omega arith in none_below p 1 0 bs ys lt g
own_none p (suc d) bs ys h g = let e : suc d ≡ 1 + d = omega arith in none_own p 1 d (suc d) bs ys e h g

-- ---- all packets

goes_at : (n e i j : ℕ) (fs : List (List Bool)) → i ≡ n + e → has_mark (slice_get fs e) j ≡ true
    → Goes (coming_of n fs) i j (coming_of n (slice_set fs e (with_entry (entries (slice_get fs e)) j false)))
goes_at n e i j [] q h = absurd (cc)
goes_at n zero i j (f ∷ fs) q h =
    let same : n ≡ i = omega arith in
    subst (λ k. Goes (coming_by_marks n 1 f ++ coming_of (suc n) fs) k j
    (coming_by_marks n 1 (with_entry f j false) ++ coming_of (suc n) fs)) same
    (own_goes n j f (coming_of (suc n) fs) h)
goes_at n (suc e) i j (f ∷ fs) q h =
    let ne : n ≢ i = omega arith in
    let next : i ≡ suc n + e = omega arith in
    skip n 1 i j f (coming_of (suc n) fs) (coming_of (suc n)
    (slice_set fs e (with_entry (entries (slice_get fs e)) j false))) ne (goes_at (suc n) e i j fs next h)

none_at : (n e i j : ℕ) (fs : List (List Bool)) → i ≡ n + e → has_mark (slice_get fs e) j ≡ false
    → place (coming_of n fs) i j ≡ None
none_at n e i j [] q h = refl
none_at n zero i j (f ∷ fs) q h =
    let same : n ≡ i = omega arith in
    let lt : n < suc n = omega arith in
    subst (λ k. place (coming_by_marks n 1 f ++ coming_of (suc n) fs) k j ≡ None) same
    (own_none n j f (coming_of (suc n) fs) h (none_later (suc n) n j fs lt))
none_at n (suc e) i j (f ∷ fs) q h =
    let ne : n ≢ i = omega arith in
    let next : i ≡ suc n + e = omega arith in
    none_skip n 1 i j f (coming_of (suc n) fs) ne (none_at (suc n) e i j fs next h)

pub crossing_goes : (fs : List (List Bool)) (i j : ℕ) → has_mark_at fs i j ≡ true
    → Goes (coming_of 1 fs) i j (coming_of 1 (without_mark fs i j))
crossing_goes fs zero j h = absurd (cc)
crossing_goes fs (suc e) j h = let q : suc e ≡ 1 + e = omega arith in goes_at 1 e (suc e) j fs q h

pub crossing_none : (fs : List (List Bool)) (i j : ℕ) → has_mark_at fs i j ≡ false → place (coming_of 1 fs) i j ≡ None
crossing_none fs zero j h = let lt : 0 < 1 = omega arith in none_later 1 0 j fs lt
crossing_none fs (suc e) j h = let q : suc e ≡ 1 + e = omega arith in none_at 1 e (suc e) j fs q h

-- ---- the opening

pub all_marked : (p n : ℕ) (cs : List Crossing) → coming_by_marks p n (marks (length cs)) ≡ crossings_from p n cs
all_marked p n [] = refl
all_marked p n (c ∷ cs) = ap (λ (xs : List Coming). at p n ∷ xs) (all_marked p (suc n) cs)

pub all_coming : (classes : List Class) (n : ℕ) (ps : List Packet) → coming_of n (marks_of classes ps)
    ≡ coming_from classes n ps
all_coming classes n [] = refl
all_coming classes n (p ∷ ps) = ap₂ (λ (xs ys : List Coming). xs ++ ys) (all_marked n 1 (path classes p))
    (all_coming classes (suc n) ps)

-- ---- the end

no_marks : (p n : ℕ) (bs : List Bool) (ys : List Coming) → none_marked bs ≡ true → coming_by_marks p n bs ++ ys ≡ ys
no_marks p n [] ys h = refl
no_marks p n (true ∷ bs) ys h = absurd (cc)
no_marks p n (false ∷ bs) ys h = no_marks p (suc n) bs ys h

some_mark : (p n : ℕ) (bs : List Bool) (ys : List Coming) → coming_by_marks p n bs ++ ys ≡ [] → (none_marked bs ≡ true)
    × (ys ≡ [])
some_mark p n [] ys h = (refl, h)
some_mark p n (true ∷ bs) ys h = absurd (cc)
some_mark p n (false ∷ bs) ys h = some_mark p (suc n) bs ys h

pub crossed_all : (n : ℕ) (fs : List (List Bool)) → all_crossed fs ≡ true → coming_of n fs ≡ []
crossed_all n [] h = refl
crossed_all n (f ∷ fs) h =
    let rest = crossed_all (suc n) fs in
    elim (none_marked f) as (λ b. none_marked f ≡ b → cond b (all_crossed fs) false ≡ true → coming_by_marks n 1 f
    ++ coming_of (suc n) fs ≡ []) [
      | true ↦ λ e k. no_marks n 1 f (coming_of (suc n) fs) e ∙ rest k
      | false ↦ λ e k. absurd (cc)
    ] refl h

pub all_crossed_is : (n : ℕ) (fs : List (List Bool)) → coming_of n fs ≡ [] → all_crossed fs ≡ true
all_crossed_is n [] h = refl
all_crossed_is n (f ∷ fs) h =
    let both = some_mark n 1 f (coming_of (suc n) fs) h in
    ap (λ b. cond b (all_crossed fs) false) both.0 ∙ all_crossed_is (suc n) fs both.1

pub empties : {A : Type 0} → (xs : List A) → replicate (length xs) [] ≡ nothing_at xs
empties [] = refl
empties (x ∷ xs) = ap (λ (yss : List (List Record)). [] ∷ yss) (empties xs)

pub complete_is : (fs : List (List Bool)) (held carried : List (List Record)) (totals : List Record) (u : ℕ) (b : Bool)
    → b ≡ (all_crossed fs && all_empty held && all_empty carried)
    → (b ≡ true → Complete (record {
      coming = coming_of 1 fs;
      held = held;
      carried = carried;
      totals =
          totals;
      unassigned = u;
    })) × (Complete (record
    { coming = coming_of 1 fs; held = held; carried = carried; totals = totals; unassigned = u }) → b ≡ true)
complete_is fs held carried totals u b e = (
  λ h.
      let both = and_true (all_crossed fs && all_empty held) (all_empty carried) (sym e ∙ h) in
      let first = and_true (all_crossed fs) (all_empty held) both.0 in
      record { crossed = crossed_all 1 fs first.0; nothing_held = first.1; nothing_carried = both.1 },
  λ h. e ∙ and_both (all_crossed fs && all_empty held) (all_empty carried)
      (and_both (all_crossed fs) (all_empty held) (all_crossed_is 1 fs h.crossed) h.nothing_held) h.nothing_carried,
)
