-- What the order of ranks keeps: each process behind all that feed it, each once.
use Rattle.std.proofs.Common.{◌≡◌, ℕ, suc, zero, ◌+◌, ◌<◌, ◌≤◌, ◌==◌, Bool, true, false, not, ◌&&◌, ◌||◌, List, [], ◌∷◌, ◌++◌, length, Contains, Some, None, find, refl, sym, ap, ◌∙◌, subst, arith, append_assoc, nat_lt, ◌⊎◌, inl, inr, eqb-true}
use mathlib.Core.List.{reverse_aux}
use Rattle.std.specs.List.{list_all, range_with_len}
use Rattle.std.proofs.lemmas.Bool.{cond-true, cond-false, lt-ltb, ltb-true, not_from_false, cases_eq, and_parts, and_cases, and_from, or_cases, or_parts, or_left, or_right, not-true, not-false, eq-eqb, cases_Bool, both_ways, cases_lt}
use Rattle.std.proofs.lemmas.Option.{slice_get_past}
use Rattle.std.proofs.lemmas.List.{append-nil, length-append}
use Rattle.std.proofs.lemmas.List.Elements.{Contains-append_right}
use Rattle.std.proofs.lemmas.List.Folds.{list_any-append}
use Rattle.fx_elements.proofs.Cuts.{chosen}
use Rattle.fx_tables.specs.Network.{Net}
use Rattle.fx_tables.specs.Orders.{Descends}
use Rattle.fx_ranks.specs.Feeding.{feeds, feeds_by, places_of}
use Rattle.fx_ranks.specs.Ranks.{is_in, is_ready, next, ComesNext, place_from, rank_in, IsFedWithin, IsStuck, IsRankOrder}

-- ---- ranges

pub all_in : (t : ℕ → Bool) (a n : ℕ) → list_all t (range_with_len a n) ≡ true → (p : ℕ) → a ≤ p → p < a + n → t p
    ≡ true
all_in t a zero h p low high = absurd (omega arith)
all_in t a (suc n) h p low high =
    let both = and_parts (t a) (list_all t (range_with_len (a + 1) n)) h in
    elim (cases_eq a p) [
      | inl e ↦ subst (λ (x : ℕ). t x ≡ true) e both.0
      | inr e ↦ all_in t (a + 1) n both.1 p (omega arith) (omega arith)
    ]

pub some_not : (t : ℕ → Bool) (a n : ℕ) → list_all t (range_with_len a n) ≡ false → (p : ℕ) × (a ≤ p) × (p < a + n)
    × (t p ≡ false)
some_not t a zero h = cc
some_not t a (suc n) h =
    elim (and_cases (t a) (list_all t (range_with_len (a + 1) n)) h) [
      | inl e ↦ (a, omega arith, omega arith, e)
      | inr e ↦ (let w = some_not t (a + 1) n e in (w.0, omega arith, omega arith, w.3))
    ]

pub found_in : (t : ℕ → Bool) (a n q : ℕ) → find t (range_with_len a n) ≡ Some q → (a ≤ q) × (q < a + n) × (t q ≡ true)
found_in t a zero q h = cc
found_in t a (suc n) q h =
    elim (chosen (t a) (Some a) (find t (range_with_len (a + 1) n)) (Some q) h) [
      | inl w ↦ (let e : a ≡ q = cc in (omega arith, omega arith, subst (λ (x : ℕ). t x ≡ true) e w.0))
      | inr w ↦ (let v = found_in t (a + 1) n q w.1 in (omega arith, omega arith, v.2))
    ]

pub none_in : (t : ℕ → Bool) (a n : ℕ) → find t (range_with_len a n) ≡ None → (q : ℕ) → a ≤ q → q < a + n → t q ≡ false
none_in t a zero h q low high = absurd (omega arith)
none_in t a (suc n) h q low high =
    elim (chosen (t a) (Some a) (find t (range_with_len (a + 1) n)) None h) [
      | inl w ↦ cc
      | inr w ↦ elim (cases_eq a q) [
        | inl e ↦ subst (λ (x : ℕ). t x ≡ false) e w.0
        | inr e ↦ none_in t (a + 1) n w.1 q (omega arith) (omega arith)
      ]
    ]

-- ---- what has come

pub come_more : (come : List ℕ) (q p : ℕ) → is_in (come ++ q ∷ []) p ≡ true → (is_in come p ≡ true) ⊎ (q ≡ p)
come_more come q p h =
    elim (or_cases (is_in come p) (is_in (q ∷ []) p) (sym (list_any-append (λ x. x == p) come (q ∷ [])) ∙ h)) [
      | inl e ↦ inl e
      | inr e ↦ elim (or_cases (q == p) false e) [ inl f ↦ inr (eqb-true q p f) | inr f ↦ cc ]
    ]

pub come_kept : (come : List ℕ) (q p : ℕ) → is_in come p ≡ true → is_in (come ++ q ∷ []) p ≡ true
come_kept come q p h = list_any-append (λ x. x == p) come (q ∷ []) ∙ or_left (is_in come p) (is_in (q ∷ []) p) h

pub come_last : (come : List ℕ) (q : ℕ) → is_in (come ++ q ∷ []) q ≡ true
come_last come q = list_any-append (λ x. x == q) come (q ∷ [])
    ∙ or_right (is_in come q) (is_in (q ∷ []) q) (or_left (q == q) false (eq-eqb q q refl))

pub feeder_within : (net : Net) (p q : ℕ) → feeds net p q ≡ true → p < length net.processes
feeder_within net p q h =
    elim (cases_lt p (length net.processes)) [
      | inl lt ↦ lt
      | inr le ↦ (let e : feeds net p q ≡ false = ap (feeds_by net q) (slice_get_past net.processes p le) in cc)
    ]

-- ---- what is ready

-- a process that comes next hasn't come, and all that feed it have
pub record IsReady (net : Net) (come : List ℕ) (q : ℕ) : Type 0 where
  pub within : q < length net.processes
  pub new : is_in come q ≡ false
  pub fed : (p : ℕ) → feeds net p q ≡ true → is_in come p ≡ true

pub ready_if : (net : Net) (come : List ℕ) (q : ℕ) → q < length net.processes → is_ready net come q ≡ true
    → IsReady net come q
ready_if net come q within h =
    let both = and_parts (not (is_in come q)) (list_all (λ p. not (feeds net p q) || is_in come p) (places_of net)) h in
    record {
      within = within;
      new = not-true (is_in come q) both.0;
      fed = λ p f.
          elim (or_cases (not (feeds net p q)) (is_in come p)
          (all_in (λ p. not (feeds net p q) || is_in come p) 0 (length net.processes) both.1 p (omega arith)
          (let w = feeder_within net p q f in omega arith))) [
            | inl e ↦ absurd (both_ways (feeds net p q) (not-true (feeds net p q) e) f)
            | inr e ↦ e
          ];
    }

pub next_is_ready : (net : Net) (come : List ℕ) (q : ℕ) → next net come ≡ Some q → IsReady net come q
next_is_ready net come q h =
    let w = found_in (is_ready net come) 0 (length net.processes) q h in
    ready_if net come q (omega arith) w.2

pub none_is_ready : (net : Net) (come order : List ℕ) → ComesNext net come order → next net (come ++ order) ≡ None
none_is_ready net come [] c = rw append-nil c
none_is_ready net come (x ∷ xs) c = rw (← append_assoc come (x ∷ []) xs) (none_is_ready net (come ++ x ∷ []) xs c.1)

-- there is one order of ranks
pub one_order : (net : Net) (come xs ys : List ℕ) → ComesNext net come xs → ComesNext net come ys → xs ≡ ys
one_order net come [] [] h k = refl
one_order net come [] (y ∷ ys) h k = cc
one_order net come (x ∷ xs) [] h k = cc
one_order net come (x ∷ xs) (y ∷ ys) h k =
    let same : x ≡ y = cc in
    let rest = one_order net (come ++ x ∷ []) xs ys h.1
    (subst (λ (p : ℕ). ComesNext net (come ++ p ∷ []) ys) (sym same) k.1) in
    rw (same, rest) refl

-- ---- ranks

-- these processes have ranks one after another, from this one on
abbrev pub RankedFrom : (ℕ → ℕ) → ℕ → List ℕ → Type 0
RankedFrom rank i [] = Unit {0}
RankedFrom rank i (p ∷ ps) = (rank p ≡ i) × RankedFrom rank (suc i) ps

abbrev pub AllBelow : (ℕ → ℕ) → ℕ → List ℕ → Type 0
AllBelow rank i come = (p : ℕ) → is_in come p ≡ true → rank p < i

pub below_more : (rank : ℕ → ℕ) (i : ℕ) (come : List ℕ) (x : ℕ) → AllBelow rank i come → rank x ≡ i
    → AllBelow rank (suc i) (come ++ x ∷ [])
below_more rank i come x b r p m =
    elim (come_more come x p m) [
      | inl l ↦ (let low : rank p < i = b p l in omega arith)
      | inr l ↦ (let same : rank x ≡ rank p = ap rank l in omega arith)
    ]

pub feeders_before : (net : Net) (rank : ℕ → ℕ) (come order : List ℕ) (i : ℕ) → ComesNext net come order
    → AllBelow rank i come → RankedFrom rank i order → (p q : ℕ) → is_in order q ≡ true → feeds net p q ≡ true → rank p
    < rank q
feeders_before net rank come [] i c b r p q h f = cc
feeders_before net rank come (x ∷ xs) i c b r p q h f =
    elim (or_cases (x == q) (is_in xs q) h) [
      | inl e ↦
          (let same : x ≡ q = eqb-true x q e in
          let here : feeds net p x ≡ true = subst (λ (y : ℕ). feeds net p y ≡ true) (sym same) f in
          let low : rank p < i = b p ((next_is_ready net come x c.0).fed p here) in
          let high : rank x ≡ rank q = ap rank same in
          let first : rank x ≡ i = r.0 in
          omega arith)
      | inr e ↦ feeders_before net rank (come ++ x ∷ []) xs (suc i) c.1 (below_more rank i come x b r.0) r.1 p q e f
    ]

pub place_here : (come : List ℕ) (x : ℕ) (xs : List ℕ) (k : ℕ) → is_in come x ≡ false → place_from k (come ++ x ∷ xs) x
    ≡ k + length come
place_here [] x xs k new = cond-true (x == x) k (place_from (suc k) xs x) (eq-eqb x x refl) ∙ omega arith
place_here (y ∷ ys) x xs k new =
    let parts = or_parts (y == x) (is_in ys x) new in
    let rest : place_from (suc k) (ys ++ x ∷ xs) x ≡ suc k + length ys = place_here ys x xs (suc k) parts.1 in
    cond-false (y == x) k (place_from (suc k) (ys ++ x ∷ xs) x) parts.0 ∙ (rest ∙ omega arith)

pub all_ranked : (net : Net) (whole come order : List ℕ) (i : ℕ) → i ≡ length come → whole ≡ come ++ order
    → ComesNext net come order → RankedFrom (rank_in whole) i order
all_ranked net whole come [] i n w c = tt
all_ranked net whole come (x ∷ xs) i n w c =
    let here : rank_in whole x ≡ i = ap (λ (l : List ℕ). rank_in l x) w
    ∙ (place_here come x xs 0 (next_is_ready net come x c.0).new ∙ (omega arith)) in
    let longer : suc i ≡ length (come ++ x ∷ []) = omega (arith, length-append come (x ∷ [])) in
    (here, all_ranked net whole (come ++ x ∷ []) xs (suc i) longer (w ∙ sym (append_assoc come (x ∷ []) xs)) c.1)

pub place_bound : (order : List ℕ) (k p : ℕ) → (place_from k order p ≡ 0) ⊎ (place_from k order p < k + length order)
place_bound [] k p = inl refl
place_bound (x ∷ xs) k p =
    elim (cases_Bool (x == p)) [
      | inl e ↦ inr (let is : place_from k (x ∷ xs) p ≡ k = cond-true (x == p) k (place_from (suc k) xs p) e in
          omega arith)
      | inr e ↦
          (let is : place_from k (x ∷ xs) p ≡ place_from (suc k) xs p =
          cond-false (x == p) k (place_from (suc k) xs p) e in
          elim (place_bound xs (suc k) p) [
            | inl z ↦ inl (is ∙ z)
            | inr z ↦ inr (omega arith)
          ])
    ]

-- ---- the order turned round

-- each process comes or has come
abbrev pub AllCome : Net → List ℕ → List ℕ → Type 0
AllCome net come order = (q : ℕ) → q < length net.processes → (is_in come q ≡ true) ⊎ (is_in order q ≡ true)

pub come_step : (net : Net) (come : List ℕ) (x : ℕ) (xs : List ℕ) → AllCome net come (x ∷ xs)
    → AllCome net (come ++ x ∷ []) xs
come_step net come x xs all q low =
    elim (all q low) [
      | inl h ↦ inl (come_kept come x q h)
      | inr h ↦ elim (or_cases (x == q) (is_in xs q) h) [
        | inl e ↦ inl (subst (λ (y : ℕ). is_in (come ++ x ∷ []) y ≡ true) (eqb-true x q e) (come_last come x))
        | inr e ↦ inr e
      ]
    ]

pub descending : (net : Net) (rank : ℕ → ℕ) (come order behind : List ℕ) (i : ℕ) → ComesNext net come order
    → AllBelow rank i come → RankedFrom rank i order → AllCome net come order
    → ((done : List ℕ) → ((z : ℕ) → is_in order z ≡ true → Contains done z) → Descends net rank done behind)
    → Descends net rank [] (reverse_aux order behind)
descending net rank come [] behind i c b r all h = h [] (λ z e. cc)
descending net rank come (x ∷ xs) behind i c b r all h =
    let first : rank x ≡ i = r.0 in
    let low : x < length net.processes = (next_is_ready net come x c.0).within in
    let higher : (q : ℕ) → q < length net.processes → rank x < rank q → is_in xs q ≡ true = λ q w m.
    (elim (all q w) [
      | inl e ↦ (let v : rank q < i = b q e in absurd (omega arith))
      | inr e ↦ elim (or_cases (x == q) (is_in xs q) e) [
        | inl f ↦ (let v : rank x ≡ rank q = ap rank (eqb-true x q f) in absurd (omega arith))
        | inr f ↦ f
      ]
    ]) in
    descending net rank (come ++ x ∷ []) xs (x ∷ behind) (suc i) c.1 (below_more rank i come x b r.0) r.1
    (come_step net come x xs all)
    (λ done among. (
      low,
      λ q w m. among q (higher q w m),
      h (x ∷ done) (λ z e. elim (or_cases (x == z) (is_in xs z) e) [
        | inl f ↦ (0, omega (arith), eqb-true x z f)
        | inr f ↦ Contains-append_right (x ∷ []) done z (among z f)
      ]),
    ))

-- ---- those that are stuck

pub none_stuck : (net : Net) (among : ℕ → Bool) (come order : List ℕ) → ComesNext net come order → IsFedWithin net among
    → ((p : ℕ) → is_in come p ≡ true → among p ≡ false) → (q : ℕ) → is_in order q ≡ true → among q ≡ false
none_stuck net among come [] c fed free q h = cc
none_stuck net among come (x ∷ xs) c fed free q h =
    let here : among x ≡ false =
    (elim (cases_Bool (among x)) [
      | inl e ↦ (let w = fed.feeder x e in absurd (both_ways (among w.0)
          (free w.0 ((next_is_ready net come x c.0).fed w.0 w.2)) w.1))
      | inr e ↦ e
    ]) in
    elim (or_cases (x == q) (is_in xs q) h) [
      | inl e ↦ subst (λ (y : ℕ). among y ≡ false) (eqb-true x q e) here
      | inr e ↦ none_stuck net among (come ++ x ∷ []) xs c.1 fed
          (λ p m. elim (come_more come x p m) [ inl l ↦ free p l | inr l ↦ subst (λ (y : ℕ). among y ≡ false) l here ])
          q e
    ]

pub left_stuck : (net : Net) (order : List ℕ) → IsRankOrder net order → (q : ℕ) → q < length net.processes
    → is_in order q ≡ false → IsStuck net q
left_stuck net order c q low out =
    record {
      among = λ p. nat_lt p (length net.processes) && not (is_in order p);
      is_among = and_from (nat_lt q (length net.processes)) (not (is_in order q)) (lt-ltb q (length net.processes) low)
          (not_from_false (is_in order q) out);
      within = record {
        feeder = λ x h.
            let both = and_parts (nat_lt x (length net.processes)) (not (is_in order x)) h in
            let new : is_in order x ≡ false = not-true (is_in order x) both.1 in
            let not_ready : is_ready net order x ≡ false =
            none_in (is_ready net order) 0 (length net.processes) (none_is_ready net [] order c) x (omega arith)
            (let w : x < length net.processes = ltb-true x (length net.processes) both.0 in omega arith) in
            (elim (and_cases (not (is_in order x)) (list_all (λ p. not (feeds net p x) || is_in order p)
            (places_of net)) not_ready) [
              | inl e ↦ absurd (both_ways (not (is_in order x)) e both.1)
              | inr e ↦
                  (let w = some_not (λ p. not (feeds net p x) || is_in order p) 0 (length net.processes) e in
                  let free = or_parts (not (feeds net w.0 x)) (is_in order w.0) w.3 in
                  let fed : feeds net w.0 x ≡ true = not-false (feeds net w.0 x) free.0 in (
                    w.0,
                    and_from (nat_lt w.0 (length net.processes)) (not (is_in order w.0))
                        (lt-ltb w.0 (length net.processes) (feeder_within net w.0 x fed))
                        (not_from_false (is_in order w.0) free.1),
                    fed,
                  ))
            ]);
      };
    }
