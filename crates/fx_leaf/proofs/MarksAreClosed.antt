-- What is marked is marked wherever its records lead.
use Rattle.std.proofs.Common.{◌≡◌, ◌≢◌, inl, inr, ℕ, zero, suc, ◌+◌, ◌<◌, ◌≤◌, ◌^◌, max, Bool, true, false, cond, ◌==◌, List, [], ◌∷◌, ◌++◌, map, length, drop, get_or, All, Option, Some, None, refl, sym, ap, ◌∙◌, subst, arith, slice_get, slice_index, eqb-true, le_of_suc-le-suc, length-set, if◌then◌else◌, get_or-set_other, get_or-set_same}
use Rattle.std.proofs.lemmas.Bool.{cases_lt, eqb-false}
use Rattle.std.proofs.lemmas.Nat.Bits.{bit_at-lt, bit_at-zero, bit_at_or, bit_at-pow_same}
use Rattle.std.proofs.lemmas.Option.{slice_get_past}
use Rattle.std.specs.Int.{bit_at}
use Rattle.std.specs.Prelude.{Contains, bit_or}
use Rattle.fx_tables.specs.declared.observation.Selection.{Selection}
use Rattle.fx_tables.specs.declared.traffic.Crossing.{Crossing}
use Rattle.fx_tables.specs.Network.{Net, Point, Exporter, AggregationEntry, Process, before, points_of, at_places, exporters_of}
use Rattle.fx_base.specs.Entries.{entry_numbered}
use Rattle.fx_tables.specs.Occurrences.{watches}
use Rattle.fx_tables.specs.Orders.{Descends}
use Rattle.fx_tables.specs.Ranks.{RisesTo, Rises, AllRise, ProcessRises, IsRanked}
use Rattle.fx_leaf.specs.Reach.{IsMarked, KeepsMarks, HoldsWhereSent, HoldsBehindHolder, HoldsBehind, HoldsAlongPath, IsClosed, marks_at, marks_behind, marks_to, marks_by, marks_by_holder, marks_by_holders, marks_on, marks_from, spread, holders_by, holders_at, holders_along}
use Rattle.fx_leaf.specs.Tables.{Numbering, Tables, AreTables, number_of_layout}
use Rattle.fx_leaf.proofs.FateLaws.{Every}
use Rattle.fx_leaf.proofs.JoinedVerdicts.{drop_here}
use Rattle.fx_leaf.proofs.Ranks.{every_of_all}
use Rattle.fx_leaf.proofs.VerdictsWhereUncut.{every_at, in_front, behind, further, mapped}

-- ---- bits

bit_kept : (a b i : ℕ) → bit_at a i ≡ 1 → bit_at (bit_or a b) i ≡ 1
bit_kept a b i h =
    let lt = bit_at-lt b i in
    let both = bit_at_or a b i in
    most (bit_at (bit_or a b) i) (bit_at a i) (bit_at b i) both h lt
  where
    most : (x y z : ℕ) → x ≡ max y z → y ≡ 1 → z < 2 → x ≡ 1
    most x y z e h lt = omega arith

bit_set : (a b i : ℕ) → bit_at b i ≡ 1 → bit_at (bit_or a b) i ≡ 1
bit_set a b i h =
    let lt = bit_at-lt a i in
    let both = bit_at_or a b i in
    most (bit_at (bit_or a b) i) (bit_at a i) (bit_at b i) both lt h
  where
    most : (x y z : ℕ) → x ≡ max y z → y < 2 → z ≡ 1 → x ≡ 1
    most x y z e lt h = omega arith

no_bit : (i : ℕ) → bit_at 0 i ≡ 1 → ⊥
no_bit i h = let zero' = bit_at-zero i in omega (arith, h, zero')

-- ---- one more

module _ (layouts : ℕ) (marks : List ℕ) where
  length_at : (o : Option ℕ) → length (marks_at layouts marks o) ≡ length marks
  length_at None = refl
  length_at (Some q) = length-set marks q (bit_or (slice_index marks q) layouts)

  here_at : (q i : ℕ) → q < length marks → bit_at layouts i ≡ 1 → IsMarked (marks_at layouts marks (Some q)) q i
  here_at q i lt h =
      ap (λ m. bit_at m i) (get_or-set_same marks q (bit_or (slice_index marks q) layouts) 0 lt)
      ∙ bit_set (slice_index marks q) layouts i h

  same_at : (q : ℕ) (o : Option ℕ) → (o ≡ Some q → ⊥) → slice_index (marks_at layouts marks o) q ≡ slice_index marks q
  same_at q None h = refl
  same_at q (Some r) h = get_or-set_other marks r q (bit_or (slice_index marks r) layouts) 0 (λ e. h (ap Some (sym e)))

  past_at : (q i : ℕ) → length marks ≤ q → IsMarked marks q i → ⊥
  past_at q i le h = no_bit i (ap (λ m. bit_at m i) (sym (none marks q le)) ∙ h)
    where
      none : (ms : List ℕ) (k : ℕ) → length ms ≤ k → slice_index ms k ≡ 0
      none [] k le = refl
      none (m ∷ ms) zero le = absurd (omega arith)
      none (m ∷ ms) (suc k) le = none ms k (le_of_suc-le-suc le)

  grown_at : (o : Option ℕ) → KeepsMarks marks (marks_at layouts marks o)
  grown_at None q i h = h
  grown_at (Some r) q i h = by (q == r) refl
    where
      by : (t : Bool) → (q == r) ≡ t → IsMarked (marks_at layouts marks (Some r)) q i
      by false e = ap (λ m. bit_at m i) (get_or-set_other marks r q (bit_or (slice_index marks r) layouts) 0
          (eqb-false q r e)) ∙ h
      by true e =
          let same : q ≡ r = eqb-true _ _ e in
          elim (cases_lt r (length marks)) [
            | inl lt ↦ subst (λ x. IsMarked (marks_at layouts marks (Some r)) x i) (sym same)
                (ap (λ m. bit_at m i) (get_or-set_same marks r (bit_or (slice_index marks r) layouts) 0 lt)
                ∙ bit_kept (slice_index marks r) layouts i (subst (λ x. IsMarked marks x i) same h))
            | inr le ↦ absurd (past_at q i (subst (λ x. length marks ≤ x) (sym same) le) h)
          ]

-- ---- at all to which exporting processes send

module _ (net : Net) (layouts : ℕ) where
  length_behind : (marks : List ℕ) (d : Option ℕ) → length (marks_behind net layouts marks d) ≡ length marks
  length_behind marks None = refl
  length_behind marks (Some link) = length_at layouts marks (slice_get net.links link)

  length_to : (ds : List (Option ℕ)) (marks : List ℕ) → length (marks_to net layouts marks ds) ≡ length marks
  length_to [] marks = refl
  length_to (d ∷ ds) marks = length_to ds (marks_behind net layouts marks d) ∙ length_behind marks d

  pub length_by : (es : List Exporter) (marks : List ℕ) → length (marks_by net layouts marks es) ≡ length marks
  length_by [] marks = refl
  length_by (e ∷ es) marks = length_by es (marks_to net layouts marks e.destinations) ∙ length_to e.destinations marks

  grown_behind : (marks : List ℕ) (d : Option ℕ) → KeepsMarks marks (marks_behind net layouts marks d)
  grown_behind marks None q i h = h
  grown_behind marks (Some link) q i h = grown_at layouts marks (slice_get net.links link) q i h

  grown_to : (ds : List (Option ℕ)) (marks : List ℕ) → KeepsMarks marks (marks_to net layouts marks ds)
  grown_to [] marks q i h = h
  grown_to (d ∷ ds) marks q i h = grown_to ds (marks_behind net layouts marks d) q i (grown_behind marks d q i h)

  grown_by : (es : List Exporter) (marks : List ℕ) → KeepsMarks marks (marks_by net layouts marks es)
  grown_by [] marks q i h = h
  grown_by (e ∷ es) marks q i h = grown_by es (marks_to net layouts marks e.destinations) q i
      (grown_to e.destinations marks q i h)

  module _ (q : ℕ) where
    -- where no destination leads to the process its marks stay
    same_behind : (marks : List ℕ) (d : Option ℕ) → ((link : ℕ) → d ≡ Some link → slice_get net.links link ≡ Some q → ⊥)
        → slice_index (marks_behind net layouts marks d) q ≡ slice_index marks q
    same_behind marks None h = refl
    same_behind marks (Some link) h = same_at layouts marks q (slice_get net.links link) (h link refl)

    same_to : (ds : List (Option ℕ)) (marks : List ℕ)
        → ((link : ℕ) → Contains ds (Some link) → slice_get net.links link ≡ Some q → ⊥)
        → slice_index (marks_to net layouts marks ds) q ≡ slice_index marks q
    same_to [] marks h = refl
    same_to (d ∷ ds) marks h =
        same_to ds (marks_behind net layouts marks d) (λ link. λ at. h link (further (Some link) d ds at))
        ∙ same_behind marks d (λ link. λ e. h link (zero, omega arith, e))

    pub same_by : (es : List Exporter) (marks : List ℕ)
        → ((e : Exporter) (link : ℕ) → Contains es e → Contains e.destinations (Some link) → slice_get net.links link
        ≡ Some q → ⊥) → slice_index (marks_by net layouts marks es) q ≡ slice_index marks q
    same_by [] marks h = refl
    same_by (e ∷ es) marks h =
        same_by es (marks_to net layouts marks e.destinations) (λ x. λ link. λ at. h x link (further x e es at))
        ∙ same_to e.destinations marks (λ link. h e link (zero, omega arith, refl))

    module _ (i : ℕ) (bit : bit_at layouts i ≡ 1) (link : ℕ) (leads : slice_get net.links link ≡ Some q) where
      here_to : (ds : List (Option ℕ)) (marks : List ℕ) → q < length marks → Contains ds (Some link)
          → IsMarked (marks_to net layouts marks ds) q i
      here_to [] marks lt at = absurd (let within = at.1 in omega (arith, within))
      here_to (d ∷ ds) marks lt (zero, within, e) =
          let now : IsMarked (marks_at layouts marks (slice_get net.links link)) q i =
          subst (λ o. IsMarked (marks_at layouts marks o) q i) (sym leads) (here_at layouts marks q i lt bit) in
          grown_to ds (marks_behind net layouts marks d) q i
          (subst (λ x. IsMarked (marks_behind net layouts marks x) q i) (sym e) now)
      here_to (d ∷ ds) marks lt (suc k, within, e) =
          here_to ds (marks_behind net layouts marks d) (subst (λ m. q < m) (sym (length_behind marks d)) lt)
          (k, le_of_suc-le-suc within, e)

      here_by : (es : List Exporter) (marks : List ℕ) → q < length marks → (x : Exporter) → Contains es x
          → Contains x.destinations (Some link) → IsMarked (marks_by net layouts marks es) q i
      here_by [] marks lt x at linked = absurd (let within = at.1 in omega (arith, within))
      here_by (y ∷ es) marks lt x (zero, within, e) linked =
          grown_by es (marks_to net layouts marks y.destinations) q i
          (here_to y.destinations marks lt (subst (λ (z : Exporter). Contains z.destinations (Some link)) (sym e)
          linked))
      here_by (y ∷ es) marks lt x (suc k, within, e) linked =
          here_by es (marks_to net layouts marks y.destinations)
          (subst (λ m. q < m) (sym (length_to y.destinations marks)) lt) x (k, le_of_suc-le-suc within, e) linked

  sent_marked : (es : List Exporter) (marks : List ℕ) (i : ℕ) → bit_at layouts i ≡ 1 → length marks
      ≡ length net.processes → HoldsWhereSent net (IsMarked (marks_by net layouts marks es)) i es
  sent_marked es marks i bit size q f =
      here_by q i bit f.link f.leads es marks (subst (λ m. q < m) (sym size) f.there) f.exporter f.among f.linked

-- ---- at all to which holders send

module _ (net : Net) (n : Numbering) where
  pub length_holders : (hs : List ℕ) (marks : List ℕ) → length (marks_by_holders net n marks hs) ≡ length marks
  length_holders [] marks = refl
  length_holders (h ∷ hs) marks =
      length_holders hs (marks_by_holder net n marks h)
      ∙ length_by net (2 ^ number_of_layout n h) (exporters_of net (slice_get net.holders h)) marks

  pub grown_holders : (hs : List ℕ) (marks : List ℕ) → KeepsMarks marks (marks_by_holders net n marks hs)
  grown_holders [] marks q i h = h
  grown_holders (x ∷ hs) marks q i h =
      grown_holders hs (marks_by_holder net n marks x) q i
      (grown_by net (2 ^ number_of_layout n x) (exporters_of net (slice_get net.holders x)) marks q i h)

  pub holders_marked : (hs : List ℕ) (marks : List ℕ) (x : ℕ) → length marks ≡ length net.processes → Contains hs x
      → HoldsBehindHolder net n (IsMarked (marks_by_holders net n marks hs)) x
  holders_marked [] marks x size at = absurd (let within = at.1 in omega (arith, within))
  holders_marked (y ∷ hs) marks x size (zero, within, e) =
      let number = number_of_layout n y in
      let es = exporters_of net (slice_get net.holders y) in
      subst (HoldsBehindHolder net n (IsMarked (marks_by_holders net n marks (y ∷ hs)))) e
      (λ q. λ f. grown_holders hs (marks_by_holder net n marks y) q number
      (sent_marked net (2 ^ number) es marks number (bit_at-pow_same number) size q f))
  holders_marked (y ∷ hs) marks x size (suc k, within, e) =
      holders_marked hs (marks_by_holder net n marks y) x
      (length_by net (2 ^ number_of_layout n y) (exporters_of net (slice_get net.holders y)) marks ∙ size)
      (k, le_of_suc-le-suc within, e)

  -- some holders, and then others
  pub after_both : (xs ys : List ℕ) (marks : List ℕ) → marks_by_holders net n marks (xs ++ ys)
      ≡ marks_by_holders net n (marks_by_holders net n marks xs) ys
  after_both [] ys marks = refl
  after_both (x ∷ xs) ys marks = after_both xs ys (marks_by_holder net n marks x)

  -- ---- on from a collecting process

  on_marked : (layouts : ℕ) (marks : List ℕ) (i : ℕ) → bit_at layouts i ≡ 1 → length marks ≡ length net.processes
      → (o : Option Process) → HoldsBehind net n (IsMarked (marks_on net n layouts marks o)) i o
  on_marked layouts marks i bit size None = tt
  on_marked layouts marks i bit size (Some p) =
      let es = at_places net.exporters p.exporters in
      let sent = marks_by net layouts marks es in
      let hs = map (λ (a : AggregationEntry). a.holder) p.aggregations in (
        λ q. λ f. grown_holders hs sent q i (sent_marked net layouts es marks i bit size q f),
        λ a. λ at. holders_marked hs sent a.holder (length_by net layouts es marks ∙ size)
            (mapped (λ (a : AggregationEntry). a.holder) p.aggregations a at),
      )

  grown_on : (layouts : ℕ) (marks : List ℕ) (o : Option Process) → KeepsMarks marks (marks_on net n layouts marks o)
  grown_on layouts marks None q i h = h
  grown_on layouts marks (Some p) q i h =
      let es = at_places net.exporters p.exporters in
      grown_holders (map (λ (a : AggregationEntry). a.holder) p.aggregations) (marks_by net layouts marks es) q i
      (grown_by net layouts es marks q i h)

  length_on : (layouts : ℕ) (marks : List ℕ) (o : Option Process) → length (marks_on net n layouts marks o)
      ≡ length marks
  length_on layouts marks None = refl
  length_on layouts marks (Some p) =
      let es = at_places net.exporters p.exporters in
      length_holders (map (λ (a : AggregationEntry). a.holder) p.aggregations) (marks_by net layouts marks es)
      ∙ length_by net layouts es marks

  from_marked : (marks : List ℕ) (p i : ℕ) → length marks ≡ length net.processes → IsMarked marks p i
      → HoldsBehind net n (IsMarked (marks_from net n marks p)) i (slice_get net.processes p)
  from_marked marks p i size h = by (slice_index marks p == 0) refl
    where
      by : (t : Bool) → (slice_index marks p == 0) ≡ t
          → HoldsBehind net n (IsMarked (cond t marks
          (marks_on net n (slice_index marks p) marks (slice_get net.processes p)))) i (slice_get net.processes p)
      by true e = let none : slice_index marks p ≡ 0 = eqb-true _ _ e in
          absurd (no_bit i (ap (λ m. bit_at m i) (sym none) ∙ h))
      by false e = on_marked (slice_index marks p) marks i h size (slice_get net.processes p)

  grown_from : (marks : List ℕ) (p : ℕ) → KeepsMarks marks (marks_from net n marks p)
  grown_from marks p q i h =
      elim (slice_index marks p == 0) as (λ t. IsMarked
      (cond t marks (marks_on net n (slice_index marks p) marks (slice_get net.processes p))) q i) [
        | true ↦ h
        | false ↦ grown_on (slice_index marks p) marks (slice_get net.processes p) q i h
      ]

  length_from : (marks : List ℕ) (p : ℕ) → length (marks_from net n marks p) ≡ length marks
  length_from marks p =
      elim (slice_index marks p == 0) as (λ t. length
      (cond t marks (marks_on net n (slice_index marks p) marks (slice_get net.processes p))) ≡ length marks) [
        | true ↦ refl
        | false ↦ length_on (slice_index marks p) marks (slice_get net.processes p)
      ]

  pub length_spread : (order : List ℕ) (marks : List ℕ) → length (spread net n order marks) ≡ length marks
  length_spread [] marks = refl
  length_spread (p ∷ ps) marks = length_from (spread net n ps marks) p ∙ length_spread ps marks

  pub grown_spread : (order : List ℕ) (marks : List ℕ) → KeepsMarks marks (spread net n order marks)
  grown_spread [] marks q i h = h
  grown_spread (p ∷ ps) marks q i h = grown_from (spread net n ps marks) p q i (grown_spread ps marks q i h)

  -- ---- marks of processes of no higher rank stay

  module _ (rank : ℕ → ℕ) (from q : ℕ) (within : rank q ≤ rank from) where
    unfed : (es : List Exporter) → AllRise rank net from es → (e : Exporter) (link : ℕ) → Contains es e
        → Contains e.destinations (Some link) → slice_get net.links link ≡ Some q → ⊥
    unfed es all e link at linked leads =
        let one = every_at (λ e. All (Rises rank net from) e.destinations) es e
        (every_of_all (λ e. All (Rises rank net from) e.destinations) es all) at in
        let to = every_at (Rises rank net from) e.destinations (Some link)
        (every_of_all (Rises rank net from) e.destinations one) linked in
        let up : rank from < rank q = subst (RisesTo rank from) leads to in
        absurd (omega (arith, within, up))

    same_taken : (as' : List AggregationEntry) (marks : List ℕ)
        → Every (λ a. AllRise rank net from (exporters_of net (slice_get net.holders a.holder))) as'
        → slice_index (marks_by_holders net n marks (map (λ a. a.holder) as')) q ≡ slice_index marks q
    same_taken [] marks h = refl
    same_taken (a ∷ as') marks h =
        let es = exporters_of net (slice_get net.holders a.holder) in
        same_taken as' (marks_by_holder net n marks a.holder) h.1
        ∙ same_by net (2 ^ number_of_layout n a.holder) q es marks (unfed es h.0)

    same_on : (layouts : ℕ) (marks : List ℕ) (o : Option Process) → ProcessRises rank net from o
        → slice_index (marks_on net n layouts marks o) q ≡ slice_index marks q
    same_on layouts marks None h = refl
    same_on layouts marks (Some p) h =
        let es = at_places net.exporters p.exporters in
        same_taken p.aggregations (marks_by net layouts marks es)
        (every_of_all (λ a. AllRise rank net from (exporters_of net (slice_get net.holders a.holder)))
        p.aggregations h.1) ∙ same_by net layouts q es marks (unfed es h.0)

    same_from : (marks : List ℕ) → ProcessRises rank net from (slice_get net.processes from)
        → slice_index (marks_from net n marks from) q ≡ slice_index marks q
    same_from marks h =
        elim (slice_index marks from == 0) as (λ t. slice_index
        (cond t marks (marks_on net n (slice_index marks from) marks (slice_get net.processes from))) q
        ≡ slice_index marks q) [
          | true ↦ refl
          | false ↦ same_on (slice_index marks from) marks (slice_get net.processes from) h
        ]

  -- ---- all that is marked

  sent_grown : (old new : List ℕ) (i : ℕ) → KeepsMarks old new → (o : Option Process)
      → HoldsBehind net n (IsMarked old) i o → HoldsBehind net n (IsMarked new) i o
  sent_grown old new i more None h = tt
  sent_grown old new i more (Some p) h =
      (λ q. λ f. more q i (h.0 q f), λ a. λ at. λ q. λ f. more q (number_of_layout n a.holder) (h.1 a at q f))

  module _ (ranked : IsRanked net) (marks : List ℕ) (size : length marks ≡ length net.processes) where
    abbrev Follows : List ℕ → ℕ → Type 0
    Follows now q = (i : ℕ) → IsMarked now q i → HoldsBehind net n (IsMarked now) i (slice_get net.processes q)

    follows_here : (now : List ℕ) (p : ℕ) → length now ≡ length net.processes → Follows (marks_from net n now p) p
    follows_here now p size' i h =
        let same = same_from ranked.rank p p (omega arith) now (ranked.rises p) in
        from_marked now p i size' (ap (λ m. bit_at m i) (sym same) ∙ h)

    follows_still : (now : List ℕ) (p q : ℕ) → ranked.rank q ≤ ranked.rank p → Follows now q
        → Follows (marks_from net n now p) q
    follows_still now p q within follows i h =
        let same = same_from ranked.rank p q within now (ranked.rises p) in
        sent_grown now (marks_from net n now p) i (grown_from now p) (slice_get net.processes q)
        (follows i (ap (λ m. bit_at m i) (sym same) ∙ h))

    not_higher : (done : List ℕ) (p q : ℕ) → q < length net.processes
        → ((r : ℕ) → r < length net.processes → ranked.rank p < ranked.rank r → Contains done r) → (Contains done q → ⊥)
        → ranked.rank q ≤ ranked.rank p
    not_higher done p q lt up new =
        elim (cases_lt (ranked.rank p) (ranked.rank q)) [ inl more ↦ absurd (new (up q lt more)) | inr le ↦ le ]

    all_follow : (order done : List ℕ) → Descends net ranked.rank done order → (q : ℕ) → q < length net.processes
        → Contains order q → (Contains done q → ⊥) → Follows (spread net n order marks) q
    all_follow [] done falls q lt at new = absurd (let within = at.1 in omega (arith, within))
    all_follow (p ∷ ps) done falls q lt at new =
        by (p == q) refl (λ differs. all_follow ps (p ∷ done) falls.2 q lt (later differs at) (newer differs))
      where
        later : p ≢ q → Contains (p ∷ ps) q → Contains ps q
        later differs (zero, within, e) = absurd (differs e)
        later differs (suc k, within, e) = (k, le_of_suc-le-suc within, e)

        newer : p ≢ q → Contains (p ∷ done) q → ⊥
        newer differs (zero, within, e) = differs e
        newer differs (suc k, within, e) = new (k, le_of_suc-le-suc within, e)

        by : (t : Bool) → (p == q) ≡ t → (p ≢ q → Follows (spread net n ps marks) q)
            → Follows (marks_from net n (spread net n ps marks) p) q
        by true e rest =
            let same : p ≡ q = eqb-true _ _ e in
            subst (Follows (marks_from net n (spread net n ps marks) p)) same
            (follows_here (spread net n ps marks) p (length_spread ps marks ∙ size))
        by false e rest =
            follows_still (spread net n ps marks) p q (not_higher done p q lt falls.1 new) (rest (eqb-false p q e))

pub spread_closed : (t : Tables) → AreTables t → (marks : List ℕ) → length marks ≡ length t.net.processes
    → IsClosed t.net t.numbering (spread t.net t.numbering t.order marks)
spread_closed t are marks size q i p h is =
    elim (cases_lt q (length t.net.processes)) [
      | inl lt ↦ subst (HoldsBehind t.net t.numbering (IsMarked (spread t.net t.numbering t.order marks)) i) is
          (all_follow t.net t.numbering are.network.ranked marks size t.order [] are.falls q lt (are.whole q lt)
          (λ none. absurd (let within = none.1 in omega (arith, within))) i h)
      | inr le ↦ absurd (let none = slice_get_past t.net.processes q le in cc)
    ]

-- ---- the holders of records of a path

past : (o : Option ℕ) (xs : List ℕ) (x : ℕ) → Contains xs x → Contains (before o xs) x
past None xs x at = at
past (Some y) xs x at = further x y xs at

module _ (s : Selection) (holder : ℕ) (cached : s.holder ≡ Some holder) where
  in_by : (ss : List Selection) → Contains ss s → Contains (holders_by ss) holder
  in_by [] at = absurd (let within = at.1 in omega (arith, within))
  in_by (x ∷ xs) (zero, within, e) =
      let here : x.holder ≡ Some holder = ap (λ (y : Selection). y.holder) e ∙ cached in
      subst (λ o. Contains (before o (holders_by xs)) holder) (sym here) (zero, omega arith, refl)
  in_by (x ∷ xs) (suc k, within, e) = past x.holder (holders_by xs) holder (in_by xs (k, le_of_suc-le-suc within, e))

  in_at : (c : Crossing) (p : Point) → watches p c ≡ true → Contains p.selections s → (ps : List Point) → Contains ps p
      → Contains (holders_at ps c) holder
  in_at c p watched among [] at = absurd (let within = at.1 in omega (arith, within))
  in_at c p watched among (x ∷ xs) (zero, within, e) =
      in_front (if watches x c then holders_by x.selections else []) (holders_at xs c) holder
      (subst (λ (y : Point). Contains (if watches y c then holders_by y.selections else []) holder) (sym e)
      (subst (λ b. Contains (cond b (holders_by p.selections) []) holder) (sym watched) (in_by p.selections among)))
  in_at c p watched among (x ∷ xs) (suc k, within, e) =
      behind (if watches x c then holders_by x.selections else []) (holders_at xs c) holder
      (in_at c p watched among xs (k, le_of_suc-le-suc within, e))

  in_along : (net : Net) (c : Crossing) (p : Point) → watches p c ≡ true → Contains p.selections s
      → Contains (points_of (entry_numbered net.devices c.device)) p → (cs : List Crossing) → Contains cs c
      → Contains (holders_along net cs) holder
  in_along net c p watched among seen [] at = absurd (let within = at.1 in omega (arith, within))
  in_along net c p watched among seen (x ∷ xs) (zero, within, e) =
      in_front (holders_at (points_of (entry_numbered net.devices x.device)) x) (holders_along net xs) holder
      (subst (λ (y : Crossing). Contains (holders_at (points_of (entry_numbered net.devices y.device)) y) holder)
      (sym e) (in_at c p watched among (points_of (entry_numbered net.devices c.device)) seen))
  in_along net c p watched among seen (x ∷ xs) (suc k, within, e) =
      behind (holders_at (points_of (entry_numbered net.devices x.device)) x) (holders_along net xs) holder
      (in_along net c p watched among seen xs (k, le_of_suc-le-suc within, e))

pub along_marked : (t : Tables) (path : List Crossing) (marks : List ℕ) → length marks ≡ length t.net.processes
    → HoldsAlongPath t.net t.numbering (IsMarked
    (spread t.net t.numbering t.order (marks_by_holders t.net t.numbering marks (holders_along t.net path)))) path
along_marked t path marks size s m holder cached q f =
    let met = in_along s holder cached t.net m.crossing m.point m.watched m.among m.there path m.crosses in
    grown_spread t.net t.numbering t.order (marks_by_holders t.net t.numbering marks (holders_along t.net path)) q
    (number_of_layout t.numbering holder) (holders_marked t.net t.numbering (holders_along t.net path) marks holder
    size met q f)

-- ---- one more at a time

module _ (net : Net) (n : Numbering) where
  pub points_more : (crossing : Crossing) (marks now : List ℕ) (k : ℕ) (ps : List Point) (p : Point) → k < length ps → p
      ≡ get_or ps k p → now ≡ marks_by_holders net n marks (if watches p crossing then holders_by p.selections else [])
      → marks_by_holders net n now (holders_at (drop (k + 1) ps) crossing)
      ≡ marks_by_holders net n marks (holders_at (drop k ps) crossing)
  points_more crossing marks now k ps p lt is e =
      let here : drop k ps ≡ p ∷ drop (k + 1) ps = drop_here ps k p lt
      ∙ ap (λ (x : Point). x ∷ drop (k + 1) ps) (sym is) in
      ap (λ m. marks_by_holders net n m (holders_at (drop (k + 1) ps) crossing)) e
      ∙ sym (after_both net n (if watches p crossing then holders_by p.selections else [])
      (holders_at (drop (k + 1) ps) crossing) marks)
      ∙ ap (λ (xs : List Point). marks_by_holders net n marks (holders_at xs crossing)) (sym here)

  pub crossings_more : (marks now : List ℕ) (k : ℕ) (cs : List Crossing) (c : Crossing) → k < length cs → c
      ≡ get_or cs k c → now ≡ marks_by_holders net n marks
      (holders_at (points_of (entry_numbered net.devices c.device)) c)
      → marks_by_holders net n now (holders_along net (drop (k + 1) cs))
      ≡ marks_by_holders net n marks (holders_along net (drop k cs))
  crossings_more marks now k cs c lt is e =
      let here : drop k cs ≡ c ∷ drop (k + 1) cs = drop_here cs k c lt
      ∙ ap (λ (x : Crossing). x ∷ drop (k + 1) cs) (sym is) in
      ap (λ m. marks_by_holders net n m (holders_along net (drop (k + 1) cs))) e
      ∙ sym (after_both net n (holders_at (points_of (entry_numbered net.devices c.device)) c)
      (holders_along net (drop (k + 1) cs)) marks)
      ∙ ap (λ (xs : List Crossing). marks_by_holders net n marks (holders_along net xs)) (sym here)
