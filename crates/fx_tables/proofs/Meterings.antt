-- Lists of occurrences and of aggregations, one more at a time.
use Rattle.std.proofs.Common.{◌≡◌, ℕ, zero, suc, ◌+◌, ◌<◌, cond, List, [], ◌∷◌, ◌++◌, length, map, take, sym, ap, ◌∙◌, subst, arith, get_or, add-one, le_of_suc-le-suc, append_assoc, append-nil}
use Rattle.std.proofs.lemmas.List.{map_push, take_more}
use Rattle.fx_elements.specs.Axes.{Fields}
use Rattle.fx_layout.specs.Keys.{Key}
use Rattle.fx_tables.specs.declared.holding.Holding.{Holding}
use Rattle.fx_tables.specs.declared.observation.Selection.{Selection}
use Rattle.fx_tables.specs.declared.observation.Occurrence.{Occurrence}
use Rattle.fx_tables.specs.declared.traffic.Crossing.{Crossing}
use Rattle.fx_tables.specs.Network.{Holder, AggregationEntry, Point}
use Rattle.fx_tables.specs.Holdings.{holding_of, met_holdings}
use Rattle.fx_tables.specs.Occurrences.{selects, occurrence, met_by, watches, met_at}
use Rattle.fx_tables.specs.Takers.{intake_of, intakes}

pub met_by_more : (p q k : ℕ) (ss : List Selection) (f : Fields) (d : Selection) → k < length ss
    → met_by p q (take (k + 1) ss) f ≡ met_by p q (take k ss) f
    ++ cond (selects (get_or ss k d).region f) (occurrence p (q + k) (get_or ss k d).holder) []
met_by_more p q k ss f d lt = subst (λ m. met_by p q (take m ss) f ≡ met_by p q (take k ss) f
    ++ cond (selects (get_or ss k d).region f) (occurrence p (q + k) (get_or ss k d).holder) []) (sym (add-one k))
    (go q k ss lt)
  where
    go : (q k : ℕ) (ss : List Selection) → k < length ss → met_by p q (take (suc k) ss) f ≡ met_by p q (take k ss) f
        ++ cond (selects (get_or ss k d).region f) (occurrence p (q + k) (get_or ss k d).holder) []
    go q k [] lt = absurd (omega arith)
    go q zero (s ∷ ss) lt =
        let e : q ≡ q + 0 = omega arith in
        append-nil (cond (selects s.region f) (occurrence p q s.holder) [])
        ∙ ap (λ n. cond (selects s.region f) (occurrence p n s.holder) []) e
    go q (suc k) (s ∷ ss) lt =
        let e : q + 1 + k ≡ q + suc k = omega arith in
        let here = cond (selects s.region f) (occurrence p q s.holder) [] in
        let rest = go (q + 1) k ss (le_of_suc-le-suc lt) in
        ap (λ (os : List Occurrence). here ++ os)
        (rest ∙ ap (λ n. met_by p (q + 1) (take k ss) f
        ++ cond (selects (get_or ss k d).region f) (occurrence p n (get_or ss k d).holder) []) e)
        ∙ sym (append_assoc here (met_by p (q + 1) (take k ss) f)
        (cond (selects (get_or ss k d).region f) (occurrence p (q + suc k) (get_or ss k d).holder) []))

pub met_by_first : (p k : ℕ) (ss : List Selection) (f : Fields) (s : Selection) → k < length ss → s ≡ get_or ss k s
    → met_by p 1 (take (k + 1) ss) f ≡ met_by p 1 (take k ss) f
    ++ cond (selects s.region f) (occurrence p (k + 1) s.holder) []
met_by_first p k ss f s lt at =
    let e : 1 + k ≡ k + 1 = omega arith in
    met_by_more p 1 k ss f s lt ∙ ap (λ (x : Selection). met_by p 1 (take k ss) f
    ++ cond (selects x.region f) (occurrence p (1 + k) x.holder) []) (sym at)
    ∙ ap (λ n. met_by p 1 (take k ss) f ++ cond (selects s.region f) (occurrence p n s.holder) []) e

pub met_at_more : (n k : ℕ) (ps : List Point) (x : Crossing) (f : Fields) (p : Point) → k < length ps → p
    ≡ get_or ps k p → met_at n (take (k + 1) ps) x f ≡ met_at n (take k ps) x f
    ++ cond (watches p x) (met_by (n + k) 1 p.selections f) []
met_at_more n k ps x f p lt at = subst (λ m. met_at n (take m ps) x f ≡ met_at n (take k ps) x f
    ++ cond (watches p x) (met_by (n + k) 1 p.selections f) []) (sym (add-one k)) (go n k ps lt at)
  where
    go : (n k : ℕ) (ps : List Point) → k < length ps → p ≡ get_or ps k p → met_at n (take (suc k) ps) x f
        ≡ met_at n (take k ps) x f ++ cond (watches p x) (met_by (n + k) 1 p.selections f) []
    go n k [] lt at = absurd (omega arith)
    go n zero (q ∷ ps) lt at =
        let e : n ≡ n + 0 = omega arith in
        append-nil (cond (watches q x) (met_by n 1 q.selections f) [])
        ∙ ap (λ (y : Point). cond (watches y x) (met_by n 1 y.selections f) []) (sym at)
        ∙ ap (λ m. cond (watches p x) (met_by m 1 p.selections f) []) e
    go n (suc k) (q ∷ ps) lt at =
        let e : n + 1 + k ≡ n + suc k = omega arith in
        let here = cond (watches q x) (met_by n 1 q.selections f) [] in
        let rest = go (n + 1) k ps (le_of_suc-le-suc lt) at in
        ap (λ (os : List Occurrence). here ++ os)
        (rest ∙ ap (λ m. met_at (n + 1) (take k ps) x f ++ cond (watches p x) (met_by m 1 p.selections f) []) e)
        ∙ sym (append_assoc here (met_at (n + 1) (take k ps) x f)
        (cond (watches p x) (met_by (n + suc k) 1 p.selections f) []))

pub aggregated_more : (hs : List Holder) (key : Key) (k : ℕ) (xs : List AggregationEntry) (a : AggregationEntry) → k
    < length xs → a ≡ get_or xs k a → intakes hs key (take (k + 1) xs) ≡ intakes hs key (take k xs)
    ++ intake_of hs key a
aggregated_more hs key k xs a lt at = subst (λ m. intakes hs key (take m xs) ≡ intakes hs key (take k xs)
    ++ intake_of hs key a) (sym (add-one k)) (go k xs lt at)
  where
    go : (k : ℕ) (xs : List AggregationEntry) → k < length xs → a ≡ get_or xs k a → intakes hs key (take (suc k) xs)
        ≡ intakes hs key (take k xs) ++ intake_of hs key a
    go k [] lt at = absurd (omega arith)
    go zero (b ∷ xs) lt at = append-nil (intake_of hs key b) ∙ ap (intake_of hs key) (sym at)
    go (suc k) (b ∷ xs) lt at =
        ap (λ (ys : List Holding). intake_of hs key b ++ ys) (go k xs (le_of_suc-le-suc lt) at)
        ∙ sym (append_assoc (intake_of hs key b) (intakes hs key (take k xs)) (intake_of hs key a))

pub met_at_first : (k : ℕ) (ps : List Point) (x : Crossing) (f : Fields) (p : Point) → k < length ps → p ≡ get_or ps k p
    → met_at 1 (take (k + 1) ps) x f ≡ met_at 1 (take k ps) x f
    ++ cond (watches p x) (met_by (k + 1) 1 p.selections f) []
met_at_first k ps x f p lt at =
    let e : 1 + k ≡ k + 1 = omega arith in
    met_at_more 1 k ps x f p lt at ∙ ap (λ n. met_at 1 (take k ps) x f
    ++ cond (watches p x) (met_by n 1 p.selections f) []) e

pub holdings_more : (hs : List Holder) (f : Fields) (k : ℕ) (os : List Occurrence) (d : Occurrence)
    (old new : List Holding) (x : Holding) → k < length os → old ≡ met_holdings hs f (take k os) → x
    ≡ holding_of hs f (get_or os k d) → new ≡ old ++ x ∷ [] → new ≡ met_holdings hs f (take (k + 1) os)
holdings_more hs f k os d old new x lt so_far here pushed =
    let all = met_holdings hs f (take k os) in
    pushed
    ∙ ap (λ (xs : List Holding). xs ++ x ∷ []) so_far
    ∙ ap (λ (y : Holding). all ++ y ∷ []) here
    ∙ sym (map_push (holding_of hs f) (take k os) (get_or os k d))
    ∙ ap (map (holding_of hs f)) (sym (take_more os k d lt))
