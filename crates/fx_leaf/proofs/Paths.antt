-- The verdict on a path is the fate of each packet of the region, and its counter is the occurrence that counts it.
use Rattle.std.proofs.Common.{◌≡◌, ◌⊎◌, inl, inr, ℕ, zero, suc, ◌+◌, true, false, cond, List, [], ◌∷◌, ◌++◌, map, All, Option, Some, None, refl, sym, ap, ap₂, ◌∙◌, subst, arith, slice_get, if◌then◌else◌, le_of_suc-le-suc}
use Rattle.fx_elements.specs.Axes.{Fields}
use Rattle.fx_boxes.specs.Boxes.{Bounds, IsRegion, holds}
use Rattle.fx_layout.specs.Keys.{Fits}
use Rattle.fx_tables.specs.declared.observation.Occurrence.{Occurrence}
use Rattle.fx_tables.specs.declared.observation.Selection.{Selection}
use Rattle.fx_tables.specs.declared.traffic.Crossing.{Crossing}
use Rattle.fx_tables.specs.Network.{Net, Point, points_of, layout_of}
use Rattle.fx_base.specs.Entries.{entry_numbered}
use Rattle.fx_tables.specs.Occurrences.{selects, occurrence, met_by, watches, met_at, occurrences}
use Rattle.fx_leaf.specs.declared.regions.Overlap.{Overlap}
use Rattle.fx_leaf.specs.declared.regions.Overlap.TheVariants.{Whole, Part, Nothing}
use Rattle.fx_leaf.specs.declared.verdict.Fate.{Fate}
use Rattle.fx_leaf.specs.declared.verdict.Fate.TheVariants.{Never, Once}
use Rattle.fx_leaf.specs.Fates.{both, all_happen, fate, packet_fate}
use Rattle.fx_leaf.specs.SoundLeaves.{Met, met_along, met_fate, OneCounted}
use Rattle.fx_leaf.specs.Overlaps.{selection_overlap}
use Rattle.fx_leaf.specs.Verdicts.{Verdict, verdict_of_both, verdict_of_all, overlap_verdict, holder_verdict, verdict, SelectionVerdict, selection_verdicts, point_verdicts, crossing_verdicts, path_verdicts, path_verdict, is_once, last_counter, counter}
use Rattle.fx_leaf.proofs.CountedOnce.{same_some, never_both, both_never, both_once, none_counted}
use Rattle.fx_leaf.proofs.FateLaws.{Every}
use Rattle.fx_leaf.proofs.OverlapsAreRight.{selection_overlap_is}
use Rattle.fx_leaf.proofs.Verdicts.{Parts, both_parts, verdict_says, holder_said}
use Rattle.fx_leaf.proofs.Trees.{fates_along, map_append'}

abbrev pub Sure : Verdict → Type 0
Sure v = (f : Fate) × (v ≡ Some f)

sure_both : (v w : Verdict) → Sure v → Sure w → Sure (verdict_of_both v w)
sure_both v w a b = (both a.0 b.0, ap₂ verdict_of_both a.1 b.1)

pub sure_parts : (v w : Verdict) → Sure (verdict_of_both v w) → Sure v × Sure w
sure_parts v w s = let p = both_parts v w s.0 s.1 in ((p.one, p.one_is), (p.other, p.other_is))

abbrev joint_verdict : List SelectionVerdict → Verdict
joint_verdict ss = verdict_of_all (map (λ s. s.verdict) ss)

pub sure_append : (xs ys : List SelectionVerdict) → Sure (joint_verdict (xs ++ ys)) → Sure (joint_verdict xs)
    × Sure (joint_verdict ys)
sure_append [] ys s = ((Never, refl), s)
sure_append (x ∷ xs) ys s =
    let two = sure_parts x.verdict (joint_verdict (xs ++ ys)) s in
    let rest = sure_append xs ys two.1 in
    (sure_both x.verdict (joint_verdict xs) two.0 rest.0, rest.1)

module _ (fate_of : Met → Fate) where
  pub record Names (m : Met) (s : SelectionVerdict) : Type 0 where
    pub crossing_is : m.crossing ≡ s.crossing
    pub point_is : m.occurrence.point ≡ s.point
    pub process_is : m.occurrence.process ≡ s.process

  -- each of these occurrences has a verdict that is its fate, and what has another is never counted
  abbrev pub Follow : List Met → List SelectionVerdict → Type 0
  Follow ms [] = ms ≡ []
  Follow ms (s ∷ ss) =
      ((s.verdict ≡ Some Never) × Follow ms ss)
      ⊎ ((m : Met) × (rest : List Met) × (ms ≡ m ∷ rest) × (s.verdict ≡ Some (fate_of m)) × Names m s
      × Follow rest ss)

  pub follow_append : (ms ns : List Met) (ss ts : List SelectionVerdict) → Follow ms ss → Follow ns ts
      → Follow (ms ++ ns) (ss ++ ts)
  follow_append ms ns [] ts h k = subst (λ xs. Follow (xs ++ ns) ts) (sym h) k
  follow_append ms ns (s ∷ ss) ts (inl h) k = inl (h.0, follow_append ms ns ss ts h.1 k)
  follow_append ms ns (s ∷ ss) ts (inr h) k =
      inr (h.0, h.1 ++ ns, ap (λ xs. xs ++ ns) h.2, h.3, h.4, follow_append h.1 ns ss ts h.5 k)

  pub follow_said : (ms : List Met) (ss : List SelectionVerdict) (f : Fate) → Follow ms ss → joint_verdict ss ≡ Some f
      → all_happen (map fate_of ms) ≡ f
  follow_said ms [] f h e = ap (λ xs. all_happen (map fate_of xs)) h ∙ same_some e
  follow_said ms (s ∷ ss) f (inl h) e =
      let p = both_parts s.verdict (joint_verdict ss) f e in
      let one : p.one ≡ Never = same_some (sym p.one_is ∙ h.0) in
      follow_said ms ss p.other h.1 p.other_is ∙ sym (never_both p.other) ∙ ap (λ x. both x p.other) (sym one)
      ∙ p.joined
  follow_said ms (s ∷ ss) f (inr h) e =
      let p = both_parts s.verdict (joint_verdict ss) f e in
      let one : fate_of h.0 ≡ p.one = same_some (sym h.3 ∙ p.one_is) in
      ap (λ xs. all_happen (map fate_of xs)) h.2 ∙ ap₂ both one (follow_said h.1 ss p.other h.5 p.other_is) ∙ p.joined

  -- ---- which one is counted

  pub record OneOf (ms : List Met) (s : SelectionVerdict) : Type 0 where
    pub before : List Met
    pub named : Met
    pub after : List Met
    pub all : ms ≡ before ++ named ∷ after
    pub names : Names named s
    pub once : fate_of named ≡ Once
    pub never_before : Every (λ m. fate_of m ≡ Never) before
    pub never_after : Every (λ m. fate_of m ≡ Never) after

  never_followed : (ms : List Met) (ss : List SelectionVerdict) → Follow ms ss → joint_verdict ss ≡ Some Never
      → Every (λ m. fate_of m ≡ Never) ms
  never_followed ms [] h e = subst (Every (λ m. fate_of m ≡ Never)) (sym h) tt
  never_followed ms (s ∷ ss) (inl h) e =
      let p = both_parts s.verdict (joint_verdict ss) Never e in
      never_followed ms ss h.1 (p.other_is ∙ ap Some (both_never p.one p.other p.joined).1)
  never_followed ms (s ∷ ss) (inr h) e =
      let p = both_parts s.verdict (joint_verdict ss) Never e in
      let two = both_never p.one p.other p.joined in
      subst (Every (λ m. fate_of m ≡ Never)) (sym h.2)
      (same_some (sym h.3 ∙ p.one_is) ∙ two.0, never_followed h.1 ss h.5 (p.other_is ∙ ap Some two.1))

  -- the one that is counted
  pub one_counted : (found : Option SelectionVerdict) (ms : List Met) (ss : List SelectionVerdict) → Follow ms ss
      → joint_verdict ss ≡ Some Once → (s : SelectionVerdict) × (last_counter found ss ≡ Some s) × OneOf ms s
  one_counted found ms [] h e = absurd (cc)
  one_counted found ms (s ∷ ss) h e =
      let p = both_parts s.verdict (joint_verdict ss) Once e in
      by_head h p (both_once p.one p.other p.joined) (λ xs. λ k. λ j. one_counted found xs ss k j)
    where
      next : (v : Verdict) → s.verdict ≡ v → last_counter found (s ∷ ss)
          ≡ last_counter (if is_once v then Some s else found) ss
      next v is = ap (λ w. last_counter (if is_once w then Some s else found) ss) is

      in_front : (m : Met) (rest : List Met) (t : SelectionVerdict) → fate_of m ≡ Never → ms ≡ m ∷ rest → OneOf rest t
          → OneOf ms t
      in_front m rest t never is one = record {
        before = m ∷ one.before;
        named = one.named;
        after = one.after;
        all = is ∙ ap (λ xs. m ∷ xs) one.all;
        names = one.names;
        once = one.once;
        never_before = (never, one.never_before);
        never_after = one.never_after;
      }

      by_head : Follow ms (s ∷ ss) → (p : Parts both s.verdict (joint_verdict ss) Once)
          → ((p.one ≡ Once) × (p.other ≡ Never)) ⊎ ((p.one ≡ Never) × (p.other ≡ Once))
          → ((xs : List Met) → Follow xs ss → joint_verdict ss ≡ Some Once → (t : SelectionVerdict)
          × (last_counter found ss ≡ Some t) × OneOf xs t) → (t : SelectionVerdict)
          × (last_counter found (s ∷ ss) ≡ Some t) × OneOf ms t
      by_head (inl h) p (inl two) rest =
          let clash : Some Once ≡ Some Never = ap Some (sym two.0) ∙ sym p.one_is ∙ h.0 in absurd (cc)
      by_head (inl h) p (inr two) rest =
          let found' = rest ms h.1 (p.other_is ∙ ap Some two.1) in
          (found'.0, next (Some Never) h.0 ∙ found'.1, found'.2)
      by_head (inr h) p (inl two) rest =
          let others : joint_verdict ss ≡ Some Never = p.other_is ∙ ap Some two.1 in (
            s,
            next (Some Once) (p.one_is ∙ ap Some two.0) ∙ none_counted (Some s) ss others,
            record {
              before = [];
              named = h.0;
              after = h.1;
              all = h.2;
              names = h.4;
              once = same_some (sym h.3 ∙ p.one_is) ∙ two.0;
              never_before = tt;
              never_after = never_followed h.1 ss h.5 others;
            },
          )
      by_head (inr h) p (inr two) rest =
          let found' = rest h.1 h.5 (p.other_is ∙ ap Some two.1) in
          let never : fate_of h.0 ≡ Never = same_some (sym h.3 ∙ p.one_is) ∙ two.0 in (
            found'.0,
            next (Some Never) (p.one_is ∙ ap Some two.0)
                ∙ found'.1,
            in_front h.0 h.1 found'.0 never h.2 found'.2,
          )

-- ---- verdicts follow the occurrences

module _ (net : Net) (fits : (holder : ℕ) → Fits (layout_of (slice_get net.holders holder))) (region : Bounds)
    (is_region : IsRegion region) (fields : Fields) (here : holds region fields ≡ true) where
  abbrev at_crossing : ℕ → Occurrence → Met
  at_crossing c o = record { crossing = c; occurrence = o }

  abbrev F : List Met → List SelectionVerdict → Type 0
  F = Follow (met_fate net fields)

  if_followed : (c n p holder : ℕ) (selected : Option Bounds) (o : Overlap) → selection_overlap region selected ≡ o
      → Sure (verdict_of_both (overlap_verdict o (holder_verdict (verdict net region) net holder)) (Some Never))
      → F (map (at_crossing c) (if selects selected fields then occurrence n p (Some holder) else []))
      (record {
        crossing = c;
        point = n;
        process = p;
        verdict =
            overlap_verdict o (holder_verdict (verdict net region) net holder);
      } ∷ [])
  if_followed c n p holder selected Part e sure = let k = sure.1 in absurd (cc)
  if_followed c n p holder selected Whole e sure =
      let on = (selection_overlap_is region selected is_region).whole e fields here in
      let v = holder_verdict (verdict net region) net holder in
      let own = (sure_parts v (Some Never) sure).0 in
      let said = holder_said net fits region is_region fields here (verdict net region) (fate net)
      (verdict_says net fits region is_region fields here) holder own.0 own.1 in
      let met : Met = at_crossing c (record { point = n; process = p; holder = holder }) in
      inr (
        met,
        [],
        ap (λ t. map (at_crossing c) (cond t (occurrence n p (Some holder)) [])) on,
        own.1
            ∙ ap Some (sym said),
        record { crossing_is = refl; point_is = refl; process_is = refl },
        refl,
      )
  if_followed c n p holder selected Nothing e sure =
      let off = (selection_overlap_is region selected is_region).nothing e fields here in
      inl (refl, ap (λ t. map (at_crossing c) (cond t (occurrence n p (Some holder)) [])) off)

  selection_followed : (c n p : ℕ) (selected : Option Bounds) (holder : Option ℕ)
      → Sure (verdict_of_all (map (λ s. s.verdict)
      (selection_verdicts (verdict net region) net region c n p selected holder)))
      → F (map (at_crossing c) (if selects selected fields then occurrence n p holder else []))
      (selection_verdicts (verdict net region) net region c n p selected holder)
  selection_followed c n p selected None sure =
      elim (selects selected fields) as (λ t. map (at_crossing c) (cond t [] []) ≡ []) [ true ↦ refl | false ↦ refl ]
  selection_followed c n p selected (Some holder) sure =
      if_followed c n p holder selected (selection_overlap region selected) refl sure

  by_followed : (c n p : ℕ) (ss : List Selection)
      → Sure (verdict_of_all (map (λ s. s.verdict) (point_verdicts (verdict net region) net region c n p ss)))
      → F (map (at_crossing c) (met_by n p ss fields)) (point_verdicts (verdict net region) net region c n p ss)
  by_followed c n p [] sure = refl
  by_followed c n p (s ∷ ss) sure =
      let seen = selection_verdicts (verdict net region) net region c n p s.region s.holder in
      let more = point_verdicts (verdict net region) net region c n (p + 1) ss in
      let met = if selects s.region fields then occurrence n p s.holder else [] in
      let two = sure_append seen more sure in
      subst (λ ms. F ms (seen ++ more)) (sym (map_append' (at_crossing c) met (met_by n (p + 1) ss fields)))
      (follow_append (met_fate net fields) (map (at_crossing c) met)
      (map (at_crossing c) (met_by n (p + 1) ss fields)) seen more
      (selection_followed c n p s.region s.holder two.0) (by_followed c n (p + 1) ss two.1))

  at_followed : (c n : ℕ) (points : List Point) (crossing : Crossing)
      → Sure (verdict_of_all (map (λ s. s.verdict)
      (crossing_verdicts (verdict net region) net region c n points crossing)))
      → F (map (at_crossing c) (met_at n points crossing fields))
      (crossing_verdicts (verdict net region) net region c n points crossing)
  at_followed c n [] crossing sure = refl
  at_followed c n (point ∷ points) crossing sure =
      let seen = if watches point crossing then point_verdicts (verdict net region) net region c n 1 point.selections
      else [] in
      let more = crossing_verdicts (verdict net region) net region c (n + 1) points crossing in
      let met = if watches point crossing then met_by n 1 point.selections fields else [] in
      let two = sure_append seen more sure in
      let first : F (map (at_crossing c) met) seen =
      elim (watches point crossing) as (λ t. Sure
      (verdict_of_all (map (λ s. s.verdict) (cond t
      (point_verdicts (verdict net region) net region c n 1 point.selections) [])))
      → F (map (at_crossing c) (cond t (met_by n 1 point.selections fields) []))
      (cond t (point_verdicts (verdict net region) net region c n 1 point.selections) [])) [
        | true ↦ λ k. by_followed c n 1 point.selections k
        | false ↦ λ k. refl
      ] two.0 in
      subst (λ ms. F ms (seen ++ more)) (sym (map_append' (at_crossing c) met (met_at (n + 1) points crossing fields)))
      (follow_append (met_fate net fields) (map (at_crossing c) met)
      (map (at_crossing c) (met_at (n + 1) points crossing fields)) seen more first
      (at_followed c (n + 1) points crossing two.1))

  pub along_followed : (c : ℕ) (path : List Crossing)
      → Sure (verdict_of_all (map (λ s. s.verdict) (path_verdicts (verdict net region) net region c path)))
      → F (met_along net fields c path) (path_verdicts (verdict net region) net region c path)
  along_followed c [] sure = refl
  along_followed c (crossing ∷ path) sure =
      let seen = crossing_verdicts (verdict net region) net region c 1
      (points_of (entry_numbered net.devices crossing.device)) crossing in
      let more = path_verdicts (verdict net region) net region (c + 1) path in
      let two = sure_append seen more sure in
      follow_append (met_fate net fields) (map (at_crossing c) (occurrences net crossing fields))
      (met_along net fields (c + 1) path) seen more
      (at_followed c 1 (points_of (entry_numbered net.devices crossing.device)) crossing two.0)
      (along_followed (c + 1) path two.1)

  -- the verdict is the fate of the packet
  pub packet_said : (path : List Crossing) (f : Fate) → path_verdict net region path ≡ Some f
      → packet_fate net fields path ≡ f
  packet_said path f e =
      sym (ap all_happen (fates_along net fields 1 path))
      ∙ follow_said (met_fate net fields) (met_along net fields 1 path)
      (path_verdicts (verdict net region) net region 1 path) f (along_followed 1 path (f, e)) e

  every_all : {A : Type 0} (P : A → Type 0) (xs : List A) → Every P xs → All P xs
  every_all P [] h k d lt = absurd (omega arith)
  every_all P (x ∷ xs) h zero d lt = h.0
  every_all P (x ∷ xs) h (suc k) d lt = every_all P xs h.1 k d (le_of_suc-le-suc lt)

  -- and where it is once, the counter counts the packet
  pub packet_counted : (path : List Crossing) → path_verdict net region path ≡ Some Once → (s : SelectionVerdict)
      × (counter net region path ≡ Some s) × OneCounted net path s.crossing s.point s.process fields
  packet_counted path e =
      let one = one_counted (met_fate net fields) None (met_along net fields 1 path)
      (path_verdicts (verdict net region) net region 1 path) (along_followed 1 path (Once, e)) e in
      let of = one.2 in (
        one.0,
        one.1,
        record {
          before = of.before;
          named = of.named;
          after = of.after;
          all = of.all;
          crossing_is = of.names.crossing_is;
          point_is = of.names.point_is;
          process_is = of.names.process_is;
          once = of.once;
          never_before = every_all (λ m. met_fate net fields m ≡ Never) of.before of.never_before;
          never_after = every_all (λ m. met_fate net fields m ≡ Never) of.after of.never_after;
        },
      )
