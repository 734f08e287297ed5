-- There is a verdict exactly where nothing cuts the region.
use Rattle.std.proofs.Common.{◌≡◌, ◌≢◌, ◌⊎◌, inl, inr, ℕ, zero, suc, ◌+◌, ◌<◌, ◌≤◌, Bool, true, false, cond, ◌==◌, List, [], ◌∷◌, ◌++◌, map, filter, length, All, Option, Some, None, refl, sym, ap, ap₂, ◌∙◌, subst, true≢false, arith, slice_get, if◌then◌else◌, le_of_suc-le-suc}
use Rattle.std.specs.Prelude.{Contains}
use Rattle.std.specs.List.{list_all}
use Rattle.fx_elements.specs.Axes.{Fields}
use Rattle.fx_boxes.specs.Boxes.{Bounds, IsRegion, holds}
use Rattle.fx_layout.specs.Keys.{Layout, Key, Fits, key_of, project, refines, reads}
use Rattle.fx_layout.proofs.Projections.{and_true, project_key}
use Rattle.fx_tables.specs.declared.observation.Occurrence.{Occurrence}
use Rattle.fx_tables.specs.declared.observation.Selection.{Selection}
use Rattle.fx_tables.specs.declared.traffic.Crossing.{Crossing}
use Rattle.fx_tables.specs.Network.{Net, Point, Exporter, AggregationEntry, Process, points_of, at_places, exporters_of, layout_of, aggregations_of, takes}
use Rattle.fx_base.specs.Entries.{entry_numbered}
use Rattle.fx_tables.specs.Occurrences.{selects, occurrence, met_by, watches, met_at, occurrences}
use Rattle.fx_machine.specs.Acts.{Act, Tally, Send, Hold}
use Rattle.fx_machine.specs.Steps.{meet, crossing_acts, take_in, acts_of, coming_to}
use Rattle.fx_tables.specs.Ranks.{RisesTo, Rises, AllRise, ProcessRises, IsRanked, IsNetwork}
use Rattle.fx_leaf.specs.declared.regions.Overlap.{Overlap}
use Rattle.fx_leaf.specs.declared.regions.Overlap.TheVariants.{Whole, Part, Nothing}
use Rattle.fx_leaf.specs.declared.verdict.Fate.TheVariants.{Never, Once, Unassigned}
use Rattle.fx_leaf.specs.Fates.{acts_along}
use Rattle.fx_leaf.specs.SoundLeaves.{Uncut, SentTo, LeadsTo, Reached, can_read, matches_packet, SelectionsUncut, MatchesUncut}
use Rattle.fx_leaf.specs.SoundLeaves.Reached.{first, next}
use Rattle.fx_leaf.specs.Overlaps.{region_overlap, selection_overlap, match_fields, IsOverlap}
use Rattle.fx_leaf.specs.Verdicts.{Verdict, VerdictAt, verdict_of_both, verdict_of_all, verdict_of_either, verdict_of_one, overlap_verdict, process_verdict, destination_verdict, send_verdict, sent_verdict, holder_verdict, layout_reads, taken_verdict, tally_verdict, handled_verdict, coming_verdict, verdict_within, verdict, SelectionVerdict, selection_verdicts, point_verdicts, crossing_verdicts, path_verdicts, path_verdict}
use Rattle.fx_leaf.proofs.FateLaws.{Every, every_append}
use Rattle.fx_leaf.proofs.Ranks.{every_of_all, map_same, every_on}
use Rattle.fx_leaf.proofs.OverlapsAreRight.{match_overlap_is, selection_overlap_is}
use Rattle.fx_leaf.proofs.Verdicts.{takes_read, takes_unread}
use Rattle.fx_leaf.proofs.Paths.{Sure, sure_parts, sure_append}

-- ---- elements of lists

pub every_at : {A : Type 0} (P : A → Type 0) (xs : List A) (x : A) → Every P xs → Contains xs x → P x
every_at P [] x h at = absurd (let lt = at.1 in omega (arith, lt))
every_at P (y ∷ ys) x h (zero, lt, e) = subst P e h.0
every_at P (y ∷ ys) x h (suc k, lt, e) = every_at P ys x h.1 (k, le_of_suc-le-suc lt, e)

pub further : {A : Type 0} (x y : A) (xs : List A) → Contains xs x → Contains (y ∷ xs) x
further x y xs at = (suc at.0, let lt = at.1 in omega (arith, lt), at.2)

pub in_front : {A : Type 0} (xs ys : List A) (x : A) → Contains xs x → Contains (xs ++ ys) x
in_front [] ys x at = absurd (let lt = at.1 in omega (arith, lt))
in_front (y ∷ xs) ys x (zero, lt, e) = (zero, omega arith, e)
in_front (y ∷ xs) ys x (suc k, lt, e) = further x y (xs ++ ys) (in_front xs ys x (k, le_of_suc-le-suc lt, e))

pub behind : {A : Type 0} (xs ys : List A) (x : A) → Contains ys x → Contains (xs ++ ys) x
behind [] ys x at = at
behind (y ∷ xs) ys x at = further x y (xs ++ ys) (behind xs ys x at)

pub mapped : {A B : Type 0} (f : A → B) (xs : List A) (x : A) → Contains xs x → Contains (map f xs) (f x)
mapped f [] x at = absurd (let lt = at.1 in omega (arith, lt))
mapped f (y ∷ xs) x (zero, lt, e) = (zero, omega arith, ap f e)
mapped f (y ∷ xs) x (suc k, lt, e) = further (f x) (f y) (map f xs) (mapped f xs x (k, le_of_suc-le-suc lt, e))

pub filtered : {A : Type 0} (test : A → Bool) (xs : List A) (x : A) → Contains xs x → test x ≡ true
    → Contains (filter test xs) x
filtered test [] x at t = absurd (let lt = at.1 in omega (arith, lt))
filtered test (y ∷ xs) x (zero, lt, e) t =
    subst (λ b. Contains (cond b (y ∷ filter test xs) (filter test xs)) x) (sym (ap test e ∙ t)) (zero, omega arith, e)
filtered test (y ∷ xs) x (suc k, lt, e) t =
    let rest = filtered test xs x (k, le_of_suc-le-suc lt, e) t in
    elim (test y) as (λ b. Contains (cond b (y ∷ filter test xs) (filter test xs)) x)
    [ true ↦ further x y (filter test xs) rest | false ↦ rest ]

-- ---- verdicts of lists

pub both_none : (v w : Verdict) → verdict_of_both v w ≡ None → (v ≡ None) ⊎ (w ≡ None)
both_none None w h = inl refl
both_none (Some f) None h = inr refl
both_none (Some f) (Some g) h = absurd (cc)

pub either_none : (v w : Verdict) → verdict_of_either v w ≡ None → (v ≡ None) ⊎ (w ≡ None)
either_none None w h = inl refl
either_none (Some f) None h = inr refl
either_none (Some f) (Some g) h = absurd (cc)

either_sure : (v w : Verdict) → Sure (verdict_of_either v w) → Sure v × Sure w
either_sure None w h = let e = h.1 in absurd (cc)
either_sure (Some f) None h = let e = h.1 in absurd (cc)
either_sure (Some f) (Some g) h = ((f, refl), (g, refl))

not_both : (v : Verdict) → Sure v → v ≡ None → ⊥
not_both v s e = let k : Some s.0 ≡ None = sym s.1 ∙ e in absurd (cc)

module _ {A : Type 0} (v : A → Verdict) where
  each_sure : (xs : List A) → Sure (verdict_of_all (map v xs)) → Every (λ x. Sure (v x)) xs
  each_sure [] s = tt
  each_sure (x ∷ xs) s = let two = sure_parts (v x) (verdict_of_all (map v xs)) s in (two.0, each_sure xs two.1)

  each_chosen : (xs : List A) → Sure (verdict_of_one (map v xs)) → Every (λ x. Sure (v x)) xs
  each_chosen [] s = tt
  each_chosen (x ∷ []) s = (s, tt)
  each_chosen (x ∷ y ∷ xs) s = let two = either_sure (v x) (verdict_of_one (map v (y ∷ xs))) s in
      (two.0, each_chosen (y ∷ xs) two.1)

  a_none : (xs : List A) → verdict_of_all (map v xs) ≡ None → (x : A) × Contains xs x × (v x ≡ None)
  a_none [] h = absurd (cc)
  a_none (x ∷ xs) h =
      elim (both_none (v x) (verdict_of_all (map v xs)) h) [
        | inl e ↦ (x, (zero, omega arith, refl), e)
        | inr e ↦ let found = a_none xs e in (found.0, further found.0 x xs found.1, found.2)
      ]

  a_chosen_none : (xs : List A) → verdict_of_one (map v xs) ≡ None → (x : A) × Contains xs x × (v x ≡ None)
  a_chosen_none [] h = absurd (cc)
  a_chosen_none (x ∷ []) h = (x, (zero, omega arith, refl), h)
  a_chosen_none (x ∷ y ∷ xs) h =
      elim (either_none (v x) (verdict_of_one (map v (y ∷ xs))) h) [
        | inl e ↦ (x, (zero, omega arith, refl), e)
        | inr e ↦ let found = a_chosen_none (y ∷ xs) e in (found.0, further found.0 x (y ∷ xs) found.1, found.2)
      ]

-- ---- along the ranks

module _ (net : Net) (region : Bounds) (rank : ℕ → ℕ) (from : ℕ) (f g : VerdictAt)
    (agree : (process : ℕ) (layout : Layout) → rank from < rank process → f process layout ≡ g process layout) where
  process_same : (layout : Layout) (o : Option ℕ) → RisesTo rank from o → process_verdict f layout o
      ≡ process_verdict g layout o
  process_same layout None h = refl
  process_same layout (Some process) h = agree process layout h

  destination_same : (layout : Layout) (d : Option ℕ) → Rises rank net from d → destination_verdict f net layout d
      ≡ destination_verdict g net layout d
  destination_same layout None h = refl
  destination_same layout (Some link) h = process_same layout (slice_get net.links link) h

  send_same : (layout : Layout) (e : Exporter) → All (Rises rank net from) e.destinations → send_verdict f net layout e
      ≡ send_verdict g net layout e
  send_same layout e h =
      let each = every_on (Rises rank net from)
      (λ d. destination_verdict f net layout d ≡ destination_verdict g net layout d) e.destinations
      (destination_same layout) (every_of_all (Rises rank net from) e.destinations h) in
      ap (λ vs. cond e.parallel (verdict_of_all vs) (verdict_of_one vs))
      (map_same (destination_verdict f net layout) (destination_verdict g net layout) e.destinations each)

  sent_same : (layout : Layout) (es : List Exporter) → AllRise rank net from es → sent_verdict f net layout es
      ≡ sent_verdict g net layout es
  sent_same layout es h =
      ap verdict_of_all (map_same (send_verdict f net layout) (send_verdict g net layout) es
      (every_on (λ e. All (Rises rank net from) e.destinations)
      (λ e. send_verdict f net layout e ≡ send_verdict g net layout e) es (send_same layout)
      (every_of_all (λ e. All (Rises rank net from) e.destinations) es h)))

  taken_same : (layout : Layout) (a : AggregationEntry)
      → AllRise rank net from (exporters_of net (slice_get net.holders a.holder)) → taken_verdict f net region layout a
      ≡ taken_verdict g net region layout a
  taken_same layout a h =
      ap (λ v. cond (layout_reads net layout a) (overlap_verdict (region_overlap region (match_fields a.matches)) v)
      (Some Never)) (sent_same (layout_of (slice_get net.holders a.holder))
      (exporters_of net (slice_get net.holders a.holder)) h)

  handled_same : (layout : Layout) (o : Option Process) → ProcessRises rank net from o
      → handled_verdict f net region layout o ≡ handled_verdict g net region layout o
  handled_same layout None h = refl
  handled_same layout (Some process) h =
      let P : AggregationEntry → Type 0 = λ a. AllRise rank net from (exporters_of net (slice_get net.holders a.holder))
      in
      ap₂ verdict_of_both (sent_same layout (at_places net.exporters process.exporters) h.0)
      (ap verdict_of_all (map_same (taken_verdict f net region layout) (taken_verdict g net region layout)
      process.aggregations (every_on P (λ a. taken_verdict f net region layout a
      ≡ taken_verdict g net region layout a) process.aggregations (taken_same layout)
      (every_of_all P process.aggregations h.1))))

  pub coming_same : (layout : Layout) → ProcessRises rank net from (slice_get net.processes from)
      → coming_verdict f net region from layout ≡ coming_verdict g net region from layout
  coming_same layout h = ap (verdict_of_both (tally_verdict net layout from))
      (handled_same layout (slice_get net.processes from) h)

module _ (net : Net) (region : Bounds) (ranked : IsRanked net) where
  enough : (n process : ℕ) (layout : Layout) → length net.processes ≤ n + ranked.rank process
      → verdict_within net region n process layout ≡ verdict_within net region (suc n) process layout
  enough zero process layout h = let b = ranked.below process in absurd (omega arith)
  enough (suc n) process layout h =
      coming_same net region ranked.rank process (verdict_within net region n) (verdict_within net region (suc n))
      (λ q. λ k. λ lt. enough n q k (omega (arith, lt, h))) layout (ranked.rises process)

  -- a verdict is the one that its own equation gives
  pub verdict_agrees : (process : ℕ) (layout : Layout) → verdict net region process layout
      ≡ coming_verdict (verdict net region) net region process layout
  verdict_agrees process layout = enough (length net.processes) process layout (omega arith)

-- ---- where there is a verdict, what is reached has one, and nothing cuts the region

passed_sure : (o : Overlap) (v : Verdict) → Sure (overlap_verdict o v) → (o ≡ Whole) ⊎ (o ≡ Nothing)
passed_sure Part v s = let e = s.1 in absurd (cc)
passed_sure Whole v s = inl refl
passed_sure Nothing v s = inr refl

overlap_uncut : (region : Bounds) (test : Fields → Bool) (o : Overlap) → (o ≡ Whole) ⊎ (o ≡ Nothing)
    → IsOverlap region test o → Uncut region test
overlap_uncut region test o (inl e) t = inl (t.whole e)
overlap_uncut region test o (inr e) t = inr (t.nothing e)

module _ (net : Net) (is_net : IsNetwork net) (region : Bounds) (is_region : IsRegion region) where
  abbrev at : VerdictAt
  at = verdict net region

  agrees : (process : ℕ) (layout : Layout) → at process layout ≡ coming_verdict at net region process layout
  agrees = verdict_agrees net region is_net.ranked

  process_sure : (layout : Layout) (o : Option ℕ) (q : ℕ) → o ≡ Some q → Sure (process_verdict at layout o)
      → Sure (at q layout)
  process_sure layout None q e s = absurd (cc)
  process_sure layout (Some p) q e s = let k : p ≡ q = cc in subst (λ n. Sure (at n layout)) k s

  send_sure : (layout : Layout) (e : Exporter) → Sure (send_verdict at net layout e)
      → Every (λ d. Sure (destination_verdict at net layout d)) e.destinations
  send_sure layout e s =
      elim e.parallel as (λ t. Sure (cond t (verdict_of_all (map (destination_verdict at net layout) e.destinations))
      (verdict_of_one (map (destination_verdict at net layout) e.destinations)))
      → Every (λ d. Sure (destination_verdict at net layout d)) e.destinations) [
        | true ↦ λ k. each_sure (destination_verdict at net layout) e.destinations k
        | false ↦ λ k. each_chosen (destination_verdict at net layout) e.destinations k
      ] s

  module _ (fields : Fields) (here : holds region fields ≡ true) where
    -- a key that comes to a collecting process is the packet's under some layout, which has a verdict there
    pub record Fine (process : ℕ) (key : Key) : Type 0 where
      pub layout : Layout
      pub fits : Fits layout
      pub key_is : key ≡ key_of layout fields
      pub sure : Sure (at process layout)

    abbrev Leads : Act → Type 0
    Leads a = (process : ℕ) (key : Key) → LeadsTo net a process key → Fine process key

    sent_fine : (layout : Layout) (e : Exporter) → Fits layout → Sure (send_verdict at net layout e)
        → (process : ℕ) (key : Key) → SentTo net e (key_of layout fields) process key → Fine process key
    sent_fine layout e fits s process key to =
        let d = every_at (λ d. Sure (destination_verdict at net layout d)) e.destinations (Some to.0)
        (send_sure layout e s) to.1 in
        record {
          layout = layout;
          fits = fits;
          key_is = to.3;
          sure =
              process_sure layout (slice_get net.links to.0) process to.2 d;
        }

    holder_fine : (holder : ℕ) → Sure (holder_verdict at net holder) → (key : Key) → key
        ≡ key_of (layout_of (slice_get net.holders holder)) fields → Leads (Hold holder key)
    holder_fine holder s key is process sent to =
        let layout = layout_of (slice_get net.holders holder) in
        let es = exporters_of net (slice_get net.holders holder) in
        let one = every_at (λ e. Sure (send_verdict at net layout e)) es to.0
        (each_sure (send_verdict at net layout) es s) to.1 in
        sent_fine layout to.0 (is_net.fits holder) one process sent
        (subst (λ k. SentTo net to.0 k process sent) is to.2)

    -- occurrences
    selection_fine : (c n p : ℕ) (selected : Option Bounds) (holder : Option ℕ)
        → Sure (verdict_of_all (map (λ s. s.verdict) (selection_verdicts at net region c n p selected holder)))
        → Every (λ o. Leads (meet net fields o)) (if selects selected fields then occurrence n p holder else [])
    selection_fine c n p selected None s =
        elim (selects selected fields) as (λ t. Every (λ o. Leads (meet net fields o)) (cond t [] []))
        [ true ↦ tt | false ↦ tt ]
    selection_fine c n p selected (Some holder) s =
        by_overlap (selection_overlap region selected) refl (sure_parts _ (Some Never) s).0 where
          by_overlap : (o : Overlap) → selection_overlap region selected ≡ o
              → Sure (overlap_verdict o (holder_verdict at net holder))
              → Every (λ o. Leads (meet net fields o))
              (if selects selected fields then occurrence n p (Some holder) else [])
          by_overlap Part e k = let z = k.1 in absurd (cc)
          by_overlap Whole e k =
              let on = (selection_overlap_is region selected is_region).whole e fields here in
              subst (λ t. Every (λ o. Leads (meet net fields o)) (cond t (occurrence n p (Some holder)) [])) (sym on)
              (holder_fine holder k (key_of (layout_of (slice_get net.holders holder)) fields) refl, tt)
          by_overlap Nothing e k =
              let off = (selection_overlap_is region selected is_region).nothing e fields here in
              subst (λ t. Every (λ o. Leads (meet net fields o)) (cond t (occurrence n p (Some holder)) [])) (sym off)
              tt

    by_fine : (c n p : ℕ) (ss : List Selection)
        → Sure (verdict_of_all (map (λ s. s.verdict) (point_verdicts at net region c n p ss)))
        → Every (λ o. Leads (meet net fields o)) (met_by n p ss fields)
    by_fine c n p [] s = tt
    by_fine c n p (x ∷ xs) s =
        let two = sure_append (selection_verdicts at net region c n p x.region x.holder)
        (point_verdicts at net region c n (p + 1) xs) s in
        every_append (λ o. Leads (meet net fields o)) (if selects x.region fields then occurrence n p x.holder else [])
        (met_by n (p + 1) xs fields) (selection_fine c n p x.region x.holder two.0) (by_fine c n (p + 1) xs two.1)

    at_fine : (c n : ℕ) (points : List Point) (crossing : Crossing)
        → Sure (verdict_of_all (map (λ s. s.verdict) (crossing_verdicts at net region c n points crossing)))
        → Every (λ o. Leads (meet net fields o)) (met_at n points crossing fields)
    at_fine c n [] crossing s = tt
    at_fine c n (point ∷ points) crossing s =
        let two = sure_append (if watches point crossing then point_verdicts at net region c n 1 point.selections
        else []) (crossing_verdicts at net region c (n + 1) points crossing) s in
        let head = elim (watches point crossing)
        as (λ t. Sure (verdict_of_all (map (λ s. s.verdict)
        (cond t (point_verdicts at net region c n 1 point.selections) [])))
        → Every (λ o. Leads (meet net fields o)) (cond t (met_by n 1 point.selections fields) [])) [
          | true ↦ λ k. by_fine c n 1 point.selections k
          | false ↦ λ k. tt
        ] two.0 in
        every_append (λ o. Leads (meet net fields o))
        (if watches point crossing then met_by n 1 point.selections fields else [])
        (met_at (n + 1) points crossing fields) head (at_fine c (n + 1) points crossing two.1)

    every_mapped : {A B : Type 0} (P : B → Type 0) (g : A → B) (xs : List A) → Every (λ x. P (g x)) xs
        → Every P (map g xs)
    every_mapped P g [] h = tt
    every_mapped P g (x ∷ xs) h = (h.0, every_mapped P g xs h.1)

    along_fine : (c : ℕ) (path : List Crossing)
        → Sure (verdict_of_all (map (λ s. s.verdict) (path_verdicts at net region c path)))
        → Every Leads (acts_along net fields path)
    along_fine c [] s = tt
    along_fine c (crossing ∷ path) s =
        let two = sure_append (crossing_verdicts at net region c 1
        (points_of (entry_numbered net.devices crossing.device)) crossing)
        (path_verdicts at net region (c + 1) path) s in
        every_append Leads (crossing_acts net fields (Some crossing)) (acts_along net fields path)
        (every_mapped Leads (meet net fields) (occurrences net crossing fields)
        (at_fine c 1 (points_of (entry_numbered net.devices crossing.device)) crossing two.0))
        (along_fine (c + 1) path two.1)

    -- aggregations
    taken_fine : (layout : Layout) → Fits layout → (a : AggregationEntry) → Sure (taken_verdict at net region layout a)
        → takes net (key_of layout fields) a ≡ true → Leads (take_in net (key_of layout fields) a)
    taken_fine layout fits a s t =
        elim (layout_reads net layout a) as (λ b. layout_reads net layout a ≡ b
        → Sure (cond b (overlap_verdict (region_overlap region (match_fields a.matches))
        (holder_verdict at net a.holder)) (Some Never)) → Leads (take_in net (key_of layout fields) a)) [
          | true ↦ λ r k. by_overlap (region_overlap region (match_fields a.matches)) refl r k
          | false ↦ λ r k. absurd (true≢false (sym t ∙ takes_unread net layout fields a r))
        ] refl s
      where
        by_overlap : (o : Overlap) → region_overlap region (match_fields a.matches) ≡ o → layout_reads net layout a
            ≡ true → Sure (overlap_verdict o (holder_verdict at net a.holder))
            → Leads (take_in net (key_of layout fields) a)
        by_overlap Part e r k = let z = k.1 in absurd (cc)
        by_overlap Whole e r k =
            let own = layout_of (slice_get net.holders a.holder) in
            let two = and_true (refines layout own) (list_all (λ e. reads layout e.axis e.bits) a.matches) r in
            holder_fine a.holder k (project (key_of layout fields) own) (project_key layout own fields fits two.0)
        by_overlap Nothing e r k =
            absurd (true≢false (sym t ∙ takes_read net layout fields a fits r
            ∙ (match_overlap_is region a.matches is_region).nothing e fields here))

    handled_fine : (layout : Layout) → Fits layout → (o : Option Process)
        → Sure (handled_verdict at net region layout o) → Every Leads (acts_of net (key_of layout fields) o)
    handled_fine layout fits None s = tt
    handled_fine layout fits (Some process) s =
        let key = key_of layout fields in
        let es = at_places net.exporters process.exporters in
        let two = sure_parts (sent_verdict at net layout es)
        (verdict_of_all (map (taken_verdict at net region layout) process.aggregations)) s in
        let sends = every_mapped Leads (λ e. Send e key) es
        (every_on (λ e. Sure (send_verdict at net layout e)) (λ e. Leads (Send e key)) es
        (λ e. λ k. sent_fine layout e fits k) (each_sure (send_verdict at net layout) es two.0)) in
        let takings = every_taken process.aggregations
        (each_sure (taken_verdict at net region layout) process.aggregations two.1) in
        every_append Leads (map (λ e. Send e key) es)
        (map (take_in net key) (filter (takes net key) process.aggregations)) sends takings
      where
        every_taken : (as' : List AggregationEntry) → Every (λ a. Sure (taken_verdict at net region layout a)) as'
            → Every Leads (map (take_in net (key_of layout fields)) (filter (takes net (key_of layout fields)) as'))
        every_taken [] h = tt
        every_taken (a ∷ as') h =
            let rest = every_taken as' h.1 in
            elim (takes net (key_of layout fields) a)
            as (λ b. takes net (key_of layout fields) a ≡ b
            → Every Leads (map (take_in net (key_of layout fields))
            (cond b (a ∷ filter (takes net (key_of layout fields)) as')
            (filter (takes net (key_of layout fields)) as')))) [
              | true ↦ λ t. (taken_fine layout fits a h.0 t, rest)
              | false ↦ λ t. rest
            ] refl

    coming_sure : (process : ℕ) (layout : Layout) → Sure (at process layout)
        → Sure (handled_verdict at net region layout (slice_get net.processes process))
    coming_sure process layout s =
        (sure_parts (tally_verdict net layout process)
        (handled_verdict at net region layout (slice_get net.processes process))
        (s.0, sym (agrees process layout) ∙ s.1)).1

    coming_fine : (process : ℕ) (layout : Layout) → Fits layout → Sure (at process layout)
        → Every Leads (coming_to net (key_of layout fields) process)
    coming_fine process layout fits s =
        let rest = handled_fine layout fits (slice_get net.processes process) (coming_sure process layout s) in
        elim (process == net.report) as (λ b. Every Leads
        (cond b (Tally (key_of layout fields) ∷ []) []
        ++ acts_of net (key_of layout fields) (slice_get net.processes process))) [
          | true ↦ (λ q. λ k. λ to. absurd to, rest)
          | false ↦ rest
        ]

    reached_fine : (path : List Crossing) → Sure (path_verdict net region path) → (process : ℕ) (key : Key)
        → Reached net path fields process key → Fine process key
    reached_fine path s _ _ (first a process key in' to) =
        every_at Leads (acts_along net fields path) a (along_fine 1 path s) in' process key to
    reached_fine path s _ _ (next from earlier a process key before in' to) =
        let was = reached_fine path s from earlier before in
        every_at Leads (coming_to net (key_of was.layout fields) from) a (coming_fine from was.layout was.fits was.sure)
        (subst (λ k. Contains (coming_to net k from) a) was.key_is in') process key to

    aggregation_uncut : (layout : Layout) (o : Option Process) (a : AggregationEntry)
        → Sure (handled_verdict at net region layout o) → Contains (aggregations_of o) a → layout_reads net layout a
        ≡ true → Uncut region (matches_packet a.matches)
    aggregation_uncut layout None a s in' r = absurd (let lt = in'.1 in omega (arith, lt))
    aggregation_uncut layout (Some process) a s in' r =
        let two = sure_parts (sent_verdict at net layout (at_places net.exporters process.exporters))
        (verdict_of_all (map (taken_verdict at net region layout) process.aggregations)) s in
        let one = every_at (λ x. Sure (taken_verdict at net region layout x)) process.aggregations a
        (each_sure (taken_verdict at net region layout) process.aggregations two.1) in' in
        let v = holder_verdict at net a.holder in
        let passed = passed_sure (region_overlap region (match_fields a.matches)) v
        (subst (λ b. Sure (cond b (overlap_verdict (region_overlap region (match_fields a.matches)) v)
        (Some Never))) r one) in
        overlap_uncut region (matches_packet a.matches) (region_overlap region (match_fields a.matches)) passed
        (match_overlap_is region a.matches is_region)

  -- no match cuts the region
  pub matches_uncut : (path : List Crossing) → Sure (path_verdict net region path) → MatchesUncut net path region
  matches_uncut path s fields process key a here reached in' reads' =
      let was = reached_fine fields here path s process key reached in
      aggregation_uncut fields here was.layout (slice_get net.processes process) a
      (coming_sure fields here process was.layout was.sure) in'
      (subst (λ k. can_read net k a ≡ true) was.key_is reads')

  -- no selection process cuts it
  selection_uncut : (c n p : ℕ) (ss : List Selection)
      → Sure (verdict_of_all (map (λ s. s.verdict) (point_verdicts at net region c n p ss)))
      → Every (λ s. s.holder ≢ None → Uncut region (selects s.region)) ss
  selection_uncut c n p [] s = tt
  selection_uncut c n p (x ∷ xs) s =
      let two = sure_append (selection_verdicts at net region c n p x.region x.holder)
      (point_verdicts at net region c n (p + 1) xs) s in
      (one x.region x.holder two.0, selection_uncut c n (p + 1) xs two.1)
    where
      one : (selected : Option Bounds) (holder : Option ℕ)
          → Sure (verdict_of_all (map (λ s. s.verdict) (selection_verdicts at net region c n p selected holder)))
          → holder ≢ None → Uncut region (selects selected)
      one selected None k some = absurd (some refl)
      one selected (Some holder) k some =
          let v = holder_verdict at net holder in
          let passed = passed_sure (selection_overlap region selected) v
          (sure_parts (overlap_verdict (selection_overlap region selected) v) (Some Never) k).0 in
          overlap_uncut region (selects selected) (selection_overlap region selected) passed
          (selection_overlap_is region selected is_region)

  abbrev PointUncut : Crossing → Point → Type 0
  PointUncut c p = watches p c ≡ true → Every (λ s. s.holder ≢ None → Uncut region (selects s.region)) p.selections

  points_uncut : (c n : ℕ) (points : List Point) (crossing : Crossing)
      → Sure (verdict_of_all (map (λ s. s.verdict) (crossing_verdicts at net region c n points crossing)))
      → Every (PointUncut crossing) points
  points_uncut c n [] crossing s = tt
  points_uncut c n (point ∷ points) crossing s =
      let two = sure_append (if watches point crossing then point_verdicts at net region c n 1 point.selections else [])
      (crossing_verdicts at net region c (n + 1) points crossing) s in (
        λ w. selection_uncut c n 1 point.selections
            (subst (λ t. Sure (verdict_of_all (map (λ s. s.verdict)
            (cond t (point_verdicts at net region c n 1 point.selections) [])))) w two.0),
        points_uncut c (n + 1) points
            crossing two.1,
      )

  crossings_uncut : (n : ℕ) (path : List Crossing)
      → Sure (verdict_of_all (map (λ s. s.verdict) (path_verdicts at net region n path)))
      → Every (λ c. Every (PointUncut c) (points_of (entry_numbered net.devices c.device))) path
  crossings_uncut n [] s = tt
  crossings_uncut n (c ∷ path) s =
      let two = sure_append (crossing_verdicts at net region n 1 (points_of (entry_numbered net.devices c.device)) c)
      (path_verdicts at net region (n + 1) path) s in
      (points_uncut n 1 (points_of (entry_numbered net.devices c.device)) c two.0, crossings_uncut (n + 1) path two.1)

  pub selections_uncut : (path : List Crossing) → Sure (path_verdict net region path) → SelectionsUncut net path region
  selections_uncut path s c p x on at_point watched among some =
      let points = every_at (λ c. Every (PointUncut c) (points_of (entry_numbered net.devices c.device))) path c
      (crossings_uncut 1 path s) on in
      let mine = every_at (PointUncut c) (points_of (entry_numbered net.devices c.device)) p points at_point in
      every_at (λ s. s.holder ≢ None → Uncut region (selects s.region)) p.selections x (mine watched) among some

-- ---- where there is none, something cuts the region

module _ (net : Net) (is_net : IsNetwork net) (region : Bounds) (is_region : IsRegion region) (path : List Crossing)
    (fields : Fields) (here : holds region fields ≡ true) (selections : SelectionsUncut net path region)
    (matches : MatchesUncut net path region) where
  -- a link by which a record that is cut later is sent
  record NoneBehind (at : VerdictAt) (layout : Layout) (e : Exporter) : Type 0 where
    process : ℕ
    link : ℕ
    among : Contains e.destinations (Some link)
    leads : slice_get net.links link ≡ Some process
    none : at process layout ≡ None

  none_behind_at : (at : VerdictAt) (layout : Layout) (e : Exporter) (link : ℕ) (o : Option ℕ)
      → Contains e.destinations (Some link) → slice_get net.links link ≡ o → process_verdict at layout o ≡ None
      → NoneBehind at layout e
  none_behind_at at layout e link None among leads h = absurd (cc)
  none_behind_at at layout e link (Some process) among leads h =
      record { process = process; link = link; among = among; leads = leads; none = h }

  none_behind_to : (at : VerdictAt) (layout : Layout) (e : Exporter) (d : Option ℕ) → Contains e.destinations d
      → destination_verdict at net layout d ≡ None → NoneBehind at layout e
  none_behind_to at layout e None among h = absurd (cc)
  none_behind_to at layout e (Some link) among h =
      none_behind_at at layout e link (slice_get net.links link) among refl h

  none_behind_by : (at : VerdictAt) (layout : Layout) (e : Exporter) → send_verdict at net layout e ≡ None
      → NoneBehind at layout e
  none_behind_by at layout e h =
      elim e.parallel as (λ t. cond t (verdict_of_all (map (destination_verdict at net layout) e.destinations))
      (verdict_of_one (map (destination_verdict at net layout) e.destinations)) ≡ None → NoneBehind at layout e) [
        | true ↦ λ k. let found = a_none (destination_verdict at net layout) e.destinations k in
            none_behind_to at layout e found.0 found.1 found.2
        | false ↦ λ k. let found = a_chosen_none (destination_verdict at net layout) e.destinations k in
            none_behind_to at layout e found.0 found.1 found.2
      ] h

  tally_some : (layout : Layout) (process : ℕ) → tally_verdict net layout process ≡ None → ⊥
  tally_some layout process h =
      elim (process == net.report) as (λ t. cond t
      (cond (refines layout net.report_layout) (Some Once) (Some Unassigned)) (Some Never) ≡ None → ⊥) [
        | true ↦ λ k. elim (refines layout net.report_layout) as (λ r. cond r (Some Once) (Some Unassigned) ≡ None → ⊥)
            [ true ↦ λ m. absurd (cc) | false ↦ λ m. absurd (cc) ] k
        | false ↦ λ k. absurd (cc)
      ] h

  -- what is done with a key at a process that it reaches
  abbrev Later : VerdictAt → Type 0
  Later at = (process : ℕ) (layout : Layout) → Fits layout → at process layout ≡ None
      → Reached net path fields process (key_of layout fields) → ⊥

  module _ (at : VerdictAt) (later : Later at) where
    -- a holder of the packet's records, by an act that is done with it
    none_behind_holder : (holder : ℕ) (key : Key) → key ≡ key_of (layout_of (slice_get net.holders holder)) fields
        → ((process : ℕ) (sent : Key) → LeadsTo net (Hold holder key) process sent
        → Reached net path fields process sent) → holder_verdict at net holder ≡ None → ⊥
    none_behind_holder holder key is reaches h =
        let layout = layout_of (slice_get net.holders holder) in
        let es = exporters_of net (slice_get net.holders holder) in
        let found = a_none (send_verdict at net layout) es h in
        let on = none_behind_by at layout found.0 found.2 in
        later on.process layout (is_net.fits holder) on.none
        (reaches on.process (key_of layout fields) (found.0, found.1, (on.link, on.among, on.leads, sym is)))

    taken_lost : (from : ℕ) (layout : Layout) → Fits layout → Reached net path fields from (key_of layout fields)
        → (a : AggregationEntry) → Contains (aggregations_of (slice_get net.processes from)) a
        → (takes net (key_of layout fields) a ≡ true
        → Contains (coming_to net (key_of layout fields) from) (take_in net (key_of layout fields) a))
        → taken_verdict at net region layout a ≡ None → ⊥
    taken_lost from layout fits reached a among done h =
        elim (layout_reads net layout a) as (λ t. layout_reads net layout a ≡ t
        → cond t (overlap_verdict (region_overlap region (match_fields a.matches)) (holder_verdict at net a.holder))
        (Some Never) ≡ None → ⊥) [
          | true ↦ λ r k. by_overlap (region_overlap region (match_fields a.matches)) refl r k
          | false ↦ λ r k. absurd (cc)
        ] refl h
      where
        by_overlap : (o : Overlap) → region_overlap region (match_fields a.matches) ≡ o → layout_reads net layout a
            ≡ true → overlap_verdict o (holder_verdict at net a.holder) ≡ None → ⊥
        by_overlap Part e r k = (match_overlap_is region a.matches is_region).part e
            (matches fields from (key_of layout fields) a here reached among r)
        by_overlap Whole e r k =
            let own = layout_of (slice_get net.holders a.holder) in
            let two = and_true (refines layout own) (list_all (λ e. reads layout e.axis e.bits) a.matches) r in
            let on : takes net (key_of layout fields) a ≡ true = takes_read net layout fields a fits r
            ∙ (match_overlap_is region a.matches is_region).whole e fields here in
            none_behind_holder a.holder (project (key_of layout fields) own) (project_key layout own fields fits two.0)
            (λ q. λ sent. λ to. next from (key_of layout fields) (take_in net (key_of layout fields) a) q sent
            reached (done on) to) k
        by_overlap Nothing e r k = absurd (cc)

    handled_lost : (from : ℕ) (layout : Layout) → Fits layout → Reached net path fields from (key_of layout fields)
        → (o : Option Process) → slice_get net.processes from ≡ o → handled_verdict at net region layout o ≡ None → ⊥
    handled_lost from layout fits reached None e h = absurd (cc)
    handled_lost from layout fits reached (Some process) e h =
        elim (both_none (sent_verdict at net layout es)
        (verdict_of_all (map (taken_verdict at net region layout) process.aggregations)) h) [
          | inl k ↦
              let found = a_none (send_verdict at net layout) es k in
              let on = none_behind_by at layout found.0 found.2 in
              later on.process layout fits on.none (next from key (Send found.0 key) on.process key reached
              (inside (Send found.0 key) (in_front (map (λ e. Send e key) es) takings (Send found.0 key)
              (mapped (λ e. Send e key) es found.0 found.1))) (on.link, on.among, on.leads, refl))
          | inr k ↦
              let found = a_none (taken_verdict at net region layout) process.aggregations k in
              taken_lost from layout fits reached found.0
              (subst (λ o. Contains (aggregations_of o) found.0) (sym e) found.1)
              (λ on. inside (take_in net key found.0)
              (behind (map (λ e. Send e key) es) takings (take_in net key found.0)
              (mapped (take_in net key) (filter (takes net key) process.aggregations) found.0
              (filtered (takes net key) process.aggregations found.0 found.1 on)))) found.2
        ]
      where
        key : Key
        key = key_of layout fields

        es : List Exporter
        es = at_places net.exporters process.exporters

        takings : List Act
        takings = map (take_in net (key_of layout fields))
            (filter (takes net (key_of layout fields)) process.aggregations)

        inside : (a : Act) → Contains (map (λ e. Send e (key_of layout fields))
            (at_places net.exporters process.exporters)
            ++ map (take_in net (key_of layout fields))
            (filter (takes net (key_of layout fields)) process.aggregations)) a
            → Contains (coming_to net (key_of layout fields) from) a
        inside a at' =
            behind (if from == net.report then Tally (key_of layout fields) ∷ [] else [])
            (acts_of net (key_of layout fields) (slice_get net.processes from)) a
            (subst (λ o. Contains (acts_of net (key_of layout fields) o) a) (sym e) at')

    coming_lost : (from : ℕ) (layout : Layout) → Fits layout → Reached net path fields from (key_of layout fields)
        → coming_verdict at net region from layout ≡ None → ⊥
    coming_lost from layout fits reached h =
        elim (both_none (tally_verdict net layout from)
        (handled_verdict at net region layout (slice_get net.processes from)) h) [
          | inl k ↦ tally_some layout from k
          | inr k ↦ handled_lost from layout fits reached (slice_get net.processes from) refl k
        ]

  within_lost : (n : ℕ) → Later (verdict_within net region n)
  within_lost zero process layout fits h reached = absurd (cc)
  within_lost (suc n) process layout fits h reached =
      coming_lost (verdict_within net region n) (within_lost n) process layout fits reached h

  -- ---- along the path

  none_append : (xs ys : List SelectionVerdict) → verdict_of_all (map (λ s. s.verdict) (xs ++ ys)) ≡ None
      → (verdict_of_all (map (λ s. s.verdict) xs) ≡ None) ⊎ (verdict_of_all (map (λ s. s.verdict) ys) ≡ None)
  none_append [] ys h = inr h
  none_append (x ∷ xs) ys h =
      elim (both_none x.verdict (verdict_of_all (map (λ s. s.verdict) (xs ++ ys))) h) [
        | inl e ↦ inl (ap (λ v. verdict_of_both v (verdict_of_all (map (λ s. s.verdict) xs))) e)
        | inr e ↦ elim (none_append xs ys e) [
          | inl k ↦ inl (joined x.verdict (verdict_of_all (map (λ s. s.verdict) xs)) k)
          | inr k ↦ inr k
        ]
      ]
    where
      joined : (v w : Verdict) → w ≡ None → verdict_of_both v w ≡ None
      joined None w e = refl
      joined (Some f) w e = ap (verdict_of_both (Some f)) e

  every_in : {A : Type 0} (P : A → Type 0) (xs : List A) → ((x : A) → Contains xs x → P x) → Every P xs
  every_in P [] h = tt
  every_in P (x ∷ xs) h = (h x (zero, omega arith, refl), every_in P xs (λ y. λ at'. h y (further y x xs at')))

  abbrev all : VerdictAt
  all = verdict net region

  abbrev InPath : Act → Type 0
  InPath a = Contains (acts_along net fields path) a

  selection_lost : (c n p : ℕ) (selected : Option Bounds) (holder : Option ℕ)
      → (holder ≢ None → Uncut region (selects selected))
      → ((o : Occurrence) → Contains (if selects selected fields then occurrence n p holder else []) o
      → InPath (meet net fields o)) → verdict_of_all
      (map (λ s. s.verdict) (selection_verdicts all net region c n p selected holder)) ≡ None → ⊥
  selection_lost c n p selected None uncut inside h = absurd (cc)
  selection_lost c n p selected (Some holder) uncut inside h =
      elim (both_none (overlap_verdict (selection_overlap region selected) (holder_verdict all net holder)) (Some Never)
      h) [
        | inl k ↦ by_overlap (selection_overlap region selected) refl k
        | inr k ↦ absurd (cc)
      ]
    where
      some : (Some holder) ≢ None
      some e = absurd (cc)

      by_overlap : (o : Overlap) → selection_overlap region selected ≡ o
          → overlap_verdict o (holder_verdict all net holder) ≡ None → ⊥
      by_overlap Part e k = (selection_overlap_is region selected is_region).part e (uncut some)
      by_overlap Whole e k =
          let on = (selection_overlap_is region selected is_region).whole e fields here in
          let met : Occurrence = record { point = n; process = p; holder = holder } in
          let in' = inside met (subst (λ t. Contains (cond t (occurrence n p (Some holder)) []) met) (sym on)
          (zero, omega arith, refl)) in
          none_behind_holder all (within_lost (length net.processes)) holder
          (key_of (layout_of (slice_get net.holders holder)) fields) refl
          (λ q. λ sent. λ to. first (meet net fields met) q sent in' to) k
      by_overlap Nothing e k = absurd (cc)

  by_cause : (c n p : ℕ) (ss : List Selection) → Every (λ s. s.holder ≢ None → Uncut region (selects s.region)) ss
      → ((o : Occurrence) → Contains (met_by n p ss fields) o → InPath (meet net fields o))
      → verdict_of_all (map (λ s. s.verdict) (point_verdicts all net region c n p ss)) ≡ None → ⊥
  by_cause c n p [] uncut inside h = absurd (cc)
  by_cause c n p (s ∷ ss) uncut inside h =
      let met = if selects s.region fields then occurrence n p s.holder else [] in
      let more = met_by n (p + 1) ss fields in
      elim (none_append (selection_verdicts all net region c n p s.region s.holder)
      (point_verdicts all net region c n (p + 1) ss) h) [
        | inl k ↦ selection_lost c n p s.region s.holder uncut.0 (λ o. λ at'. inside o (in_front met more o at')) k
        | inr k ↦ by_cause c n (p + 1) ss uncut.1 (λ o. λ at'. inside o (behind met more o at')) k
      ]

  abbrev PointUncut' : Crossing → Point → Type 0
  PointUncut' c p = watches p c ≡ true → Every (λ s. s.holder ≢ None → Uncut region (selects s.region)) p.selections

  at_lost : (c n : ℕ) (points : List Point) (crossing : Crossing) → Every (PointUncut' crossing) points
      → ((o : Occurrence) → Contains (met_at n points crossing fields) o → InPath (meet net fields o))
      → verdict_of_all (map (λ s. s.verdict) (crossing_verdicts all net region c n points crossing)) ≡ None → ⊥
  at_lost c n [] crossing uncut inside h = absurd (cc)
  at_lost c n (point ∷ points) crossing uncut inside h =
      let met = if watches point crossing then met_by n 1 point.selections fields else [] in
      let more = met_at (n + 1) points crossing fields in
      elim (none_append (if watches point crossing then point_verdicts all net region c n 1 point.selections else [])
      (crossing_verdicts all net region c (n + 1) points crossing) h) [
        | inl k ↦ elim (watches point crossing)
            as (λ t. watches point crossing ≡ t → ((o : Occurrence)
            → Contains (cond t (met_by n 1 point.selections fields) []) o → InPath (meet net fields o))
            → verdict_of_all (map (λ s. s.verdict) (cond t (point_verdicts all net region c n 1 point.selections) []))
            ≡ None → ⊥) [
              | true ↦ λ w i m. by_cause c n 1 point.selections (uncut.0 w) i m
              | false ↦ λ w i m. absurd (cc)
            ] refl (λ o. λ at'. inside o (in_front met more o at')) k
        | inr k ↦ at_lost c (n + 1) points crossing uncut.1 (λ o. λ at'. inside o (behind met more o at')) k
      ]

  along_lost : (c : ℕ) (cs : List Crossing)
      → Every (λ x. Every (PointUncut' x) (points_of (entry_numbered net.devices x.device))) cs
      → ((a : Act) → Contains (acts_along net fields cs) a → InPath a)
      → verdict_of_all (map (λ s. s.verdict) (path_verdicts all net region c cs)) ≡ None → ⊥
  along_lost c [] uncut inside h = absurd (cc)
  along_lost c (crossing ∷ cs) uncut inside h =
      let points = points_of (entry_numbered net.devices crossing.device) in
      let acts = crossing_acts net fields (Some crossing) in
      elim (none_append (crossing_verdicts all net region c 1 points crossing) (path_verdicts all net region (c + 1) cs)
      h) [
        | inl k ↦ at_lost c 1 points crossing uncut.0
            (λ o. λ at'. inside (meet net fields o)
            (in_front acts (acts_along net fields cs) (meet net fields o)
            (mapped (meet net fields) (occurrences net crossing fields) o at'))) k
        | inr k ↦ along_lost (c + 1) cs uncut.1 (λ a. λ at'. inside a (behind acts (acts_along net fields cs) a at')) k
      ]

  pub path_lost : path_verdict net region path ≡ None → ⊥
  path_lost h =
      along_lost 1 path (every_in (λ x. Every (PointUncut' x) (points_of (entry_numbered net.devices x.device))) path
      (λ c. λ on. every_in (PointUncut' c) (points_of (entry_numbered net.devices c.device))
      (λ p. λ at_point. λ w. every_in (λ s. s.holder ≢ None → Uncut region (selects s.region)) p.selections
      (λ s. λ among. selections c p s on at_point w among)))) (λ a. λ at'. at') h
