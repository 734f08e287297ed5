-- The verdict on a region is the fate of each of its packets.
use Rattle.std.proofs.Common.{◌≡◌, ℕ, zero, suc, Bool, true, false, cond, ◌&&◌, ◌==◌, List, [], ◌∷◌, ◌++◌, map, filter, length, Option, Some, None, refl, sym, ap, ap₂, ◌∙◌, slice_get, if◌then◌else◌}
use Rattle.std.specs.List.{list_all}
use Rattle.fx_elements.specs.Axes.{Fields}
use Rattle.fx_boxes.specs.Boxes.{Bounds, IsRegion, holds}
use Rattle.fx_layout.specs.Keys.{Layout, Key, Fits, key_of, refines, reads, bits_on}
use Rattle.fx_layout.proofs.Projections.{and_true, cut_of_key, project_key}
use Rattle.fx_tables.specs.declared.aggregation.MatchEntry.{MatchEntry}
use Rattle.fx_tables.specs.Network.{Net, Exporter, AggregationEntry, Process, at_places, exporters_of, layout_of, takes}
use Rattle.fx_machine.specs.Acts.{Tally, Send}
use Rattle.fx_machine.specs.Steps.{take_in, acts_of}
use Rattle.fx_leaf.specs.declared.regions.Overlap.{Overlap}
use Rattle.fx_leaf.specs.declared.regions.Overlap.TheVariants.{Whole, Part, Nothing}
use Rattle.fx_leaf.specs.declared.verdict.Fate.{Fate}
use Rattle.fx_leaf.specs.declared.verdict.Fate.TheVariants.{Never, Once, Many, Differing, Unassigned}
use Rattle.fx_leaf.specs.Fates.{FateAt, both, either, all_happen, one_happens, process_fate, destination_fate, send_fate, held_fate, act_fate, coming_fate, fate_within, fate}
use Rattle.fx_leaf.specs.SoundLeaves.{matches_packet}
use Rattle.fx_leaf.specs.Overlaps.{region_overlap, match_fields}
use Rattle.fx_leaf.specs.Verdicts.{Verdict, VerdictAt, verdict_of_both, verdict_of_all, verdict_of_either, verdict_of_one, overlap_verdict, process_verdict, destination_verdict, send_verdict, sent_verdict, holder_verdict, layout_reads, taken_verdict, tally_verdict, handled_verdict, coming_verdict, verdict_within, verdict}
use Rattle.fx_leaf.proofs.OverlapsAreRight.{match_overlap_is}

-- ---- fates of lists

pub both_assoc : (f g h : Fate) → both (both f g) h ≡ both f (both g h)
both_assoc Never Never Never = refl
both_assoc Never Never Once = refl
both_assoc Never Never Many = refl
both_assoc Never Never Differing = refl
both_assoc Never Never Unassigned = refl
both_assoc Never Once Never = refl
both_assoc Never Once Once = refl
both_assoc Never Once Many = refl
both_assoc Never Once Differing = refl
both_assoc Never Once Unassigned = refl
both_assoc Never Many Never = refl
both_assoc Never Many Once = refl
both_assoc Never Many Many = refl
both_assoc Never Many Differing = refl
both_assoc Never Many Unassigned = refl
both_assoc Never Differing Never = refl
both_assoc Never Differing Once = refl
both_assoc Never Differing Many = refl
both_assoc Never Differing Differing = refl
both_assoc Never Differing Unassigned = refl
both_assoc Never Unassigned Never = refl
both_assoc Never Unassigned Once = refl
both_assoc Never Unassigned Many = refl
both_assoc Never Unassigned Differing = refl
both_assoc Never Unassigned Unassigned = refl
both_assoc Once Never Never = refl
both_assoc Once Never Once = refl
both_assoc Once Never Many = refl
both_assoc Once Never Differing = refl
both_assoc Once Never Unassigned = refl
both_assoc Once Once Never = refl
both_assoc Once Once Once = refl
both_assoc Once Once Many = refl
both_assoc Once Once Differing = refl
both_assoc Once Once Unassigned = refl
both_assoc Once Many Never = refl
both_assoc Once Many Once = refl
both_assoc Once Many Many = refl
both_assoc Once Many Differing = refl
both_assoc Once Many Unassigned = refl
both_assoc Once Differing Never = refl
both_assoc Once Differing Once = refl
both_assoc Once Differing Many = refl
both_assoc Once Differing Differing = refl
both_assoc Once Differing Unassigned = refl
both_assoc Once Unassigned Never = refl
both_assoc Once Unassigned Once = refl
both_assoc Once Unassigned Many = refl
both_assoc Once Unassigned Differing = refl
both_assoc Once Unassigned Unassigned = refl
both_assoc Many Never Never = refl
both_assoc Many Never Once = refl
both_assoc Many Never Many = refl
both_assoc Many Never Differing = refl
both_assoc Many Never Unassigned = refl
both_assoc Many Once Never = refl
both_assoc Many Once Once = refl
both_assoc Many Once Many = refl
both_assoc Many Once Differing = refl
both_assoc Many Once Unassigned = refl
both_assoc Many Many Never = refl
both_assoc Many Many Once = refl
both_assoc Many Many Many = refl
both_assoc Many Many Differing = refl
both_assoc Many Many Unassigned = refl
both_assoc Many Differing Never = refl
both_assoc Many Differing Once = refl
both_assoc Many Differing Many = refl
both_assoc Many Differing Differing = refl
both_assoc Many Differing Unassigned = refl
both_assoc Many Unassigned Never = refl
both_assoc Many Unassigned Once = refl
both_assoc Many Unassigned Many = refl
both_assoc Many Unassigned Differing = refl
both_assoc Many Unassigned Unassigned = refl
both_assoc Differing Never Never = refl
both_assoc Differing Never Once = refl
both_assoc Differing Never Many = refl
both_assoc Differing Never Differing = refl
both_assoc Differing Never Unassigned = refl
both_assoc Differing Once Never = refl
both_assoc Differing Once Once = refl
both_assoc Differing Once Many = refl
both_assoc Differing Once Differing = refl
both_assoc Differing Once Unassigned = refl
both_assoc Differing Many Never = refl
both_assoc Differing Many Once = refl
both_assoc Differing Many Many = refl
both_assoc Differing Many Differing = refl
both_assoc Differing Many Unassigned = refl
both_assoc Differing Differing Never = refl
both_assoc Differing Differing Once = refl
both_assoc Differing Differing Many = refl
both_assoc Differing Differing Differing = refl
both_assoc Differing Differing Unassigned = refl
both_assoc Differing Unassigned Never = refl
both_assoc Differing Unassigned Once = refl
both_assoc Differing Unassigned Many = refl
both_assoc Differing Unassigned Differing = refl
both_assoc Differing Unassigned Unassigned = refl
both_assoc Unassigned Never Never = refl
both_assoc Unassigned Never Once = refl
both_assoc Unassigned Never Many = refl
both_assoc Unassigned Never Differing = refl
both_assoc Unassigned Never Unassigned = refl
both_assoc Unassigned Once Never = refl
both_assoc Unassigned Once Once = refl
both_assoc Unassigned Once Many = refl
both_assoc Unassigned Once Differing = refl
both_assoc Unassigned Once Unassigned = refl
both_assoc Unassigned Many Never = refl
both_assoc Unassigned Many Once = refl
both_assoc Unassigned Many Many = refl
both_assoc Unassigned Many Differing = refl
both_assoc Unassigned Many Unassigned = refl
both_assoc Unassigned Differing Never = refl
both_assoc Unassigned Differing Once = refl
both_assoc Unassigned Differing Many = refl
both_assoc Unassigned Differing Differing = refl
both_assoc Unassigned Differing Unassigned = refl
both_assoc Unassigned Unassigned Never = refl
both_assoc Unassigned Unassigned Once = refl
both_assoc Unassigned Unassigned Many = refl
both_assoc Unassigned Unassigned Differing = refl
both_assoc Unassigned Unassigned Unassigned = refl

pub both_never : (f : Fate) → both f Never ≡ f
both_never Never = refl
both_never Once = refl
both_never Many = refl
both_never Differing = refl
both_never Unassigned = refl

pub never_both : (f : Fate) → both Never f ≡ f
never_both Never = refl
never_both Once = refl
never_both Many = refl
never_both Differing = refl
never_both Unassigned = refl

pub happen_append : {A : Type 0} (g : A → Fate) (xs ys : List A) → all_happen (map g (xs ++ ys))
    ≡ both (all_happen (map g xs)) (all_happen (map g ys))
happen_append g [] ys = sym (never_both (all_happen (map g ys)))
happen_append g (x ∷ xs) ys = ap (both (g x)) (happen_append g xs ys)
    ∙ sym (both_assoc (g x) (all_happen (map g xs)) (all_happen (map g ys)))

happen_map : {A B : Type 0} (g : B → Fate) (h : A → B) (xs : List A) → all_happen (map g (map h xs))
    ≡ all_happen (map (λ x. g (h x)) xs)
happen_map g h [] = refl
happen_map g h (x ∷ xs) = ap (both (g (h x))) (happen_map g h xs)

-- those that a test leaves out never happen
happen_filter : {A B : Type 0} (g : B → Fate) (h : A → B) (test : A → Bool) (xs : List A)
    → all_happen (map g (map h (filter test xs))) ≡ all_happen (map (λ x. if test x then g (h x) else Never) xs)
happen_filter g h test [] = refl
happen_filter g h test (x ∷ xs) =
    let rest = happen_filter g h test xs in
    elim (test x) as (λ t. all_happen (map g (map h (cond t (x ∷ filter test xs) (filter test xs))))
    ≡ both (cond t (g (h x)) Never) (all_happen (map (λ x. if test x then g (h x) else Never) xs))) [
      | true ↦ ap (both (g (h x))) rest
      | false ↦ rest ∙ sym (never_both (all_happen (map (λ x. if test x then g (h x) else Never) xs)))
    ]

-- ---- verdicts of lists

-- what two verdicts together come from
pub record Parts (join : Fate → Fate → Fate) (v w : Verdict) (f : Fate) : Type 0 where
  pub one : Fate
  pub other : Fate
  pub one_is : v ≡ Some one
  pub other_is : w ≡ Some other
  pub joined : join one other ≡ f

some_same : {A : Type 0} {x y : A} → Some x ≡ Some y → x ≡ y
some_same h = cc

pub both_parts : (v w : Verdict) (f : Fate) → verdict_of_both v w ≡ Some f → Parts both v w f
both_parts None w f h = absurd (cc)
both_parts (Some a) None f h = absurd (cc)
both_parts (Some a) (Some b) f h = record { one = a; other = b; one_is = refl; other_is = refl; joined = some_same h }

pub either_parts : (v w : Verdict) (f : Fate) → verdict_of_either v w ≡ Some f → Parts either v w f
either_parts None w f h = absurd (cc)
either_parts (Some a) None f h = absurd (cc)
either_parts (Some a) (Some b) f h = record { one = a; other = b; one_is = refl; other_is = refl; joined = some_same h }

module _ {A : Type 0} (v : A → Verdict) (g : A → Fate) (each : (x : A) (f : Fate) → v x ≡ Some f → g x ≡ f) where
  pub all_said : (xs : List A) (f : Fate) → verdict_of_all (map v xs) ≡ Some f → all_happen (map g xs) ≡ f
  all_said [] f h = some_same h
  all_said (x ∷ xs) f h =
      let p = both_parts (v x) (verdict_of_all (map v xs)) f h in
      ap₂ both (each x p.one p.one_is) (all_said xs p.other p.other_is) ∙ p.joined

  pub one_said : (xs : List A) (f : Fate) → verdict_of_one (map v xs) ≡ Some f → one_happens (map g xs) ≡ f
  one_said [] f h = some_same h
  one_said (x ∷ []) f h = each x f h
  one_said (x ∷ y ∷ xs) f h =
      let p = either_parts (v x) (verdict_of_one (map v (y ∷ xs))) f h in
      ap₂ either (each x p.one p.one_is) (one_said (y ∷ xs) p.other p.other_is) ∙ p.joined

-- ---- records of one layout, whose key at each collecting process has the fate that the verdict says

module _ (net : Net) (at : VerdictAt) (fates : FateAt) (layout : Layout) (key : Key)
    (known : (q : ℕ) (f : Fate) → at q layout ≡ Some f → fates q key ≡ f) where
  process_said : (o : Option ℕ) (f : Fate) → process_verdict at layout o ≡ Some f → process_fate fates key o ≡ f
  process_said None f h = some_same h
  process_said (Some q) f h = known q f h

  destination_said : (d : Option ℕ) (f : Fate) → destination_verdict at net layout d ≡ Some f
      → destination_fate fates net key d ≡ f
  destination_said None f h = some_same h
  destination_said (Some link) f h = process_said (slice_get net.links link) f h

  send_said : (e : Exporter) (f : Fate) → send_verdict at net layout e ≡ Some f → send_fate fates net key e ≡ f
  send_said e f h =
      let vs = map (destination_verdict at net layout) e.destinations in
      let gs = map (destination_fate fates net key) e.destinations in
      elim e.parallel as (λ t. cond t (verdict_of_all vs) (verdict_of_one vs) ≡ Some f
      → cond t (all_happen gs) (one_happens gs) ≡ f) [
        | true ↦ λ k. all_said (destination_verdict at net layout) (destination_fate fates net key) destination_said
            e.destinations f k
        | false ↦ λ k. one_said (destination_verdict at net layout) (destination_fate fates net key) destination_said
            e.destinations f k
      ] h

  pub sent_said : (es : List Exporter) (f : Fate) → sent_verdict at net layout es ≡ Some f
      → all_happen (map (send_fate fates net key) es) ≡ f
  sent_said es f h = all_said (send_verdict at net layout) (send_fate fates net key) send_said es f h

-- ---- aggregations

-- what a packet's key is compared with is what the packet is compared with
reads_same : (layout : Layout) (fields : Fields) (es : List MatchEntry) → Fits layout
    → list_all (λ e. reads layout e.axis e.bits) es ≡ true
    → list_all (λ e. reads layout e.axis e.bits && bits_on (key_of layout fields) e.axis e.bits == e.value) es
    ≡ matches_packet es fields
reads_same layout fields [] fits h = refl
reads_same layout fields (e ∷ es) fits h =
    let two = and_true (reads layout e.axis e.bits) (list_all (λ e. reads layout e.axis e.bits) es) h in
    let same = cut_of_key layout fields e.axis e.bits fits two.0 in
    ap₂ (λ (a b : Bool). a && b) (ap₂ (λ (t : Bool) (n : ℕ). t && (n == e.value)) two.0 same)
    (reads_same layout fields es fits two.1)

unread : (layout : Layout) (fields : Fields) (es : List MatchEntry) → list_all (λ e. reads layout e.axis e.bits) es
    ≡ false → list_all (λ e. reads layout e.axis e.bits && bits_on (key_of layout fields) e.axis e.bits == e.value) es
    ≡ false
unread layout fields [] h = absurd (cc)
unread layout fields (e ∷ es) h =
    let rest = unread layout fields es in
    elim (reads layout e.axis e.bits) as (λ t. (t && list_all (λ e. reads layout e.axis e.bits) es) ≡ false
    → ((t && bits_on (key_of layout fields) e.axis e.bits == e.value) && list_all
    (λ e. reads layout e.axis e.bits && bits_on (key_of layout fields) e.axis e.bits == e.value) es) ≡ false) [
      | true ↦ λ k. no_second (bits_on (key_of layout fields) e.axis e.bits == e.value) _ (rest k)
      | false ↦ λ k. refl
    ] h
  where
    no_second : (a b : Bool) → b ≡ false → (a && b) ≡ false
    no_second true b e = e
    no_second false b e = refl

pub takes_read : (net : Net) (layout : Layout) (fields : Fields) (a : AggregationEntry) → Fits layout
    → layout_reads net layout a ≡ true → takes net (key_of layout fields) a ≡ matches_packet a.matches fields
takes_read net layout fields a fits h =
    let two = and_true (refines layout (layout_of (slice_get net.holders a.holder)))
    (list_all (λ e. reads layout e.axis e.bits) a.matches) h in
    ap₂ (λ (x y : Bool). x && y) two.0 (reads_same layout fields a.matches fits two.1)

pub takes_unread : (net : Net) (layout : Layout) (fields : Fields) (a : AggregationEntry) → layout_reads net layout a
    ≡ false → takes net (key_of layout fields) a ≡ false
takes_unread net layout fields a h =
    let none = unread layout fields a.matches in
    elim (refines layout (layout_of (slice_get net.holders a.holder)))
    as (λ t. (t && list_all (λ e. reads layout e.axis e.bits) a.matches) ≡ false
    → (t && list_all (λ e. reads layout e.axis e.bits && bits_on (key_of layout fields) e.axis e.bits == e.value)
    a.matches) ≡ false) [
      | true ↦ λ k. none k
      | false ↦ λ k. refl
    ] h

-- ---- a region

module _ (net : Net) (fits : (holder : ℕ) → Fits (layout_of (slice_get net.holders holder))) (region : Bounds)
    (is_region : IsRegion region) (fields : Fields) (here : holds region fields ≡ true) where
  -- verdicts that say the fates of the packet's keys
  abbrev pub Says : VerdictAt → FateAt → Type 0
  Says at fates = (q : ℕ) (layout : Layout) (f : Fate) → Fits layout → at q layout ≡ Some f
      → fates q (key_of layout fields) ≡ f

  module _ (at : VerdictAt) (fates : FateAt) (says : Says at fates) where
    pub holder_said : (holder : ℕ) (f : Fate) → holder_verdict at net holder ≡ Some f
        → held_fate fates net (key_of (layout_of (slice_get net.holders holder)) fields) (slice_get net.holders holder)
        ≡ f
    holder_said holder f h =
        let layout = layout_of (slice_get net.holders holder) in
        sent_said net at fates layout (key_of layout fields) (λ q. λ g. says q layout g (fits holder))
        (exporters_of net (slice_get net.holders holder)) f h

    abbrev taken_fate : Layout → AggregationEntry → Fate
    taken_fate layout a = if takes net (key_of layout fields) a then act_fate fates net
        (take_in net (key_of layout fields) a) else Never

    passed_said : (layout : Layout) (a : AggregationEntry) (f : Fate) → Fits layout → layout_reads net layout a ≡ true
        → (o : Overlap) → region_overlap region (match_fields a.matches) ≡ o
        → overlap_verdict o (holder_verdict at net a.holder) ≡ Some f → taken_fate layout a ≡ f
    passed_said layout a f l r Part e h = absurd (cc)
    passed_said layout a f l r Whole e h =
        let own = layout_of (slice_get net.holders a.holder) in
        let passes = (match_overlap_is region a.matches is_region).whole e fields here in
        let on : takes net (key_of layout fields) a ≡ true = takes_read net layout fields a l r ∙ passes in
        let two = and_true (refines layout own) (list_all (λ e. reads layout e.axis e.bits) a.matches) r in
        ap (λ t. cond t (act_fate fates net (take_in net (key_of layout fields) a)) Never) on
        ∙ ap (λ k. held_fate fates net k (slice_get net.holders a.holder)) (project_key layout own fields l two.0)
        ∙ holder_said a.holder f h
    passed_said layout a f l r Nothing e h =
        let fails = (match_overlap_is region a.matches is_region).nothing e fields here in
        let off : takes net (key_of layout fields) a ≡ false = takes_read net layout fields a l r ∙ fails in
        ap (λ t. cond t (act_fate fates net (take_in net (key_of layout fields) a)) Never) off ∙ some_same h

    taken_said : (layout : Layout) → Fits layout → (a : AggregationEntry) (f : Fate)
        → taken_verdict at net region layout a ≡ Some f → taken_fate layout a ≡ f
    taken_said layout l a f h =
        elim (layout_reads net layout a) as (λ t. layout_reads net layout a ≡ t
        → cond t (overlap_verdict (region_overlap region (match_fields a.matches)) (holder_verdict at net a.holder))
        (Some Never) ≡ Some f → taken_fate layout a ≡ f) [
          | true ↦ λ r k. passed_said layout a f l r (region_overlap region (match_fields a.matches)) refl k
          | false ↦ λ r k. ap (λ t. cond t (act_fate fates net (take_in net (key_of layout fields) a)) Never)
              (takes_unread net layout fields a r) ∙ some_same k
        ] refl h

    handled_said : (layout : Layout) → Fits layout → (o : Option Process) (f : Fate)
        → handled_verdict at net region layout o ≡ Some f
        → all_happen (map (act_fate fates net) (acts_of net (key_of layout fields) o)) ≡ f
    handled_said layout l None f h = some_same h
    handled_said layout l (Some process) f h =
        let key = key_of layout fields in
        let es = at_places net.exporters process.exporters in
        let p = both_parts (sent_verdict at net layout es)
        (verdict_of_all (map (taken_verdict at net region layout) process.aggregations)) f h in
        let sends = happen_map (act_fate fates net) (λ e. Send e key) es
        ∙ sent_said net at fates layout key (λ q. λ g. says q layout g l) es p.one p.one_is in
        let takings = happen_filter (act_fate fates net) (take_in net key) (takes net key) process.aggregations
        ∙ all_said (taken_verdict at net region layout) (taken_fate layout) (taken_said layout l)
        process.aggregations p.other p.other_is in
        happen_append (act_fate fates net) (map (λ e. Send e key) es)
        (map (take_in net key) (filter (takes net key) process.aggregations)) ∙ ap₂ both sends takings ∙ p.joined

    tally_said : (layout : Layout) (process : ℕ) (f : Fate) → tally_verdict net layout process ≡ Some f
        → all_happen (map (act_fate fates net) (if process == net.report then Tally (key_of layout fields)
        ∷ [] else [])) ≡ f
    tally_said layout process f h =
        elim (process == net.report) as (λ t. cond t
        (cond (refines layout net.report_layout) (Some Once) (Some Unassigned)) (Some Never) ≡ Some f
        → all_happen (map (act_fate fates net) (cond t (Tally (key_of layout fields) ∷ []) [])) ≡ f) [
          | true ↦ λ k. elim (refines layout net.report_layout)
              as (λ r. cond r (Some Once) (Some Unassigned) ≡ Some f → both (cond r Once Unassigned) Never ≡ f)
              [ true ↦ λ m. some_same m | false ↦ λ m. some_same m ] k
          | false ↦ λ k. some_same k
        ] h

    coming_said : (process : ℕ) (layout : Layout) (f : Fate) → Fits layout → coming_verdict at net region process layout
        ≡ Some f → coming_fate fates net process (key_of layout fields) ≡ f
    coming_said process layout f l h =
        let key = key_of layout fields in
        let p = both_parts (tally_verdict net layout process)
        (handled_verdict at net region layout (slice_get net.processes process)) f h in
        happen_append (act_fate fates net) (if process == net.report then Tally key ∷ [] else [])
        (acts_of net key (slice_get net.processes process))
        ∙ ap₂ both (tally_said layout process p.one p.one_is)
        (handled_said layout l (slice_get net.processes process) p.other p.other_is) ∙ p.joined

  within_says : (n : ℕ) → Says (verdict_within net region n) (fate_within net n)
  within_says zero q layout f l h = some_same h
  within_says (suc n) q layout f l h = coming_said (verdict_within net region n) (fate_within net n) (within_says n) q
      layout f l h

  -- a verdict at a collecting process is the fate of each packet's key
  pub verdict_says : Says (verdict net region) (fate net)
  verdict_says = within_says (length net.processes)
