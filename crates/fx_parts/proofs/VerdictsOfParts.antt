-- In a part of a network a region has the verdict that it has in the whole.
use Rattle.std.proofs.Common.{◌≡◌, ℕ, zero, suc, ◌+◌, ◌≤◌, Bool, true, false, cond, ◌&&◌, ◌==◌, List, [], ◌∷◌, ◌++◌, map, length, Option, Some, None, slice_get, refl, sym, ap, ap₂, ◌∙◌, arith}
use Rattle.std.specs.List.{list_all}
use Rattle.fx_boxes.specs.Boxes.{Bounds}
use Rattle.fx_layout.specs.Keys.{Layout, refines, reads}
use Rattle.fx_tables.specs.declared.observation.Selection.{Selection}
use Rattle.fx_tables.specs.declared.traffic.Crossing.{Crossing}
use Rattle.fx_tables.specs.Network.{Net, Exporter, AggregationEntry, Process, Point, at_places, exporters_of, layout_of, points_of}
use Rattle.fx_base.specs.Entries.{entry_numbered}
use Rattle.fx_tables.specs.Occurrences.{watches}
use Rattle.fx_tables.specs.Ranks.{IsRanked}
use Rattle.fx_leaf.specs.declared.verdict.Fate.TheVariants.{Never, Once, Unassigned}
use Rattle.fx_leaf.specs.Overlaps.{region_overlap, selection_overlap, match_fields}
use Rattle.fx_leaf.specs.Verdicts.{Verdict, VerdictAt, SelectionVerdict, verdict_of_both, verdict_of_all, verdict_of_one, overlap_verdict, process_verdict, destination_verdict, send_verdict, sent_verdict, holder_verdict, layout_reads, taken_verdict, tally_verdict, handled_verdict, coming_verdict, verdict_within, verdict, selection_verdicts, point_verdicts, crossing_verdicts, path_verdicts, path_verdict}
use Rattle.fx_leaf.proofs.Trees.{map_append'}
use Rattle.fx_leaf.proofs.VerdictsWhereUncut.{coming_same, verdict_agrees}
use Rattle.fx_parts.specs.Meaning.{Sending, Holding, AggregationHandling, Handling, Metering, lead, sending_of, holding_of, taking_of, handling_of, metering_of, meterings_of, meterings_at, meterings}
use Rattle.fx_parts.specs.Parts.{lead_in, sending_in, taking_in, handling_in, metering_in, IsPart, MetersTheSame}
use Rattle.fx_parts.proofs.FatesOfParts.{maps, test_of, not_tested, not_there}

-- ---- verdicts over what is looked up

abbrev sending_verdict : VerdictAt → Layout → Sending → Verdict
sending_verdict at layout s = cond s.parallel (verdict_of_all (map (process_verdict at layout) s.leads))
    (verdict_of_one (map (process_verdict at layout) s.leads))

abbrev holding_verdict : VerdictAt → Holding → Verdict
holding_verdict at h = verdict_of_all (map (sending_verdict at h.layout) h.sendings)

abbrev taking_verdict : VerdictAt → Bounds → Layout → AggregationHandling → Verdict
taking_verdict at region layout t =
    cond (refines layout t.holding.layout && list_all (λ e. reads layout e.axis e.bits) t.matches)
    (overlap_verdict (region_overlap region (match_fields t.matches)) (holding_verdict at t.holding)) (Some Never)

abbrev handling_verdict : VerdictAt → Bounds → Layout → Handling → Verdict
handling_verdict at region layout h =
    verdict_of_both (verdict_of_all (map (sending_verdict at layout) h.sendings))
    (verdict_of_all (map (taking_verdict at region layout) h.takings))

abbrev tallied_verdict : Layout → Layout → Bool → Verdict
tallied_verdict reported layout b = cond b (cond (refines layout reported) (Some Once) (Some Unassigned)) (Some Never)

abbrev metering_verdict : VerdictAt → Bounds → Metering → Verdict
metering_verdict at region m = overlap_verdict (selection_overlap region m.region) (holding_verdict at m.holding)

module _ (net : Net) (at : VerdictAt) (region : Bounds) where
  destination_is : (layout : Layout) (d : Option ℕ) → process_verdict at layout (lead net d)
      ≡ destination_verdict at net layout d
  destination_is layout None = refl
  destination_is layout (Some link) = refl

  sending_is : (layout : Layout) (e : Exporter) → sending_verdict at layout (sending_of net e)
      ≡ send_verdict at net layout e
  sending_is layout e =
      ap (λ vs. cond e.parallel (verdict_of_all vs) (verdict_of_one vs))
      (maps (process_verdict at layout) (lead net) (destination_verdict at net layout) e.destinations
      (destination_is layout))

  sent_is : (layout : Layout) (es : List Exporter)
      → verdict_of_all (map (sending_verdict at layout) (map (sending_of net) es)) ≡ sent_verdict at net layout es
  sent_is layout es = ap verdict_of_all (maps (sending_verdict at layout) (sending_of net) (send_verdict at net layout)
      es (sending_is layout))

  holding_is : (holder : ℕ) → holding_verdict at (holding_of net (slice_get net.holders holder))
      ≡ holder_verdict at net holder
  holding_is holder = sent_is (layout_of (slice_get net.holders holder))
      (exporters_of net (slice_get net.holders holder))

  taking_is : (layout : Layout) (a : AggregationEntry) → taking_verdict at region layout (taking_of net a)
      ≡ taken_verdict at net region layout a
  taking_is layout a =
      ap (λ v. cond (layout_reads net layout a) (overlap_verdict (region_overlap region (match_fields a.matches)) v)
      (Some Never)) (holding_is a.holder)

  handling_is : (layout : Layout) (process : Option Process)
      → handling_verdict at region layout (handling_of net process) ≡ handled_verdict at net region layout process
  handling_is layout None = refl
  handling_is layout (Some process) =
      ap₂ verdict_of_both (sent_is layout (at_places net.exporters process.exporters))
      (ap verdict_of_all (maps (taking_verdict at region layout) (taking_of net)
      (taken_verdict at net region layout) process.aggregations (taking_is layout)))

  coming_is : (process : ℕ) (layout : Layout)
      → verdict_of_both (tallied_verdict net.report_layout layout (process == net.report))
      (handling_verdict at region layout (handling_of net (slice_get net.processes process)))
      ≡ coming_verdict at net region process layout
  coming_is process layout = ap (verdict_of_both (tally_verdict net layout process))
      (handling_is layout (slice_get net.processes process))

  -- ---- the selection processes that packets pass

  abbrev verdict_in : SelectionVerdict → Verdict
  verdict_in s = s.verdict

  selection_is : (crossing point process : ℕ) (selected : Option Bounds) (holder : Option ℕ)
      → map (metering_verdict at region) (metering_of net selected holder)
      ≡ map verdict_in (selection_verdicts at net region crossing point process selected holder)
  selection_is crossing point process selected None = refl
  selection_is crossing point process selected (Some holder) =
      ap (λ v. overlap_verdict (selection_overlap region selected) v ∷ []) (holding_is holder)

  point_is : (crossing point process : ℕ) (ss : List Selection) → map (metering_verdict at region) (meterings_of net ss)
      ≡ map verdict_in (point_verdicts at net region crossing point process ss)
  point_is crossing point process [] = refl
  point_is crossing point process (s ∷ ss) =
      map_append' (metering_verdict at region) (metering_of net s.region s.holder) (meterings_of net ss)
      ∙ ap₂ (λ (x y : List Verdict). x ++ y) (selection_is crossing point process s.region s.holder)
      (point_is crossing point (process + 1) ss)
      ∙ sym (map_append' verdict_in (selection_verdicts at net region crossing point process s.region s.holder)
      (point_verdicts at net region crossing point (process + 1) ss))

  crossing_is : (number n : ℕ) (points : List Point) (crossing : Crossing)
      → map (metering_verdict at region) (meterings_at net points crossing)
      ≡ map verdict_in (crossing_verdicts at net region number n points crossing)
  crossing_is number n [] crossing = refl
  crossing_is number n (point ∷ points) crossing =
      let b = watches point crossing in
      let here : map (metering_verdict at region) (cond b (meterings_of net point.selections) [])
      ≡ map verdict_in (cond b (point_verdicts at net region number n 1 point.selections) []) =
      elim b as (λ t. map (metering_verdict at region) (cond t (meterings_of net point.selections) [])
      ≡ map verdict_in (cond t (point_verdicts at net region number n 1 point.selections) [])) [
        | true ↦ point_is number n 1 point.selections
        | false ↦ refl
      ]
      in
      map_append' (metering_verdict at region) (cond b (meterings_of net point.selections) [])
      (meterings_at net points crossing) ∙ ap₂ (λ (x y : List Verdict). x ++ y) here
      (crossing_is number (n + 1) points crossing)
      ∙ sym (map_append' verdict_in (cond b (point_verdicts at net region number n 1 point.selections) [])
      (crossing_verdicts at net region number (n + 1) points crossing))

  path_is : (n : ℕ) (path : List Crossing) → map (metering_verdict at region) (meterings net path)
      ≡ map verdict_in (path_verdicts at net region n path)
  path_is n [] = refl
  path_is n (c ∷ cs) =
      let points = points_of (entry_numbered net.devices c.device) in
      map_append' (metering_verdict at region) (meterings_at net points c) (meterings net cs)
      ∙ ap₂ (λ (x y : List Verdict). x ++ y) (crossing_is n 1 points c) (path_is (n + 1) cs)
      ∙ sym (map_append' verdict_in (crossing_verdicts at net region n 1 points c)
      (path_verdicts at net region (n + 1) cs))

-- ---- by places in the whole

abbrev verdicts_at : VerdictAt → List ℕ → VerdictAt
verdicts_at at places process layout = process_verdict at layout (slice_get places process)

module _ (at : VerdictAt) (places : List ℕ) (region : Bounds) where
  lead_same : (layout : Layout) (o : Option ℕ) → process_verdict at layout (lead_in places o)
      ≡ process_verdict (verdicts_at at places) layout o
  lead_same layout None = refl
  lead_same layout (Some process) = refl

  sending_same : (layout : Layout) (s : Sending) → sending_verdict at layout (sending_in places s)
      ≡ sending_verdict (verdicts_at at places) layout s
  sending_same layout s =
      ap (λ vs. cond s.parallel (verdict_of_all vs) (verdict_of_one vs))
      (maps (process_verdict at layout) (lead_in places) (process_verdict (verdicts_at at places) layout) s.leads
      (lead_same layout))

  sendings_same : (layout : Layout) (ss : List Sending)
      → verdict_of_all (map (sending_verdict at layout) (map (sending_in places) ss))
      ≡ verdict_of_all (map (sending_verdict (verdicts_at at places) layout) ss)
  sendings_same layout ss =
      ap verdict_of_all (maps (sending_verdict at layout) (sending_in places)
      (sending_verdict (verdicts_at at places) layout) ss (sending_same layout))

  taking_same : (layout : Layout) (t : AggregationHandling) → taking_verdict at region layout (taking_in places t)
      ≡ taking_verdict (verdicts_at at places) region layout t
  taking_same layout t =
      ap (λ v. cond (refines layout t.holding.layout && list_all (λ e. reads layout e.axis e.bits) t.matches)
      (overlap_verdict (region_overlap region (match_fields t.matches)) v) (Some Never))
      (sendings_same t.holding.layout t.holding.sendings)

  handling_same : (layout : Layout) (h : Handling) → handling_verdict at region layout (handling_in places h)
      ≡ handling_verdict (verdicts_at at places) region layout h
  handling_same layout h =
      ap₂ verdict_of_both (sendings_same layout h.sendings)
      (ap verdict_of_all (maps (taking_verdict at region layout) (taking_in places)
      (taking_verdict (verdicts_at at places) region layout) h.takings (taking_same layout)))

  metering_same : (m : Metering) → metering_verdict at region (metering_in places m)
      ≡ metering_verdict (verdicts_at at places) region m
  metering_same m = ap (overlap_verdict (selection_overlap region m.region))
      (sendings_same m.holding.layout m.holding.sendings)

-- ---- along the ranks

module _ (net : Net) (region : Bounds) (ranked : IsRanked net) (at : VerdictAt)
    (agree : (process : ℕ) (layout : Layout) → at process layout ≡ coming_verdict at net region process layout) where
  only_within : (n process : ℕ) (layout : Layout) → length net.processes ≤ n + ranked.rank process → at process layout
      ≡ verdict_within net region n process layout
  only_within zero process layout h = let b = ranked.below process in absurd (omega arith)
  only_within (suc n) process layout h =
      agree process layout ∙ coming_same net region ranked.rank process at (verdict_within net region n)
      (λ q. λ k. λ lt. only_within n q k (omega (arith, lt, h))) layout (ranked.rises process)

  -- no other verdicts agree with one another along the links
  only_verdict : (process : ℕ) (layout : Layout) → at process layout ≡ verdict net region process layout
  only_verdict process layout = only_within (length net.processes) process layout (omega arith)

-- ---- in a part

module _ (part whole : Net) (places : List ℕ) (is_part : IsPart part whole places) (in_part : IsRanked part)
    (in_whole : IsRanked whole) (region : Bounds) where
  abbrev at : VerdictAt
  at = verdict whole region

  abbrev inner_at : VerdictAt
  inner_at = verdicts_at at places

  beyond : (process : ℕ) (layout : Layout) → slice_get places process ≡ None → Some Never
      ≡ coming_verdict inner_at part region process layout
  beyond process layout e =
      let empty : Some Never ≡ verdict_of_both (tallied_verdict part.report_layout layout false)
      (handling_verdict inner_at region layout (handling_of part None)) = refl in
      empty ∙ ap₂ (λ b o. verdict_of_both (tallied_verdict part.report_layout layout b)
      (handling_verdict inner_at region layout (handling_of part o)))
      (sym (not_tested part whole places is_part in_part in_whole process e))
      (sym (not_there part whole places is_part in_part in_whole process e))
      ∙ coming_is part inner_at region process layout

  inside : (process place : ℕ) (layout : Layout) → slice_get places process ≡ Some place → at place layout
      ≡ coming_verdict inner_at part region process layout
  inside process place layout e =
      verdict_agrees whole region in_whole place layout ∙ sym (coming_is whole at region place layout)
      ∙ ap₂ verdict_of_both (ap₂ (λ reported b. tallied_verdict reported layout b) (sym is_part.report_layout)
      (test_of part whole places is_part in_part in_whole process place e))
      (ap (handling_verdict at region layout) (is_part.same process place e)
      ∙ handling_same at places region layout (handling_of part (slice_get part.processes process)))
      ∙ coming_is part inner_at region process layout

  agree : (process : ℕ) (layout : Layout) → inner_at process layout ≡ coming_verdict inner_at part region process layout
  agree process layout = by (slice_get places process) refl
    where
      by : (o : Option ℕ) → slice_get places process ≡ o → process_verdict at layout o
          ≡ coming_verdict inner_at part region process layout
      by None e = beyond process layout e
      by (Some place) e = inside process place layout e

  same_at : inner_at ≡ verdict part region
  same_at = λ i. λ process. λ layout. only_verdict part region in_part inner_at agree process layout i

  -- the region has the same verdict on paths on which a packet passes the same selection processes
  pub verdict_same : (inner outer : List Crossing) → MetersTheSame part whole places inner outer
      → path_verdict part region inner ≡ path_verdict whole region outer
  verdict_same inner outer sees =
      ap verdict_of_all (sym (path_is part (verdict part region) region 1 inner)
      ∙ ap (λ (f : VerdictAt). map (metering_verdict f region) (meterings part inner)) (sym same_at)
      ∙ sym (maps (metering_verdict at region) (metering_in places) (metering_verdict inner_at region)
      (meterings part inner) (metering_same at places region)) ∙ ap (map (metering_verdict at region)) (sym sees)
      ∙ path_is whole at region 1 outer)
