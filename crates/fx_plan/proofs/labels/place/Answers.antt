use Rattle.std.proofs.Common.{◌≡◌, ℕ, ◌+◌, List, [], ◌∷◌, length, drop, refl, sym, ap, ◌∙◌, subst, position}
use Rattle.std.specs.List.{slice_range}
use Rattle.std.specs.Str.{bytes_eq}
use Rattle.std.proofs.lemmas.List.{drop_all}
use Rattle.fx_plan.specs.Labels.{AreGrouped, Group, Label, is_label, place}
use Rattle.fx_plan.proofs.LabelGroups.{NoneIn, found_at, not_there, nowhere, of_others, passed}
use Rattle.fx_topology.proofs.LinkByLink.{drop_item}
use Rattle.fx_plan.proofs.labels.place.Goals as goal
use Rattle.fx_plan.proofs.labels.place.Goals.{then-eq+in_default, else-eq}

pub returns-in-Some : goal.returns-in-Some
returns-in-Some c =
    let i = c.loop-group.invariant in
    let all = c.as_slice-all.result.now in
    let groups = c.as_slice-group-items.result.now in
    let item = c.group-item.result in
    let n = c.loop-group.group-index in
    let left : drop n groups ≡ item ∷ drop (n + 1) groups =
    drop_item groups n n item refl c.loop-group-test.true c.group-item.is in
    let here : AreGrouped i.from all (item ∷ drop (n + 1) groups) (length all) =
    subst (λ (gs : List Group). AreGrouped i.from all gs (length all)) left i.grouped in
    let is = c.group.view_is in
    let some = c.in-Some.ensures ∙ ap (λ (g : Group). position (is_label c.args.device.now c.args.name.now)
    (slice_range all g.start g.end)) is in
    let before : NoneIn c.args.device.now c.args.name.now all 0 item.start =
    subst (λ (x : ℕ). NoneIn c.args.device.now c.args.name.now all 0 x) (sym here.0) i.none in
    ap (λ (g : Group). g.start + c.in-Some.n) is
    ∙ (found_at c.args.device.now c.args.name.now all item.start item.end c.in-Some.n here.2 before some
    ∙ ap (λ (l : List Label). place l c.args.device.now c.args.name.now)
    (c.as_slice-all.ensures.value ∙ c.labels.view_is))

pub loop-group-preserved : goal.loop-group-preserved
loop-group-preserved c =
    let i = c.loop-group.invariant in
    let all = c.as_slice-all.result.now in
    let groups = c.as_slice-group-items.result.now in
    let item = c.group-item.result in
    let n = c.loop-group.group-index in
    let left : drop n groups ≡ item ∷ drop (n + 1) groups =
    drop_item groups n n item refl c.loop-group-test.true c.group-item.is in
    let here : AreGrouped i.from all (item ∷ drop (n + 1) groups) (length all) =
    subst (λ (gs : List Group). AreGrouped i.from all gs (length all)) left i.grouped in
    let none : NoneIn c.args.device.now c.args.name.now all item.start item.end =
    (elim c.if-eq.branch [
      | then-eq+in_default w ↦ not_there c.args.device.now c.args.name.now all item.start item.end here.2
          (w.in_default.ensures ∙ ap (λ (g : Group). position (is_label c.args.device.now c.args.name.now)
          (slice_range all g.start g.end)) c.group.view_is)
      | else-eq w ↦ of_others c.args.device.now c.args.name.now all item here.3
          (sym (ap (λ (g : Group). bytes_eq g.device c.args.device.now) c.group.view_is) ∙ sym w.if-eq.ensures)
    ]) in
    record {
      from = item.end;
      grouped = here.4;
      none =
          passed c.args.device.now c.args.name.now all i.from item here.0 i.none none;
    }

pub returns : goal.returns
returns c =
    let i = c.loop-group.invariant in
    let all = c.as_slice-all.result.now in
    let none : drop c.loop-group.group-index c.as_slice-group-items.result.now ≡ [] =
    drop_all c.loop-group.group-index c.as_slice-group-items.result.now c.loop-group-test.false in
    let end : i.from ≡ length all = subst (λ (gs : List Group). AreGrouped i.from all gs (length all)) none i.grouped in
    let all_of = nowhere c.args.device.now c.args.name.now all
    (subst (λ (x : ℕ). NoneIn c.args.device.now c.args.name.now all 0 x) end i.none) in
    all_of ∙ ap (λ (l : List Label). place l c.args.device.now c.args.name.now)
    (c.as_slice-all.ensures.value ∙ c.labels.view_is)
