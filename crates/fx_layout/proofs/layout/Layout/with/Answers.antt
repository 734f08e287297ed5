-- The new part stands before the first part of a later axis, and there is room for it.
use Rattle.std.proofs.Common.{◌≡◌, ℕ, ◌<◌, false, length, arith, subst, sym, ap, ◌∙◌, nat_lt}
use Rattle.std.specs.List.{insert, position_or_len}
use Rattle.fx_elements.specs.Axes.{axis_count, axis_index}
use Rattle.fx_layout.specs.declared.layout.Part.{Part}
use Rattle.fx_layout.specs.Keys.{Layout, IsLayout, reads, with_part}
use Rattle.fx_layout.proofs.Layouts.{not_there, room_for, stays_layout, with_part_is}
use Rattle.fx_layout.proofs.layout.Layout.with.Goals as goal

pub insert-requires : goal.insert-requires
insert-requires c =
    let new : Part = record { axis = c.args.axis; bits = c.args.bits } in
    let own : c.parts.inside.parts.items ≡ c.self.inside.parts.items = c.parts.view_is ∙ c.copy.ensures
    ∙ sym c.self.view_is in
    let asked : reads c.self.inside.parts.items c.args.axis 0 ≡ false =
    subst (λ (l : Layout). reads l c.args.axis 0 ≡ false) c.as_slice.ensures.value
    (sym c.parts_read.ensures ∙ c.if-parts_read.false) in
    let room : length c.self.inside.parts.items < axis_count =
    room_for c.self.inside.parts.items new c.self.invariant.ascends
    (not_there c.self.inside.parts.items c.args.axis asked) in
    let same : length c.parts.inside.parts.items ≡ length c.self.inside.parts.items = ap length own in
    let seen : length c.as_slice-2.result.now ≡ length c.self.inside.parts.items = ap length c.as_slice-2.ensures.value
    in
    (omega arith, (omega (arith, c.place_for.ensures.bound, same, seen), omega (arith, room, same)))

abbrev now_is : (own inside as_slice new_items : Layout) (place : ℕ) (new : Part) → own ≡ inside → as_slice ≡ inside
    → place ≡ position_or_len (λ part. nat_lt (axis_index new.axis) (axis_index part.axis)) as_slice → new_items
    ≡ insert own place new → new_items ≡ with_part inside new
now_is own inside as_slice new_items place new same seen at is =
    is ∙ ap (λ (l : Layout). insert l place new) same
    ∙ ap (λ (n : ℕ). insert inside n new) (at
    ∙ ap (λ (l : Layout). position_or_len (λ part. nat_lt (axis_index new.axis) (axis_index part.axis)) l) seen)
    ∙ sym (with_part_is inside new)

pub invariant_of-result : goal.invariant_of-result
invariant_of-result c =
    let new : Part = record { axis = c.args.axis; bits = c.args.bits } in
    let own : c.parts.inside.parts.items ≡ c.self.inside.parts.items = c.parts.view_is ∙ c.copy.ensures
    ∙ sym c.self.view_is in
    let asked : reads c.self.inside.parts.items c.args.axis 0 ≡ false =
    subst (λ (l : Layout). reads l c.args.axis 0 ≡ false) c.as_slice.ensures.value
    (sym c.parts_read.ensures ∙ c.if-parts_read.false) in
    subst IsLayout (sym (now_is _ _ _ _ _ new own c.as_slice-2.ensures.value c.place_for.ensures.place
    c.insert.ensures.items)) (stays_layout _ new c.self.invariant
    (sym c.can_stand.ensures ∙ c.if-not-can_stand.false) (not_there c.self.inside.parts.items c.args.axis asked))

pub returns-clause-value : goal.returns-clause-value
returns-clause-value c =
    let new : Part = record { axis = c.args.axis; bits = c.args.bits } in
    let own : c.parts.inside.parts.items ≡ c.self.inside.parts.items = c.parts.view_is ∙ c.copy.ensures
    ∙ sym c.self.view_is in
    now_is _ _ _ _ _ new own c.as_slice-2.ensures.value c.place_for.ensures.place c.insert.ensures.items
    ∙ ap (λ (l : Layout). with_part l new) c.self.view_is
