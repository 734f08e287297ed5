use Rattle.std.proofs.Common.{◌≡◌, ℕ, ◌+◌, ◌<◌, List, [], ◌∷◌, ◌++◌, map, take, length, get_or, ap, sym, subst, ◌∙◌, None, true}
use Rattle.std.specs.List.{list_all}
use Rattle.std.proofs.lemmas.List.{take_more, map-append}
use Rattle.fx_elements.specs.declared.axis.Axis.{Axis}
use Rattle.fx_elements.specs.Axes.{axis_index, axis_width, field}
use Rattle.fx_elements.proofs.EveryAxis.{each_on, value_at}
use Rattle.fx_layout.specs.declared.layout.Part.{Part}
use Rattle.fx_layout.specs.Keys.{HasBits, Layout, can_stand, leading_bits}
use Rattle.fx_layout.proofs.Layouts.{all_of, key_has_bits, so_many}
use Rattle.fx_session.specs.declared.places.RecordPlaces.{RecordPlaces}
use Rattle.fx_session.specs.Flows.{value_of}
use Rattle.fx_session.specs.Places.{found_at, place_on, fields_read}
use Rattle.fx_session.proofs.Keys.{value_fits}
use Rattle.fx_session.proofs.places.RecordPlaces.read_values.Goals as goal

-- the value at a place is what the record tells there
reported_at : (places : RecordPlaces) (octets : List ℕ) (axis : Axis) (k v : ℕ) → k ≡ axis_index axis
    → ((a : Axis) → axis_index a ≡ k → v ≡ value_of a (found_at octets a (get_or places.values k None)))
    → v ≡ field (fields_read places octets) axis
reported_at places octets axis k v at is =
    is axis (sym at) ∙ ap (λ (i : ℕ). value_of axis (found_at octets axis (get_or places.values i None))) at
    ∙ sym (value_at (λ a. value_of a (found_at octets a (place_on places a))) axis)

cut_reported : (p : Part) (w v r t : ℕ) → r ≡ leading_bits w p.bits v → w ≡ axis_width p.axis → v ≡ t → r
    ≡ leading_bits (axis_width p.axis) p.bits t
cut_reported p w v r t is wide reported = is ∙ ap (λ (n : ℕ). leading_bits n p.bits v) wide
    ∙ ap (leading_bits (axis_width p.axis) p.bits) reported

one_more : (g : Part → ℕ) (parts : Layout) (values new : List ℕ) (i v : ℕ) (d : Part) → values ≡ map g (take i parts)
    → i < length parts → new ≡ values ++ v ∷ [] → v ≡ g (get_or parts i d) → new ≡ map g (take (i + 1) parts)
one_more g parts values new i v d so lt is here =
    is ∙ ap (λ (vs : List ℕ). vs ++ v ∷ []) so ∙ ap (λ (n : ℕ). map g (take i parts) ++ n ∷ []) here
    ∙ sym (ap (map g) (take_more parts i d lt) ∙ map-append g (take i parts) (get_or parts i d ∷ []))

pub push-requires : goal.push-requires
push-requires c = so_many _ _ _ _ c.loop-part.invariant c.loop-part-test.true c.parts-part-items.ensures.kept.ascends

pub loop-part-preserved : goal.loop-part-preserved
loop-part-preserved c =
    let reported = fields_read c.args.self.now c.args.octets.now in
    let g : Part → ℕ = λ part. leading_bits (axis_width part.axis) part.bits (field reported part.axis) in
    one_more g c.parts-part-items.result.now _ _ c.loop-part.part-index _ _ c.loop-part.invariant c.loop-part-test.true
    c.push.ensures
    (cut_reported _ _ _ _ _ c.leading_bits.ensures c.width.ensures.bits
    (reported_at c.args.self.now c.args.octets.now _ c.index-k.result c.value_at-value.result
    c.index-k.ensures.place c.value_at-value.ensures))

pub returns-clause-key : goal.returns-clause-key
returns-clause-key c =
    let reported = fields_read c.args.self.now c.args.octets.now in
    let g : Part → ℕ = λ part. leading_bits (axis_width part.axis) part.bits (field reported part.axis) in
    all_of g _ _ _ c.loop-part.invariant c.loop-part-test.false ∙ ap (map g) c.parts-part-items.ensures.value

pub returns-clause-bits : goal.returns-clause-bits
returns-clause-bits c =
    let reported = fields_read c.args.self.now c.args.octets.now in
    let g : Part → ℕ = λ part. leading_bits (axis_width part.axis) part.bits (field reported part.axis) in
    let parts = c.parts-part-items in
    let stands : list_all can_stand c.args.self.now.layout ≡ true =
    subst (λ (l : Layout). list_all can_stand l ≡ true) parts.ensures.value parts.ensures.kept.stands in
    let all = all_of g _ _ _ c.loop-part.invariant c.loop-part-test.false ∙ ap (map g) parts.ensures.value in
    let own = λ (a : Axis). value_of a (found_at c.args.octets.now a (place_on c.args.self.now a)) in
    subst (HasBits c.args.self.now.layout) (sym all)
    (key_has_bits c.args.self.now.layout reported stands
    (each_on own (λ a. value_fits a (found_at c.args.octets.now a (place_on c.args.self.now a)))))
