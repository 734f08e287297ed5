-- The written form of a value on an axis is read as it, no other text is, and what is read stands within the axis.
use Rattle.std.proofs.Common.{◌≡◌, ℕ, ◌^◌, ◌<◌, ◌≤◌, cond, List, Some, None, subst, arith, inl, inr, ◌==◌}
use Rattle.std.proofs.lemmas.Bool.{eqb-false}
use Rattle.std.specs.Prelude.{slice_index}
use Rattle.fx_elements.specs.declared.axis.Axis.{Axis}
use Rattle.fx_elements.specs.declared.axis.Axis.TheVariants.{Source, Destination, Protocol, SourcePort, DestinationPort, ClassOfService, Version, Source6, Destination6}
use Rattle.fx_elements.specs.Axes.{axis_index, axis_width, tops}
use Rattle.fx_elements.specs.Spelling.{cut_at, number_of}
use Rattle.fx_elements.specs.Address6.{address6_of, prefix6_of}
use Rattle.fx_elements.specs.Values.{written_on, value_on, prefix_on, value_text}
use Rattle.fx_elements.proofs.Cuts.{chosen}
use Rattle.fx_elements.proofs.Decimals.{number_text, number_found}
use Rattle.fx_elements.proofs.Addresses.{by_some, some_is, quad_text, quad_found, prefix_found}
use Rattle.fx_elements.proofs.GroupTexts.{groups_text, groups_found}
use Rattle.fx_elements.proofs.AnyAddress.{address6_fits}

abbrev Within : Axis → ℕ → Type 0
Within axis v = v ≤ slice_index tops (axis_index axis)

pub written_text : (axis : Axis) (v : ℕ) → Within axis v → written_on axis (value_text axis v) ≡ Some v
written_text Source v le = quad_text v (omega (arith, le))
written_text Destination v le = quad_text v (omega (arith, le))
written_text Protocol v le = number_text 255 v (omega arith) le
written_text SourcePort v le = number_text 65535 v (omega arith) le
written_text DestinationPort v le = number_text 65535 v (omega arith) le
written_text ClassOfService v le = number_text 255 v (omega arith) le
written_text Version v le = number_text 255 v (omega arith) le
written_text Source6 v le = groups_text v (omega (arith, le))
written_text Destination6 v le = groups_text v (omega (arith, le))

pub written_found : (axis : Axis) (text : List ℕ) (v : ℕ) → written_on axis text ≡ Some v → (text ≡ value_text axis v)
    × Within axis v
written_found Source text v e = let f = quad_found v text e in (f.0, omega (arith, f.1))
written_found Destination text v e = let f = quad_found v text e in (f.0, omega (arith, f.1))
written_found Protocol text v e = number_found 255 v text (omega arith) e
written_found SourcePort text v e = number_found 65535 v text (omega arith) e
written_found DestinationPort text v e = number_found 65535 v text (omega arith) e
written_found ClassOfService text v e = number_found 255 v text (omega arith) e
written_found Version text v e = number_found 255 v text (omega arith) e
written_found Source6 text v e = let f = groups_found v text e in (f.0, omega (arith, f.1))
written_found Destination6 text v e = let f = groups_found v text e in (f.0, omega (arith, f.1))

pub value_fits : (axis : Axis) (text : List ℕ) (v : ℕ) → value_on axis text ≡ Some v → Within axis v
value_fits Source text v e = (written_found Source text v e).1
value_fits Destination text v e = (written_found Destination text v e).1
value_fits Protocol text v e = (written_found Protocol text v e).1
value_fits SourcePort text v e = (written_found SourcePort text v e).1
value_fits DestinationPort text v e = (written_found DestinationPort text v e).1
value_fits ClassOfService text v e = (written_found ClassOfService text v e).1
value_fits Version text v e = (written_found Version text v e).1
value_fits Source6 text v e = let f = address6_fits text v e in omega (arith, f)
value_fits Destination6 text v e = let f = address6_fits text v e in omega (arith, f)

some_bits : (v n : ℕ) (p : ℕ × ℕ) → cond (n == 0) None (Some (v, n)) ≡ Some p → (0 < n) × ((v, n) ≡ p)
some_bits v n p e = elim (chosen (n == 0) None (Some (v, n)) (Some p) e) [
  | inl h ↦ absurd cc
  | inr h ↦ let ne = eqb-false n 0 h.0 in (omega (arith, ne), some_is h.1)
]

prefix6_fits : (text : List ℕ) (p : ℕ × ℕ) → prefix6_of text ≡ Some p → (p.0 < 2 ^ 128) × (0 < p.1) × (p.1 ≤ 128)
unfolding prefix6_of
prefix6_fits text p e =
    by_some (cut_at 47 text) _ p e (λ a pa ea.
    by_some (address6_of a.0) _ p ea (λ v pv ev.
    by_some (number_of 128 a.1) _ p ev (λ n pn en.
    let s = some_bits v n p en in
    let most = (number_found 128 n a.1 (omega arith) pn).1 in
    let small = address6_fits a.0 v pv in
    subst (λ (q : ℕ × ℕ). (q.0 < 2 ^ 128) × (0 < q.1) × (q.1 ≤ 128)) s.1 (small, s.0, most))))

pub prefix_fits : (axis : Axis) (text : List ℕ) (p : ℕ × ℕ) → prefix_on axis text ≡ Some p → (p.0 < 2 ^ axis_width axis)
    × (0 < p.1) × (p.1 ≤ axis_width axis)
prefix_fits Source text p e = let f = prefix_found p text e in (f.1, f.2, f.3)
prefix_fits Destination text p e = let f = prefix_found p text e in (f.1, f.2, f.3)
prefix_fits Protocol text p e = absurd cc
prefix_fits SourcePort text p e = absurd cc
prefix_fits DestinationPort text p e = absurd cc
prefix_fits ClassOfService text p e = absurd cc
prefix_fits Version text p e = absurd cc
prefix_fits Source6 text p e = prefix6_fits text p e
prefix_fits Destination6 text p e = prefix6_fits text p e
