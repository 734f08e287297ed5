-- Octets put behind octets.
use Rattle.std.proofs.Common.{◌≡◌, ℕ, ◌-◌, ◌*◌, ◌%◌, ◌^◌, ◌<◌, ◌≤◌, true, false, ◌==◌, cond, List, ◌++◌, ap, ◌∙◌, arith, append_assoc, Result, Ok, Err}
use Rattle.std.specs.Prelude.{OnOk, is_ok}
use Rattle.std.proofs.Math.Nat.{mod-eq_of_lt, pow-le-pow_right}
use Rattle.std.proofs.lemmas.Bool.Decides.{nat_tests}
use Rattle.fx_elements.specs.Axes.{axis_width}
use Rattle.fx_layout.specs.declared.layout.Part.{Part}
use Rattle.fx_layout.specs.Keys.{can_stand}
use Rattle.fx_elements.proofs.EveryAxis.{width_most}
use Rattle.fx_link.specs.Records.{prefix_of}
use Rattle.fx_link.proofs.KeyTrip.{prefix_fits, stands_few}

-- one part and then another
pub then_more : {A E : Type 0} (r : Result A E) (old a b mid new : List ℕ) → mid ≡ old ++ a → OnOk r (new ≡ mid ++ b)
    → OnOk r (new ≡ old ++ (a ++ b))
then_more (Ok x) old a b mid new p q = q ∙ ap (λ (l : List ℕ). l ++ b) p ∙ append_assoc old a b
then_more (Err e) old a b mid new p q = tt

pub if_ok : {A E : Type 0} (r : Result A E) (new mid all : List ℕ) → new ≡ cond (is_ok r) all mid → OnOk r (new ≡ all)
if_ok (Ok x) new mid all e = e
if_ok (Err n) new mid all e = tt

-- a prefix has the octets of its address, and its length one
pub prefix_shifts : (part : Part) (v width : ℕ) → can_stand part ≡ true → v < 2 ^ part.bits → width
    ≡ axis_width part.axis
    → (v * 2 ^ (width - part.bits) % 2 ^ 128 ≡ prefix_of part v) × (prefix_of part v < 2 ^ axis_width part.axis)
    × (part.bits < 256)
prefix_shifts part v width c h w =
    let fits : prefix_of part v < 2 ^ axis_width part.axis = prefix_fits part v c h in
    let most : 2 ^ axis_width part.axis ≤ 2 ^ 128 = pow-le-pow_right {n = 2} (omega arith) (width_most part.axis) in (
      ap (λ (n : ℕ). v * 2 ^ (n - part.bits) % 2 ^ 128) w ∙ mod-eq_of_lt (omega (arith, fits, most)),
      fits,
      omega (arith, stands_few part c, width_most part.axis),
    )

pub apart_test : (a b c : ℕ) → b ≡ c → (a ≡ b → ⊥) → (a == c) ≡ false
apart_test a b c e h = grind (arith, nat_tests)
